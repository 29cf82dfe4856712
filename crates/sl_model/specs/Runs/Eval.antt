-- Expressions: what one gives in a state, and the state after it.
--
-- Restates ISO/IEC 14882:2017, [expr.post.incr], [expr.pre.incr], [expr.unary.op], [expr.mul], [expr.add], [expr.rel], [expr.eq],
-- [expr.log.and], [expr.log.or], [expr.call], [conv.lval], [conv.integral] and [conv.bool]. A number of a variable that isn't
-- set is a fault ([dcl.init]).
-- [dcl.ref] (a reference stands for what it is bound to).
-- Chosen here: operands are evaluated from left to right where the standard leaves the order open ([intro.execution]). Each use of a
-- reference to an element, read or written, needs it valid; a use of one that is invalid ends the run.
use Rattle.std.specs.Prelude.{ℕ, Bool, true, false, not, List, [], ◌∷◌, ℤ, pos, negsuc, Option, Some, None, unwrap_or}
use Rattle.std.specs.Option.{option_map}
use Rattle.sl_base.specs.declared.scalar.Scalar.{Scalar}
use Rattle.sl_syntax.specs.declared.operator.Arithmetic.TheVariants as o
use Rattle.sl_base.specs.declared.place.Place.{Place}
use Rattle.sl_model.specs.Numbers.{is_zero, truth, converted, Answer, value, fault, operated, compared}
use Rattle.sl_syntax.specs.declared.typed.element.ElementPart.{ElementPart}
use Rattle.sl_syntax.specs.declared.typed.element.ElementPart.TheVariants as parts
use Rattle.sl_syntax.specs.declared.typed.head.Head.{Head}
use Rattle.sl_syntax.specs.declared.typed.parameter.ParameterKind.{ParameterKind}
use Rattle.sl_syntax.specs.declared.typed.step.Fix.{Fix}
use Rattle.sl_syntax.specs.declared.typed.step.Fix.TheVariants.{Prefix, Postfix}
use Rattle.sl_syntax.specs.declared.typed.step.Step.{Step}
use Rattle.sl_syntax.specs.declared.typed.step.Step.TheVariants.{Up, Down}
use Rattle.sl_syntax.specs.Typed.{Expr, literal, held, iterator as iterator_held, convert, negate, logical_not, logical_and, logical_or, arithmetic}
use Rattle.sl_syntax.specs.Typed.{comparison, increment, move, call, own_call, first, second, container, handed_scalar, Left, scalar, reference}
use Rattle.sl_syntax.specs.Typed.{element, Operands, none, with}
use Rattle.sl_model.specs.Memory.Containers.{Part, key_part, value_part, element as element_of, write_element, locate_refer, refer_killer}
use Rattle.sl_model.specs.LibraryCalls.Values.{Value, number, iterator, pair, two, scalar_at, container_at, element_at, LibOut, Lib, trapped, thrown, faulted}
use Rattle.sl_model.specs.LibraryCalls.Values.{gives, unbuilt}
use Rattle.sl_model.specs.Runs.Ends.{End, Trapped, Language, Thrown, NoMeaning, trap_of, use_trap}
use Rattle.sl_model.specs.Runs.State.{Pointer, iterator_at, reference_to, State, scalar_of, cont_of, iter_of, scalar_value, set_scalar_at}
use Rattle.sl_model.specs.Runs.State.{set_iterator_at, pointer_at, stamp_of, leave}
use Rattle.sl_model.specs.Runs.Binding.{bound}

-- what an expression gives: a value, or the end of the run
pub data Out : Type 0 where
  Gives : Value → State → Out
  Stops : End → State → Out

-- what operands give: their values, or the end of the run
pub data Outs : Type 0 where
  AllGive : List Value → State → Outs
  OneStops : End → State → Outs

-- what the body of a function does, by the function's number and the place of the call, from the bound state to the body's end: a value
-- in the state at the end, with the body's variables still in scope, or the end of the run
abbrev pub Oracle : Type 0
Oracle = ℕ → Place → State → Out

-- what stands around an expression: a library, the parameters of the text's functions, and what their bodies do
pub record World : Type 0 where
  pub lib : Lib
  pub takes : ℕ → List ParameterKind
  pub own : Oracle

-- what follows a value
abbrev pub then_eval : Out → (Value → State → Out) → Out
then_eval (Gives v s) go = go v s
then_eval (Stops e s) go = Stops e s

-- what follows a number
abbrev pub with_number : (ℤ → State → Out) → Value → State → Out
with_number go (number z) s = go z s
with_number go v s = go (pos 0) s

-- what follows an expression whose value is a number
abbrev pub then_number : Out → (ℤ → State → Out) → Out
then_number x go = then_eval x (with_number go)

-- an operand before the others
abbrev pub add_value : Value → Outs → Outs
add_value v (AllGive vs s) = AllGive (v ∷ vs) s
add_value v (OneStops e s) = OneStops e s

-- the other operands come after the first one
abbrev pub then_rest : Out → (State → Outs) → Outs
then_rest (Gives v s) go = add_value v (go s)
then_rest (Stops e s) go = OneStops e s

-- what follows all operands
abbrev pub then_call : Outs → (List Value → State → Out) → Out
then_call (AllGive vs s) go = go vs s
then_call (OneStops e s) go = Stops e s

-- one of two ways
abbrev pub branch : Bool → (State → Out) → (State → Out) → State → Out
branch true a b s = a s
branch false a b s = b s

-- an operator's answer, with the place of its fault
abbrev pub answered : Place → Answer → State → Out
answered at (value z) s = Gives (number z) s
answered at (fault w) s = Stops (Language at w) s

-- a call comes back from a body that is done: the variables that were in scope before are in scope again
abbrev pub come_back : State → Out → Out
come_back before (Gives v s) = Gives v (leave 0 before s)
come_back before (Stops e s) = Stops e s

-- a call of a function of the text on its operands
abbrev pub call_own : World → ℕ → Place → List Value → State → Out
call_own w f at vs s = come_back s (w.own f at (bound (w.takes f) vs s))

-- a set variable's number
abbrev pub if_set : Place → Option ℤ → State → Out
if_set at (Some z) s = Gives (number z) s
if_set at None s = Stops (Language at 3) s

-- the number at a place
abbrev pub read_at : Place → Value → State → Out
read_at at (scalar_at l) s = if_set at (scalar_value s l) s
read_at at (element_at i k p) s = Gives (number (element_of s.memory i k p)) s
read_at at v s = Gives v s

-- a number is written at a place
abbrev pub write_at : Value → ℤ → State → State
write_at (scalar_at l) z s = set_scalar_at l z s
write_at (element_at i k p) z s = record s { memory = write_element s.memory i k p z }
write_at v z s = s

-- what a call of the library gives in a state
abbrev pub settle_call : Head → List Value → LibOut → State → Out
settle_call h vs (trapped kind a) s = Stops (Trapped (trap_of h kind a vs s.memory)) s
settle_call h vs thrown s = Stops (Thrown h.place) s
settle_call h vs (faulted w) s = Stops (Language h.place w) s
settle_call h vs (gives v m ps) s = Gives v (record s { memory = m; picks = ps })
settle_call h vs unbuilt s = Stops (NoMeaning h.place) s

-- the site of a call, and 0 where it has none
abbrev pub site_of : Head → ℕ
site_of h = unwrap_or h.site 0

-- a call of the library on operands
abbrev pub use_library : Lib → Head → List Value → State → Out
use_library lib h vs s =
    settle_call h vs (lib h.callee (record { site = site_of h; object = option_map (cont_of s) h.object; values = vs }) s.memory s.picks) s

-- one up or one down
abbrev pub by_one : Step → ℤ
by_one Up = pos 1
by_one Down = negsuc 0

-- the value before or after
abbrev pub chosen : Fix → Value → Value → Value
chosen Prefix old new = new
chosen Postfix old new = old

-- the number at a place goes up or down by one
abbrev pub increased : Step → Fix → Scalar → Place → Value → ℤ → State → Out
increased d x ty at l old s = then_number (answered at (operated o.Add ty old (by_one d)) s)
    (λ new s. Gives (chosen x (number old) (number new)) (write_at l new s))

-- an iterator variable takes the stamp that a call gave
abbrev pub moved_to : Fix → ℕ → ℕ → Value → State → Out
moved_to x at old (iterator new) s = Gives (chosen x (iterator old) (iterator new)) (set_iterator_at at new s)
moved_to x at old v s = Gives v s

-- the first part of a pair
abbrev pub first_of : Value → Value
first_of (pair stamp b) = iterator stamp
first_of (two stamp other) = iterator stamp
first_of v = v

-- the second part of a pair: an iterator, or a bool as a number
abbrev pub second_of : Value → Value
second_of (pair stamp b) = number (truth b)
second_of (two stamp other) = iterator other
second_of v = v

-- the place of a variable's or a reference's name; what a call gives is set
abbrev pub name_place : Left → Place
name_place (scalar x at) = at
name_place (reference x at name part) = at
name_place (element h ops) = h.place

-- which number of an element a use means: that to which the reference is bound, the key or the value
abbrev pub part_used : ElementPart → Part → Part
part_used parts.Whole bound = bound
part_used parts.First bound = key_part
part_used parts.Second bound = value_part

-- a use of a reference, where it stands
abbrev pub found_use : Place → ℕ → ℕ → Part → Option (ℕ × ℕ) → State → Out
found_use at name refer part (Some p) s = Gives (element_at p.0 p.1 part) s
found_use at name refer part None s = Stops (Trapped (use_trap at name (refer_killer s.memory refer))) s

-- a use of what is held, at its name
abbrev pub used : Place → ℕ → ElementPart → Pointer → State → Out
used at name part (reference_to refer bound) s = found_use at name refer (part_used part bound) (locate_refer s.memory refer) s
used at name part (iterator_at stamp) s = Stops (NoMeaning at) s

abbrev mutual
  -- the value of an expression
  pub eval : World → Expr → State → Out
  eval w (literal ty z) s = Gives (number z) s
  eval w (held l) s = then_eval (reach w l s) (read_at (name_place l))
  eval w (iterator_held x) s = Gives (iterator (stamp_of s x)) s
  eval w (convert ty a) s = then_number (eval w a s) (λ z s. Gives (number (converted ty z)) s)
  eval w (negate ty at a) s = then_number (eval w a s) (λ z s. answered at (operated o.Subtract ty (pos 0) z) s)
  eval w (logical_not at a) s = then_number (eval w a s) (λ z s. Gives (number (truth (is_zero z))) s)
  eval w (logical_and at a b) s = then_number (eval w a s) (λ z s.
      branch (is_zero z) (Gives (number (pos 0))) (λ s. then_number (eval w b s) (λ z s. Gives (number (truth (not (is_zero z)))) s)) s)
  eval w (logical_or at a b) s = then_number (eval w a s) (λ z s.
      branch (is_zero z) (λ s. then_number (eval w b s) (λ z s. Gives (number (truth (not (is_zero z)))) s)) (Gives (number (pos 1))) s)
  eval w (arithmetic op ty at a b) s = then_number (eval w a s) (λ x s. then_number (eval w b s) (λ y s. answered at (operated op ty x y) s))
  eval w (comparison c at a b) s = then_number (eval w a s) (λ x s. then_number (eval w b s) (λ y s. Gives (number (truth (compared c x y))) s))
  eval w (increment d x ty at l) s = then_eval (reach w l s) (λ at_l s. then_number (read_at (name_place l) at_l s) (increased d x ty at at_l))
  eval w (move x it h ops) s = then_call (eval_all w ops s) (λ vs s.
      then_eval (use_library w.lib h (iterator (stamp_of s it) ∷ vs) s) (moved_to x (iter_of s it) (stamp_of s it)))
  eval w (call h ops) s = then_call (eval_all w ops s) (use_library w.lib h)
  eval w (own_call f at ops) s = then_call (eval_all w ops s) (call_own w f at)
  eval w (first at a) s = then_eval (eval w a s) (λ v s. Gives (first_of v) s)
  eval w (second at a) s = then_eval (eval w a s) (λ v s. Gives (second_of v) s)
  eval w (container x) s = Gives (container_at (cont_of s x)) s
  eval w (handed_scalar x) s = Gives (scalar_at (scalar_of s x)) s

  -- the place that a left side stands for
  pub reach : World → Left → State → Out
  reach w (scalar x at) s = Gives (scalar_at (scalar_of s x)) s
  reach w (reference x at name part) s = used at name part (pointer_at s (iter_of s x)) s
  reach w (element h ops) s = then_call (eval_all w ops s) (use_library w.lib h)

  -- operands from left to right
  pub eval_all : World → Operands → State → Outs
  eval_all w none s = AllGive [] s
  eval_all w (with a rest) s = then_rest (eval w a s) (eval_all w rest)
