-- A run that has more steps left does the same, but where it is out of steps. Here: expressions.
use Rattle.std.proofs.Common.{◌≡◌, ◌+◌, refl, sym, subst, ℕ, List, [], ◌∷◌, Bool, true, false, not, ℤ, pos, Option, Some, None, slice_get, slice_set}
use Rattle.sl_base.specs.declared.place.Place.{Place}
use Rattle.sl_base.specs.declared.scalar.Scalar.{Scalar}
use Rattle.sl_syntax.specs.declared.typed.element.ElementPart.{ElementPart}
use Rattle.sl_syntax.specs.declared.typed.head.Head.{Head}
use Rattle.sl_syntax.specs.declared.typed.step.Fix.{Fix}
use Rattle.sl_syntax.specs.declared.typed.step.Step.{Step}
use Rattle.sl_syntax.specs.Typed.{Expr, literal, held, iterator as iterator_held, convert, negate, logical_not, logical_and, logical_or, arithmetic}
use Rattle.sl_syntax.specs.Typed.{comparison, increment, move, call, own_call, first, second, container, handed_scalar, Left, scalar, reference}
use Rattle.sl_syntax.specs.Typed.{element, Operands, none, with}
use Rattle.sl_syntax.specs.declared.operator.Arithmetic.TheVariants as o
use Rattle.sl_model.specs.Numbers.{Answer, value, fault, is_zero, truth, converted, operated, compared}
use Rattle.sl_model.specs.Memory.Containers.{Part}
use Rattle.sl_model.specs.LibraryCalls.Values.{Value, nothing, number, iterator, pair, two, scalar_at, container_at, element_at, Lib, LibOut, trapped, thrown}
use Rattle.sl_model.specs.LibraryCalls.Values.{faulted}
use Rattle.sl_model.specs.LibraryCalls.Values.{gives as lib_gives, unbuilt}
use Rattle.sl_model.specs.Runs.Ends.{End, OutOfSteps}
use Rattle.sl_model.specs.Runs.State.{Pointer, iterator_at, reference_to, State, Slot, iter_of, pointer_at, set_scalar_at, set_iterator_at}
use Rattle.sl_model.specs.Runs.Eval.{Out, Gives, Stops, Outs, AllGive, OneStops, World, then_eval, with_number, then_number, add_value, then_rest}
use Rattle.sl_model.specs.Runs.Eval.{then_call, branch, answered, if_set, read_at, write_at, settle_call, use_library, increased, moved_to, chosen}
use Rattle.sl_model.specs.Runs.Eval.{name_place, found_use, used, call_own, eval, reach, eval_all}

-- a state with k steps more
abbrev pub more : ℕ → State → State
more k s = record s { steps = s.steps + k }

-- what an expression gives in a state, and what it gives with k steps more: the same, or the run is out of steps
pub data LaterOut (k : ℕ) : Out → Out → Type 0 where
  gives : (v : Value) (s : State) → LaterOut k (Gives v s) (Gives v (more k s))
  stops : (e : End) (s : State) → LaterOut k (Stops e s) (Stops e (more k s))
  out : (s : State) (x : Out) → LaterOut k (Stops OutOfSteps s) x

-- the same of operands
pub data LaterOuts (k : ℕ) : Outs → Outs → Type 0 where
  all_give : (vs : List Value) (s : State) → LaterOuts k (AllGive vs s) (AllGive vs (more k s))
  one_stops : (e : End) (s : State) → LaterOuts k (OneStops e s) (OneStops e (more k s))
  all_out : (s : State) (x : Outs) → LaterOuts k (OneStops OutOfSteps s) x

-- k steps more change nothing of what a function of states gives
abbrev pub Same : ℕ → (State → Out) → Type 0
Same k go = (s : State) → LaterOut k (go s) (go (more k s))

-- the same of what a function of a value gives
abbrev pub SameOf : ℕ → (Value → State → Out) → Type 0
SameOf k go = (v : Value) → Same k (go v)

-- a value in a state that has k steps more
pub gives_to : {k : ℕ} (v : Value) (s t : State) → t ≡ more k s → LaterOut k (Gives v s) (Gives v t)
gives_to {k} v s t e = subst (λ t. LaterOut k (Gives v s) (Gives v t)) (sym e) (gives v s)

pub then_eval-later : {k : ℕ} (go : Value → State → Out) {a b : Out} → LaterOut k a b → SameOf k go → LaterOut k (then_eval a go) (then_eval b go)
then_eval-later go (gives v s) same = same v s
then_eval-later go (stops e s) same = stops e s
then_eval-later go (out s x) same = out s (then_eval x go)

pub with_number-later : {k : ℕ} (go : ℤ → State → Out) → ((z : ℤ) → Same k (go z)) → SameOf k (with_number go)
with_number-later go same nothing s = same (pos 0) s
with_number-later go same (number z) s = same z s
with_number-later go same (iterator x) s = same (pos 0) s
with_number-later go same (pair x b) s = same (pos 0) s
with_number-later go same (two x b) s = same (pos 0) s
with_number-later go same (scalar_at l) s = same (pos 0) s
with_number-later go same (container_at l) s = same (pos 0) s
with_number-later go same (element_at i j p) s = same (pos 0) s

pub then_number-later : {k : ℕ} (go : ℤ → State → Out) {a b : Out} → LaterOut k a b → ((z : ℤ) → Same k (go z))
    → LaterOut k (then_number a go) (then_number b go)
then_number-later go h same = then_eval-later (with_number go) h (with_number-later go same)

add_value-later : {k : ℕ} (v : Value) {a b : Outs} → LaterOuts k a b → LaterOuts k (add_value v a) (add_value v b)
add_value-later v (all_give vs s) = all_give (v ∷ vs) s
add_value-later v (one_stops e s) = one_stops e s
add_value-later v (all_out s x) = all_out s (add_value v x)

then_rest-later : {k : ℕ} (go : State → Outs) {a b : Out} → LaterOut k a b → ((s : State) → LaterOuts k (go s) (go (more k s))) →
    LaterOuts k (then_rest a go) (then_rest b go)
then_rest-later go (gives v s) same = add_value-later v (same s)
then_rest-later go (stops e s) same = one_stops e s
then_rest-later go (out s x) same = all_out s (then_rest x go)

pub then_call-later : {k : ℕ} (go : List Value → State → Out) {a b : Outs} → LaterOuts k a b → ((vs : List Value) → Same k (go vs)) →
    LaterOut k (then_call a go) (then_call b go)
then_call-later go (all_give vs s) same = same vs s
then_call-later go (one_stops e s) same = stops e s
then_call-later go (all_out s x) same = out s (then_call x go)

branch-later : {k : ℕ} (b : Bool) (go other : State → Out) → Same k go → Same k other → Same k (branch b go other)
branch-later true go other same also s = same s
branch-later false go other same also s = also s

pub answered-later : {k : ℕ} (at : Place) (a : Answer) → Same k (answered at a)
answered-later at (value z) s = gives (number z) s
answered-later at (fault w) s = stops _ s

if_set-later : {k : ℕ} (at : Place) (o : Option ℤ) → Same k (if_set at o)
if_set-later at (Some z) s = gives (number z) s
if_set-later at None s = stops _ s

pub read_at-later : {k : ℕ} (at : Place) → SameOf k (read_at at)
read_at-later at nothing s = gives _ s
read_at-later at (number z) s = gives _ s
read_at-later at (iterator x) s = gives _ s
read_at-later at (pair x b) s = gives _ s
read_at-later at (two x b) s = gives _ s
read_at-later at (scalar_at l) s = if_set-later at _ s
read_at-later at (container_at l) s = gives _ s
read_at-later at (element_at i j p) s = gives _ s

pub set_scalar_at-more : (k at : ℕ) (z : ℤ) (s : State) → set_scalar_at at z (more k s) ≡ more k (set_scalar_at at z s)
set_scalar_at-more k at z s = elim (slice_get s.scalars at) as (λ (o : Option Slot).
    ◌≡◌ {A = State} (elim o as (λ _. State) [
      | None ↦ more k s
      | Some x ↦ record (more k s) { scalars = slice_set s.scalars at (record x { value = Some z }) }
    ])
    (more k (elim o as (λ _. State) [ None ↦ s | Some x ↦ record s { scalars = slice_set s.scalars at (record x { value = Some z }) } ])))
    [ None ↦ refl | Some x ↦ refl ]

pub write_at-more : (k : ℕ) (v : Value) (z : ℤ) (s : State) → write_at v z (more k s) ≡ more k (write_at v z s)
write_at-more k nothing z s = refl
write_at-more k (number y) z s = refl
write_at-more k (iterator x) z s = refl
write_at-more k (pair x b) z s = refl
write_at-more k (two x b) z s = refl
write_at-more k (scalar_at l) z s = set_scalar_at-more k l z s
write_at-more k (container_at l) z s = refl
write_at-more k (element_at i j p) z s = refl

settle_call-later : {k : ℕ} (h : Head) (vs : List Value) (o : LibOut) → Same k (settle_call h vs o)
settle_call-later h vs (trapped kind a) s = stops _ s
settle_call-later h vs thrown s = stops _ s
settle_call-later h vs (faulted w) s = stops _ s
settle_call-later h vs (lib_gives v m ps) s = gives v (record s { memory = m; picks = ps })
settle_call-later h vs unbuilt s = stops _ s

pub use_library-later : {k : ℕ} (lib : Lib) (h : Head) (vs : List Value) → Same k (use_library lib h vs)
use_library-later lib h vs s = settle_call-later h vs _ s

increased-later : {k : ℕ} (d : Step) (x : Fix) (ty : Scalar) (at : Place) (l : Value) (old : ℤ) → Same k (increased d x ty at l old)
increased-later {k} d x ty at l old s = then_number-later _ (answered-later at _ s) (λ new s. gives_to (chosen x (number old) (number new))
    (write_at l new s) (write_at l new (more k s)) (write_at-more k l new s))

moved_to-later : {k : ℕ} (x : Fix) (at old : ℕ) → SameOf k (moved_to x at old)
moved_to-later x at old nothing s = gives _ s
moved_to-later x at old (number z) s = gives _ s
moved_to-later x at old (iterator new) s = gives _ (set_iterator_at at new s)
moved_to-later x at old (pair y b) s = gives _ s
moved_to-later x at old (two y b) s = gives _ s
moved_to-later x at old (scalar_at l) s = gives _ s
moved_to-later x at old (container_at l) s = gives _ s
moved_to-later x at old (element_at i j p) s = gives _ s

-- a use of a reference, where it stands or not
found_use-later : {k : ℕ} (at : Place) (name refer : ℕ) (part : Part) (place : Option (ℕ × ℕ)) → Same k (found_use at name refer part place)
found_use-later at name refer part (Some p) s = gives _ s
found_use-later at name refer part None s = stops _ s

-- a use of what is held
used-later : {k : ℕ} (at : Place) (name : ℕ) (part : ElementPart) (p : Pointer) → Same k (used at name part p)
used-later at name part (reference_to refer bound) s = found_use-later at name refer _ _ s
used-later at name part (iterator_at stamp) s = stops _ s

-- the text's own functions do the same with k steps more
abbrev pub SameWorld : ℕ → World → Type 0
SameWorld k w = (f : ℕ) (at : Place) (vs : List Value) → Same k (call_own w f at vs)

mutual
  pub eval-later : {k : ℕ} (w : World) → SameWorld k w → (a : Expr) → Same k (eval w a)
  eval-later w own (literal ty z) s = gives _ s
  eval-later w own (held l) s = then_eval-later _ (reach-later w own l s) (read_at-later (name_place l))
  eval-later w own (iterator_held x) s = gives _ s
  eval-later w own (convert ty a) s = then_number-later _ (eval-later w own a s) (λ z s. gives (number (converted ty z)) s)
  eval-later w own (negate ty at a) s = then_number-later _ (eval-later w own a s) (λ z. answered-later at (operated o.Subtract ty (pos 0) z))
  eval-later w own (logical_not at a) s = then_number-later _ (eval-later w own a s) (λ z s. gives (number (truth (is_zero z))) s)
  eval-later w own (logical_and at a b) s = then_number-later _ (eval-later w own a s) (λ z. branch-later (is_zero z) _ _
      (λ s. gives (number (pos 0)) s) (λ s. then_number-later _ (eval-later w own b s) (λ z s. gives (number (truth (not (is_zero z)))) s)))
  eval-later w own (logical_or at a b) s = then_number-later _ (eval-later w own a s) (λ z. branch-later (is_zero z) _ _
      (λ s. then_number-later _ (eval-later w own b s) (λ z s. gives (number (truth (not (is_zero z)))) s)) (λ s. gives (number (pos 1)) s))
  eval-later w own (arithmetic op ty at a b) s = then_number-later _ (eval-later w own a s) (λ x s. then_number-later _ (eval-later w own b s)
      (λ y. answered-later at (operated op ty x y)))
  eval-later w own (comparison c at a b) s = then_number-later _ (eval-later w own a s) (λ x s. then_number-later _ (eval-later w own b s)
      (λ y s. gives (number (truth (compared c x y))) s))
  eval-later w own (increment d x ty at l) s = then_eval-later _ (reach-later w own l s) (λ at_l s.
      then_number-later _ (read_at-later (name_place l) at_l s) (increased-later d x ty at at_l))
  eval-later w own (move x it h ops) s = then_call-later _ (eval_all-later w own ops s) (λ vs s.
      then_eval-later _ (use_library-later w.lib h _ s) (moved_to-later x _ _))
  eval-later w own (call h ops) s = then_call-later _ (eval_all-later w own ops s) (use_library-later w.lib h)
  eval-later w own (own_call f at ops) s = then_call-later _ (eval_all-later w own ops s) (own f at)
  eval-later w own (first at a) s = then_eval-later _ (eval-later w own a s) (λ v s. gives _ s)
  eval-later w own (second at a) s = then_eval-later _ (eval-later w own a s) (λ v s. gives _ s)
  eval-later w own (container x) s = gives _ s
  eval-later w own (handed_scalar x) s = gives _ s

  pub reach-later : {k : ℕ} (w : World) → SameWorld k w → (l : Left) → Same k (reach w l)
  reach-later w own (scalar x at) s = gives _ s
  reach-later w own (reference x at name part) s = used-later at name part (pointer_at s (iter_of s x)) s
  reach-later w own (element h ops) s = then_call-later _ (eval_all-later w own ops s) (use_library-later w.lib h)

  pub eval_all-later : {k : ℕ} (w : World) → SameWorld k w → (ops : Operands) (s : State)
      → LaterOuts k (eval_all w ops s) (eval_all w ops (more k s))
  eval_all-later w own none s = all_give [] s
  eval_all-later w own (with a rest) s = then_rest-later _ (eval-later w own a s) (eval_all-later w own rest)
