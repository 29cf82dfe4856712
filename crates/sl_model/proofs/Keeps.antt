-- What a library and the own functions keep of the memory, every expression and statement keeps.
use Rattle.std.proofs.Common.{ℕ, Bool, true, false, not, List, ◌∷◌, Option, Some, None}
use Rattle.std.specs.Prelude.{ℤ, pos, slice_get, slice_set}
use Rattle.sl_base.specs.declared.place.Place.{Place}
use Rattle.sl_model.specs.Numbers.{Answer, value, fault, is_zero, converted, operated, compared, truth}
use Rattle.sl_syntax.specs.declared.typed.callee.Callee.{Callee}
use Rattle.sl_syntax.specs.declared.typed.element.ElementPart.{ElementPart}
use Rattle.sl_syntax.specs.declared.typed.head.Head.{Head}
use Rattle.sl_syntax.specs.declared.typed.step.Fix.{Fix}
use Rattle.sl_syntax.specs.declared.typed.step.Step.{Step}
use Rattle.sl_syntax.specs.Typed.{Expr, literal, held, iterator as iterator_held, convert, negate, logical_not, logical_and, logical_or, arithmetic}
use Rattle.sl_syntax.specs.Typed.{comparison, increment, move, call, own_call, first, second, container, handed_scalar, Left, scalar, reference}
use Rattle.sl_syntax.specs.Typed.{element, Operands, none, with}
use Rattle.sl_base.specs.declared.scalar.Scalar.{Scalar}
use Rattle.sl_syntax.specs.declared.operator.Arithmetic.TheVariants as o
use Rattle.sl_model.specs.Memory.Containers.{Memory, Part, locate_refer, write_element}
use Rattle.sl_model.specs.LibraryCalls.Values.{Value, nothing, number, iterator, pair, two, scalar_at, container_at, element_at, Args, LibOut, trapped}
use Rattle.sl_model.specs.LibraryCalls.Values.{thrown, faulted}
use Rattle.sl_model.specs.LibraryCalls.Values.{gives, unbuilt}
use Rattle.sl_model.specs.Runs.State.{Pointer, iterator_at, reference_to, State, iter_of, pointer_at, stamp_of, set_scalar_at, scalar_value}
use Rattle.sl_model.specs.Runs.Eval.{by_one, Out, Gives, Stops, Outs, AllGive, OneStops, World, then_eval, with_number, then_number, add_value, then_rest}
use Rattle.sl_model.specs.Runs.Eval.{call_own, then_call, branch, answered, if_set, read_at, write_at, settle_call, use_library, increased, moved_to, chosen, eval}
use Rattle.sl_model.specs.Runs.Eval.{reach, eval_all, name_place, part_used, found_use, used}

module _ (I : Memory → Type 0) where
  -- it holds of a library's answer
  abbrev pub InAnswer : LibOut → Type 0
  InAnswer (gives v m ps) = I m
  InAnswer (trapped k a) = Unit {0}
  InAnswer thrown = Unit {0}
  InAnswer (faulted w) = Unit {0}
  InAnswer unbuilt = Unit {0}

  -- it holds of the state that an expression leaves
  abbrev pub InOut : Out → Type 0
  InOut (Gives v s) = I s.memory
  InOut (Stops e s) = I s.memory

  -- it holds of the state that operands leave
  abbrev pub InOuts : Outs → Type 0
  InOuts (AllGive vs s) = I s.memory
  InOuts (OneStops e s) = I s.memory

  -- what follows a value keeps it
  pub keeps_then : (o : Out) (go : Value → State → Out) → InOut o → ((v : Value) (s : State) → I s.memory → InOut (go v s)) → InOut (then_eval o go)
  keeps_then (Gives v s) go h k = k v s h
  keeps_then (Stops e s) go h k = h

  -- what follows a number keeps it, where the number comes from a value
  keeps_number : (go : ℤ → State → Out) (v : Value) (s : State) → I s.memory → ((z : ℤ) (s : State) → I s.memory → InOut (go z s))
      → InOut (with_number go v s)
  keeps_number go nothing s h k = k (pos 0) s h
  keeps_number go (number z) s h k = k z s h
  keeps_number go (iterator x) s h k = k (pos 0) s h
  keeps_number go (pair x b) s h k = k (pos 0) s h
  keeps_number go (two x b) s h k = k (pos 0) s h
  keeps_number go (scalar_at l) s h k = k (pos 0) s h
  keeps_number go (container_at l) s h k = k (pos 0) s h
  keeps_number go (element_at i j p) s h k = k (pos 0) s h

  -- what follows a number keeps it
  pub keeps_then_number : (o : Out) (go : ℤ → State → Out) → InOut o → ((z : ℤ) (s : State) → I s.memory → InOut (go z s))
      → InOut (then_number o go)
  keeps_then_number o go h k = keeps_then o (with_number go) h (λ v s i. keeps_number go v s i k)

  -- what follows all operands keeps it
  pub keeps_call : (o : Outs) (go : List Value → State → Out) → InOuts o → ((vs : List Value) (s : State) → I s.memory → InOut (go vs s))
      → InOut (then_call o go)
  keeps_call (AllGive vs s) go h k = k vs s h
  keeps_call (OneStops e s) go h k = h

  -- an operand before the others keeps it
  keeps_add : (v : Value) (o : Outs) → InOuts o → InOuts (add_value v o)
  keeps_add v (AllGive vs s) h = h
  keeps_add v (OneStops e s) h = h

  -- the operands behind the first one keep it
  keeps_rest : (o : Out) (go : State → Outs) → InOut o → ((s : State) → I s.memory → InOuts (go s)) → InOuts (then_rest o go)
  keeps_rest (Gives v s) go h k = keeps_add v (go s) (k s h)
  keeps_rest (Stops e s) go h k = h

  -- an operator's answer keeps it
  pub keeps_answer : (at : Place) (a : Answer) (s : State) → I s.memory → InOut (answered at a s)
  keeps_answer at (value z) s h = h
  keeps_answer at (fault w) s h = h

  -- one of two ways keeps it where both do
  keeps_branch : (b : Bool) (f g : State → Out) (s : State) → InOut (f s) → InOut (g s) → InOut (branch b f g s)
  keeps_branch true f g s h k = h
  keeps_branch false f g s h k = k

  -- reading a variable keeps it
  keeps_if_set : (at : Place) (z : Option ℤ) (s : State) → I s.memory → InOut (if_set at z s)
  keeps_if_set at (Some z) s h = h
  keeps_if_set at None s h = h

  -- reading a place keeps it
  pub keeps_read : (at : Place) (v : Value) (s : State) → I s.memory → InOut (read_at at v s)
  keeps_read at nothing s h = h
  keeps_read at (number z) s h = h
  keeps_read at (iterator x) s h = h
  keeps_read at (pair x b) s h = h
  keeps_read at (two x b) s h = h
  keeps_read at (scalar_at l) s h = keeps_if_set at (scalar_value s l) s h
  keeps_read at (container_at l) s h = h
  keeps_read at (element_at i j p) s h = h

  -- what a call of the library gives keeps it where the answer does
  keeps_settle : (h : Head) (vs : List Value) (o : LibOut) (s : State) → I s.memory → InAnswer o → InOut (settle_call h vs o s)
  keeps_settle h vs (trapped k a) s i j = i
  keeps_settle h vs thrown s i j = i
  keeps_settle h vs (faulted w) s i j = i
  keeps_settle h vs (gives v m ps) s i j = j
  keeps_settle h vs unbuilt s i j = i

  -- a use of a reference keeps it, where it stands or not
  keeps_found : (at : Place) (name refer : ℕ) (part : Part) (place : Option (ℕ × ℕ)) (s : State) → I s.memory
      → InOut (found_use at name refer part place s)
  keeps_found at name refer part (Some p) s h = h
  keeps_found at name refer part None s h = h

  -- a use of what is held keeps it
  keeps_used : (at : Place) (name : ℕ) (part : ElementPart) (p : Pointer) (s : State) → I s.memory → InOut (used at name part p s)
  keeps_used at name part (reference_to refer bound) s h = keeps_found at name refer (part_used part bound) (locate_refer s.memory refer) s h
  keeps_used at name part (iterator_at stamp) s h = h

  -- an iterator variable that takes a stamp keeps it
  keeps_moved : (x : Fix) (at old : ℕ) (v : Value) (s : State) → I s.memory → InOut (moved_to x at old v s)
  keeps_moved x at old nothing s h = h
  keeps_moved x at old (number z) s h = h
  keeps_moved x at old (iterator n) s h = h
  keeps_moved x at old (pair n b) s h = h
  keeps_moved x at old (two n b) s h = h
  keeps_moved x at old (scalar_at l) s h = h
  keeps_moved x at old (container_at l) s h = h
  keeps_moved x at old (element_at i j p) s h = h

  -- a scalar that takes a number keeps it
  pub keeps_set : (l : ℕ) (z : ℤ) (s : State) → I s.memory → I (set_scalar_at l z s).memory
  keeps_set l z s h =
      elim (slice_get s.scalars l) as (λ o. I
      (elim o as (λ _. State) [ None ↦ s | Some x ↦ record s { scalars = slice_set s.scalars l (record x { value = Some z }) } ]).memory) [
        | None ↦ h
        | Some x ↦ h
      ]

  module _ (w : World)
      (lib_keeps : (c : Callee) (a : Args) (m : Memory) (ps : List ℕ) → I m → InAnswer (w.lib c a m ps))
      (own_keeps : (f : ℕ) (at : Place) (vs : List Value) (s : State) → I s.memory → InOut (call_own w f at vs s))
      (write_keeps : (m : Memory) (i k : ℕ) (p : Part) (z : ℤ) → I m → I (write_element m i k p z)) where
    -- a call of the library keeps it
    pub keeps_library : (h : Head) (vs : List Value) (s : State) → I s.memory → InOut (use_library w.lib h vs s)
    keeps_library h vs s i = keeps_settle h vs _ s i (lib_keeps h.callee _ s.memory s.picks i)

    -- writing a number at a place keeps it
    pub keeps_write : (v : Value) (z : ℤ) (s : State) → I s.memory → I (write_at v z s).memory
    keeps_write nothing z s h = h
    keeps_write (number y) z s h = h
    keeps_write (iterator x) z s h = h
    keeps_write (pair x b) z s h = h
    keeps_write (two x b) z s h = h
    keeps_write (scalar_at l) z s h = keeps_set l z s h
    keeps_write (container_at l) z s h = h
    keeps_write (element_at i j p) z s h = write_keeps s.memory i j p z h

    -- a number that goes up or down by one keeps it
    keeps_increased : (d : Step) (x : Fix) (ty : Scalar) (at : Place) (l : Value) (old : ℤ) (s : State) → I s.memory
        → InOut (increased d x ty at l old s)
    keeps_increased d x ty at l old s h = keeps_then_number (answered at (operated o.Add ty old (by_one d)) s)
        (λ new s. Gives (chosen x (number old) (number new)) (write_at l new s)) (keeps_answer at (operated o.Add ty old (by_one d)) s h)
        (λ z s i. keeps_write l z s i)

    mutual
      -- each expression keeps it
      pub keeps_eval : (e : Expr) (s : State) → I s.memory → InOut (eval w e s)
      keeps_eval (literal ty z) s h = h
      keeps_eval (held l) s h = keeps_then (reach w l s) _ (keeps_reach l s h) (λ v s i. keeps_read (name_place l) v s i)
      keeps_eval (iterator_held x) s h = h
      keeps_eval (convert ty a) s h = keeps_then_number (eval w a s) (λ z s. Gives (number (converted ty z)) s) (keeps_eval a s h) (λ z s i. i)
      keeps_eval (negate ty at a) s h =
          keeps_then_number (eval w a s) _ (keeps_eval a s h) (λ z s i. keeps_answer at (operated o.Subtract ty (pos 0) z) s i)
      keeps_eval (logical_not at a) s h =
          keeps_then_number (eval w a s) (λ z s. Gives (number (truth (is_zero z))) s) (keeps_eval a s h) (λ z s i. i)
      keeps_eval (logical_and at a b) s h =
          keeps_then_number (eval w a s)
          (λ z s. branch (is_zero z) (Gives (number (pos 0))) (λ s. then_number (eval w b s) (λ z s. Gives (number (truth (not (is_zero z)))) s)) s)
          (keeps_eval a s h)
          (λ z s i. keeps_branch (is_zero z) (Gives (number (pos 0)))
          (λ s. then_number (eval w b s) (λ z s. Gives (number (truth (not (is_zero z)))) s)) s i
          (keeps_then_number (eval w b s) (λ z s. Gives (number (truth (not (is_zero z)))) s) (keeps_eval b s i) (λ y s j. j)))
      keeps_eval (logical_or at a b) s h =
          keeps_then_number (eval w a s)
          (λ z s. branch (is_zero z) (λ s. then_number (eval w b s) (λ z s. Gives (number (truth (not (is_zero z)))) s)) (Gives (number (pos 1))) s)
          (keeps_eval a s h)
          (λ z s i. keeps_branch (is_zero z) (λ s. then_number (eval w b s) (λ z s. Gives (number (truth (not (is_zero z)))) s))
          (Gives (number (pos 1))) s (keeps_then_number (eval w b s) (λ z s. Gives (number (truth (not (is_zero z)))) s) (keeps_eval b s i)
          (λ y s j. j)) i)
      keeps_eval (arithmetic op ty at a b) s h = keeps_then_number (eval w a s) _ (keeps_eval a s h)
          (λ x s i. keeps_then_number (eval w b s) _ (keeps_eval b s i) (λ y s j. keeps_answer at (operated op ty x y) s j))
      keeps_eval (comparison c at a b) s h =
          keeps_then_number (eval w a s) (λ x s. then_number (eval w b s) (λ y s. Gives (number (truth (compared c x y))) s)) (keeps_eval a s h)
          (λ x s i. keeps_then_number (eval w b s) (λ y s. Gives (number (truth (compared c x y))) s) (keeps_eval b s i) (λ y s j. j))
      keeps_eval (increment d x ty at l) s h = keeps_then (reach w l s) _ (keeps_reach l s h)
          (λ v s i. keeps_then_number (read_at (name_place l) v s) _ (keeps_read (name_place l) v s i) (λ z s j. keeps_increased d x ty at v z s j))
      keeps_eval (move x it hd ops) s h = keeps_call (eval_all w ops s) _ (keeps_all ops s h)
          (λ vs s i. keeps_then (use_library w.lib hd (iterator (stamp_of s it) ∷ vs) s) _ (keeps_library hd (iterator (stamp_of s it) ∷ vs) s i)
          (λ v s' j. keeps_moved x (iter_of s it) (stamp_of s it) v s' j))
      keeps_eval (call hd ops) s h = keeps_call (eval_all w ops s) _ (keeps_all ops s h) (λ vs s i. keeps_library hd vs s i)
      keeps_eval (own_call f at ops) s h = keeps_call (eval_all w ops s) _ (keeps_all ops s h) (λ vs s i. own_keeps f at vs s i)
      keeps_eval (first at a) s h = keeps_then (eval w a s) _ (keeps_eval a s h) (λ v s i. i)
      keeps_eval (second at a) s h = keeps_then (eval w a s) _ (keeps_eval a s h) (λ v s i. i)
      keeps_eval (container x) s h = h
      keeps_eval (handed_scalar x) s h = h

      -- the place that a left side stands for keeps it
      pub keeps_reach : (l : Left) (s : State) → I s.memory → InOut (reach w l s)
      keeps_reach (scalar x at) s h = h
      keeps_reach (reference x at name part) s h = keeps_used at name part (pointer_at s (iter_of s x)) s h
      keeps_reach (element hd ops) s h = keeps_call (eval_all w ops s) _ (keeps_all ops s h) (λ vs s i. keeps_library hd vs s i)

      -- operands keep it
      pub keeps_all : (ops : Operands) (s : State) → I s.memory → InOuts (eval_all w ops s)
      keeps_all none s h = h
      keeps_all (with a rest) s h = keeps_rest (eval w a s) _ (keeps_eval a s h) (λ s i. keeps_all rest s i)
