-- Each expression that uses what is in scope keeps a state good and at its level.
use Rattle.std.proofs.Common.{◌≡◌, ◌<◌, ◌≤◌, arith, ℕ, false, not, List, ◌∷◌, Option, Some, None, length, refl, subst}
use Rattle.std.specs.Prelude.{ℤ, pos, slice_get}
use Rattle.std.proofs.lemmas.Option.{slice_get-get_or}
use Rattle.sl_base.specs.declared.place.Place.{Place}
use Rattle.sl_base.specs.declared.scalar.Scalar.{Scalar}
use Rattle.sl_syntax.specs.declared.operator.Arithmetic.TheVariants as o
use Rattle.sl_model.specs.Numbers.{is_zero, converted, operated, compared, truth}
use Rattle.sl_syntax.specs.declared.typed.element.ElementPart.{ElementPart}
use Rattle.sl_syntax.specs.declared.typed.head.Head.{Head}
use Rattle.sl_syntax.specs.declared.typed.step.Fix.{Fix}
use Rattle.sl_syntax.specs.declared.typed.step.Step.{Step}
use Rattle.sl_syntax.specs.Typed.{Expr, literal, held, iterator as iterator_held, convert, negate, logical_not, logical_and, logical_or, arithmetic}
use Rattle.sl_syntax.specs.Typed.{comparison, increment, move, call, own_call, first, second, container, handed_scalar, Left, scalar, reference}
use Rattle.sl_syntax.specs.Typed.{element, Operands, none, with, Function}
use Rattle.sl_model.specs.Memory.Containers.{Part, locate_refer}
use Rattle.sl_model.specs.LibraryCalls.Values.{Value, number, iterator}
use Rattle.sl_model.specs.Runs.State.{Pointer, iterator_at, reference_to, State, scalar_of, cont_of, iter_of, pointer_at, stamp_of}
use Rattle.sl_model.specs.Runs.Eval.{by_one, Out, Gives, World, then_eval, then_number, branch, answered, read_at, write_at, use_library, increased}
use Rattle.sl_model.specs.Runs.Eval.{call_own, moved_to, chosen, part_used, found_use, used, eval, reach, eval_all, name_place}
use Rattle.sl_model.specs.Runs.Good.{AreApart}
use Rattle.sl_model.specs.Typing.Shapes.{Shape, no_value, a_number, a_stamp, an_element, Gift, a_value, Signature, shape_of_result, gift_of, shape_of_second}
use Rattle.sl_model.specs.Typing.Shapes.{gifts_of, AllSuit, containers_in}
use Rattle.sl_model.specs.Typing.Scoped.{InExpr, InLeft, InOperands}
use Rattle.sl_model.proofs.Levels.{Level, counts_of, Now, now_above, write-now}
use Rattle.sl_model.proofs.Gifts.{AllUsed, KeepsGood, OwnKeepsGood, OutAt, AllGave, OutsAt, gift_of_left, stamp_used, now_again, at_then}
use Rattle.sl_model.proofs.Gifts.{at_then_number, at_call, at_rest, gave_number, at_answer, at_branch, at_read, gave_chosen, at_moved, at_first}
use Rattle.sl_model.proofs.Gifts.{at_second, out_less, at_library}

-- where a scalar of a frame is
scalar_there : (L : Level) (n : ℕ) (s : State) (x : ℕ) → x < length L.frame.scalars → Now L n s → slice_get L.frame.scalars x ≡ Some (scalar_of s x)
scalar_there L n s x low h = subst (λ (l : Level). x < length l.frame.scalars → slice_get l.frame.scalars x ≡ Some (scalar_of s x)) h.level
    (λ low. slice_get-get_or s.frame.scalars x 0 low) low

-- where a container of a frame is
cont_there : (L : Level) (n : ℕ) (s : State) (x : ℕ) → x < length L.frame.conts → Now L n s → slice_get L.frame.conts x ≡ Some (cont_of s x)
cont_there L n s x low h = subst (λ (l : Level). x < length l.frame.conts → slice_get l.frame.conts x ≡ Some (cont_of s x)) h.level
    (λ low. slice_get-get_or s.frame.conts x 0 low) low

module _ (w : World) (g : Signature) (lib_keeps : KeepsGood g.shape g.makes w.lib) (own_keeps : OwnKeepsGood g w) (L : Level) where
  -- a call of a text's own function
  at_own : (n f : ℕ) (at : Place) (gifts : List Gift) (vs : List Value) (s : State) (r : Option Function) → slice_get g.functions f ≡ r
      → (elim r as (λ _. Type 0) [ None ↦ ⊥ | Some h ↦ AllSuit h.parameters gifts ]) → AreApart (containers_in gifts) → AllGave L n gifts vs s →
      OutAt L n (a_value (elim r as (λ _. Shape) [ None ↦ no_value | Some h ↦ shape_of_result h.result ])) (call_own w f at vs s)
  at_own n f at gifts vs s None e suit apart h = absurd suit
  at_own n f at gifts vs s (Some k) e suit apart h = own_keeps f k at L n gifts vs s e suit apart h

  -- a number that goes up or down by one
  at_increased : (n : ℕ) (d : Step) (x : Fix) (ty : Scalar) (at : Place) (l : Value) (old : ℤ) (s : State) → Now L n s
      → OutAt L n (a_value a_number) (increased d x ty at l old s)
  at_increased n d x ty at l old s h = at_then_number L n (a_value a_number) (a_value a_number) (answered at (operated o.Add ty old (by_one d)) s)
      (λ new s. Gives (chosen x (number old) (number new)) (write_at l new s)) (at_answer L n at (operated o.Add ty old (by_one d)) s h)
      (λ z s i. gave_chosen L n x old z (write_at l z s) (write-now L n l z s i))

  -- whether a value is zero
  abbrev whether : ℤ → State → Out
  whether z s = Gives (number (truth (not (is_zero z)))) s

  -- a call of the library that gives a shape
  as_shape : (shape : Shape) (hd : Head) (vs : List Value) (n : ℕ) (s : State) → g.shape hd.callee ≡ shape → g.makes hd.callee ≡ false
      → AllUsed s.memory.fresh vs → Now L n s → OutAt L n (a_value shape) (use_library w.lib hd vs s)
  as_shape shape hd vs n s e makes_none used h = subst (λ (x : Shape). OutAt L n (a_value x) (use_library w.lib hd vs s)) e
      (at_library L n g.shape g.makes w.lib lib_keeps hd vs s makes_none used h)

  -- an iterator variable that moves by a call
  at_move : (x : Fix) (it : ℕ) (hd : Head) (vs : List Value) (n : ℕ) (s : State) → it < length L.frame.iters → g.shape hd.callee ≡ a_stamp
      → g.makes hd.callee ≡ false → AllUsed s.memory.fresh vs → Now L n s →
      OutAt L n (a_value a_stamp) (then_eval (use_library w.lib hd (iterator (stamp_of s it) ∷ vs) s) (moved_to x (iter_of s it) (stamp_of s it)))
  at_move x it hd vs n s low e makes_none used h =
      out_less L n s.memory.fresh (a_value a_stamp)
      (then_eval (use_library w.lib hd (iterator (stamp_of s it) ∷ vs) s) (moved_to x (iter_of s it) (stamp_of s it))) h.later
      (at_then L s.memory.fresh (a_value a_stamp) (a_value a_stamp) (use_library w.lib hd (iterator (stamp_of s it) ∷ vs) s)
      (moved_to x (iter_of s it) (stamp_of s it))
      (as_shape a_stamp hd (iterator (stamp_of s it) ∷ vs) s.memory.fresh s e makes_none (stamp_used L n s it low h, used) (now_again L n s h))
      (λ v t j. at_moved L s.memory.fresh x (iter_of s it) (stamp_of s it) v t (later t (stamp_used L n s it low h) j.now.later) j))
    where
      later : (t : State) → stamp_of s it < s.memory.fresh → s.memory.fresh ≤ t.memory.fresh → stamp_of s it < t.memory.fresh
      later t p q = omega arith

  -- a use of a reference, where it stands or not
  at_found : (at : Place) (name refer : ℕ) (part : Part) (place : Option (ℕ × ℕ)) (n : ℕ) (s : State) → Now L n s
      → OutAt L n (a_value an_element) (found_use at name refer part place s)
  at_found at name refer part (Some p) n s h = record { now = h; given = tt; used = tt }
  at_found at name refer part None n s h = now_above L n s h

  -- a use of what is held
  at_used : (at : Place) (name : ℕ) (part : ElementPart) (p : Pointer) (n : ℕ) (s : State) → Now L n s
      → OutAt L n (a_value an_element) (used at name part p s)
  at_used at name part (reference_to refer bound) n s h =
      at_found at name refer (part_used part bound) (locate_refer s.memory refer) n s h
  at_used at name part (iterator_at stamp) n s h = now_above L n s h

  -- the second operand of a connective
  at_whether : (b : Expr) (n : ℕ) (s : State) → OutAt L n (gift_of g b) (eval w b s)
      → OutAt L n (a_value a_number) (then_number (eval w b s) whether)
  at_whether b n s h =
      at_then_number L n (gift_of g b) (a_value a_number) (eval w b s) whether h (λ z s j. gave_number L n (truth (not (is_zero z))) s j)

  mutual
    -- each expression
    pub at_eval : (e : Expr) (n : ℕ) (s : State) → InExpr g (counts_of L.frame) e → Now L n s → OutAt L n (gift_of g e) (eval w e s)
    at_eval (literal ty z) n s i h = gave_number L n z s h
    at_eval (held l) n s i h =
        at_then L n (gift_of_left l) (a_value a_number) (reach w l s) _ (at_reach l n s i h) (λ v s j. at_read L n (name_place l) l v s j)
    at_eval (iterator_held x) n s i h = record { now = h; given = tt; used = stamp_used L n s x i h }
    at_eval (convert ty a) n s i h = at_then_number L n (gift_of g a) (a_value a_number) (eval w a s) (λ z s. Gives (number (converted ty z)) s)
        (at_eval a n s i h) (λ z s j. gave_number L n (converted ty z) s j)
    at_eval (negate ty at a) n s i h = at_then_number L n (gift_of g a) (a_value a_number) (eval w a s)
        (λ z s. answered at (operated o.Subtract ty (pos 0) z) s) (at_eval a n s i h)
        (λ z s j. at_answer L n at (operated o.Subtract ty (pos 0) z) s j)
    at_eval (logical_not at a) n s i h = at_then_number L n (gift_of g a) (a_value a_number) (eval w a s)
        (λ z s. Gives (number (truth (is_zero z))) s) (at_eval a n s i h) (λ z s j. gave_number L n (truth (is_zero z)) s j)
    at_eval (logical_and at a b) n s i h = at_then_number L n (gift_of g a) (a_value a_number) (eval w a s)
        (λ z s. branch (is_zero z) (Gives (number (pos 0))) (λ s. then_number (eval w b s) whether) s) (at_eval a n s i.0 h)
        (λ z s j. at_branch L n (a_value a_number) (is_zero z) (Gives (number (pos 0))) (λ s. then_number (eval w b s) whether) s
        (gave_number L n (pos 0) s j) (at_whether b n s (at_eval b n s i.1 j)))
    at_eval (logical_or at a b) n s i h = at_then_number L n (gift_of g a) (a_value a_number) (eval w a s)
        (λ z s. branch (is_zero z) (λ s. then_number (eval w b s) whether) (Gives (number (pos 1))) s) (at_eval a n s i.0 h)
        (λ z s j. at_branch L n (a_value a_number) (is_zero z) (λ s. then_number (eval w b s) whether) (Gives (number (pos 1))) s
        (at_whether b n s (at_eval b n s i.1 j)) (gave_number L n (pos 1) s j))
    at_eval (arithmetic op ty at a b) n s i h = at_then_number L n (gift_of g a) (a_value a_number) (eval w a s)
        (λ x s. then_number (eval w b s) (λ y s. answered at (operated op ty x y) s)) (at_eval a n s i.0 h)
        (λ x s j. at_then_number L n (gift_of g b) (a_value a_number) (eval w b s) (λ y s. answered at (operated op ty x y) s) (at_eval b n s i.1 j)
        (λ y s k. at_answer L n at (operated op ty x y) s k))
    at_eval (comparison c at a b) n s i h = at_then_number L n (gift_of g a) (a_value a_number) (eval w a s)
        (λ x s. then_number (eval w b s) (λ y s. Gives (number (truth (compared c x y))) s)) (at_eval a n s i.0 h)
        (λ x s j. at_then_number L n (gift_of g b) (a_value a_number) (eval w b s) (λ y s. Gives (number (truth (compared c x y))) s)
        (at_eval b n s i.1 j) (λ y s k. gave_number L n (truth (compared c x y)) s k))
    at_eval (increment d x ty at l) n s i h = at_then L n (gift_of_left l) (a_value a_number) (reach w l s)
        (λ at_l s. then_number (read_at (name_place l) at_l s) (increased d x ty at at_l)) (at_reach l n s i h)
        (λ v s j. at_then_number L n (a_value a_number) (a_value a_number) (read_at (name_place l) v s) (increased d x ty at v)
        (at_read L n (name_place l) l v s j) (λ z s k. at_increased n d x ty at v z s k))
    at_eval (move x it hd ops) n s i h = at_call L n (gifts_of g ops) (a_value a_stamp) (eval_all w ops s)
        (λ vs s. then_eval (use_library w.lib hd (iterator (stamp_of s it) ∷ vs) s) (moved_to x (iter_of s it) (stamp_of s it)))
        (at_all ops n s i.1.1.1 h)
        (λ vs s j. at_move x it hd vs n s i.0 i.1.0 i.1.1.0.0 j.used j.now)
    at_eval (call hd ops) n s i h = at_call L n (gifts_of g ops) (a_value (g.shape hd.callee)) (eval_all w ops s) (use_library w.lib hd)
        (at_all ops n s i.1 h) (λ vs s j. at_library L n g.shape g.makes w.lib lib_keeps hd vs s i.0.0 j.used j.now)
    at_eval (own_call f at ops) n s i h = at_call L n (gifts_of g ops) (gift_of g (own_call f at ops)) (eval_all w ops s) (call_own w f at)
        (at_all ops n s i.1 h) (λ vs s j. at_own n f at (gifts_of g ops) vs s (slice_get g.functions f) refl i.0.0 i.0.1 j)
    at_eval (first at a) n s i h = at_then L n (gift_of g a) (a_value a_stamp) (eval w a s) _ (at_eval a n s i.1 h)
        (λ v s j. at_first L n (gift_of g a) v s i.0 j)
    at_eval (second at a) n s i h = at_then L n (gift_of g a) (a_value (shape_of_second (gift_of g a))) (eval w a s) _ (at_eval a n s i.1 h)
        (λ v s j. at_second L n (gift_of g a) v s i.0 j)
    at_eval (container x) n s i h = record { now = h; given = cont_there L n s x i h; used = tt }
    at_eval (handed_scalar x) n s i h = record { now = h; given = scalar_there L n s x i h; used = tt }

    -- a left side
    pub at_reach : (l : Left) (n : ℕ) (s : State) → InLeft g (counts_of L.frame) l → Now L n s → OutAt L n (gift_of_left l) (reach w l s)
    at_reach (scalar x at) n s i h = record { now = h; given = scalar_there L n s x i h; used = tt }
    at_reach (reference x at name part) n s i h = at_used at name part (pointer_at s (iter_of s x)) n s h
    at_reach (element hd ops) n s i h = at_call L n (gifts_of g ops) (a_value an_element) (eval_all w ops s) (use_library w.lib hd)
        (at_all ops n s i.1.1 h) (λ vs s j. as_shape an_element hd vs n s i.0 i.1.0.0 j.used j.now)

    -- operands
    pub at_all : (ops : Operands) (n : ℕ) (s : State) → InOperands g (counts_of L.frame) ops → Now L n s
        → OutsAt L n (gifts_of g ops) (eval_all w ops s)
    at_all none n s i h = record { now = h; given = tt; used = tt }
    at_all (with a rest) n s i h =
        at_rest L n (gift_of g a) (gifts_of g rest) (eval w a s) _ (at_eval a n s i.0 h) (λ s j. at_all rest s.memory.fresh s i.1 j)
