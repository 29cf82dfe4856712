-- Each expression that has a type gives what is of its type, and what lies on the stacks stays of its type: no end is for want of a meaning.
use Rattle.std.proofs.Common.{◌≡◌, ◌<◌, ℕ, ◌==◌, Bool, true, false, not, ◌&&◌, ◌||◌, List, ◌∷◌, Option, Some, None, length, refl, sym, ap}
use Rattle.std.proofs.lemmas.Bool.{not-true}
use Rattle.std.proofs.Common.{subst, inl, inr, option_map}
use Rattle.std.specs.Prelude.{ℤ, pos, slice_get, slice_index}
use Rattle.sl_base.specs.declared.place.Place.{Place}
use Rattle.sl_base.specs.declared.form.Form.{Form}
use Rattle.sl_base.specs.declared.scalar.Scalar.{Scalar}
use Rattle.sl_base.specs.declared.scalar.Scalar.TheVariants as sorts
use Rattle.sl_syntax.specs.declared.operator.Arithmetic.TheVariants as o
use Rattle.sl_typing.specs.declared.expr_type.ExprType.{ExprType}
use Rattle.sl_typing.specs.declared.expr_type.ExprType.TheVariants as types
use Rattle.sl_typing.specs.Types.{has_type, only, is_scalar, is_number, is_written, is_arithmetic, is_iterator}
use Rattle.sl_model.specs.Numbers.{is_zero, converted, operated, compared, truth}
use Rattle.sl_syntax.specs.declared.typed.element.ElementPart.{ElementPart}
use Rattle.sl_syntax.specs.declared.typed.element.ElementPart.TheVariants as parts
use Rattle.sl_syntax.specs.declared.typed.head.Head.{Head}
use Rattle.sl_syntax.specs.declared.typed.step.Fix.{Fix}
use Rattle.sl_syntax.specs.declared.typed.step.Step.{Step}
use Rattle.sl_syntax.specs.Typed.{Expr, literal, held, iterator as iterator_held, convert, negate, logical_not, logical_and, logical_or, arithmetic}
use Rattle.sl_syntax.specs.Typed.{comparison, increment, move, call, own_call, first, second, container, handed_scalar, Left, scalar, reference}
use Rattle.sl_syntax.specs.Typed.{element, Operands, none, with, Function}
use Rattle.sl_model.specs.Memory.Containers.{Memory, Part, locate_refer}
use Rattle.sl_model.specs.LibraryCalls.Values.{Value, number, iterator, container_at, element_at}
use Rattle.sl_model.specs.Runs.State.{Pointer, iterator_at, reference_to, Frame, State, scalar_of, cont_of, iter_of, pointer_at, stamp_of, stamp_held}
use Rattle.sl_model.specs.Runs.Eval.{by_one, Out, Gives, World, then_eval, then_number, then_call, branch, answered, read_at, write_at, use_library}
use Rattle.sl_model.specs.Runs.Eval.{increased}
use Rattle.sl_model.specs.Runs.Eval.{moved_to, chosen, part_used, found_use, used, eval, reach, eval_all, name_place, call_own, site_of}
use Rattle.sl_model.specs.Runs.Good.{AreApart}
use Rattle.sl_model.specs.Typing.Shapes.{a_number, Gift, a_value, Signature, gift_of, gifts_of, AllSuit, containers_in}
use Rattle.sl_model.specs.Typing.Scoped.{InExpr, InLeft, InOperands, HasObject}
use Rattle.sl_model.specs.Typing.WellTypedScopes.{Scope, variable_type, are_comparable}
use Rattle.sl_model.specs.Typing.WellTypedCalls.{call_type, is_moving}
use Rattle.sl_model.specs.Typing.WellTypedExpressions.{is_literal, only_value, only_element, type_of_use, go_to, type_given, function_type, is_arrow}
use Rattle.sl_model.specs.Typing.WellTypedExpressions.{is_variable, type_of, type_of_left, types_of}
use Rattle.sl_model.proofs.Passing.{first_of_both, second_of_both}
use Rattle.sl_model.proofs.TypedOperands.{typed_by, only_holds, only_rest, all_typed}
use Rattle.sl_model.proofs.TypedCalls.{call_known}
use Rattle.sl_model.proofs.TypedParts.{converted_number, negated_number, inverted_number, numbers_of_and, numbers_of_or}
use Rattle.sl_model.proofs.TypedParts.{calculated_numbers, compared_numbers, stepped_number, moving_call, value_call, element_call, function_call}
use Rattle.sl_model.proofs.TypedParts.{first_stands, second_stands}
use Rattle.sl_model.proofs.TypedExpressions.{comparable_first, comparable_second, function_known}
use Rattle.sl_model.proofs.Fitting.{IsIteratorOf, Fits, AllFit, IsElement, IsGiven, ObjectFits, FitsTypes}
use Rattle.sl_model.proofs.Levels.{Level, counts_of, Now}
use Rattle.sl_model.proofs.Gifts.{AllUsed, KeepsGood, OwnKeepsGood, AllGave, gift_of_left, stamp_used, now_again, at_answer}
use Rattle.sl_model.proofs.Gifts.{at_read, at_library}
use Rattle.sl_model.proofs.GoodEval.{at_eval, at_reach, at_all}
use Rattle.sl_model.proofs.StackTypes.{Kind, a_reference, Stack, StacksFit, IterFits, ScopeFits, write-fits, from_now}
use Rattle.sl_model.proofs.StackTypes.{now-fits, then-fits}
use Rattle.sl_model.proofs.StackScopes.{conts_at, iters_at, IsNumberType, scalars_at, iterator-held, IsReference, reference-held}
use Rattle.sl_model.proofs.FitOuts.{OutHas, Of, ANumber, IsPlace, APlace, OutFits, OutsFit, out_as, fits_only, numbered, numbered_only, given_value}
use Rattle.sl_model.proofs.FitOuts.{handed_fits, first_fits, second_fits, container_fits, chosen_number, fit_then, fit_then_number, fit_call}
use Rattle.sl_model.proofs.FitOuts.{fit_rest}
use Rattle.sl_model.proofs.FitOuts.{fit_answer, fit_branch, fit_read, fit_settle, fit_moved}
use Rattle.sl_model.proofs.FitMoves.{IsMoveType, move_type, element_still}

-- calls of the text's own functions give what is of the type of the function, where their operands go to its parameters
abbrev pub OwnFits : Signature → World → Type 0
OwnFits sig w = (f : ℕ) (h : Function) (at : Place) (L : Level) (d : Stack) (gifts : List Gift) (us : List ExprType) (vs : List Value) (s : State)
    → slice_get sig.functions f ≡ Some h → AllSuit h.parameters gifts → AreApart (containers_in gifts) → AllGave L d.used gifts vs s
    → go_to h.parameters us ≡ true → has_type (type_given h.result) ≡ true → AllFit s.memory us vs → length d.conts ≡ L.conts
    → length d.iters ≡ L.iters → StacksFit d s → OutFits d (type_given h.result) (call_own w f at vs s)

-- the frame of a state at a level
pub frame_here : (L : Level) (n : ℕ) (s : State) → Now L n s → s.frame ≡ L.frame
frame_here L n s h = ap (λ (l : Level). l.frame) h.level

-- a part of a reference that has a type is of one
use_kind : (ks : List Kind) (part : ElementPart) (u : ExprType) (l : ℕ) → has_type (type_of_use part u) ≡ true → IterFits ks u l
    → slice_get ks l ≡ Some a_reference
use_kind ks parts.Whole (types.IntReference w) l t h = h
use_kind ks parts.First (types.EntryReference w) l t h = h
use_kind ks parts.Second (types.EntryReference w) l t h = h
use_kind ks part u l t h = absurd (cc)

-- and is an element
use_number : (part : ElementPart) (u : ExprType) → has_type (type_of_use part u) ≡ true → IsNumberType (type_of_use part u)
use_number parts.Whole (types.IntReference w) t = tt
use_number parts.First (types.EntryReference w) t = tt
use_number parts.Second (types.EntryReference w) t = tt
use_number part u t = absurd (cc)

-- an element is a number
element_number : (b : Bool) (u : ExprType) → has_type (only b (only_element u)) ≡ true → IsNumberType (only b (only_element u))
element_number true (types.Element w) t = tt
element_number false u t = absurd (cc)
element_number true u t = absurd (cc)

-- what a call gives, where an element is asked for
given_element : (b : Bool) (u : ExprType) (m : Memory) (v : Value) → has_type (only b (only_element u)) ≡ true → IsGiven m u v → IsElement m v
given_element true (types.Element w) m v t h = h
given_element false u m v t h = absurd (cc)
given_element true u m v t h = absurd (cc)

-- an element that is there is a place
pub element_place : (m : Memory) (v : Value) → IsElement m v → IsPlace v
element_place m (element_at j k part) h = tt
element_place m v h = absurd h

-- what a moved variable gives is of the type of the call
moved_as : (form : Form) (b : Bool) (u : ExprType) (m : Memory) (v : Value) → IsMoveType (types.Iterator b form) u → IsIteratorOf m form v
    → Fits m u v
moved_as form b u m v (inl e) h = subst (λ (x : ExprType). Fits m x v) (sym e) h
moved_as form b u m v (inr e) h = subst (λ (x : ExprType). Fits m x v) (sym e) tt

-- a use of a reference, where it stands or not
fit_found : (d : Stack) (at : Place) (name refer : ℕ) (part : Part) (place : Option (ℕ × ℕ)) (s : State) → StacksFit d s
    → OutHas APlace d (found_use at name refer part place s)
fit_found d at name refer part (Some p) s f = (tt, f)
fit_found d at name refer part None s f = tt

-- a use of what is held, where that is a reference
fit_used : (d : Stack) (at : Place) (name : ℕ) (part : ElementPart) (p : Pointer) (s : State) → IsReference p → StacksFit d s
    → OutHas APlace d (used at name part p s)
fit_used d at name part (reference_to refer bound) s h f =
    fit_found d at name refer (part_used part bound) (locate_refer s.memory refer) s f
fit_used d at name part (iterator_at stamp) s h f = absurd h

module _ (w : World) (sig : Signature) (lib_keeps : KeepsGood sig.shape sig.makes w.lib) (own_keeps : OwnKeepsGood sig w)
    (lib_fits : FitsTypes w.lib) (own_fits : OwnFits sig w) (L : Level) (g : Scope) (known : sig.functions ≡ g.functions) where
  -- what is in scope is where its type says
  abbrev Scoped : Stack → Type 0
  Scoped d = ScopeFits L g d.conts d.iters

  -- a container in scope
  pub fit_container : (d : Stack) (x : ℕ) (s : State) → Scoped d → x < length L.frame.conts → Now L d.used s → StacksFit d s
      → Fits s.memory (variable_type g.containers x) (container_at (cont_of s x))
  fit_container d x s q low h f =
      subst (λ (c : Frame). Fits s.memory (variable_type g.containers x) (container_at (slice_index c.conts x))) (sym (frame_here L d.used s h))
      (container_fits d.conts s.memory (variable_type g.containers x) (slice_index L.frame.conts x) f.conts
      (conts_at d.conts g.containers L.frame.conts x q.containers low))

  -- the kind of an iterator or reference in scope
  pub kind_of : (d : Stack) (x : ℕ) (s : State) → Scoped d → x < length L.frame.iters → Now L d.used s
      → IterFits d.iters (variable_type g.iterators x) (iter_of s x)
  kind_of d x s q low h =
      subst (λ (c : Frame). IterFits d.iters (variable_type g.iterators x) (slice_index c.iters x)) (sym (frame_here L d.used s h))
      (iters_at d.iters g.iterators L.frame.iters x q.iterators low)

  -- an iterator in scope
  fit_iterator : (d : Stack) (u : ExprType) (l : ℕ) (s : State) → is_iterator u ≡ true → IterFits d.iters u l → StacksFit d s
      → Fits s.memory u (iterator (stamp_held s l))
  fit_iterator d (types.Iterator b form) l s t k f = iterator-held d s.memory s.iters l form k f
  fit_iterator d u l s t k f = absurd (cc)

  -- the object of a call
  fit_object : (d : Stack) (object : Option ℕ) (s : State) → Scoped d → HasObject (counts_of L.frame) object → Now L d.used s → StacksFit d s
      → ObjectFits s.memory g object (option_map (cont_of s) object)
  fit_object d None s q i h f = tt
  fit_object d (Some x) s q i h f = fit_container d x s q i h f

  -- a call of the library that moves no variable
  pub fit_library : (d : Stack) (hd : Head) (us : List ExprType) (vs : List Value) (s : State) → Scoped d → is_moving hd.callee ≡ false
      → has_type (call_type g hd.callee hd.object us) ≡ true → HasObject (counts_of L.frame) hd.object → Now L d.used s → AllUsed s.memory.fresh vs
      → AllFit s.memory us vs → StacksFit d s → OutHas (λ m v. IsGiven m (call_type g hd.callee hd.object us) v) d (use_library w.lib hd vs s)
  fit_library d hd us vs s q moves t i h used fits f = fit_settle L d (call_type g hd.callee hd.object us) hd vs _ s h f
      (lib_fits.calls g hd.callee hd.object us (record { site = site_of hd; object = option_map (cont_of s) hd.object; values = vs }) s.memory s.picks
      moves t (fit_object d hd.object s q i h f) (record { sound = h.good.sound; used = used; fit = fits }))

  -- the left side of an element
  pub fit_element : (d : Stack) (hd : Head) (us : List ExprType) (b : Bool) (vs : List Value) (s : State) → Scoped d
      → has_type (only b (only_element (call_type g hd.callee hd.object us))) ≡ true
      → HasObject (counts_of L.frame) hd.object → Now L d.used s → AllUsed s.memory.fresh vs → AllFit s.memory us vs → StacksFit d s
      → OutHas IsElement d (use_library w.lib hd vs s)
  fit_element d hd us b vs s q t i h used fits f =
      let u = call_type g hd.callee hd.object us in let there = only_rest b (only_element u) t in
      out_as (λ m v. IsGiven m u v) IsElement d (use_library w.lib hd vs s) (λ m v. given_element b u m v t)
      (fit_library d hd us vs s q (element_still g hd.callee hd.object us there) (typed_by (λ x. has_type (only_element x)) refl u there) i h used
      fits f)

  -- an iterator variable that moves by a call
  fit_move : (d : Stack) (x : Fix) (it : ℕ) (hd : Head) (u : ExprType) (us : List ExprType) (vs : List Value) (s : State) → Scoped d
      → it < length L.frame.iters → sig.makes hd.callee ≡ false → IterFits d.iters u (iter_of s it) → is_iterator u ≡ true
      → is_moving hd.callee ≡ true → has_type (call_type g hd.callee hd.object (u ∷ us)) ≡ true
      → HasObject (counts_of L.frame) hd.object → Now L d.used s → AllUsed s.memory.fresh vs → AllFit s.memory us vs → StacksFit d s
      → OutFits d (call_type g hd.callee hd.object (u ∷ us))
      (then_eval (use_library w.lib hd (iterator (stamp_of s it) ∷ vs) s) (moved_to x (iter_of s it) (stamp_of s it)))
  fit_move d x it hd (types.Iterator b form) us vs s q low makes_none k stands moves t i h used fits f =
      fit_then L (from_now d s) d (a_value (sig.shape hd.callee)) (λ m v. IsGiven m (types.Iterator b form) v)
      (Of (call_type g hd.callee hd.object (types.Iterator b form ∷ us))) (use_library w.lib hd (iterator (stamp_of s it) ∷ vs) s)
      (moved_to x (iter_of s it) (stamp_of s it))
      (at_library L s.memory.fresh sig.shape sig.makes w.lib lib_keeps hd (iterator (stamp_of s it) ∷ vs) s makes_none (old_used, used)
      (now_again L d.used s h))
      (fit_settle L (from_now d s) (types.Iterator b form) hd (iterator (stamp_of s it) ∷ vs) _ s (now_again L d.used s h) (now-fits d s f)
      (lib_fits.moves g hd.callee hd.object (types.Iterator b form) us
      (record { site = site_of hd; object = option_map (cont_of s) hd.object; values = iterator (stamp_of s it) ∷ vs }) s.memory s.picks moves t
      (fit_object d hd.object s q i h f)
      (record { sound = h.good.sound; used = (old_used, used); fit = (old_fits, fits) })))
      (λ v r j given later. out_as (λ m y. IsIteratorOf m form y) (Of (call_type g hd.callee hd.object (types.Iterator b form ∷ us))) d
      (moved_to x (iter_of s it) (stamp_of s it) v r)
      (λ m y. moved_as form b (call_type g hd.callee hd.object (types.Iterator b form ∷ us)) m y
      (move_type g hd.callee hd.object (types.Iterator b form) us moves t))
      (fit_moved L d x (iter_of s it) (stamp_of s it) form v r k (later.fit form (stamp_of s it) old_used old_fits) given
      (then-fits d s r h.later f later)))
    where
      old_used : stamp_of s it < s.memory.fresh
      old_used = stamp_used L d.used s it low h

      old_fits : IsIteratorOf s.memory form (iterator (stamp_of s it))
      old_fits = fit_iterator d (types.Iterator b form) (iter_of s it) s refl k f
  fit_move d x it hd u us vs s q low makes_none k stands moves t i h used fits f = absurd (cc)

  -- a call of a function of the text
  fit_own : (d : Stack) (n : ℕ) (at : Place) (b : Bool) (gifts : List Gift) (us : List ExprType) (vs : List Value) (s : State)
      (found : Option Function) → Scoped d → slice_get sig.functions n ≡ found
      → (elim found as (λ _. Type 0) [ None ↦ ⊥ | Some h ↦ AllSuit h.parameters gifts ]) → AreApart (containers_in gifts)
      → has_type (function_type b found us) ≡ true → AllGave L d.used gifts vs s → AllFit s.memory us vs → StacksFit d s
      → OutFits d (function_type b found us) (call_own w n at vs s)
  fit_own d n at b gifts us vs s None q there suit apart t given fits f = absurd suit
  fit_own d n at b gifts us vs s (Some k) q there suit apart t given fits f =
      out_as (Of (type_given k.result)) (Of (function_type b (Some k) us)) d (call_own w n at vs s)
      (λ m v. fits_only (b && go_to k.parameters us) (type_given k.result) m v t)
      (own_fits n k at L d gifts us vs s there suit apart given
      (second_of_both b (go_to k.parameters us) (only_holds (b && go_to k.parameters us) (type_given k.result) t))
      (only_rest (b && go_to k.parameters us) (type_given k.result) t) fits q.conts_high q.iters_high f)

  -- a number that goes up or down by one
  fit_increased : (d : Stack) (step : Step) (x : Fix) (ty : Scalar) (at : Place) (l : Value) (old : ℤ) (s : State) → Now L d.used s
      → StacksFit d s → OutHas ANumber d (increased step x ty at l old s)
  fit_increased d step x ty at l old s h f = fit_then_number L d (a_value a_number) ANumber ANumber
      (answered at (operated o.Add ty old (by_one step)) s)
      (λ new s. Gives (chosen x (number old) (number new)) (write_at l new s)) (at_answer L d.used at (operated o.Add ty old (by_one step)) s h)
      (fit_answer L d at (operated o.Add ty old (by_one step)) s f)
      (λ z s i j. (chosen_number x old z, write-fits d l z s i.good i.later j))

  -- whether a value is zero
  abbrev whether : ℤ → State → Out
  whether z s = Gives (number (truth (not (is_zero z)))) s

  -- what follows a number
  behind : (d : Stack) (a : Expr) (Q : Memory → Value → Type 0) (go : ℤ → State → Out) (s : State) → InExpr sig (counts_of L.frame) a
      → Now L d.used s → OutFits d (type_of g a) (eval w a s)
      → ((z : ℤ) (s : State) → Now L d.used s → StacksFit d s → OutHas Q d (go z s)) → OutHas Q d (then_number (eval w a s) go)
  behind d a Q go s i h f k = fit_then_number L d (gift_of sig a) (Of (type_of g a)) Q (eval w a s) go
      (at_eval w sig lib_keeps own_keeps L a d.used s i h) f k

  mutual
    unfolding type_of type_of_left types_of

    -- each expression
    pub fit_eval : (e : Expr) (d : Stack) (s : State) → Scoped d → InExpr sig (counts_of L.frame) e → has_type (type_of g e) ≡ true
        → Now L d.used s → StacksFit d s → OutFits d (type_of g e) (eval w e s)
    fit_eval (literal ty z) d s q i t h f = numbered_only (is_literal ty z) (types.Scalar ty) d (eval w (literal ty z) s) t tt (tt, f)
    fit_eval (held l) d s q i t h f = numbered (type_of_left g l) d (eval w (held l) s) (left_number l d q t)
        (fit_then L d d (gift_of_left l) APlace ANumber (reach w l s) _ (at_reach w sig lib_keeps own_keeps L l d.used s i h)
        (fit_reach l d s q i t h f) (λ v s j p k. fit_read L d (name_place l) v s p k))
    fit_eval (iterator_held x) d s q i t h f =
        let u = variable_type g.iterators x in let stands = only_holds (is_iterator u) u t in
        (fits_only (is_iterator u) u s.memory (iterator (stamp_of s x)) t (fit_iterator d u (iter_of s x) s stands (kind_of d x s q i h) f), f)
    fit_eval (convert ty a) d s q i t h f = numbered_only (is_number (type_of g a)) (types.Scalar ty) d (eval w (convert ty a) s) t tt
        (behind d a ANumber (λ z s. Gives (number (converted ty z)) s) s i h
        (fit_eval a d s q i (typed_by is_number refl (type_of g a) (converted_number g ty a t)) h f) (λ z s j k. (tt, k)))
    fit_eval (negate ty at a) d s q i t h f = numbered_only (is_arithmetic ty && is_scalar ty (type_of g a)) (types.Scalar ty) d
        (eval w (negate ty at a) s) t tt
        (behind d a ANumber (λ z s. answered at (operated o.Subtract ty (pos 0) z) s) s i h
        (fit_eval a d s q i (typed_by (is_scalar ty) refl (type_of g a) (negated_number g ty at a t).1) h f)
        (λ z s j k. fit_answer L d at (operated o.Subtract ty (pos 0) z) s k))
    fit_eval (logical_not at a) d s q i t h f = numbered_only (is_number (type_of g a)) (types.Scalar sorts.Bool) d (eval w (logical_not at a) s) t tt
        (behind d a ANumber (λ z s. Gives (number (truth (is_zero z))) s) s i h
        (fit_eval a d s q i (typed_by is_number refl (type_of g a) (inverted_number g at a t)) h f) (λ z s j k. (tt, k)))
    fit_eval (logical_and at a b) d s q i t h f = numbered_only (is_number (type_of g a) && is_number (type_of g b)) (types.Scalar sorts.Bool) d
        (eval w (logical_and at a b) s) t tt
        (behind d a ANumber (λ z s. branch (is_zero z) (Gives (number (pos 0))) (λ s. then_number (eval w b s) whether) s) s i.0 h
        (fit_eval a d s q i.0 (typed_by is_number refl (type_of g a) (numbers_of_and g at a b t).0) h f)
        (λ z s j k. fit_branch L d ANumber (is_zero z) (Gives (number (pos 0))) (λ s. then_number (eval w b s) whether) s (tt, k)
        (behind d b ANumber whether s i.1 j
        (fit_eval b d s q i.1 (typed_by is_number refl (type_of g b) (numbers_of_and g at a b t).1) j k) (λ z s j k. (tt, k)))))
    fit_eval (logical_or at a b) d s q i t h f = numbered_only (is_number (type_of g a) && is_number (type_of g b)) (types.Scalar sorts.Bool) d
        (eval w (logical_or at a b) s) t tt
        (behind d a ANumber (λ z s. branch (is_zero z) (λ s. then_number (eval w b s) whether) (Gives (number (pos 1))) s) s i.0 h
        (fit_eval a d s q i.0 (typed_by is_number refl (type_of g a) (numbers_of_or g at a b t).0) h f)
        (λ z s j k. fit_branch L d ANumber (is_zero z) (λ s. then_number (eval w b s) whether) (Gives (number (pos 1))) s
        (behind d b ANumber whether s i.1 j
        (fit_eval b d s q i.1 (typed_by is_number refl (type_of g b) (numbers_of_or g at a b t).1) j k) (λ z s j k. (tt, k))) (tt, k)))
    fit_eval (arithmetic op ty at a b) d s q i t h f =
        numbered_only (is_arithmetic ty && is_scalar ty (type_of g a) && is_scalar ty (type_of g b)) (types.Scalar ty) d
        (eval w (arithmetic op ty at a b) s) t tt
        (behind d a ANumber (λ x s. then_number (eval w b s) (λ y s. answered at (operated op ty x y) s)) s i.0 h
        (fit_eval a d s q i.0 (typed_by (is_scalar ty) refl (type_of g a) (calculated_numbers g op ty at a b t).1) h f)
        (λ x s j k. behind d b ANumber (λ y s. answered at (operated op ty x y) s) s i.1 j
        (fit_eval b d s q i.1 (typed_by (is_scalar ty) refl (type_of g b) (calculated_numbers g op ty at a b t).2) j k)
        (λ y s j k. fit_answer L d at (operated op ty x y) s k)))
    fit_eval (comparison c at a b) d s q i t h f = numbered_only (are_comparable (type_of g a) (type_of g b)) (types.Scalar sorts.Bool) d
        (eval w (comparison c at a b) s) t tt
        (behind d a ANumber (λ x s. then_number (eval w b s) (λ y s. Gives (number (truth (compared c x y))) s)) s i.0 h
        (fit_eval a d s q i.0 (comparable_first (type_of g a) (type_of g b) (compared_numbers g c at a b t)) h f)
        (λ x s j k. behind d b ANumber (λ y s. Gives (number (truth (compared c x y))) s) s i.1 j
        (fit_eval b d s q i.1 (comparable_second (type_of g a) (type_of g b) (compared_numbers g c at a b t)) j k) (λ y s j k. (tt, k))))
    fit_eval (increment step x ty at l) d s q i t h f =
        let typed = typed_by (is_scalar ty) refl (type_of_left g l) (stepped_number g step x ty at l t).1 in
        numbered_only (is_arithmetic ty && is_scalar ty (type_of_left g l) && is_written (type_of_left g l)) (types.Scalar ty) d
        (eval w (increment step x ty at l) s) t tt
        (fit_then L d d (gift_of_left l) APlace ANumber (reach w l s)
        (λ at_l s. then_number (read_at (name_place l) at_l s) (increased step x ty at at_l)) (at_reach w sig lib_keeps own_keeps L l d.used s i h)
        (fit_reach l d s q i typed h f)
        (λ v s j p k. fit_then_number L d (a_value a_number) ANumber ANumber (read_at (name_place l) v s) (increased step x ty at v)
        (at_read L d.used (name_place l) l v s j) (fit_read L d (name_place l) v s p k) (λ z s j k. fit_increased d step x ty at v z s j k)))
    fit_eval (move x it hd ops) d s q i t h f =
        let u = variable_type g.iterators it in let parts = moving_call g x it hd ops t in
        let all = call_known g hd.callee hd.object (u ∷ types_of g ops) parts.1 in
        let stands = lib_fits.moving g hd.callee hd.object u (types_of g ops) parts.0 parts.1 in
        out_as (Of (call_type g hd.callee hd.object (u ∷ types_of g ops))) (Of (type_of g (move x it hd ops))) d (eval w (move x it hd ops) s)
        (λ m v. fits_only (is_moving hd.callee) (call_type g hd.callee hd.object (u ∷ types_of g ops)) m v t)
        (fit_call L d (gifts_of sig ops) (types_of g ops) (Of (call_type g hd.callee hd.object (u ∷ types_of g ops))) (eval_all w ops s)
        (λ vs s. then_eval (use_library w.lib hd (iterator (stamp_of s it) ∷ vs) s) (moved_to x (iter_of s it) (stamp_of s it)))
        (at_all w sig lib_keeps own_keeps L ops d.used s i.1.1.1 h)
        (fit_all ops d s q i.1.1.1 (second_of_both (has_type u) (all_typed (types_of g ops)) all.0) h f)
        (λ vs s j fits k. fit_move d x it hd u (types_of g ops) vs s q i.0 i.1.1.0.0 (kind_of d it s q i.0 j.now) stands parts.0 parts.1 i.1.1.0.1
        j.now j.used fits k))
    fit_eval (call hd ops) d s q i t h f =
        let u = call_type g hd.callee hd.object (types_of g ops) in let parts = value_call g hd ops t in
        let all = call_known g hd.callee hd.object (types_of g ops) parts.1 in
        out_as (λ m v. IsGiven m u v) (Of (type_of g (call hd ops))) d (eval w (call hd ops) s)
        (λ m v given. fits_only (not (is_moving hd.callee)) (only_value u) m v t
        (given_value u m v (only_rest (not (is_moving hd.callee)) (only_value u) t) given))
        (fit_call L d (gifts_of sig ops) (types_of g ops) (λ m v. IsGiven m u v) (eval_all w ops s) (use_library w.lib hd)
        (at_all w sig lib_keeps own_keeps L ops d.used s i.1 h) (fit_all ops d s q i.1 all.0 h f)
        (λ vs s j fits k. fit_library d hd (types_of g ops) vs s q (not-true (is_moving hd.callee) parts.0) parts.1 i.0.1 j.now j.used fits k))
    fit_eval (own_call n at ops) d s q i t h f =
        let typed = function_call g n at ops t in
        let all = function_known g.functions n (not (n == g.main)) (slice_get g.functions n) (types_of g ops) refl typed in
        subst (λ (fs : List Function). OutFits d (function_type (not (n == g.main)) (slice_get fs n) (types_of g ops)) (eval w (own_call n at ops) s))
        known
        (fit_call L d (gifts_of sig ops) (types_of g ops) (Of (function_type (not (n == g.main)) (slice_get sig.functions n) (types_of g ops)))
        (eval_all w ops s) (call_own w n at)
        (at_all w sig lib_keeps own_keeps L ops d.used s i.1 h) (fit_all ops d s q i.1 all.0 h f)
        (λ vs s j fits k. fit_own d n at (not (n == g.main)) (gifts_of sig ops) (types_of g ops) vs s (slice_get sig.functions n) q refl i.0.0 i.0.1
        (subst (λ (fs : List Function). has_type (function_type (not (n == g.main)) (slice_get fs n) (types_of g ops)) ≡ true) (sym known) typed)
        j fits k))
    fit_eval (first at a) d s q i t h f = fit_then L d d (gift_of sig a) (Of (type_of g a)) (Of (type_of g (first at a))) (eval w a s) _
        (at_eval w sig lib_keeps own_keeps L a d.used s i.1 h) (fit_eval a d s q i.1 (first_stands g at a t) h f)
        (λ v s j fits k. (first_fits (type_of g a) s.memory v t fits, k))
    fit_eval (second at a) d s q i t h f = fit_then L d d (gift_of sig a) (Of (type_of g a)) (Of (type_of g (second at a))) (eval w a s) _
        (at_eval w sig lib_keeps own_keeps L a d.used s i.1 h) (fit_eval a d s q i.1 (second_stands g at a t) h f)
        (λ v s j fits k. (second_fits (type_of g a) s.memory v t fits, k))
    fit_eval (container x) d s q i t h f = (fit_container d x s q i h f, f)
    fit_eval (handed_scalar x) d s q i t h f = (handed_fits (variable_type g.scalars x) s.memory (scalar_of s x) t, f)

    -- a left side is a number
    pub left_number : (l : Left) (d : Stack) → Scoped d → has_type (type_of_left g l) ≡ true → IsNumberType (type_of_left g l)
    left_number (scalar x at) d q t = scalars_at g.scalars x q.scalars t
    left_number (reference x at name part) d q t = use_number part (variable_type g.iterators x) t
    left_number (element hd ops) d q t =
        element_number (not (is_arrow hd.callee) || is_variable ops) (call_type g hd.callee hd.object (types_of g ops)) t

    -- each left side is a place
    pub fit_reach : (l : Left) (d : Stack) (s : State) → Scoped d → InLeft sig (counts_of L.frame) l → has_type (type_of_left g l) ≡ true
        → Now L d.used s → StacksFit d s → OutHas APlace d (reach w l s)
    fit_reach (scalar x at) d s q i t h f = (tt, f)
    fit_reach (reference x at name part) d s q i t h f = fit_used d at name part (pointer_at s (iter_of s x)) s
        (reference-held d s.memory s.iters (iter_of s x)
        (use_kind d.iters part (variable_type g.iterators x) (iter_of s x) t (kind_of d x s q i h)) f) f
    fit_reach (element hd ops) d s q i t h f =
        let all = call_known g hd.callee hd.object (types_of g ops) (element_call g hd ops t) in
        out_as IsElement APlace d (reach w (element hd ops) s) element_place
        (fit_call L d (gifts_of sig ops) (types_of g ops) IsElement (eval_all w ops s) (use_library w.lib hd)
        (at_all w sig lib_keeps own_keeps L ops d.used s i.1.1 h) (fit_all ops d s q i.1.1 all.0 h f)
        (λ vs s j fits k. fit_element d hd (types_of g ops) (not (is_arrow hd.callee) || is_variable ops) vs s q t i.1.0.1 j.now j.used fits k))

    -- operands
    pub fit_all : (ops : Operands) (d : Stack) (s : State) → Scoped d → InOperands sig (counts_of L.frame) ops
        → all_typed (types_of g ops) ≡ true → Now L d.used s → StacksFit d s → OutsFit d (types_of g ops) (eval_all w ops s)
    fit_all none d s q i t h f = (tt, f)
    fit_all (with a rest) d s q i t h f =
        fit_rest L d (gift_of sig a) (type_of g a) (types_of g rest) (eval w a s) (eval_all w rest) q.conts_high
        (at_eval w sig lib_keeps own_keeps L a d.used s i.0 h)
        (fit_eval a d s q i.0 (first_of_both (has_type (type_of g a)) (all_typed (types_of g rest)) t) h f)
        (λ v s j k. fit_all rest (from_now d s) s q i.1 (second_of_both (has_type (type_of g a)) (all_typed (types_of g rest)) t)
        (now_again L d.used s j.now) (now-fits d s k))

  -- an element is there
  pub fit_place : (hd : Head) (ops : Operands) (d : Stack) (s : State) → Scoped d
      → (((sig.makes hd.callee ≡ false) × HasObject (counts_of L.frame) hd.object) × InOperands sig (counts_of L.frame) ops)
      → has_type (type_of_left g (element hd ops)) ≡ true → Now L d.used s → StacksFit d s
      → OutHas IsElement d (then_call (eval_all w ops s) (use_library w.lib hd))
  unfolding type_of_left
  fit_place hd ops d s q i t h f =
      let all = call_known g hd.callee hd.object (types_of g ops) (element_call g hd ops t) in
      fit_call L d (gifts_of sig ops) (types_of g ops) IsElement (eval_all w ops s) (use_library w.lib hd)
      (at_all w sig lib_keeps own_keeps L ops d.used s i.1 h) (fit_all ops d s q i.1 all.0 h f)
      (λ vs s j fits k. fit_element d hd (types_of g ops) (not (is_arrow hd.callee) || is_variable ops) vs s q t i.0.1 j.now j.used fits k)
