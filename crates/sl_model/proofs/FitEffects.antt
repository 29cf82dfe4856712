-- Each condition, effect and declaration that is typed keeps the stacks of their types, or a declaration adds what it declares; and no end is for
-- want of a meaning.
use Rattle.std.proofs.Common.{◌≡◌, ℕ, true, not, ◌&&◌, List, [], ◌∷◌, Option, Some, None, length, refl, ap, sym, ◌∙◌, subst}
use Rattle.std.proofs.Common.{option_map}
use Rattle.std.specs.Prelude.{ℤ, slice_get}
use Rattle.std.specs.List.{list_all, slice_set}
use Rattle.std.specs.Fmt.{signed_decimal}
use Rattle.sl_base.specs.declared.place.Place.{Place}
use Rattle.sl_base.specs.declared.form.Form.{Form}
use Rattle.sl_base.specs.declared.scalar.Scalar.{Scalar}
use Rattle.sl_specs.specs.Forms.{same_form}
use Rattle.sl_syntax.specs.declared.operator.Arithmetic.{Arithmetic}
use Rattle.sl_typing.specs.declared.expr_type.ExprType.{ExprType}
use Rattle.sl_typing.specs.declared.expr_type.ExprType.TheVariants as types
use Rattle.sl_typing.specs.Types.{has_type, is_scalar, is_number, is_written, is_iterator, same_iterators, same_answer}
use Rattle.sl_model.specs.Numbers.{is_zero, converted, operated}
use Rattle.sl_syntax.specs.declared.typed.callee.Callee.{Callee}
use Rattle.sl_syntax.specs.declared.typed.callee.Callee.TheVariants as callees
use Rattle.sl_syntax.specs.declared.typed.head.Head.{Head}
use Rattle.sl_syntax.specs.declared.typed.parameter.ParameterKind.{ParameterKind}
use Rattle.sl_syntax.specs.Typed.{Expr, Left, Cond, read, not_read, test, always, Printed, text, endline, number as printed_number, Effect, reads}
use Rattle.sl_syntax.specs.Typed.{prints, evaluates, assigns, updates, moves_to, Declaration, unset_scalar, set_scalar, set_iterator, binds_reference}
use Rattle.sl_syntax.specs.Typed.{makes, element, First, no_first, declares_first, does_first}
use Rattle.sl_model.specs.Memory.Containers.{Memory}
use Rattle.sl_model.specs.LibraryCalls.Values.{Value, element_at, LibOut, trapped, thrown, faulted, gives, unbuilt}
use Rattle.sl_model.specs.Runs.State.{Pointer, iterator_at, reference_to, State, cont_of, iter_of, set_iterator_at, new_scalar, new_iterator}
use Rattle.sl_model.specs.Runs.State.{new_container}
use Rattle.sl_model.specs.Runs.Eval.{Outs, AllGive, OneStops, World, eval, reach, eval_all, then_number, then_call, read_at, write_at, answered}
use Rattle.sl_model.specs.Runs.Eval.{settle_call, site_of, use_library, name_place}
use Rattle.sl_model.specs.Runs.Exec.{Next, Meaning, flow_of, on_number, on_stamp, tested, printed, print_all, wrote, is_name, affect, bound_to, binds_to}
use Rattle.sl_model.specs.Runs.Exec.{declared, begun, ended}
use Rattle.sl_model.specs.Typing.Shapes.{Shape, a_number, an_element, Gift, a_value, Signature, gift_of, gifts_of}
use Rattle.sl_model.specs.Typing.Scoped.{InExpr, InLeft, InCond, InPrinted, InPrint, InEffect, InDeclaration, InFirst, InLast}
use Rattle.sl_model.specs.Typing.WellTypedScopes.{Scope, variable_type, works_in}
use Rattle.sl_model.specs.Typing.WellTypedExpressions.{type_of, type_of_left, types_of}
use Rattle.sl_model.specs.Typing.WellTypedStatements.{may_stand_alone, assigns_others, is_written_left, takes, is_typed_cond, is_typed_item, is_typed_effect}
use Rattle.sl_model.specs.Typing.WellTypedStatements.{is_typed_last, is_making, is_typed_declaration, is_typed_first}
use Rattle.sl_model.proofs.Passing.{first_of_both, second_of_both}
use Rattle.sl_model.proofs.Called.{one_form}
use Rattle.sl_model.proofs.TypedOperands.{typed_by}
use Rattle.sl_model.proofs.TypedCalls.{making_known}
use Rattle.sl_model.proofs.ScopedStatements.{second_is_iterator}
use Rattle.sl_model.proofs.TypedStatements.{no_type_taken}
use Rattle.sl_model.proofs.Fitting.{Fits, IsElement, IsMeant, FitsTypes}
use Rattle.sl_model.proofs.Levels.{Level, counts_of, Now}
use Rattle.sl_model.proofs.Gifts.{KeepsGood, OwnKeepsGood, Gave, OutsAt, gift_of_left, at_then_number, at_answer, at_read}
use Rattle.sl_model.proofs.GoodEval.{at_eval, at_reach, at_all}
use Rattle.sl_model.proofs.GoodEffects.{at_printed}
use Rattle.sl_model.proofs.StackTypes.{Kind, iterator_of, a_reference, Stack, Holds, Lies, StacksFit, IterFits, ScopeFits, write-fits}
use Rattle.sl_model.proofs.StackTypes.{set_iterator-fits, one_iter, one_cont, new_pointer-fits, new_container-fits}
use Rattle.sl_model.proofs.StackTypes.{iters_here, conts_here}
use Rattle.sl_model.proofs.FitOuts.{Of, ANumber, IsPlace, APlace, OutsFit, fit_then_number, fit_answer, fit_read}
use Rattle.sl_model.proofs.FitEval.{OwnFits, kind_of, fit_eval, fit_reach, fit_all, fit_place}
use Rattle.sl_model.proofs.FitFlow.{FlowFits, fit_after, Fit, fit_value, fit_on_number, fit_on_stamp, fit_either, fit_reads, FitTests}
use Rattle.sl_model.proofs.FitDeclared.{kind_in, stack_declared, stack_begun, first_declared}

-- a location of a kind takes a stamp that fits
set_kind : (d : Stack) (m : Memory) (held : List Pointer) (l x : ℕ) (k : Kind) → slice_get d.iters l ≡ Some k → Holds m k (Some (iterator_at x))
    → Lies d m held → Lies d m (slice_set held l (iterator_at x))
set_kind d m held l x (iterator_of form) there fits h = set_iterator-fits d m held l x form there fits h
set_kind d m held l x a_reference there fits h = absurd fits

-- where the first is, one of the second's kind is
same_kind : (ks : List Kind) (u v : ExprType) (l : ℕ) → same_iterators u v ≡ true → IterFits ks u l → slice_get ks l ≡ Some (kind_in v)
same_kind ks (types.Iterator b x) (types.Iterator c y) l h k =
    let e : x ≡ y = one_form x y (second_of_both (same_answer b c) (same_form x y) h) in k ∙ ap (λ z. Some (iterator_of z)) e
same_kind ks u v l h k = absurd (cc)

-- a call that makes a container has no object
making_object : (form : Form) (callee : Callee) (object : Option ℕ) (us : List ExprType) → is_making form callee object us ≡ true → object ≡ None
making_object form callee None us h = refl
making_object form (callees.Row n) (Some x) us h = absurd (cc)
making_object form callee (Some x) us h = absurd (cc)

module _ (due : Option ParameterKind) (d : Stack) where
  -- a reference to an element that is there comes into scope
  pub fit_binds : (at : Place) (v : Value) (s : State) → length d.iters ≡ length s.iters → IsElement s.memory v → StacksFit d s
      → FlowFits due d (one_iter a_reference d) (binds_to at v s)
  fit_binds at (element_at j k part) s high h f =
      subst (λ (o : Option ℕ). FlowFits due d (one_iter a_reference d) (bound_to at part o s)) (sym h.1)
      (new_pointer-fits d s.memory s.iters a_reference (reference_to h.0 part) high tt f)
  fit_binds at v s high h f = absurd h

  -- what follows an iterator of a type
  pub fit_stamp : (L : Level) (e : Stack) (u : ExprType) (go : ℕ → Meaning) (v : Value) (s : State) → is_iterator u ≡ true → Fits s.memory u v
      → ((x : ℕ) → Holds s.memory (kind_in u) (Some (iterator_at x)) → FlowFits due d e (go x s)) → FlowFits due d e (on_stamp go v s)
  fit_stamp L e (types.Iterator b form) go v s t h k = fit_on_stamp due L d e form go v s h k
  fit_stamp L e u go v s t h k = absurd (cc)

module _ (w : World) (sig : Signature) (lib_keeps : KeepsGood sig.shape sig.makes w.lib) (own_keeps : OwnKeepsGood sig w)
    (lib_fits : FitsTypes w.lib) (own_fits : OwnFits sig w) (due : Option ParameterKind) (shape : Shape) (L : Level) (g : Scope)
    (known : sig.functions ≡ g.functions) (d : Stack) (q : ScopeFits L g d.conts d.iters) where
  -- what follows an expression
  pub fit_of_value : (e : Stack) (a : Expr) (go : Value → Meaning) (s : State) → InExpr sig (counts_of L.frame) a
      → has_type (type_of g a) ≡ true
      → ((v : Value) (s : State) → Gave L d.used (gift_of sig a) v s → Fits s.memory (type_of g a) v → StacksFit d s → FlowFits due d e (go v s))
      → Now L d.used s → StacksFit d s → FlowFits due d e (flow_of (eval w a s) go)
  fit_of_value e a go s i t k h f = fit_value due L d e (gift_of sig a) (Of (type_of g a)) (eval w a s) go
      (at_eval w sig lib_keeps own_keeps L a d.used s i h) (fit_eval w sig lib_keeps own_keeps lib_fits own_fits L g known a d s q i t h f) k

  -- what follows an expression that gives a number
  fit_of_number : (e : Stack) (a : Expr) (go : ℤ → Meaning) (s : State) → InExpr sig (counts_of L.frame) a → has_type (type_of g a) ≡ true
      → ((z : ℤ) → Fit due L d e (go z)) → Now L d.used s → StacksFit d s → FlowFits due d e (flow_of (eval w a s) (on_number go))
  fit_of_number e a go s i t k h f =
      fit_of_value e a (on_number go) s i t (λ v s j fits f. fit_on_number due L d e go v s (λ z. k z s j.now f)) h f

  -- what follows an expression that gives an iterator
  fit_of_stamp : (e : Stack) (a : Expr) (go : ℕ → Meaning) (s : State) → InExpr sig (counts_of L.frame) a → has_type (type_of g a) ≡ true
      → is_iterator (type_of g a) ≡ true
      → ((x : ℕ) (s : State) → Holds s.memory (kind_in (type_of g a)) (Some (iterator_at x)) → Now L d.used s → StacksFit d s
      → FlowFits due d e (go x s)) → Now L d.used s → StacksFit d s → FlowFits due d e (flow_of (eval w a s) (on_stamp go))
  fit_of_stamp e a go s i t stands k h f = fit_of_value e a (on_stamp go) s i t
      (λ v s j fits f. fit_stamp due d L e (type_of g a) go v s stands fits (λ x holds. k x s holds j.now f)) h f

  -- each condition
  pub fit_tested : (c : Cond) → InCond sig (counts_of L.frame) c → is_typed_cond g c ≡ true → FitTests due L d (tested w c)
  fit_tested (read xs) i t go k s h f = fit_reads due L d xs go k s h f
  fit_tested (not_read xs) i t go k s h f = fit_reads due L d xs (λ b. go (not b)) (λ b. k (not b)) s h f
  fit_tested (test a) i t go k s h f = fit_of_number d a (λ z. go (not (is_zero z))) s i (typed_by is_number refl (type_of g a) t)
      (λ z. k (not (is_zero z))) h f
  fit_tested always i t go k s h f = k true s h f

  -- an item of a print
  fit_printed : (p : Printed) (s : State) → InPrinted sig (counts_of L.frame) p → is_typed_item g p ≡ true → Now L d.used s → StacksFit d s
      → FlowFits due d d (printed w p s)
  fit_printed (text bytes) s i t h f = f
  fit_printed endline s i t h f = f
  fit_printed (printed_number a) s i t h f = fit_of_number d a (λ z s. Next (wrote (signed_decimal z) s)) s i
      (typed_by is_number refl (type_of g a) t) (λ z s j f. f) h f

  -- a print
  fit_print : (ps : List Printed) (s : State) → InPrint sig (counts_of L.frame) ps → list_all (is_typed_item g) ps ≡ true → Now L d.used s
      → StacksFit d s → FlowFits due d d (print_all w ps s)
  fit_print [] s i t h f = f
  fit_print (p ∷ ps) s i t h f = fit_after due L d d d shape L (Now L d.used) (Now L d.used) (printed w p s) (print_all w ps)
      (at_printed w sig lib_keeps own_keeps shape L d.used p s i.0 h)
      (fit_printed p s i.0 (first_of_both (is_typed_item g p) (list_all (is_typed_item g) ps) t) h f)
      (λ s j f. fit_print ps s i.1 (second_of_both (is_typed_item g p) (list_all (is_typed_item g) ps) t) j f)

  -- what follows the place of a left side
  fit_of_left : (l : Left) (go : Value → Meaning) (s : State) → InLeft sig (counts_of L.frame) l → has_type (type_of_left g l) ≡ true
      → ((v : Value) (s : State) → Gave L d.used (gift_of_left l) v s → IsPlace v → StacksFit d s → FlowFits due d d (go v s))
      → Now L d.used s → StacksFit d s → FlowFits due d d (flow_of (reach w l s) go)
  fit_of_left l go s i t k h f = fit_value due L d d (gift_of_left l) APlace (reach w l s) go
      (at_reach w sig lib_keeps own_keeps L l d.used s i h) (fit_reach w sig lib_keeps own_keeps lib_fits own_fits L g known l d s q i t h f) k

  -- the end of an assignment with an operator
  fit_finish : (op : Arithmetic) (ty left_ty : Scalar) (at : Place) (l : Left) (y : ℤ) (v : Value) (s : State)
      → Gave L d.used (gift_of_left l) v s → IsPlace v → StacksFit d s
      → FlowFits due d d (flow_of (then_number (read_at (name_place l) v s) (λ x s. answered at (operated op ty (converted ty x) y) s))
      (on_number (λ z s. Next (write_at v (converted left_ty z) s))))
  fit_finish op ty left_ty at l y v s h p f = fit_value due L d d (a_value a_number) ANumber
      (then_number (read_at (name_place l) v s) (λ x s. answered at (operated op ty (converted ty x) y) s))
      (on_number (λ z s. Next (write_at v (converted left_ty z) s)))
      (at_then_number L d.used (a_value a_number) (a_value a_number) (read_at (name_place l) v s)
      (λ x s. answered at (operated op ty (converted ty x) y) s) (at_read L d.used (name_place l) l v s h)
      (λ x s i. at_answer L d.used at (operated op ty (converted ty x) y) s i))
      (fit_then_number L d (a_value a_number) ANumber ANumber (read_at (name_place l) v s)
      (λ x s. answered at (operated op ty (converted ty x) y) s) (at_read L d.used (name_place l) l v s h) (fit_read L d (name_place l) v s p f)
      (λ x s i f. fit_answer L d at (operated op ty (converted ty x) y) s f))
      (λ u s i n f. fit_on_number due L d d (λ z s. Next (write_at v (converted left_ty z) s)) u s
      (λ z. write-fits d v (converted left_ty z) s i.now.good i.now.later f))

  -- each effect
  pub fit_affect : (e : Effect) (s : State) → InEffect sig (counts_of L.frame) e → is_typed_effect g e ≡ true → Now L d.used s → StacksFit d s
      → FlowFits due d d (affect w e s)
  fit_affect (reads xs) s i t h f = fit_reads due L d xs (λ b. Next) (λ b s j f. f) s h f
  fit_affect (prints ps) s i t h f = fit_print ps s i t h f
  fit_affect (evaluates a) s i t h f =
      let typed = typed_by may_stand_alone refl (type_of g a) (first_of_both (may_stand_alone (type_of g a)) (assigns_others g a) t) in
      fit_either due L d d (is_name a) Next (λ s. flow_of (eval w a s) (λ v. Next)) (λ s j f. f)
      (λ s j f. fit_of_value d a (λ v. Next) s i typed (λ v s k fits f. f) j f) s h f
  fit_affect (assigns l a) s i t h f =
      let value_typed = typed_by (takes (type_of_left g l)) (no_type_taken (type_of_left g l)) (type_of g a) t in
      let left_typed = typed_by (λ u. takes u (type_of g a)) refl (type_of_left g l) t in
      fit_of_number d a (λ z s. flow_of (reach w l s) (λ at_l s. Next (write_at at_l z s))) s i.0 value_typed
      (λ z s j f. fit_of_left l (λ at_l s. Next (write_at at_l z s)) s i.1 left_typed
      (λ v s k p f. write-fits d v z s k.now.good k.now.later f) j f) h f
  fit_affect (updates op ty left_ty at l a) s i t h f =
      let both = first_of_both (is_written_left g left_ty l && works_in left_ty ty) (is_scalar ty (type_of g a)) t in
      let left = first_of_both (is_written_left g left_ty l) (works_in left_ty ty) both in
      let number = first_of_both (is_scalar left_ty (type_of_left g l)) (is_written (type_of_left g l)) left in
      let value_typed = typed_by (is_scalar ty) refl (type_of g a)
      (second_of_both (is_written_left g left_ty l && works_in left_ty ty) (is_scalar ty (type_of g a)) t) in
      fit_of_number d a (λ y s. flow_of (reach w l s) (λ at_l s.
      flow_of (then_number (read_at (name_place l) at_l s) (λ x s. answered at (operated op ty (converted ty x) y) s))
      (on_number (λ z s. Next (write_at at_l (converted left_ty z) s))))) s i.0 value_typed
      (λ y s j f. fit_of_left l (λ at_l s.
      flow_of (then_number (read_at (name_place l) at_l s) (λ x s. answered at (operated op ty (converted ty x) y) s))
      (on_number (λ z s. Next (write_at at_l (converted left_ty z) s)))) s i.1 (typed_by (is_scalar left_ty) refl (type_of_left g l) number)
      (λ v s k p f. fit_finish op ty left_ty at l y v s k p f) j f) h f
  fit_affect (moves_to it a) s i t h f =
      let stands = second_is_iterator (variable_type g.iterators it) (type_of g a) t in
      fit_of_stamp d a (λ stamp s. Next (set_iterator_at (iter_of s it) stamp s)) s i.1.1 (typed_by is_iterator refl (type_of g a) stands) stands
      (λ x s holds j f. set_kind d s.memory s.iters (iter_of s it) x (kind_in (type_of g a))
      (same_kind d.iters (variable_type g.iterators it) (type_of g a) (iter_of s it) t
      (kind_of w sig lib_keeps own_keeps lib_fits own_fits L g known d it s q i.0 j)) holds f) h f

  -- the container that a call made
  fit_made : (form : Form) (hd : Head) (vs : List Value) (n : ℕ) (o : LibOut) (s : State) → Now L d.used s
      → IsMeant (form ∷ []) s.memory types.Nothing o → StacksFit d s
      → FlowFits due d (one_cont form d) (flow_of (settle_call hd vs o s) (λ v t. Next (new_container n t)))
  fit_made form hd vs n (trapped kind a) s h i f = tt
  fit_made form hd vs n thrown s h i f = tt
  fit_made form hd vs n (faulted x) s h i f = tt
  fit_made form hd vs n (gives v m picks) s h i f = new_container-fits d form s m h.good h.later (conts_here L g d d.used s q h) i.kept f
  fit_made form hd vs n unbuilt s h i f = absurd i

  -- a call that makes a container
  fit_make : (gifts : List Gift) (us : List ExprType) (form : Form) (hd : Head) (n : ℕ) (o : Outs) → is_making form hd.callee hd.object us ≡ true
      → OutsAt L d.used gifts o → OutsFit d us o
      → FlowFits due d (one_cont form d) (flow_of (then_call o (use_library w.lib hd)) (λ v t. Next (new_container n t)))
  fit_make gifts us form hd n (AllGive vs s) t h i = fit_made form hd vs n _ s h.now
      (lib_fits.makes form hd.callee hd.object us (record { site = site_of hd; object = option_map (cont_of s) hd.object; values = vs })
      s.memory s.picks
      t
      (ap (option_map (cont_of s)) (making_object form hd.callee hd.object us t))
      (record { sound = h.now.good.sound; used = h.used; fit = i.0 })) i.1
  fit_make gifts us form hd n (OneStops x s) t h i = i

  -- each declaration
  pub fit_declared : (x : Declaration) (s : State) → InDeclaration sig (counts_of L.frame) x → is_typed_declaration g x ≡ true → Now L d.used s
      → StacksFit d s → FlowFits due d (stack_declared g x d) (declared w x s)
  fit_declared (unset_scalar ty) s i t h f = f
  fit_declared (set_scalar ty a) s i t h f = fit_of_number d a (λ z s. Next (new_scalar ty (Some z) s)) s i
      (typed_by (is_scalar ty) refl (type_of g a) t) (λ z s j f. f) h f
  fit_declared (set_iterator a) s i t h f =
      fit_of_stamp (one_iter (kind_in (type_of g a)) d) a (λ stamp s. Next (new_iterator stamp s)) s i.1
      (typed_by is_iterator refl (type_of g a) t) t
      (λ x s holds j f. new_pointer-fits d s.memory s.iters (kind_in (type_of g a)) (iterator_at x) (iters_here L g d d.used s q j) holds f) h f
  fit_declared (binds_reference hd ops) s i t h f = fit_value due L d (one_iter a_reference d) (a_value an_element) IsElement
      (then_call (eval_all w ops s) (use_library w.lib hd)) (binds_to hd.place)
      (at_reach w sig lib_keeps own_keeps L (element hd ops) d.used s i h)
      (fit_place w sig lib_keeps own_keeps lib_fits own_fits L g known hd ops d s q i.1 t h f)
      (λ v s j there f. fit_binds due d hd.place v s (iters_here L g d d.used s q j.now) there f)
  fit_declared (makes form hd ops) s i t h f =
      let all = making_known form hd.callee hd.object (types_of g ops) t in
      fit_make (gifts_of sig ops) (types_of g ops) form hd (length s.memory.conts) (eval_all w ops s) t
      (at_all w sig lib_keeps own_keeps L ops d.used s i.1 h)
      (fit_all w sig lib_keeps own_keeps lib_fits own_fits L g known ops d s q i.1 all.0 h f)

  -- the first part of a `for`
  pub fit_begun : (head : First) (s : State) → InFirst sig (counts_of L.frame) head → is_typed_first g head ≡ true → Now L d.used s → StacksFit d s
      → FlowFits due d (stack_begun g head d) (begun w head s)
  fit_begun no_first s i t h f = f
  fit_begun (declares_first x) s i t h f = fit_declared x s i (first_declared g x t) h f
  fit_begun (does_first e) s i t h f = fit_affect e s i t h f

  -- the last part of a `for`
  pub fit_ended : (e : Option Effect) (s : State) → InLast sig (counts_of L.frame) e → is_typed_last g e ≡ true → Now L d.used s → StacksFit d s
      → FlowFits due d d (ended w e s)
  fit_ended None s i t h f = f
  fit_ended (Some e) s i t h f = fit_affect e s i t h f
