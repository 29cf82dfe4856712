-- A range-for over a container that is of its type keeps the stacks of their types: its two hidden iterators are of the container's form.
use Rattle.std.proofs.Common.{◌≡◌, ℕ, suc, ◌+◌, ◌<◌, Bool, true, false, not, List, [], ◌∷◌, ◌++◌, Option, Some, None, length, refl, ap, sym, ◌∙◌}
use Rattle.std.proofs.Common.{◌&&◌}
use Rattle.std.proofs.Common.{subst, arith, if◌then◌else◌}
use Rattle.std.specs.Prelude.{slice_get, slice_index_or}
use Rattle.std.proofs.lemmas.Option.{get_or_from_slice_get}
use Rattle.sl_base.specs.declared.place.Place.{Place}
use Rattle.sl_base.specs.declared.form.Form.{Form}
use Rattle.sl_base.specs.declared.form.Form.TheVariants as f
use Rattle.sl_base.specs.declared.scalar.Scalar.TheVariants as t
use Rattle.sl_specs.specs.Forms.{is_keyed}
use Rattle.sl_syntax.specs.declared.operator.Comparison.TheVariants as c
use Rattle.sl_syntax.specs.declared.typed.callee.Callee.TheVariants as callees
use Rattle.sl_syntax.specs.declared.typed.element.Taken.{Taken}
use Rattle.sl_syntax.specs.declared.typed.element.Taken.TheVariants as taken
use Rattle.sl_syntax.specs.declared.typed.operator.Operator.TheVariants as operators
use Rattle.sl_syntax.specs.declared.typed.parameter.ParameterKind.{ParameterKind}
use Rattle.sl_syntax.specs.Written.{is_map}
use Rattle.sl_typing.specs.declared.expr_type.ExprType.{ExprType}
use Rattle.sl_typing.specs.declared.expr_type.ExprType.TheVariants as types
use Rattle.sl_typing.specs.Types.{is_const}
use Rattle.sl_model.specs.Numbers.{is_zero}
use Rattle.sl_model.specs.Memory.Containers.{Cont, Memory, size, stamps, begin_of, end_of}
use Rattle.sl_model.specs.LibraryCalls.Values.{Value}
use Rattle.sl_model.specs.Runs.State.{State, iterator_at, set_scalar_at, set_iterator_at}
use Rattle.sl_model.specs.Runs.Eval.{World, read_at, use_library}
use Rattle.sl_model.specs.Runs.Exec.{Next, Meaning, and_then, flow_of, on_number, on_stamp, binds_to, asks, hidden_at, takes_number, takes_element}
use Rattle.sl_model.specs.Runs.Exec.{over_range, range_start}
use Rattle.sl_model.specs.Runs.Good.{IsSound}
use Rattle.sl_model.specs.Typing.Shapes.{Shape, a_number, a_stamp, an_element, a_value, Signature}
use Rattle.sl_model.specs.Typing.Scoped.{AsksWell}
use Rattle.sl_model.specs.Typing.WellTypedScopes.{Scope}
use Rattle.sl_model.specs.Typing.WellTypedStatements.{in_range}
use Rattle.sl_model.proofs.Getting.{get_map, got_map, get_left, get_within}
use Rattle.sl_model.proofs.Columns.{stamp_of_end}
use Rattle.sl_model.proofs.Placing.{place_stands}
use Rattle.sl_model.proofs.Fitting.{forms_of, StampFits, IsElement, IsGiven, FitsTypes}
use Rattle.sl_model.proofs.Levels.{Level, Now, with_iterator, set_scalar-now, set_iterator-now}
use Rattle.sl_model.proofs.Gifts.{KeepsGood, Gave, at_element, gave_as}
use Rattle.sl_model.proofs.GoodFlow.{FlowIn, flow_value, flow_stamp}
use Rattle.sl_model.proofs.GoodEffects.{not_one, at_binds}
use Rattle.sl_model.proofs.GoodRange.{level_range, hidden_used, asked}
use Rattle.sl_model.proofs.StackTypes.{Kind, iterator_of, a_reference, Stack, StacksFit, ContFits, IterFits, ScopeFits, set_scalar-fits}
use Rattle.sl_model.proofs.StackTypes.{set_iterator-fits, one_iter, new_pointer-fits}
use Rattle.sl_model.proofs.StackScopes.{iters_new, numbers_with, last_there, iterator-held}
use Rattle.sl_model.proofs.FitOuts.{ANumber, fit_read, fit_settle}
use Rattle.sl_model.proofs.FitEval.{element_place}
use Rattle.sl_model.proofs.FitFlow.{FlowFits, flow_as, fit_scope, fit_after, Fit, fit_value, fit_on_number, fit_on_stamp, fit_turns}
use Rattle.sl_model.proofs.FitDeclared.{fewer_iters, one_higher}
use Rattle.sl_model.proofs.FitEffects.{fit_binds}

-- a stamp of a container of a form stands in no container of another one
standing_fits : (m : Memory) (j k stamp : ℕ) (x : Cont) (form : Form) → IsSound m → slice_get m.conts j ≡ Some x
    → slice_get (stamps x) k ≡ Some stamp → x.form ≡ form → StampFits m form stamp
standing_fits m j k stamp x form sound there stands e i h y found also = let r : Some y ≡ Some x = sym found ∙ (ap (slice_get m.conts) one ∙ there) in
    let same : y ≡ x = cc in ap (λ (z : Cont). z.form) same ∙ e
  where
    one : i ≡ j
    one = (sound.stamps_apart.once i h j k stamp (stamps y, get_map stamps m.conts i y found, also)
        (stamps x, get_map stamps m.conts j x there, stands)).0

-- the first place of a container of a form fits it
begin_fits : (m : Memory) (j : ℕ) (form : Form) → IsSound m → slice_get (forms_of m) j ≡ Some form → StampFits m form (begin_of m j)
begin_fits m j form sound e = by_cont (got_map (λ (x : Cont). x.form) m.conts j form e)
  where
    by_place : (x : Cont) → slice_get m.conts j ≡ Some x → x.form ≡ form → (s : ℕ) × (slice_get (stamps x) 0 ≡ Some s)
        → StampFits m form (slice_index_or (stamps x) 0 m.fresh)
    by_place x there same p = subst (λ (s : ℕ). StampFits m form s) (sym (get_or_from_slice_get (stamps x) 0 p.0 m.fresh p.1))
        (standing_fits m j 0 p.0 x form sound there p.1 same)

    by_cont : (x : Cont) × (slice_get m.conts j ≡ Some x) × (x.form ≡ form) → StampFits m form (begin_of m j)
    by_cont r = subst (λ (x : Cont). StampFits m form (slice_index_or (stamps x) 0 m.fresh))
        (sym (get_or_from_slice_get m.conts j r.0 (not_one m) r.1)) (by_place r.0 r.1 r.2 (place_stands r.0 0 (omega arith)))

-- so does its end
end_fits : (m : Memory) (j : ℕ) (form : Form) → IsSound m → slice_get (forms_of m) j ≡ Some form → StampFits m form (end_of m j)
end_fits m j form sound e = by_cont (got_map (λ (x : Cont). x.form) m.conts j form e)
  where
    by_cont : (x : Cont) × (slice_get m.conts j ≡ Some x) × (x.form ≡ form) → StampFits m form (end_of m j)
    by_cont r = subst (λ (x : Cont). StampFits m form x.end) (sym (get_or_from_slice_get m.conts j r.0 (not_one m) r.1))
        (standing_fits m j (size r.0) r.0.end r.0 form sound r.1 (stamp_of_end r.0) r.2)

-- the form in the type of a container
abbrev pub form_in : ExprType → Form
form_in (types.Container access form) = form
form_in u = f.Vector

-- the kinds with the two hidden iterators of a range-for
abbrev pub iters_hidden : Form → List Kind → List Kind
iters_hidden form ks = (ks ++ iterator_of form ∷ []) ++ iterator_of form ∷ []

-- those in its body
abbrev pub iters_range : Taken → Form → List Kind → List Kind
iters_range taken.Value form ks = iters_hidden form ks
iters_range taken.Reference form ks = iters_hidden form ks ++ a_reference ∷ []

-- what is known with the hidden iterators
abbrev pub stack_hidden : Form → Stack → Stack
stack_hidden form d = record d { iters = iters_hidden form d.iters }

-- what is known in its body
abbrev pub stack_range : Taken → Form → Stack → Stack
stack_range how form d = record d { iters = iters_range how form d.iters }

-- what was known before is known with the hidden iterators
pub before_hidden : (form : Form) (d : Stack) (s : State) → StacksFit (stack_hidden form d) s → StacksFit d s
before_hidden form d s h = fewer_iters d (iterator_of form ∷ []) s.memory s.iters
    (fewer_iters (one_iter (iterator_of form) d) (iterator_of form ∷ []) s.memory s.iters h)

-- the state in which the hidden iterators have come into scope
pub range-fits : (d : Stack) (i : ℕ) (form : Form) (s : State) → IsSound s.memory → length d.iters ≡ length s.iters
    → slice_get (forms_of s.memory) i ≡ Some form → StacksFit d s → StacksFit (stack_hidden form d) (range_start i s)
range-fits d i form s sound high there h =
    new_pointer-fits (one_iter (iterator_of form) d) s.memory (s.iters ++ iterator_at (begin_of s.memory i) ∷ []) (iterator_of form)
    (iterator_at (end_of s.memory i))
    (one_higher d.iters (iterator_of form) (length s.iters) high ∙ sym (one_higher s.iters (iterator_at (begin_of s.memory i)) (length s.iters) refl))
    (end_fits s.memory i form sound there)
    (new_pointer-fits d s.memory s.iters (iterator_of form) (iterator_at (begin_of s.memory i)) high (begin_fits s.memory i form sound there) h)

-- the first hidden iterator is known
pub first_known : (ks : List Kind) (form : Form) (n : ℕ) → length ks ≡ n → slice_get (iters_hidden form ks) n ≡ Some (iterator_of form)
first_known ks form n e =
    get_left (ks ++ iterator_of form ∷ []) (iterator_of form ∷ []) n (get_within (ks ++ iterator_of form ∷ []) n (iterator_of form) last) ∙ last
  where
    last : slice_get (ks ++ iterator_of form ∷ []) n ≡ Some (iterator_of form)
    last = last_there ks (iterator_of form) n e

-- and so is the second one
pub second_known : (ks : List Kind) (form : Form) (n : ℕ) → length ks ≡ n → slice_get (iters_hidden form ks) (n + 1) ≡ Some (iterator_of form)
second_known ks form n e = last_there (ks ++ iterator_of form ∷ []) (iterator_of form) (n + 1) (one_higher ks (iterator_of form) n e)

-- a reference to an element, with a key or without one
either_reference : (ks : List Kind) (b p r : Bool) (n : ℕ) → slice_get ks n ≡ Some a_reference
    → IterFits ks (if b then types.EntryReference p else types.IntReference r) n
either_reference ks true p r n h = h
either_reference ks false p r n h = h

-- what is in scope in the body of a range-for is where its type says
pub scope_range : (L : Level) (g : Scope) (fs : List Form) (ks : List Kind) (how : Taken) (u : ExprType) (l : ℕ) → ContFits fs u l
    → ScopeFits L g fs ks → ScopeFits (level_range how L) (in_range how u g) fs (iters_range how (form_in u) ks)
scope_range L g fs ks taken.Value (types.Container access form) l there q = record {
  scalars = numbers_with g.scalars t.Int q.scalars;
  conts_high = q.conts_high;
  iters_high = one_higher (ks ++ iterator_of form ∷ []) (iterator_of form) (L.iters + 1) (one_higher ks (iterator_of form) L.iters q.iters_high);
  containers = q.containers;
  iterators = iters_new (ks ++ iterator_of form ∷ []) (g.iterators ++ types.Iterator (is_const access) form ∷ []) (L.frame.iters ++ L.iters ∷ [])
      (iterator_of form) (types.Iterator (is_const access) form) (L.iters + 1)
      (last_there (ks ++ iterator_of form ∷ []) (iterator_of form) (L.iters + 1) (one_higher ks (iterator_of form) L.iters q.iters_high))
      (iters_new ks g.iterators L.frame.iters (iterator_of form) (types.Iterator (is_const access) form) L.iters
      (last_there ks (iterator_of form) L.iters q.iters_high) q.iterators);
}
scope_range L g fs ks taken.Reference (types.Container access form) l there q = record {
  scalars = q.scalars;
  conts_high = q.conts_high;
  iters_high = one_higher (iters_hidden form ks) a_reference ((L.iters + 1) + 1) hidden_high;
  containers = q.containers;
  iterators = iters_new (iters_hidden form ks)
      ((g.iterators ++ types.Iterator (is_const access) form ∷ []) ++ types.Iterator (is_const access) form ∷ [])
      ((L.frame.iters ++ L.iters ∷ []) ++ (L.iters + 1) ∷ []) a_reference
      (if is_map form then types.EntryReference (not (is_const access)) else types.IntReference (not (is_const access) && not (is_keyed form)))
      ((L.iters + 1) + 1)
      (either_reference (iters_hidden form ks ++ a_reference ∷ []) (is_map form) (not (is_const access)) (not (is_const access)
      && not (is_keyed form)) ((L.iters + 1) + 1) (last_there (iters_hidden form ks) a_reference ((L.iters + 1) + 1) hidden_high))
      (iters_new (ks ++ iterator_of form ∷ []) (g.iterators ++ types.Iterator (is_const access) form ∷ []) (L.frame.iters ++ L.iters ∷ [])
      (iterator_of form) (types.Iterator (is_const access) form) (L.iters + 1)
      (last_there (ks ++ iterator_of form ∷ []) (iterator_of form) (L.iters + 1) (one_higher ks (iterator_of form) L.iters q.iters_high))
      (iters_new ks g.iterators L.frame.iters (iterator_of form) (types.Iterator (is_const access) form) L.iters
      (last_there ks (iterator_of form) L.iters q.iters_high) q.iterators));
}
  where
    hidden_high : length (iters_hidden form ks) ≡ (L.iters + 1) + 1
    hidden_high = one_higher (ks ++ iterator_of form ∷ []) (iterator_of form) (L.iters + 1) (one_higher ks (iterator_of form) L.iters q.iters_high)
scope_range L g fs ks how u l there q = absurd there

module _ (due : Option ParameterKind) (shape : Shape) (L : Level) (d : Stack) where
  -- a range-for's variable takes the number of an element
  pub fit_takes_number : (at : Place) (x : ℕ) (body : Meaning) → Fit due L d d body → (v : Value) (s : State)
      → Gave L d.used (a_value an_element) v s → IsElement s.memory v → StacksFit d s → FlowFits due d d (takes_number at x body v s)
  fit_takes_number at x body k v s h there f =
      fit_value due L d d (a_value a_number) ANumber (read_at at v s) (on_number (λ z s. body (set_scalar_at x z s))) (at_element L d.used at v s h)
      (fit_read L d at v s (element_place s.memory v there) f)
      (λ u s j n f. fit_on_number due L d d (λ z s. body (set_scalar_at x z s)) u s
      (λ z. k (set_scalar_at x z s) (set_scalar-now L d.used x z s j.now) (set_scalar-fits d x z s f)))

  -- or its reference is bound to the element, for one turn
  pub fit_takes_element : (at : Place) (body : Meaning) → length d.conts ≡ L.conts → length d.iters ≡ L.iters
      → Fit due (with_iterator L) (one_iter a_reference d) (one_iter a_reference d) body → (v : Value) (s : State)
      → Gave L d.used (a_value an_element) v s → IsElement s.memory v → StacksFit d s → FlowFits due d d (takes_element at body v s)
  fit_takes_element at body conts iters k v s h there f = fit_scope due d 0 s (and_then (binds_to at v s) body)
      (conts ∙ sym (ap (λ (l : Level). l.conts) h.now.level)) iters_here
      (fit_after due L d (one_iter a_reference d) d shape L (Now (with_iterator L) d.used) (Now L d.used) (binds_to at v s) body
      (at_binds shape L d.used (Now L d.used) at v s h) (fit_binds due d at v s iters_here there f)
      (λ t j f. flow_as due (one_iter a_reference d) (one_iter a_reference d) d d (body t)
      (λ s i. fewer_iters d (a_reference ∷ []) s.memory s.iters i) (λ s i. fewer_iters d (a_reference ∷ []) s.memory s.iters i) (k t j f)))
    where
      iters_here : length d.iters ≡ length s.iters
      iters_here = iters ∙ sym (ap (λ (l : Level). l.iters) h.now.level)

module _ (w : World) (sig : Signature) (lib_keeps : KeepsGood sig.shape sig.makes w.lib) (lib_fits : FitsTypes w.lib) (due : Option ParameterKind)
    (shape : Shape) (L : Level) (d : Stack) where
  -- a range-for
  pub fit_over : (at : Place) (name b e : ℕ) (form : Form) (takes : Value → Meaning) → b < L.iters → e < L.iters → AsksWell sig
      → slice_get d.iters b ≡ Some (iterator_of form) → slice_get d.iters e ≡ Some (iterator_of form)
      → ((v : Value) (s : State) → Gave L d.used (a_value an_element) v s → FlowIn shape L d.used (Now L d.used) (Now L d.used) (takes v s))
      → ((v : Value) (s : State) → Gave L d.used (a_value an_element) v s → IsElement s.memory v → StacksFit d s → FlowFits due d d (takes v s))
      → Fit due L d d (over_range w at name b e takes)
  fit_over at name b e form takes b_low e_low well b_there e_there good k s h f = fit_turns due L d shape (suc s.steps)
      (λ s go. flow_of (use_library w.lib (asks (operators.Compare c.NotEqual) at name) (hidden_at s b ∷ hidden_at s e ∷ []) s)
      (on_number (λ z. go (not (is_zero z)))))
      (λ s. flow_of (use_library w.lib (asks operators.Dereference at name) (hidden_at s b ∷ []) s) takes)
      (λ s. flow_of (use_library w.lib (asks operators.Increment at name) (hidden_at s b ∷ []) s)
      (on_stamp (λ stamp s. Next (set_iterator_at b stamp s))))
      (λ s i. flow_value shape L d.used (Now L d.used) (Now L d.used) (a_value (sig.shape (callees.Hidden operators.Dereference)))
      (use_library w.lib (asks operators.Dereference at name) (hidden_at s b ∷ []) s) takes
      (asked w sig lib_keeps shape L d.used (asks operators.Dereference at name) (hidden_at s b ∷ []) s well.reads_one
      (hidden_used L d.used b s b_low i, tt) i)
      (λ v s j. good v s (read_element v s j)))
      (λ s i. flow_value shape L d.used (Now L d.used) (Now L d.used) (a_value (sig.shape (callees.Hidden operators.Increment)))
      (use_library w.lib (asks operators.Increment at name) (hidden_at s b ∷ []) s)
      (on_stamp (λ stamp s. Next (set_iterator_at b stamp s)))
      (asked w sig lib_keeps shape L d.used (asks operators.Increment at name) (hidden_at s b ∷ []) s well.steps
      (hidden_used L d.used b s b_low i, tt) i)
      (λ v s j. flow_stamp shape L d.used (Now L d.used) (Now L d.used) (λ stamp s. Next (set_iterator_at b stamp s))
      (λ stamp s low l. set_iterator-now L d.used b stamp s low l) v s
      (gave_as L d.used (a_value (sig.shape (callees.Hidden operators.Increment))) (a_value a_stamp) v s (ap (λ y. a_value y) well.stamp_stepped) j)))
      (λ go p s i f. fit_value due L d d (a_value (sig.shape (callees.Hidden (operators.Compare c.NotEqual))))
      (λ m v. IsGiven m (types.Scalar t.Bool) v)
      (use_library w.lib (asks (operators.Compare c.NotEqual) at name) (hidden_at s b ∷ hidden_at s e ∷ []) s) (on_number (λ z. go (not (is_zero z))))
      (asked w sig lib_keeps shape L d.used (asks (operators.Compare c.NotEqual) at name) (hidden_at s b ∷ hidden_at s e ∷ []) s well.tests
      (hidden_used L d.used b s b_low i, (hidden_used L d.used e s e_low i, tt)) i)
      (fit_settle L d (types.Scalar t.Bool) (asks (operators.Compare c.NotEqual) at name) (hidden_at s b ∷ hidden_at s e ∷ []) _ s i f
      (lib_fits.compares form (hidden_at s b) (hidden_at s e) (record { site = 0; object = None; values = hidden_at s b ∷ hidden_at s e ∷ [] })
      s.memory
      s.picks refl refl i.good.sound (hidden_used L d.used b s b_low i, (hidden_used L d.used e s e_low i, tt))
      (iterator-held d s.memory s.iters b form b_there f) (iterator-held d s.memory s.iters e form e_there f)))
      (λ v s j given f. fit_on_number due L d d (λ z. go (not (is_zero z))) v s (λ z. p (not (is_zero z)) s j.now f)))
      (λ s i f. fit_value due L d d (a_value (sig.shape (callees.Hidden operators.Dereference))) (λ m v. IsGiven m (types.Element false) v)
      (use_library w.lib (asks operators.Dereference at name) (hidden_at s b ∷ []) s) takes
      (asked w sig lib_keeps shape L d.used (asks operators.Dereference at name) (hidden_at s b ∷ []) s well.reads_one
      (hidden_used L d.used b s b_low i, tt) i)
      (fit_settle L d (types.Element false) (asks operators.Dereference at name) (hidden_at s b ∷ []) _ s i f
      (lib_fits.reads form (hidden_at s b) (record { site = 0; object = None; values = hidden_at s b ∷ [] }) s.memory s.picks refl refl i.good.sound
      (hidden_used L d.used b s b_low i, tt) (iterator-held d s.memory s.iters b form b_there f)))
      (λ v s j there f. k v s (read_element v s j) there f))
      (λ s i f. fit_value due L d d (a_value (sig.shape (callees.Hidden operators.Increment))) (λ m v. IsGiven m (types.Iterator false form) v)
      (use_library w.lib (asks operators.Increment at name) (hidden_at s b ∷ []) s) (on_stamp (λ stamp s. Next (set_iterator_at b stamp s)))
      (asked w sig lib_keeps shape L d.used (asks operators.Increment at name) (hidden_at s b ∷ []) s well.steps
      (hidden_used L d.used b s b_low i, tt) i)
      (fit_settle L d (types.Iterator false form) (asks operators.Increment at name) (hidden_at s b ∷ []) _ s i f
      (lib_fits.steps form (hidden_at s b) (record { site = 0; object = None; values = hidden_at s b ∷ [] }) s.memory s.picks refl refl i.good.sound
      (hidden_used L d.used b s b_low i, tt) (iterator-held d s.memory s.iters b form b_there f)))
      (λ v s j given f. fit_on_stamp due L d d form (λ stamp s. Next (set_iterator_at b stamp s)) v s given
      (λ x fits. set_iterator-fits d s.memory s.iters b x form b_there fits f)))
      s h f
    where
      read_element : (v : Value) (s : State) → Gave L d.used (a_value (sig.shape (callees.Hidden operators.Dereference))) v s
          → Gave L d.used (a_value an_element) v s
      read_element v s j = gave_as L d.used (a_value (sig.shape (callees.Hidden operators.Dereference))) (a_value an_element) v s
          (ap (λ y. a_value y) well.element_read) j
