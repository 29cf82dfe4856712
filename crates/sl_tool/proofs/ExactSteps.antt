-- What each statement of a text of the subset does in the plainest run: where it isn't warned of, the run goes on; where it is, the run
-- ends in a trap that the first warning tells of.
use Rattle.std.proofs.Common.{arith, ◌≡◌, ℕ, zero, suc, ◌+◌, ◌<◌, ◌≤◌, Bool, true, false, List, [], ◌∷◌, ◌++◌, length, get_or, drop, Option, Some}
use Rattle.std.proofs.Common.{None, refl, ap, sym, subst, ◌∙◌, if◌then◌else◌}
use Rattle.std.specs.Prelude.{slice_get, nat_lt, Contains, ℤ, pos}
use Rattle.std.proofs.lemmas.Bool.{ltb-true, ltb-false, eq-eqb, ne_eqb}
use Rattle.sl_base.specs.declared.form.Form.TheVariants as f
use Rattle.sl_base.specs.declared.scalar.Scalar.TheVariants as t
use Rattle.sl_base.specs.declared.place.Place.{Place}
use Rattle.sl_base.specs.declared.limits.TheConstants.{ELEMENTS}
use Rattle.sl_syntax.specs.declared.subset.Stmt.TheVariants.{Vector, PushBack, Begin, Dereference}
use Rattle.sl_syntax.specs.declared.typed.callee.Callee.TheVariants as callees
use Rattle.sl_syntax.specs.declared.typed.head.Head.{Head}
use Rattle.sl_syntax.specs.declared.typed.operator.Operator.TheVariants as operators
use Rattle.sl_syntax.specs.Typed.{makes, none, with, literal, iterator as iterator_operand, held, element, call, evaluates, set_iterator, set_scalar}
use Rattle.sl_syntax.specs.SubsetView.{stmt_of, free_call, member_call, vector_row, begin_row, push_back_row}
use Rattle.sl_model.specs.Memory.Containers.{Cont, size, cont_at, killer}
use Rattle.sl_model.specs.Numbers.{converted}
use Rattle.sl_model.specs.Memory.Schedule.{pick}
use Rattle.sl_model.specs.LibraryCalls.Values.{Value, number, iterator, nothing, LibOut, thrown, trapped, gives}
use Rattle.sl_model.specs.Runs.Ends.{Trapped, OutOfSteps, End}
use Rattle.sl_model.specs.Runs.State.{mark_in, iterator_at, Pointer, State, cont_of, iter_of, stamp_of, new_iterator}
use Rattle.sl_model.specs.Runs.Eval.{World, settle_call}
use Rattle.sl_model.specs.Runs.Exec.{Flow, Next, Over, Meaning, tick, exec, flow_of, on_stamp, declared, affect}
use Rattle.sl_model.specs.LibraryCalls.Effects.{picks_with}
use Rattle.sl_model.specs.LibraryCalls.Library.{lib}
use Rattle.sl_model.specs.Reports.Covers.{Tells}
use Rattle.sl_tool.specs.declared.analysis.Warning.{Warning}
use Rattle.sl_tool.specs.declared.analysis.Fault.TheVariants.{InvalidIterator}
use Rattle.sl_tool.specs.declared.analysis.Standing.{Standing}
use Rattle.sl_tool.specs.Means.Analysis.{Known, killers_of, standing_at, is_filled, with_vector, with_push, with_iterator, found_valid, dereferenced}
use Rattle.sl_tool.specs.Means.Analysis.{fault_in, told_at}
use Rattle.sl_tool.specs.Means.Told.{warning_of}
use Rattle.sl_tool.proofs.Describes.{Describes, Stays}
use Rattle.sl_tool.proofs.Lists.{there, get_or-there}
use Rattle.sl_tool.proofs.Calls.{lib-vector, lib-begin, lib-push_back, bare, pushing, pushed_back, lib-star_valid, lib-star_invalid}
use Rattle.sl_tool.proofs.Calls.{starring, at_element, cont_at-there}
use Rattle.sl_tool.proofs.Kept.{kept-vector, kept-begin, kept-valid, kept-push, after_push}
use Rattle.sl_tool.proofs.Steps.{with_library, vector_in, located, vector_flow, push_flow, star_flow}
use Rattle.sl_tool.proofs.Exactly.{IsPlain, IsGone, stands_still, full-vector, full-begin, full-valid, full-push}
use Rattle.sl_model.proofs.Located.{locate-at, locate-dropped}
use Rattle.sl_model.proofs.Buried.{dropped-killer}

-- a statement goes on to a state of the plainest run with at least so many steps
abbrev pub GoesOn : Known → ℕ → Flow → Type 0
GoesOn k n (Next s) = IsPlain k n s
GoesOn k n flow = ⊥

-- a run ends in a trap that a warning tells of
abbrev pub IsTrap : List (List ℕ) → Warning → End → Type 0
IsTrap names w (Trapped t) = Tells names (warning_of names w) t
IsTrap names w end = ⊥

abbrev pub EndsTrapped : List (List ℕ) → Warning → Flow → Type 0
EndsTrapped names w (Over e s) = IsTrap names w e
EndsTrapped names w flow = ⊥

-- where nothing is warned of, the run may go on behind a statement, and does; else it ends in a trap that the first warning tells of
abbrev pub GoesOrTraps : List (List ℕ) → Known → ℕ → Bool → List Warning → Flow → Type 0
GoesOrTraps names k n may [] flow = (may ≡ true) × GoesOn k n flow
GoesOrTraps names k n may (w ∷ ws) flow = EndsTrapped names w flow

-- where a step is left, it is taken
pub steps-on : (P : Flow → Type 0) (go : Meaning) (n : ℕ) (s : State) → n + 1 ≤ s.steps
    → ((m : ℕ) → n ≤ m → P (go (record s { steps = m }))) → P (tick go s)
steps-on P go n s some next = by_steps s.steps some
  where
    by_steps : (m : ℕ) → n + 1 ≤ m → P (elim m as (λ _. Flow) [ zero ↦ Over OutOfSteps s | suc r ↦ go (record s { steps = r }) ])
    by_steps zero h = absurd (omega arith)
    by_steps (suc r) h = next r (omega arith)

-- none are left of none
none_left : (n : ℕ) (xs : List ℕ) → xs ≡ [] → drop n xs ≡ []
none_left zero xs e = e
none_left (suc n) [] e = refl
none_left (suc n) (x ∷ xs) e = absurd cc

pub plain-vector : (k : Known) (own : World) (place named : Place) (n : ℕ) (s : State) → IsPlain k (n + 1) s
    → GoesOn (with_vector k) n (exec (with_library own) (stmt_of (Vector place named)) s)
plain-vector k own place named n s p =
    steps-on (GoesOn (with_vector k) n) (declared (with_library own) (makes f.Vector (free_call (callees.Row vector_row) place []) none)) n s
    p.steps (λ m left.
    subst (λ (out : LibOut). GoesOn (with_vector k) n (vector_flow place (record s { steps = m }) out)) (sym (lib-vector s.memory s.picks))
    (record {
      described = kept-vector k s.memory s.frame s.iters (pick s.picks) p.described;
      full = full-vector k s.memory s.iters (pick s.picks) (ap pick p.picks) p.full;
      picks = none_left 1 s.picks p.picks;
      steps = left;
    }))

pub plain-begin : (k : Known) (own : World) (place named : Place) (v name n : ℕ) (s : State) → IsPlain k (n + 1) s → v < length k.filled
    → GoesOn (with_iterator k v) n (exec (with_library own) (stmt_of (Begin place v name named)) s)
plain-begin k own place named v name n s p lt =
    let h : Head = member_call begin_row place None v name in
    let d : Describes k s.memory s.frame s.iters = p.described in
    let c = vector_in k s.memory s.frame s.iters v d lt in
    let at : cont_of s v ≡ v = located s.frame.conts (length k.filled) v d.conts_frame lt in
    steps-on (GoesOn (with_iterator k v) n) (declared (with_library own) (set_iterator (call h none))) n s p.steps (λ m left.
    let now : State = record s { steps = m } in
    subst (λ (out : LibOut). GoesOn (with_iterator k v) n (flow_of (settle_call h [] out now) (on_stamp (λ stamp t. Next (new_iterator stamp t)))))
    (sym (ap (λ (j : ℕ). lib (callees.Row begin_row) (bare (Some j)) s.memory s.picks) at
    ∙ lib-begin s.memory v c.0 s.picks c.1 (d.forms v c.0 c.1)))
    (record {
      described = kept-begin k s.memory s.frame s.iters v c.0 d c.1;
      full = full-begin k s.memory s.iters v _ d.iterators p.full;
      picks = p.picks;
      steps = left;
    }))

-- what follows a `push_back` where there is room for one element more
push_plain : (k : Known) (h : Head) (vs : List Value) (n : ℕ) (s : State) (v : ℕ) (c : Cont) (z : ℤ) (site : ℕ) → IsPlain k n s
    → slice_get s.memory.conts v ≡ Some c → length k.pushes < ELEMENTS
    → GoesOn (with_push k v site) n (push_flow h vs s (pushed_back s.memory v c z s.picks site))
push_plain k h vs n s v c z site p at few = by_size (nat_lt ELEMENTS (size c + 1)) refl
  where
    by_size : (b : Bool) → nat_lt ELEMENTS (size c + 1) ≡ b
        → GoesOn (with_push k v site) n
        (push_flow h vs s (if b then thrown else gives nothing (after_push s.memory v c z s.picks site) (drop (picks_with c.form c 1) s.picks)))
    by_size true e = absurd (let old = p.full.few v c at in let more = ltb-true ELEMENTS (size c + 1) e in omega arith)
    by_size false e = record {
      described = kept-push k s.memory s.frame s.iters v c z s.picks site p.described at (ltb-false ELEMENTS (size c + 1) e);
      full = full-push k s.memory s.frame s.iters v c z s.picks site p.described at p.picks p.full;
      picks = none_left (picks_with c.form c 1) s.picks p.picks;
      steps = p.steps;
    }

pub plain-push : (k : Known) (own : World) (place : Place) (v name site z n : ℕ) (s : State) → IsPlain k (n + 1) s → v < length k.filled
    → length k.pushes < ELEMENTS
    → GoesOn (with_push k v site) n (exec (with_library own) (stmt_of (PushBack place v name site z)) s)
plain-push k own place v name site z n s p lt few =
    let h : Head = member_call push_back_row place (Some site) v name in
    let d : Describes k s.memory s.frame s.iters = p.described in
    let c = vector_in k s.memory s.frame s.iters v d lt in
    let at : cont_of s v ≡ v = located s.frame.conts (length k.filled) v d.conts_frame lt in
    steps-on (GoesOn (with_push k v site) n) (affect (with_library own) (evaluates (call h (with (literal t.Int (pos z)) none)))) n s p.steps (λ m left.
    let now : State = record s { steps = m } in
    subst (λ (out : LibOut). GoesOn (with_push k v site) n (push_flow h (number (pos z) ∷ []) now out))
    (sym (ap (λ (j : ℕ). lib (callees.Row push_back_row) (pushing site j (pos z)) s.memory s.picks) at
    ∙ lib-push_back s.memory v c.0 (pos z) s.picks site c.1 (d.forms v c.0 c.1)))
    (push_plain k h (number (pos z) ∷ []) n now v c.0 (converted t.Int (pos z)) site
    (record { described = d; full = p.full; picks = p.picks; steps = left }) c.1 few))

-- `*` of an iterator that was dropped
star_gone : (names : List (List ℕ)) (place : Place) (name stamp site x : ℕ) (xs killers : List ℕ) (s : State) → killers ≡ x ∷ xs
    → killer s.memory stamp ≡ Some site → Contains killers site
    → EndsTrapped names (record { place = place; name = name; fault = InvalidIterator (x ∷ xs) }) (star_flow place name stamp s (trapped 1 1))
star_gone names place name stamp site x xs killers s some e h = record {
  place = refl;
  kind = refl;
  call = refl;
  argument = refl;
  name = refl;
  killer = λ other q. let same : ◌≡◌ {A = Option ℕ} (Some site) (Some other) = sym e ∙ q in let is : site ≡ other = cc in
      subst (λ (l : List ℕ). Contains l other) some (subst (λ (y : ℕ). Contains killers y) is h);
}

-- `*` of an iterator that stands at the begin of its vector, which has elements or hasn't
star_here : (names : List (List ℕ)) (k : Known) (place : Place) (name it n : ℕ) (held_there : Pointer) (standing : Standing) (s : State) (filled : Bool)
    → IsPlain k n s → slice_get s.iters it ≡ Some held_there
    → Stays s.memory (mark_in held_there) (is_filled k standing.vector) (killers_of k standing) standing → standing.at_element ≡ filled
    → GoesOrTraps names (found_valid k it standing) n filled (told_at place name (fault_in [] filled))
    (star_flow place name (mark_in held_there) s (at_element standing.vector 0 (size (cont_at s.memory standing.vector)) s.memory s.picks))
star_here names k place name it n held_there standing s filled p at stays e =
    let c : Cont = stays.here.cont in
    subst (λ (d : Cont). GoesOrTraps names (found_valid k it standing) n filled (told_at place name (fault_in [] filled))
    (star_flow place name (mark_in held_there) s (at_element standing.vector 0 (size d) s.memory s.picks)))
    (sym (cont_at-there s.memory standing.vector c stays.here.there))
    (by_filled filled (sym e ∙ sym stays.same ∙ p.described.filled standing.vector c stays.here.there))
  where
    by_filled : (b : Bool) → b ≡ nat_lt 0 (size stays.here.cont)
        → GoesOrTraps names (found_valid k it standing) n b (told_at place name (fault_in [] b))
        (star_flow place name (mark_in held_there) s (at_element standing.vector 0 (size stays.here.cont) s.memory s.picks))
    by_filled true q = rw (ne_eqb 0 (size stays.here.cont) (λ none. let some = ltb-true 0 (size stays.here.cont) (sym q) in omega arith)) (
      refl,
      record {
        described = kept-valid k s.memory s.frame s.iters (s.frame.scalars ++ length s.scalars ∷ []) it held_there standing p.described at stays;
        full = full-valid k s.memory s.iters it standing p.full;
        picks = p.picks;
        steps = p.steps;
      },
    )
    by_filled false q = rw (eq-eqb 0 (size stays.here.cont) (let none = ltb-false 0 (size stays.here.cont) (sym q) in omega arith))
        (record { place = refl; kind = refl; call = refl; argument = refl; name = refl; killer = λ other r. absurd cc })

-- what the library gives at `*` of an iterator
abbrev star_out : ℕ → State → LibOut
star_out stamp s = lib (callees.Operator operators.Dereference) (starring stamp) s.memory s.picks

-- `*` of an iterator, by the calls that are behind its standing
star_plain : (names : List (List ℕ)) (k : Known) (place : Place) (name it n : ℕ) (held_there : Pointer) (standing : Standing) (s : State) (killers : List ℕ)
    → IsPlain k n s → slice_get s.iters it ≡ Some held_there → slice_get k.iterators it ≡ Some standing → killers_of k standing ≡ killers
    → GoesOrTraps names (found_valid k it standing) n standing.at_element (told_at place name (fault_in killers standing.at_element))
    (star_flow place name (mark_in held_there) s (star_out (mark_in held_there) s))
star_plain names k place name it n held_there standing s [] p at known no_killers =
    let stays : Stays s.memory (mark_in held_there) (is_filled k standing.vector) (killers_of k standing) standing = stands_still k s.memory s.frame s.iters it held_there
    standing p.described at known no_killers in
    subst (λ (out : LibOut). GoesOrTraps names (found_valid k it standing) n standing.at_element
    (told_at place name (fault_in [] standing.at_element)) (star_flow place name (mark_in held_there) s out))
    (sym (lib-star_valid s.memory (mark_in held_there) standing.vector 0 s.picks (locate-at s.memory standing.vector 0 (mark_in held_there) p.described.sound stays.here)))
    (star_here names k place name it n held_there standing s standing.at_element p at stays refl)
star_plain names k place name it n held_there standing s (x ∷ xs) p at known some =
    let gone : IsGone s.memory (mark_in held_there) k standing = p.full.gone it held_there standing at known x xs some in
    subst (λ (out : LibOut). EndsTrapped names (record { place = place; name = name; fault = InvalidIterator (x ∷ xs) })
    (star_flow place name (mark_in held_there) s out))
    (sym (lib-star_invalid s.memory (mark_in held_there) s.picks
    (locate-dropped s.memory (mark_in held_there) gone.0 p.described.sound (dropped-killer s.memory (mark_in held_there) gone.0 gone.1))))
    (star_gone names place name (mark_in held_there) gone.0 x xs (killers_of k standing) s some gone.1 gone.2)

pub plain-star : (names : List (List ℕ)) (k : Known) (own : World) (place named : Place) (it name n : ℕ) (s : State) → IsPlain k (n + 1) s
    → it < length k.iterators
    → GoesOrTraps names (found_valid k it (standing_at k it)) n (standing_at k it).at_element (dereferenced k place name (standing_at k it))
    (exec (with_library own) (stmt_of (Dereference place it name named)) s)
plain-star names k own place named it name n s p lt =
    let d : Describes k s.memory s.frame s.iters = p.described in
    let standing : Standing = standing_at k it in
    let known = there k.iterators it lt in
    let pointer = there s.iters it (let e = d.iterators in omega arith) in
    let at : iter_of s it ≡ it = located s.frame.iters (length k.iterators) it d.iters_frame lt in
    let same : stamp_of s it ≡ mark_in pointer.0 = ap (λ l. mark_in (get_or s.iters l (iterator_at 0))) at
    ∙ ap mark_in (get_or-there s.iters it pointer.0 (iterator_at 0) pointer.1) in
    let is : standing ≡ known.0 = get_or-there k.iterators it known.0 (record { vector = 0; at_element = true; since = 0 }) known.1 in
    steps-on (GoesOrTraps names (found_valid k it standing) n standing.at_element (dereferenced k place name standing))
    (declared (with_library own)
    (set_scalar t.Int (held (element (free_call (callees.Operator operators.Dereference) place (None ∷ Some name ∷ []))
    (with (iterator_operand it) none))))) n s
    p.steps (λ m left.
    let now : State = record s { steps = m } in
    subst (λ (x : ℕ). GoesOrTraps names (found_valid k it standing) n standing.at_element (dereferenced k place name standing)
    (star_flow place name x now (star_out x now)))
    (sym same)
    (star_plain names k place name it n pointer.0 standing now (killers_of k standing)
    (record { described = d; full = p.full; picks = p.picks; steps = left }) pointer.1 (rw is known.1) refl))
