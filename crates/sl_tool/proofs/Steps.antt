-- What each statement of a text of the subset does to a state that is described.
use Rattle.std.proofs.Common.{arith, ◌≡◌, ℕ, ◌+◌, ◌<◌, Bool, true, false, List, [], ◌∷◌, ◌++◌, length, get_or, drop, Option, Some, None, ⊎_elim, refl}
use Rattle.std.proofs.Common.{ap, sym, subst, ◌∙◌, if◌then◌else◌}
use Rattle.std.specs.Prelude.{slice_get, nat_lt, ◌==◌, Contains, ℤ, pos, codes}
use Rattle.std.proofs.lemmas.Bool.{ltb-false, le-ltb, lt-ltb, eqb-true, eqb-false}
use Rattle.sl_base.specs.declared.form.Form.TheVariants as f
use Rattle.sl_base.specs.declared.scalar.Scalar.TheVariants as t
use Rattle.sl_base.specs.declared.place.Place.{Place}
use Rattle.sl_base.specs.declared.limits.TheConstants.{ELEMENTS}
use Rattle.sl_syntax.specs.declared.subset.Stmt.TheVariants.{Vector, PushBack, Begin, Dereference}
use Rattle.sl_syntax.specs.declared.typed.callee.Callee.TheVariants as callees
use Rattle.sl_syntax.specs.declared.typed.head.Head.{Head}
use Rattle.sl_syntax.specs.declared.typed.operator.Operator.TheVariants as operators
use Rattle.sl_syntax.specs.Typed.{makes, none, with, literal, iterator as iterator_operand, held, element, call, evaluates, set_iterator, set_scalar}
use Rattle.sl_syntax.specs.SubsetView.{stmt_of, free_call, member_call, vector_row, begin_row, push_back_row}
use Rattle.sl_model.specs.Memory.Containers.{Memory, Cont, size, cont_at, killer, key_part}
use Rattle.sl_model.specs.Numbers.{converted}
use Rattle.sl_model.specs.Memory.Schedule.{pick}
use Rattle.sl_model.specs.Memory.Edits.{numbers}
use Rattle.sl_model.specs.LibraryCalls.Values.{Value, number, iterator, nothing, element_at, LibOut, thrown, trapped, gives}
use Rattle.sl_model.specs.Runs.Good.{IsAt}
use Rattle.sl_model.specs.Runs.Ends.{Trap}
use Rattle.sl_model.specs.Runs.State.{Pointer, iterator_at, mark_in, State, Frame, cont_of, iter_of, stamp_of, new_scalar, new_iterator, new_container}
use Rattle.sl_model.specs.Runs.Eval.{World, then_eval, settle_call, read_at}
use Rattle.sl_model.specs.Runs.Exec.{Flow, Next, exec, flow_of, on_number, on_stamp, declared, affect}
use Rattle.sl_model.specs.LibraryCalls.Effects.{picks_with}
use Rattle.sl_model.specs.LibraryCalls.Library.{lib}
use Rattle.sl_model.specs.Reports.Covers.{Covers}
use Rattle.sl_tool.specs.declared.analysis.Standing.{Standing}
use Rattle.sl_tool.specs.Means.Analysis.{Known, killers_of, standing_at, is_filled, with_vector, with_push, with_iterator, found_valid, dereferenced}
use Rattle.sl_tool.specs.Means.Analysis.{fault_in, told_at}
use Rattle.sl_tool.specs.Means.Told.{report_of}
use Rattle.sl_tool.proofs.Describes.{Describes, Stays}
use Rattle.sl_tool.proofs.Goes.{Goes, ticked}
use Rattle.sl_tool.proofs.Lists.{there, get_or-there, number-at}
use Rattle.sl_tool.proofs.Calls.{lib-vector, lib-begin, lib-push_back, bare, pushing, pushed_back, lib-star_valid, lib-star_invalid}
use Rattle.sl_tool.proofs.Calls.{starring, at_element, cont_at-there}
use Rattle.sl_tool.proofs.Kept.{kept-vector, kept-begin, kept-valid, kept-push, after_push}
use Rattle.sl_model.proofs.Located.{locate-at, locate-dropped}
use Rattle.sl_model.proofs.Buried.{dropped-killer}

-- the world of a text: the library, and whatever its own functions do
abbrev pub with_library : World → World
with_library own = record own { lib = lib }

-- what follows the making of a vector
abbrev pub vector_flow : Place → State → LibOut → Flow
vector_flow place s out = flow_of (settle_call (free_call (callees.Row vector_row) place []) [] out s)
    (λ v t. Next (new_container (length s.memory.conts) t))

pub goes-vector : (names : List (List ℕ)) (k : Known) (own : World) (place named : Place) (s : State) → Describes k s.memory s.frame s.iters
    → Goes names (with_vector k) true [] (exec (with_library own) (stmt_of (Vector place named)) s)
goes-vector names k own place named s d = ticked names (with_vector k) true []
    (declared (with_library own) (makes f.Vector (free_call (callees.Row vector_row) place []) none)) s (λ n.
    subst (λ (out : LibOut). Goes names (with_vector k) true [] (vector_flow place (record s { steps = n }) out))
    (sym (lib-vector s.memory s.picks)) (refl, kept-vector k s.memory s.frame s.iters (pick s.picks) d))

-- a vector that is in scope is there, at the location of its number
pub vector_in : (k : Known) (m : Memory) (frame : Frame) (iters : List Pointer) (v : ℕ) → Describes k m frame iters → v < length k.filled → (c : Cont)
    × (slice_get m.conts v ≡ Some c)
vector_in k m frame iters v d h = there m.conts v (let e = d.vectors in omega arith)

pub located : (at : List ℕ) (n v : ℕ) → at ≡ numbers 0 n → v < n → get_or at v 0 ≡ v
located at n v e h = ap (λ l. get_or l v 0) e ∙ number-at n v h

-- what follows a `push_back`
abbrev pub push_flow : Head → List Value → State → LibOut → Flow
push_flow h vs s out = flow_of (settle_call h vs out s) (λ v. Next)

push_case : (names : List (List ℕ)) (k : Known) (h : Head) (vs : List Value) (s : State) (v : ℕ) (c : Cont) (z : ℤ) (site : ℕ)
    → Describes k s.memory s.frame s.iters → slice_get s.memory.conts v ≡ Some c
    → Goes names (with_push k v site) true [] (push_flow h vs s (pushed_back s.memory v c z s.picks site))
push_case names k h vs s v c z site d at = by_size (nat_lt ELEMENTS (size c + 1)) refl
  where
    by_size : (b : Bool) → nat_lt ELEMENTS (size c + 1) ≡ b → Goes names (with_push k v site) true []
        (push_flow h vs s (if b then thrown else gives nothing (after_push s.memory v c z s.picks site) (drop (picks_with c.form c 1) s.picks)))
    by_size true e = tt
    by_size false e = (refl, kept-push k s.memory s.frame s.iters v c z s.picks site d at (ltb-false ELEMENTS (size c + 1) e))

pub goes-push_back : (names : List (List ℕ)) (k : Known) (own : World) (place : Place) (v name site z : ℕ) (s : State)
    → Describes k s.memory s.frame s.iters → v < length k.filled
    → Goes names (with_push k v site) true [] (exec (with_library own) (stmt_of (PushBack place v name site z)) s)
goes-push_back names k own place v name site z s d lt =
    let h : Head = member_call push_back_row place (Some site) v name in
    let c = vector_in k s.memory s.frame s.iters v d lt in
    let at : cont_of s v ≡ v = located s.frame.conts (length k.filled) v d.conts_frame lt in
    ticked names (with_push k v site) true [] (affect (with_library own) (evaluates (call h (with (literal t.Int (pos z)) none)))) s (λ n.
    let now : State = record s { steps = n } in
    subst (λ (out : LibOut). Goes names (with_push k v site) true [] (push_flow h (number (pos z) ∷ []) now out))
    (sym (ap (λ (j : ℕ). lib (callees.Row push_back_row) (pushing site j (pos z)) s.memory s.picks) at
    ∙ lib-push_back s.memory v c.0 (pos z) s.picks site c.1 (d.forms v c.0 c.1)))
    (push_case names k h (number (pos z) ∷ []) now v c.0 (converted t.Int (pos z)) site d c.1))

pub goes-begin : (names : List (List ℕ)) (k : Known) (own : World) (place named : Place) (v name : ℕ) (s : State)
    → Describes k s.memory s.frame s.iters → v < length k.filled
    → Goes names (with_iterator k v) true [] (exec (with_library own) (stmt_of (Begin place v name named)) s)
goes-begin names k own place named v name s d lt =
    let h : Head = member_call begin_row place None v name in
    let c = vector_in k s.memory s.frame s.iters v d lt in
    let at : cont_of s v ≡ v = located s.frame.conts (length k.filled) v d.conts_frame lt in
    ticked names (with_iterator k v) true [] (declared (with_library own) (set_iterator (call h none))) s (λ n.
    let now : State = record s { steps = n } in
    subst (λ (out : LibOut). Goes names (with_iterator k v) true []
    (flow_of (settle_call h [] out now) (on_stamp (λ stamp t. Next (new_iterator stamp t)))))
    (sym (ap (λ (j : ℕ). lib (callees.Row begin_row) (bare (Some j)) s.memory s.picks) at
    ∙ lib-begin s.memory v c.0 s.picks c.1 (d.forms v c.0 c.1)))
    (refl, kept-begin k s.memory s.frame s.iters v c.0 d c.1))

-- what follows a `*`
abbrev pub star_flow : Place → ℕ → ℕ → State → LibOut → Flow
star_flow place name stamp s out =
    flow_of (then_eval (settle_call (free_call (callees.Operator operators.Dereference) place (None ∷ Some name ∷ [])) (iterator stamp ∷ []) out s)
    (read_at place))
    (on_number (λ z now. Next (new_scalar t.Int (Some z) now)))

-- a trap at a `*`
abbrev pub star_trap : Place → ℕ → ℕ → Option ℕ → Trap
star_trap place name kind killer = record { place = place; kind = kind; call = codes "*"; argument = 1; name = Some name; killer = killer }

-- an iterator that is invalid is told, where its killer is known
told_invalid : (names : List (List ℕ)) (place : Place) (name : ℕ) (killers : List ℕ) (had : Bool) (site : ℕ) → Contains killers site
    → Covers names (report_of names (told_at place name (fault_in killers had))) (star_trap place name 1 (Some site))
told_invalid names place name [] had site h = absurd (let lt = h.1 in omega arith)
told_invalid names place name (x ∷ xs) had site h = record {
  index = 0;
  warning = record { place = place; kind = 1; call = codes "*"; argument = 1; name = slice_get names name; killers = x ∷ xs };
  there = refl;
  tells = record {
    place = refl;
    kind = refl;
    call = refl;
    argument = refl;
    name = refl;
    killer = λ other e. let q : site ≡ other =
        cc in rw (sym q) h;
  };
}

-- an iterator at the end is told
told_end : (names : List (List ℕ)) (place : Place) (name : ℕ) (killers : List ℕ) (had : Bool) → killers ≡ [] → had ≡ false
    → Covers names (report_of names (told_at place name (fault_in killers had))) (star_trap place name 4 None)
told_end names place name killers had empty e = rw (empty, e) (record {
  index = 0;
  warning = record { place = place; kind = 4; call = codes "*"; argument = 1; name = slice_get names name; killers = [] };
  there = refl;
  tells = record { place = refl; kind = refl; call = refl; argument = refl; name = refl; killer = λ other q. absurd cc };
})

-- `*` of an iterator that stands at the begin of its vector
star_valid : (names : List (List ℕ)) (k : Known) (place : Place) (name it : ℕ) (held_there : Pointer) (standing : Standing) (s : State)
    → Describes k s.memory s.frame s.iters → slice_get s.iters it ≡ Some held_there
    → Stays s.memory (mark_in held_there) (is_filled k standing.vector) (killers_of k standing) standing
    → Goes names (found_valid k it standing) standing.at_element (dereferenced k place name standing)
    (star_flow place name (mark_in held_there) s (at_element standing.vector 0 (size (cont_at s.memory standing.vector)) s.memory s.picks))
star_valid names k place name it held_there standing s d at stays = by_size (0 == size (cont_at s.memory standing.vector)) refl
  where
    here : IsAt s.memory standing.vector 0 (mark_in held_there)
    here = stays.here

    element : standing.at_element ≡ nat_lt 0 (size (cont_at s.memory standing.vector))
    element = sym stays.same ∙ d.filled standing.vector here.cont here.there ∙ ap (λ (c : Cont). nat_lt 0 (size c))
        (sym (cont_at-there s.memory standing.vector here.cont here.there))

    empty : (0 == size (cont_at s.memory standing.vector)) ≡ true → nat_lt 0 (size (cont_at s.memory standing.vector)) ≡ false
    empty e = le-ltb 0 (size (cont_at s.memory standing.vector)) (let q = eqb-true 0 (size (cont_at s.memory standing.vector)) e in omega arith)

    some : (0 == size (cont_at s.memory standing.vector)) ≡ false → nat_lt 0 (size (cont_at s.memory standing.vector)) ≡ true
    some e = lt-ltb 0 (size (cont_at s.memory standing.vector)) (let q = eqb-false 0 (size (cont_at s.memory standing.vector)) e in omega arith)

    by_size : (b : Bool) → (0 == size (cont_at s.memory standing.vector)) ≡ b
        → Goes names (found_valid k it standing) standing.at_element (dereferenced k place name standing)
        (star_flow place name (mark_in held_there) s (if b then trapped 4 1 else gives (element_at standing.vector 0 key_part) s.memory s.picks))
    by_size true e = told_end names place name (killers_of k standing) standing.at_element (stays.still (element ∙ empty e)) (element ∙ empty e)
    by_size false e = (
      element ∙ some e,
      kept-valid k s.memory s.frame s.iters (s.frame.scalars ++ length s.scalars ∷ []) it held_there
          standing d at stays,
    )

-- `*` of an iterator that was dropped
star_invalid : (names : List (List ℕ)) (k : Known) (place : Place) (name it stamp site : ℕ) (standing : Standing) (s : State)
    → killer s.memory stamp ≡ Some site → Contains (killers_of k standing) site
    → Goes names (found_valid k it standing) standing.at_element (dereferenced k place name standing) (star_flow place name stamp s (trapped 1 1))
star_invalid names k place name it stamp site standing s e h = rw e (told_invalid names place name (killers_of k standing) standing.at_element site h)

pub goes-star : (names : List (List ℕ)) (k : Known) (own : World) (place named : Place) (it name : ℕ) (s : State)
    → Describes k s.memory s.frame s.iters → it < length k.iterators
    → Goes names (found_valid k it (standing_at k it)) (standing_at k it).at_element (dereferenced k place name (standing_at k it))
    (exec (with_library own) (stmt_of (Dereference place it name named)) s)
goes-star names k own place named it name s d lt =
    let standing : Standing = standing_at k it in
    let known = there k.iterators it lt in
    let pointer = there s.iters it (let e = d.iterators in omega arith) in
    let stamp : ℕ = mark_in pointer.0 in
    let at : iter_of s it ≡ it = located s.frame.iters (length k.iterators) it d.iters_frame lt in
    let same : stamp_of s it ≡ stamp = ap (λ l. mark_in (get_or s.iters l (iterator_at 0))) at
    ∙ ap mark_in (get_or-there s.iters it pointer.0 (iterator_at 0) pointer.1) in
    let is : standing ≡ known.0 = get_or-there k.iterators it known.0 (record { vector = 0; at_element = true; since = 0 }) known.1 in
    ticked names (found_valid k it standing) standing.at_element (dereferenced k place name standing)
    (declared (with_library own)
    (set_scalar t.Int (held (element (free_call (callees.Operator operators.Dereference) place (None ∷ Some name ∷ []))
    (with (iterator_operand it) none))))) s (λ n.
    let now : State = record s { steps = n } in
    subst (λ (x : ℕ). Goes names (found_valid k it standing) standing.at_element (dereferenced k place name standing)
    (star_flow place name x now
    (lib (callees.Operator operators.Dereference) (starring x) s.memory s.picks)))
    (sym same)
    (⊎_elim
    (λ (stays : Stays s.memory stamp (is_filled k standing.vector) (killers_of k standing) standing).
    subst (λ (out : LibOut). Goes names (found_valid k it standing) standing.at_element (dereferenced k place name standing)
    (star_flow place name stamp now out))
    (sym (lib-star_valid s.memory stamp standing.vector 0 s.picks (locate-at s.memory standing.vector 0 stamp d.sound stays.here)))
    (star_valid names k place name it pointer.0 standing now d pointer.1 stays))
    (λ (dead : (site : ℕ) × (killer s.memory stamp ≡ Some site) × Contains (killers_of k standing) site).
    subst (λ (out : LibOut). Goes names (found_valid k it standing) standing.at_element (dereferenced k place name standing)
    (star_flow place name stamp now out))
    (sym (lib-star_invalid s.memory stamp s.picks (locate-dropped s.memory stamp dead.0 d.sound (dropped-killer s.memory stamp dead.0 dead.1))))
    (star_invalid names k place name it stamp dead.0 standing now dead.1 dead.2))
    (rw is (d.stands it pointer.0 known.0 pointer.1 known.1))))
