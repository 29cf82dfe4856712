-- What is known says of a state of the plainest run where each iterator stands. There no vector has room beyond its elements, so that
-- each `push_back` invalidates all iterators of its vector.
use Rattle.std.proofs.Common.{arith, ◌≡◌, ℕ, ◌+◌, ◌-◌, ◌≤◌, true, List, [], ◌∷◌, ◌++◌, length, Some, inl, inr, ⊎_elim, ap, sym, ◌∙◌}
use Rattle.std.specs.Prelude.{slice_get, nat_lt, Contains, ℤ}
use Rattle.std.proofs.lemmas.Option.{slice_get_within}
use Rattle.std.proofs.lemmas.Bool.{cases_eq, lt-ltb, cond-true}
use Rattle.sl_base.specs.declared.form.Form.{Form}
use Rattle.sl_base.specs.declared.form.Form.TheVariants as f
use Rattle.sl_model.specs.Memory.Containers.{Memory, Cont, size, made, killer}
use Rattle.sl_specs.specs.declared.class.Class.TheVariants.{VectorInsert}
use Rattle.sl_model.specs.Memory.Classes.{kills}
use Rattle.sl_model.specs.Memory.Edits.{change_of, changed}
use Rattle.sl_model.specs.LibraryCalls.Effects.{room_with}
use Rattle.sl_model.specs.Memory.Schedule.{pick}
use Rattle.sl_model.specs.Runs.Good.{IsAt, IsSound}
use Rattle.sl_model.specs.Runs.State.{Pointer, iterator_at, mark_in, State, Frame}
use Rattle.sl_tool.specs.declared.analysis.Standing.{Standing}
use Rattle.sl_tool.specs.Means.Analysis.{Known, is_filled, killers_of, with_vector, with_push, with_iterator, found_valid}
use Rattle.sl_tool.proofs.Describes.{Describes, Stays}
use Rattle.sl_tool.proofs.Killers.{killers_of-more, killers_of-last}
use Rattle.sl_tool.proofs.NoKillers.{killers_of-new, killers_of-other, none_among}
use Rattle.sl_tool.proofs.Lists.{pushed, written}
use Rattle.sl_tool.proofs.Kept.{length-more, valid, push_edit, after_push}
use Rattle.sl_model.proofs.AfterEdit.{after-killed, after-dead, size-after}

-- one of the calls since an iterator was made dropped it
abbrev pub IsGone : Memory → ℕ → Known → Standing → Type 0
IsGone m stamp k standing = (site : ℕ) × (killer m stamp ≡ Some site) × Contains (killers_of k standing) site

-- each vector is full and has no more elements than there were calls, and an iterator behind whose standing a call is was dropped
pub record IsFull (k : Known) (m : Memory) (iters : List Pointer) : Type 0 where
  pub full : (j : ℕ) (c : Cont) → slice_get m.conts j ≡ Some c → c.room ≡ size c
  pub few : (j : ℕ) (c : Cont) → slice_get m.conts j ≡ Some c → size c ≤ length k.pushes
  pub gone : (i : ℕ) (held : Pointer) (standing : Standing) → slice_get iters i ≡ Some held → slice_get k.iterators i ≡ Some standing
      → (x : ℕ) (xs : List ℕ) → killers_of k standing ≡ x ∷ xs → IsGone m (mark_in held) k standing

-- a state of the plainest run: what is known describes it, no pick is left, and n steps at least
pub record IsPlain (k : Known) (n : ℕ) (s : State) : Type 0 where
  pub described : Describes k s.memory s.frame s.iters
  pub full : IsFull k s.memory s.iters
  pub picks : s.picks ≡ []
  pub steps : n ≤ s.steps

-- an iterator behind whose standing no call is stands at the begin of its vector
pub stands_still : (k : Known) (m : Memory) (frame : Frame) (iters : List Pointer) (i : ℕ) (held : Pointer) (standing : Standing)
    → Describes k m frame iters → slice_get iters i ≡ Some held → slice_get k.iterators i ≡ Some standing → killers_of k standing ≡ []
    → Stays m (mark_in held) (is_filled k standing.vector) (killers_of k standing) standing
stands_still k m frame iters i held standing d at known none = elim (d.stands i held standing at known) [
  | inl stays ↦ stays
  | inr dead ↦ absurd (none_among (killers_of k standing) dead.0 none dead.2)
]

-- A new vector.
pub full-vector : (k : Known) (m : Memory) (iters : List Pointer) (room : ℕ) → room ≡ 0 → IsFull k m iters
    → IsFull (with_vector k) (made f.Vector room [] m) iters
full-vector k m iters room none d =
    let new : Cont = record { form = f.Vector; cells = []; end = m.fresh; room = room } in
    record {
      full = λ j c h. elim (pushed m.conts new c j h) [ inl old ↦ d.full j c old | inr last ↦ rw (last.1) none ];
      few = λ j c h. elim (pushed m.conts new c j h) [ inl old ↦ d.few j c old | inr last ↦ rw (last.1) (omega arith) ];
      gone = d.gone;
    }

-- A new iterator.
pub full-begin : (k : Known) (m : Memory) (iters : List Pointer) (v stamp : ℕ) → length iters ≡ length k.iterators → IsFull k m iters
    → IsFull (with_iterator k v) m (iters ++ iterator_at stamp ∷ [])
full-begin k m iters v stamp same d =
    let new : Standing = record { vector = v; at_element = is_filled k v; since = length k.pushes } in
    record {
      full = d.full;
      few = d.few;
      gone = λ i old standing at known x xs some. elim (pushed k.iterators new standing i known) [
        | inl before ↦ elim (pushed iters (iterator_at stamp) old i at) [
          | inl there ↦ d.gone i old standing there before x xs some
          | inr last ↦ absurd (let lt = slice_get_within k.iterators i standing before in let q = last.0 in omega arith)
        ]
        | inr last ↦ absurd (let e : killers_of k standing ≡ [] = rw last.1 (killers_of-new k v (is_filled k v)) in cc)
      ];
    }

-- An iterator that was found valid.
pub full-valid : (k : Known) (m : Memory) (iters : List Pointer) (it : ℕ) (standing : Standing) → IsFull k m iters
    → IsFull (found_valid k it standing) m iters
full-valid k m iters it standing d =
    let new : Standing = valid k standing in
    record {
      full = d.full;
      few = d.few;
      gone = λ i stamp known_at at known x xs some. elim (written k.iterators it new known_at i known) [
        | inl same ↦ absurd (let e : killers_of k known_at ≡ [] = rw same.1 (killers_of-new k standing.vector standing.at_element) in cc)
        | inr old ↦ d.gone i stamp known_at at old.1 x xs some
      ];
    }

-- a vector without room beyond its elements grows, and all its iterators are invalidated
full_kills : (c : Cont) (z : ℤ) (picks : List ℕ) → c.room ≡ size c → kills VectorInsert (size c) c.room (push_edit c z picks) 0 ≡ true
full_kills c z picks full = cond-true (nat_lt c.room (size c + 1)) true _ (lt-ltb c.room (size c + 1) (omega arith))

-- the room that a full vector has after that
full_room : (c : Cont) (z : ℤ) (picks : List ℕ) → c.form ≡ f.Vector → c.room ≡ size c → picks ≡ [] → (push_edit c z picks).room ≡ size c + 1
full_room c z picks form full none =
    ap (λ (g : Form). room_with g c 1 picks) form
    ∙ cond-true (nat_lt c.room (size c + 1)) (size c + 1 + pick picks) c.room (lt-ltb c.room (size c + 1) (omega arith))
    ∙ ap (λ (ps : List ℕ). size c + 1 + pick ps) none
    ∙ (let e : size c + 1 + 0 ≡ size c + 1 = omega arith in e)

-- An iterator behind a `push_back` of its vector.
gone-own : (k : Known) (m : Memory) (v : ℕ) (c : Cont) (z : ℤ) (picks : List ℕ) (site stamp : ℕ) (standing : Standing) → IsSound m
    → slice_get m.conts v ≡ Some c → c.room ≡ size c → v ≡ standing.vector → standing.since ≤ length k.pushes → IsAt m standing.vector 0 stamp
    → IsGone (after_push m v c z picks site) stamp (with_push k v site) standing
gone-own k m v c z picks site stamp standing sound there full same since here =
    let at : IsAt m v 0 stamp = rw same here in (
      site,
      after-killed VectorInsert m v 0 stamp c (push_edit c z picks) site sound there at (full_kills c z picks full),
      rw same (killers_of-last k standing site since),
    )

-- An iterator that was dropped before a `push_back`.
gone-still : (k : Known) (m : Memory) (v : ℕ) (c : Cont) (z : ℤ) (picks : List ℕ) (site stamp : ℕ) (standing : Standing) → IsSound m
    → slice_get m.conts v ≡ Some c → standing.since ≤ length k.pushes → IsGone m stamp k standing
    → IsGone (after_push m v c z picks site) stamp (with_push k v site) standing
gone-still k m v c z picks site stamp standing sound there since dead = (
  dead.0,
  after-dead VectorInsert m v stamp dead.0 c (push_edit c z picks) site sound there dead.1,
  killers_of-more k standing v site
      dead.0 since dead.2,
)

-- A `push_back`.
pub full-push : (k : Known) (m : Memory) (frame : Frame) (iters : List Pointer) (v : ℕ) (c : Cont) (z : ℤ) (picks : List ℕ) (site : ℕ)
    → Describes k m frame iters → slice_get m.conts v ≡ Some c → picks ≡ [] → IsFull k m iters
    → IsFull (with_push k v site) (after_push m v c z picks site) iters
full-push k m frame iters v c z picks site d there none h =
    let new : Cont = changed m.fresh (change_of VectorInsert c (push_edit c z picks)) c in
    let sized : size new ≡ size c + 1 = size-after VectorInsert m c (push_edit c z picks) (omega arith)
    ∙ (let e : size c + 1 - 0 ≡ size c + 1 = omega arith in e) in
    let more : length (k.pushes ++ record { vector = v; site = site } ∷ []) ≡ length k.pushes + 1 =
    length-more k.pushes (record { vector = v; site = site }) in
    record {
      full = λ j x at. elim (written m.conts v new x j at) [
        | inl same ↦ rw same.1 (full_room c z picks (d.forms v c there) (h.full v c there) none ∙ sym sized)
        | inr old ↦ h.full j x old.1
      ];
      few = λ j x at. elim (written m.conts v new x j at) [
        | inl same ↦ rw same.1 (let old = h.few v c there in omega arith)
        | inr old ↦ let before = h.few j x old.1 in omega arith
      ];
      gone = λ i held standing at known x xs some. elim (d.stands i held standing at known) [
        | inl stays ↦ ⊎_elim (λ (same : v ≡ standing.vector). gone-own k m v c z picks site (mark_in held) standing d.sound there (h.full v c there) same
            (d.since i standing known) stays.here)
            (λ (other : v ≡ standing.vector → ⊥).
            gone-still k m v c z picks site (mark_in held) standing d.sound there (d.since i standing known)
            (h.gone i held standing at known x xs (sym (killers_of-other k standing v site other (d.since i standing known)) ∙ some)))
            (cases_eq v standing.vector)
        | inr dead ↦ gone-still k m v c z picks site (mark_in held) standing d.sound there (d.since i standing known) dead
      ];
    }
