-- What is known behind a statement describes the state behind it.
use Rattle.std.proofs.Common.{arith, ◌≡◌, ℕ, ◌+◌, ◌<◌, ◌≤◌, Bool, true, false, List, [], ◌∷◌, ◌++◌, length, Some, inl, inr, ⊎_elim, refl, ap, sym}
use Rattle.std.proofs.Common.{◌∙◌, length-append}
use Rattle.std.specs.Prelude.{slice_get, slice_index_or, nat_lt, ℤ, pos}
use Rattle.std.proofs.lemmas.List.{get_or_append_left}
use Rattle.std.proofs.Math.Seq.{get_or-append_seam}
use Rattle.std.proofs.Math.ListN.{length-set}
use Rattle.std.proofs.lemmas.List.{get_or-set_same, get_or-set_other}
use Rattle.std.proofs.lemmas.Option.{slice_get_within}
use Rattle.std.proofs.lemmas.Bool.{cases_eq, lt-ltb, cond-true}
use Rattle.std.proofs.lemmas.Bool.Decides.{nat_tests}
use Rattle.sl_base.specs.declared.form.Form.TheVariants as f
use Rattle.sl_base.specs.declared.limits.TheConstants.{ELEMENTS}
use Rattle.sl_model.specs.Memory.Containers.{Memory, Cont, size, stamps, made, begin_of}
use Rattle.sl_specs.specs.declared.class.Class.TheVariants.{VectorInsert}
use Rattle.sl_model.specs.Memory.Classes.{Edit, kills, vector_insert_kills}
use Rattle.sl_model.specs.Memory.Edits.{numbers, change_of, after, changed, shifted}
use Rattle.sl_model.specs.Runs.Good.{IsAt, IsSound}
use Rattle.sl_model.specs.Runs.State.{Pointer, iterator_at, mark_in, Frame}
use Rattle.sl_model.specs.LibraryCalls.Effects.{insertion}
use Rattle.sl_tool.specs.declared.analysis.Standing.{Standing}
use Rattle.sl_tool.specs.Means.Analysis.{Known, is_filled, killers_of, with_vector, with_push, with_iterator, found_valid}
use Rattle.sl_tool.proofs.Describes.{Describes, IsHere, Stays}
use Rattle.sl_tool.proofs.Killers.{killers_of-more, killers_of-last}
use Rattle.sl_tool.proofs.NoKillers.{killers_of-new, killers_of-other}
use Rattle.sl_tool.proofs.Lists.{pushed, written, there, numbers-more}
use Rattle.sl_tool.proofs.Calls.{cont_at-there}
use Rattle.sl_model.proofs.Making.{made-sound, made-at}
use Rattle.sl_model.proofs.AfterEdit.{after-sound, after-at-other, after-at-own, after-killed, after-dead, size-after}

pub length-more : {A : Type 0} (xs : List A) (x : A) → length (xs ++ x ∷ []) ≡ length xs + 1
length-more xs x = length-append xs (x ∷ [])

-- the frame of one variable more
frame-more : {A : Type 0} (xs : List A) (x : A) (at : List ℕ) (n : ℕ) → at ≡ numbers 0 (length xs) → n ≡ length xs → at ++ n
    ∷ [] ≡ numbers 0 (length (xs ++ x ∷ []))
frame-more xs x at n e q = rw (e, q, length-more xs x) (numbers-more (length xs))

-- A new vector.
pub kept-vector : (k : Known) (m : Memory) (frame : Frame) (iters : List Pointer) (room : ℕ) → Describes k m frame iters
    → Describes (with_vector k) (made f.Vector room [] m) (record frame { conts = frame.conts ++ length m.conts ∷ [] }) iters
kept-vector k m frame iters room d =
    let new : Cont = record { form = f.Vector; cells = []; end = m.fresh; room = room } in
    record {
      sound = made-sound f.Vector room [] m d.sound (omega arith);
      vectors = length-more m.conts new ∙ ap (λ n. n + 1) d.vectors ∙ sym (length-more k.filled false);
      iterators = d.iterators;
      conts_frame = frame-more k.filled false frame.conts (length m.conts) d.conts_frame d.vectors;
      iters_frame = d.iters_frame;
      forms = λ j c h. elim (pushed m.conts new c j h) [ inl old ↦ d.forms j c old | inr last ↦ ap (λ (x : Cont). x.form) last.1 ];
      filled = λ j c h. elim (pushed m.conts new c j h) [
        | inl old ↦ get_or_append_left k.filled (false ∷ []) false j (let lt = slice_get_within m.conts j c old in let e = d.vectors in omega arith)
            ∙ d.filled j c old
        | inr last ↦ rw (last.0 ∙ d.vectors, last.1) (get_or-append_seam k.filled false [] false)
      ];
      stands = λ i held standing at known. elim (d.stands i held standing at known) [
        | inl stays ↦ inl (record {
          here = made-at f.Vector room [] m standing.vector 0 (mark_in held) stays.here;
          same = get_or_append_left k.filled (false ∷ []) false standing.vector
              (let lt = slice_get_within m.conts standing.vector stays.here.cont stays.here.there in let e = d.vectors in omega arith) ∙ stays.same;
          still = stays.still;
        })
        | inr dead ↦ inr dead
      ];
      since = d.since;
    }

-- the first place of a vector that is there
pub begin_at : (m : Memory) (j : ℕ) (c : Cont) → slice_get m.conts j ≡ Some c → IsAt m j 0 (begin_of m j)
begin_at m j c h = record {
  cont = c;
  there = h;
  stands = first c.cells ∙ ap (λ (x : Cont). Some (slice_index_or (stamps x) 0 m.fresh))
      (sym (cont_at-there m j c h));
}
  where
    first : (cells : _) → slice_get (stamps (record c { cells = cells })) 0 ≡ Some (slice_index_or (stamps (record c { cells = cells })) 0 m.fresh)
    first [] = refl
    first (x ∷ xs) = refl

-- A new iterator.
pub kept-begin : (k : Known) (m : Memory) (frame : Frame) (iters : List Pointer) (v : ℕ) (c : Cont) → Describes k m frame iters
    → slice_get m.conts v ≡ Some c
    → Describes (with_iterator k v) m (record frame { iters = frame.iters ++ length iters ∷ [] }) (iters ++ iterator_at (begin_of m v) ∷ [])
kept-begin k m frame iters v c d there =
    let new : Standing = record { vector = v; at_element = is_filled k v; since = length k.pushes } in
    record {
      sound = d.sound;
      vectors = d.vectors;
      iterators = length-more iters (iterator_at (begin_of m v)) ∙ ap (λ n. n + 1) d.iterators ∙ sym (length-more k.iterators new);
      conts_frame = d.conts_frame;
      iters_frame = frame-more k.iterators new frame.iters (length iters) d.iters_frame d.iterators;
      forms = d.forms;
      filled = d.filled;
      stands = λ i held standing at known. elim (pushed iters (iterator_at (begin_of m v)) held i at) [
        | inl old ↦ elim (pushed k.iterators new standing i known) [
          | inl before ↦ d.stands i held standing old before
          | inr last ↦ absurd (let lt = slice_get_within iters i held old in let e = d.iterators in let q = last.0 in omega arith)
        ]
        | inr end ↦ elim (pushed k.iterators new standing i known) [
          | inl before ↦ absurd (let lt = slice_get_within k.iterators i standing before in let e = d.iterators in let q = end.0 in omega arith)
          | inr last ↦ inl (rw (last.1, end.1) (record { here = begin_at m v c there; same = refl; still = λ e. killers_of-new k v (is_filled k v) }))
        ]
      ];
      since = λ i standing known. elim (pushed k.iterators new standing i known)
          [ inl before ↦ d.since i standing before | inr last ↦ rw last.1 (omega arith) ];
    }

-- the standing of an iterator that was found valid
abbrev pub valid : Known → Standing → Standing
valid k standing = record { vector = standing.vector; at_element = standing.at_element; since = length k.pushes }

-- it stays where it was
stays_valid : (k : Known) (m : Memory) (standing other : Standing) (iters : List Pointer) (it : ℕ) (held also : Pointer)
    → slice_get iters it ≡ Some held → slice_get iters it ≡ Some also → other ≡ valid k standing
    → Stays m (mark_in held) (is_filled k standing.vector) (killers_of k standing) standing
    → Stays m (mark_in also) (is_filled k other.vector) (killers_of k other) other
stays_valid k m standing other iters it held also p q e stays =
    let same : also ≡ held = cc in
    rw (e, same) (record { here = stays.here; same = stays.same; still = λ none. killers_of-new k standing.vector standing.at_element })

-- An iterator that was found valid.
pub kept-valid : (k : Known) (m : Memory) (frame : Frame) (iters : List Pointer) (scalars : List ℕ) (it : ℕ) (held : Pointer) (standing : Standing)
    → Describes k m frame iters → slice_get iters it ≡ Some held
    → Stays m (mark_in held) (is_filled k standing.vector) (killers_of k standing) standing
    → Describes (found_valid k it standing) m (record frame { scalars = scalars }) iters
kept-valid k m frame iters scalars it held standing d at stays =
    let new : Standing = valid k standing in
    record {
      sound = d.sound;
      vectors = d.vectors;
      iterators = d.iterators ∙ sym (length-set k.iterators it new);
      conts_frame = d.conts_frame;
      iters_frame = d.iters_frame ∙ ap (λ n. numbers 0 n) (sym (length-set k.iterators it new));
      forms = d.forms;
      filled = d.filled;
      stands = λ i other known_at at_i known. elim (written k.iterators it new known_at i known) [
        | inl same ↦ inl (stays_valid k m standing known_at iters it held other at (rw same.0 at at_i) same.1 stays)
        | inr old ↦ d.stands i other known_at at_i old.1
      ];
      since = λ i known_at known. elim (written k.iterators it new known_at i known)
          [ inl same ↦ rw same.1 (omega arith) | inr old ↦ d.since i known_at old.1 ];
    }

-- the edit of a `push_back`
abbrev pub push_edit : Cont → ℤ → List ℕ → Edit
push_edit c z picks = insertion c (size c) ((z, pos 0) ∷ []) picks

-- the memory after a `push_back` of a vector that is there
abbrev pub after_push : Memory → ℕ → Cont → ℤ → List ℕ → ℕ → Memory
after_push m v c z picks site = after (change_of VectorInsert c (push_edit c z picks)) m v c site

-- the begin survives only where there are elements
begin_survives : (n room : ℕ) → vector_insert_kills n room n 1 0 ≡ false → 0 < n
begin_survives n room h = grind (arith, nat_tests)

-- a vector has elements behind a `push_back`
filled-own : (k : Known) (v x : ℕ) (site : ℕ) → v < length k.filled → v ≡ x → is_filled (with_push k v site) x ≡ true
filled-own k v x site lt same = rw (← same) (get_or-set_same k.filled v true false lt)

-- An iterator behind a `push_back` of its vector.
here-own : (k : Known) (m : Memory) (v : ℕ) (c : Cont) (z : ℤ) (picks : List ℕ) (site stamp : ℕ) (standing : Standing) → IsSound m
    → slice_get m.conts v ≡ Some c → v < length k.filled → is_filled k v ≡ nat_lt 0 (size c)
    → v ≡ standing.vector → standing.since ≤ length k.pushes → Stays m stamp (is_filled k standing.vector) (killers_of k standing) standing
    → IsHere (after_push m v c z picks site) stamp (with_push k v site) standing
here-own k m v c z picks site stamp standing sound there lt filled same since stays =
    by_kill (kills VectorInsert (size c) c.room (push_edit c z picks) 0) refl
  where
    at : IsAt m v 0 stamp
    at = rw same stays.here

    by_kill : (b : Bool) → kills VectorInsert (size c) c.room (push_edit c z picks) 0 ≡ b → IsHere (after_push m v c z picks site) stamp
        (with_push k v site) standing
    by_kill true e = inr (
      site,
      after-killed VectorInsert m v 0 stamp c (push_edit c z picks) site sound there at e,
      rw same (killers_of-last k standing site since),
    )
    by_kill false e =
        let some : 0 < size c = begin_survives (size c) c.room e in
        let first : shifted (push_edit c z picks) 0 ≡ 0 = cond-true (nat_lt 0 (size c)) 0 1 (lt-ltb 0 (size c) some) in
        let element : standing.at_element ≡ true = sym stays.same ∙ ap (is_filled k) (sym same) ∙ filled ∙ lt-ltb 0 (size c) some in
        inl (record {
          here = rw (← same) (rw first at (after-at-own VectorInsert m v 0 stamp c (push_edit c z picks) site there at (omega arith) e (inl some)));
          same = filled-own k v standing.vector site lt same ∙ sym element;
          still = λ none. absurd (let no : true ≡ false = sym element ∙ none in cc);
        })

-- An iterator behind a `push_back` of another vector.
here-other : (k : Known) (m : Memory) (v : ℕ) (c : Cont) (z : ℤ) (picks : List ℕ) (site stamp : ℕ) (standing : Standing) → (v ≡ standing.vector → ⊥)
    → standing.since ≤ length k.pushes
    → Stays m stamp (is_filled k standing.vector) (killers_of k standing) standing → IsHere (after_push m v c z picks site) stamp
    (with_push k v site) standing
here-other k m v c z picks site stamp standing other since stays = inl (record {
  here = after-at-other VectorInsert m v standing.vector 0 stamp c (push_edit c z picks) site other stays.here;
  same = get_or-set_other k.filled v standing.vector true false (λ e. other (sym e)) ∙ stays.same;
  still = λ none. killers_of-other k standing v site other since ∙ stays.still none;
})

-- A `push_back`.
pub kept-push : (k : Known) (m : Memory) (frame : Frame) (iters : List Pointer) (v : ℕ) (c : Cont) (z : ℤ) (picks : List ℕ) (site : ℕ)
    → Describes k m frame iters → slice_get m.conts v ≡ Some c → size c + 1 ≤ ELEMENTS
    → Describes (with_push k v site) (after_push m v c z picks site) frame iters
kept-push k m frame iters v c z picks site d there few =
    let new : Cont = changed m.fresh (change_of VectorInsert c (push_edit c z picks)) c in
    record {
      sound = after-sound VectorInsert m v c (push_edit c z picks) site d.sound there (omega arith)
          (λ k low high. absurd (omega arith)) (omega arith);
      vectors = length-set m.conts v new ∙ d.vectors ∙ sym (length-set k.filled v true);
      iterators = d.iterators;
      conts_frame = d.conts_frame ∙ ap (λ n. numbers 0 n) (sym (length-set k.filled v true));
      iters_frame = d.iters_frame;
      forms = λ j x h. elim (written m.conts v new x j h)
          [ inl same ↦ ap (λ (y : Cont). y.form) same.1 ∙ d.forms v c there | inr old ↦ d.forms j x old.1 ];
      filled = λ j x h. elim (written m.conts v new x j h) [
        | inl same ↦ rw (same.0, same.1)
            (get_or-set_same k.filled v true false (let lt = slice_get_within m.conts v c there in let e = d.vectors in omega arith)
            ∙ sym (lt-ltb 0 (size new) (let e = size-after VectorInsert m c (push_edit c z picks) (omega arith) in omega arith)))
        | inr old ↦ get_or-set_other k.filled v j true false (λ e. old.0 (sym e)) ∙ d.filled j x old.1
      ];
      stands = λ i held standing at known. elim (d.stands i held standing at known) [
        | inl stays ↦ ⊎_elim
            (λ (same : v ≡ standing.vector).
            here-own k m v c z picks site (mark_in held) standing d.sound there
            (let lt = slice_get_within m.conts v c there in let e = d.vectors in omega arith) (d.filled v c there) same
            (d.since i standing known) stays)
            (λ (other : v ≡ standing.vector → ⊥). here-other k m v c z picks site (mark_in held) standing other (d.since i standing known) stays)
            (cases_eq v standing.vector)
        | inr dead ↦ inr (
          dead.0,
          after-dead VectorInsert m v (mark_in held) dead.0 c (push_edit c z picks) site d.sound there dead.1,
          killers_of-more k standing v site dead.0 (d.since i standing known) dead.2,
        )
      ];
      since = λ i standing known. let old = d.since i standing known in let more =
          length-more k.pushes (record { vector = v; site = site }) in omega arith;
    }
