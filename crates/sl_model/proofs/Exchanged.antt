-- Where the marks of elements stand after `swap`, `splice` and `merge` of two containers.
use Rattle.std.proofs.Common.{◌≡◌, ◌≢◌, ℕ, zero, suc, ◌+◌, ◌-◌, ◌<◌, ◌≤◌, ◌==◌, Bool, true, false, ◌++◌, Some, length}
use Rattle.std.proofs.Common.{refl, ap, sym, ◌∙◌, arith, inl, inr, subst, if◌then◌else◌}
use Rattle.std.specs.List.{slice_get}
use Rattle.std.proofs.lemmas.Bool.{eqb-true, eq-eqb}
use Rattle.sl_base.specs.declared.form.Form.{Form}
use Rattle.sl_specs.specs.declared.class.Class.{Class}
use Rattle.sl_model.specs.Memory.Containers.{Cont, Dropped, size, stamps}
use Rattle.sl_model.specs.Memory.Edits.{Source, old, written, theirs, new, Change, olds, theirs_from, buried}
use Rattle.sl_model.specs.Memory.Origins.{ComesFrom, ComesOver}
use Rattle.sl_model.specs.Memory.Rearrangements.{arranged, exchanged, received, given, moved_order}
use Rattle.sl_model.specs.LibraryCalls.Situation.{Situation, own, own_size, index, container_of, their, their_size}
use Rattle.sl_model.specs.LibraryCalls.Actions.{Effect, keeps, edits, changes, trades}
use Rattle.sl_model.specs.LibraryCalls.AccessActions.{untouched, swap}
use Rattle.sl_model.specs.LibraryCalls.ListActions.{merged, merge, splices}
use Rattle.sl_model.specs.Runs.Good.{IsAt, RefersTo}
use Rattle.sl_model.specs.LibraryCalls.Effects.{does}
use Rattle.sl_model.proofs.Getting.{get_left, get_behind}
use Rattle.sl_model.proofs.Columns.{TakesOwn, TakesTheirs, stamp_of_end}
use Rattle.sl_model.proofs.ColumnLaws.{IsTaken, IsTakenOver}
use Rattle.sl_model.proofs.Counts.{times-numbers}
use Rattle.sl_model.proofs.FairChanges.{length_olds}
use Rattle.sl_model.proofs.FairRearrangements.{merged_own, merged_their, length_theirs}
use Rattle.sl_model.proofs.Places.{own_found, their_found}
use Rattle.sl_model.proofs.OneChange.{buried_grave, still_grave}
use Rattle.sl_model.proofs.Moved.{goes_to_first, goes_to_second, stays_in_first}

-- the other's place at an index of these
pub theirs-get : (i n p : ℕ) → p < n → slice_get (theirs_from i n) p ≡ Some (theirs (i + p))
theirs-get i zero p h = absurd (omega arith)
theirs-get i (suc n) zero h = ap (λ k. Some (theirs k)) (omega arith)
theirs-get i (suc n) (suc p) h = theirs-get (i + 1) n p (omega arith) ∙ ap (λ k. Some (theirs k)) (omega arith)

-- an exchange takes each element over to the same place
exchanged-comes : (c d : Cont) (k : ℕ) → k < size d → ComesOver (exchanged c d) k k
exchanged-comes c d k low = theirs-get 0 (size d) k low ∙ ap (λ n. Some (theirs n)) (omega arith)

-- an element that a list receives
received-comes : (p from count : ℕ) (c : Cont) (k : ℕ) → from ≤ k → k < from + count → ComesOver (received p from count c) (p + (k - from)) k
received-comes p from count c k low high =
    let l : length (olds 0 p) ≡ p = length_olds 0 p in
    let e : p + (k - from) ≡ length (olds 0 p) + (k - from) = omega arith in
    let t : length (theirs_from from count) ≡ count = length_theirs from count in
    ap (slice_get (olds 0 p ++ (theirs_from from count ++ olds p (size c - p)))) e
    ∙ (get_behind (olds 0 p) (theirs_from from count ++ olds p (size c - p)) (k - from)
    ∙ (get_left (theirs_from from count) (olds p (size c - p)) (k - from) (omega arith)
    ∙ (theirs-get from count (k - from) (omega arith) ∙ ap (λ n. Some (theirs n)) (omega arith))))

-- what a source takes comes from there
taken-from : (ch : Change) (k : ℕ) → IsTaken ch.sources k → (h : ℕ) × ComesFrom ch h k
taken-from ch k t = (t.0, by_source t.1 t.2 t.3)
  where
    by_source : (x : Source) → slice_get ch.sources t.0 ≡ Some x → TakesOwn x k → ComesFrom ch t.0 k
    by_source (old i) at e = inl (at ∙ ap (λ n. Some (old n)) e)
    by_source (written i z) at e = inr (z, at ∙ ap (λ n. Some (written n z)) e)
    by_source (theirs i) at e = absurd e
    by_source (new a b) at e = absurd e

-- so it is with the other container
taken-over : (ch : Change) (k : ℕ) → IsTakenOver ch.sources k → (h : ℕ) × ComesOver ch h k
taken-over ch k t = (t.0, by_source t.1 t.2 t.3)
  where
    by_source : (x : Source) → slice_get ch.sources t.0 ≡ Some x → TakesTheirs x k → ComesOver ch t.0 k
    by_source (old i) at e = absurd e
    by_source (written i z) at e = absurd e
    by_source (theirs i) at e = at ∙ ap (λ n. Some (theirs n)) e
    by_source (new a b) at e = absurd e

-- a merge takes each element of the object
merged-stays : (c d : Cont) (k : ℕ) → k < size c → (h : ℕ) × ComesFrom (merged c d) h k
merged-stays c d k low = taken-from (merged c d) k (own_found (merged c d).sources k
    (let a = merged_own c d k in let b = times-numbers k 0 (size c) (omega arith) (omega arith) in omega arith))

-- of the other list
merged-comes : (c d : Cont) (k : ℕ) → k < size d → (h : ℕ) × ComesOver (merged c d) h k
merged-comes c d k low = taken-over (merged c d) k (their_found (merged c d).sources k
    (let a = merged_their c d k in let b = times-numbers k 0 (size d) (omega arith) (omega arith) in omega arith))

-- two numbers that differ aren't tested equal
differ-test : (a b : ℕ) → a ≢ b → (a == b) ≡ false
differ-test a b n = by_test (a == b) refl
  where
    by_test : (t : Bool) → (a == b) ≡ t → (a == b) ≡ false
    by_test true e = absurd (n (eqb-true a b e))
    by_test false e = e

-- what swap does to two containers
pub swap-trades : (s : Situation) → container_of s 1 ≢ s.object
    → swap.effect s ≡ trades (container_of s 1) (exchanged (own s) (their s 1)) (exchanged (their s 1) (own s))
swap-trades s n = ap (λ (b : Bool). if b
    then edits 0 (untouched (own s).room)
    else trades (container_of s 1) (exchanged (own s) (their s 1)) (exchanged (their s 1) (own s))) (differ-test (container_of s 1) s.object n)

-- what splice does
pub splice-trades : (s : Situation) (from count : ℕ) → container_of s 2 ≢ s.object
    → splices s from count ≡ trades (container_of s 2) (received (index s 1) from count (own s)) (given from count (their s 2))
splice-trades s from count n = ap (λ (b : Bool). if b
    then changes 0 s.object (arranged (moved_order (own_size s) (index s 1) from count) (own s))
    else trades (container_of s 2) (received (index s 1) from count (own s)) (given from count (their s 2)))
    (differ-test (container_of s 2) s.object n)

-- what merge does
pub merge-trades : (s : Situation) → container_of s 1 ≢ s.object
    → merge.effect s ≡ trades (container_of s 1) (merged (own s) (their s 1)) (given 0 (their_size s 1) (their s 1))
merge-trades s n = ap (λ (b : Bool). if b
    then keeps
    else trades (container_of s 1) (merged (own s) (their s 1)) (given 0 (their_size s 1) (their s 1))) (differ-test (container_of s 1) s.object n)

module _ (form : Form) (class : Class) (s : Situation) where
  -- all that stands at place k of container i before an effect stands at place h of container j after it
  abbrev pub AllGoTo : Effect → ℕ → ℕ → ℕ → ℕ → Type 0
  AllGoTo e i k j h =
      ((stamp : ℕ) → IsAt s.memory i k stamp → IsAt (does form class s e).memory j h stamp)
      × ((refer : ℕ) → RefersTo s.memory i k refer → RefersTo (does form class s e).memory j h refer)

  -- a container is there
  abbrev There : ℕ → Cont → Type 0
  There j c = slice_get s.memory.conts j ≡ Some c

  -- in a swap the elements of the object go to the same places of the other container
  pub swap-goes : container_of s 1 ≢ s.object → There s.object (own s) → There (container_of s 1) (their s 1) → (k : ℕ) → k < own_size s
      → AllGoTo (swap.effect s) s.object k (container_of s 1) k
  swap-goes n there there' k low = subst (λ e. AllGoTo e s.object k (container_of s 1) k) (sym (swap-trades s n))
      (goes_to_second (exchanged (own s) (their s 1)) (exchanged (their s 1) (own s)) s.memory s.object (container_of s 1) (own s) (their s 1) s.site
      (λ e. n (sym e)) there there' k k (exchanged-comes (their s 1) (own s) k low) low)

  -- and its elements come to those of the object
  pub swap-comes : container_of s 1 ≢ s.object → There s.object (own s) → There (container_of s 1) (their s 1) → (k : ℕ) → k < their_size s 1
      → AllGoTo (swap.effect s) (container_of s 1) k s.object k
  swap-comes n there there' k low = subst (λ e. AllGoTo e (container_of s 1) k s.object k) (sym (swap-trades s n))
      (goes_to_first (exchanged (own s) (their s 1)) (exchanged (their s 1) (own s)) s.memory s.object (container_of s 1) (own s) (their s 1) s.site
      (λ e. n (sym e)) there there' k k (exchanged-comes (own s) (their s 1) k low) low)

  -- the ends of both are dropped
  pub swap-ends : container_of s 1 ≢ s.object
      → Dropped (does form class s (swap.effect s)).memory (own s).end s.site
      × Dropped (does form class s (swap.effect s)).memory (their s 1).end s.site
  swap-ends n = subst
      (λ e. Dropped (does form class s e).memory (own s).end s.site × Dropped (does form class s e).memory (their s 1).end s.site)
      (sym (swap-trades s n)) (
        buried_grave (λ k. k == own_size s) s.site (stamps (own s))
            (buried (λ k. k == their_size s 1) s.site 0 (stamps (their s 1)) ++ s.memory.graves) (own_size s) (own s).end (stamp_of_end (own s))
            (same-test (own_size s)),
        still_grave (buried (λ k. k == own_size s) s.site 0 (stamps (own s)))
            (buried (λ k. k == their_size s 1) s.site 0 (stamps (their s 1)) ++ s.memory.graves) (their s 1).end s.site
            (buried_grave (λ k. k == their_size s 1) s.site (stamps (their s 1)) s.memory.graves (their_size s 1) (their s 1).end
            (stamp_of_end (their s 1)) (same-test (their_size s 1))),
      )
    where
      same-test : (n : ℕ) → (n == n) ≡ true
      same-test n = eq-eqb n n refl

  -- in a splice the elements come behind the position, in their order
  pub splice-comes : (from count : ℕ) → container_of s 2 ≢ s.object → There s.object (own s) → There (container_of s 2) (their s 2)
      → from + count ≤ their_size s 2 → (k : ℕ) → from ≤ k → k < from + count
      → AllGoTo (splices s from count) (container_of s 2) k s.object (index s 1 + (k - from))
  splice-comes from count n there there' fits k low high =
      subst (λ e. AllGoTo e (container_of s 2) k s.object (index s 1 + (k - from))) (sym (splice-trades s from count n))
      (goes_to_first (received (index s 1) from count (own s)) (given from count (their s 2)) s.memory s.object (container_of s 2) (own s) (their s 2)
      s.site (λ e. n (sym e)) there there' (index s 1 + (k - from)) k (received-comes (index s 1) from count (own s) k low high) (omega arith))

  -- in a merge each element of the object goes to a place of it
  pub merge-stays : container_of s 1 ≢ s.object → There s.object (own s) → There (container_of s 1) (their s 1) → (k : ℕ) → k < own_size s
      → (h : ℕ) × AllGoTo (merge.effect s) s.object k s.object h
  merge-stays n there there' k low =
      let r = merged-stays (own s) (their s 1) k low in
      let t = stays_in_first (merged (own s) (their s 1)) (given 0 (their_size s 1) (their s 1)) s.memory s.object (container_of s 1) (own s)
      (their s 1)
      s.site (λ e. n (sym e)) there there' r.0 k r.1 low in
      (r.0, subst (λ e. AllGoTo e s.object k s.object r.0) (sym (merge-trades s n)) ((λ x at. t.0 x refl at), (λ x at. t.1 x refl at)))

  -- and each of the other list
  pub merge-comes : container_of s 1 ≢ s.object → There s.object (own s) → There (container_of s 1) (their s 1) → (k : ℕ) → k < their_size s 1
      → (h : ℕ) × AllGoTo (merge.effect s) (container_of s 1) k s.object h
  merge-comes n there there' k low =
      let r = merged-comes (own s) (their s 1) k low in (
        r.0,
        subst (λ e. AllGoTo e (container_of s 1) k s.object r.0) (sym (merge-trades s n))
            (goes_to_first (merged (own s) (their s 1)) (given 0 (their_size s 1) (their s 1)) s.memory s.object (container_of s 1) (own s)
            (their s 1)
            s.site (λ e. n (sym e)) there there' r.0 k r.1 low),
      )
