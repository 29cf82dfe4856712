-- Numbers at places of lists that are kept apart: what an operation has to be so that they stay so, and what stands once.
use Rattle.std.proofs.Common.{◌≡◌, ◌≢◌, ℕ, ◌<◌, ◌≤◌, List, Some, arith, ◌⊎◌, inl, inr}
use Rattle.std.specs.List.{slice_get}
use Rattle.sl_model.specs.Memory.Containers.{Grave, IsGrave}
use Rattle.sl_model.specs.Runs.Good.{Stands, AreKeptApart}

-- a number stands somewhere in these lists
abbrev pub StandsSomewhere : List (List ℕ) → ℕ → Type 0
StandsSomewhere lists s = (i : ℕ) × (h : ℕ) × Stands lists i h s

-- What an operation makes of lists and graves: a number that was used and stands afterwards stood before and wasn't dropped, all
-- that stand were used then and stand once, and what was dropped in between stood before.
pub record Renews (dropped : ℕ → Type 0) (lists later : List (List ℕ)) (graves buried : List Grave) (fresh top : ℕ) : Type 0 where
  pub up : fresh ≤ top
  pub came : (j k s : ℕ) → Stands later j k s → s < fresh → StandsSomewhere lists s
  pub alive : (j k s : ℕ) → Stands later j k s → dropped s → ⊥
  pub below : (j k s : ℕ) → Stands later j k s → s < top
  pub once : (j k i h s : ℕ) → Stands later j k s → Stands later i h s → (j ≡ i) × (k ≡ h)
  pub died : (s site : ℕ) → IsGrave buried s site → IsGrave graves s site ⊎ (dropped s × StandsSomewhere lists s)

-- numbers that were kept apart are so after such an operation
pub renewed-apart : (D : ℕ → Type 0) (lists later : List (List ℕ)) (graves buried : List Grave) (fresh top : ℕ)
    → Renews D lists later graves buried fresh top → AreKeptApart lists graves fresh → AreKeptApart later buried top
renewed-apart D lists later graves buried fresh top r apart = record {
  once = r.once;
  used = r.below;
  dropped = λ s site g. was_used s (r.died s site g);
  dead = λ j k s site a g. was_dead j k s site a (r.died s site g);
}
  where
    stood_used : (s : ℕ) → StandsSomewhere lists s → s < fresh
    stood_used s a = apart.used a.0 a.1 s a.2

    was_used : (s : ℕ) {site : ℕ} → IsGrave graves s site ⊎ (D s × StandsSomewhere lists s) → s < top
    was_used s {site} (inl g) = let u : s < fresh = apart.dropped s site g in let up : fresh ≤ top = r.up in omega arith
    was_used s (inr d) = let u : s < fresh = stood_used s d.1 in let up : fresh ≤ top = r.up in omega arith

    was_dead : (j k s site : ℕ) → Stands later j k s → IsGrave graves s site ⊎ (D s × StandsSomewhere lists s) → ⊥
    was_dead j k s site a (inl g) =
        let c = r.came j k s a (apart.dropped s site g) in
        apart.dead c.0 c.1 s site c.2 g
    was_dead j k s site a (inr d) = r.alive j k s a d.0

-- no number stands twice in a list
abbrev pub IsDistinct : List ℕ → Type 0
IsDistinct xs = (k h s : ℕ) → slice_get xs k ≡ Some s → slice_get xs h ≡ Some s → k ≡ h

-- each number of a list is below n
abbrev pub AllBelow : List ℕ → ℕ → Type 0
AllBelow xs n = (k s : ℕ) → slice_get xs k ≡ Some s → s < n

-- two lists have no number in common
abbrev pub HaveNone : List ℕ → List ℕ → Type 0
HaveNone xs ys = (k h s : ℕ) → slice_get xs k ≡ Some s → slice_get ys h ≡ Some s → ⊥

module _ (lists : List (List ℕ)) (graves : List Grave) (fresh : ℕ) (apart : AreKeptApart lists graves fresh) where
  -- one of the lists holds no number twice
  pub list_distinct : (j : ℕ) (xs : List ℕ) → slice_get lists j ≡ Some xs → IsDistinct xs
  list_distinct j xs there k h s a b = (apart.once j k j h s (xs, there, a) (xs, there, b)).1

  -- each of its numbers was used
  pub list_below : (j : ℕ) (xs : List ℕ) → slice_get lists j ≡ Some xs → AllBelow xs fresh
  list_below j xs there k s a = apart.used j k s (xs, there, a)

  -- two of the lists have none in common
  pub lists_have_none : (j i : ℕ) (xs ys : List ℕ) → slice_get lists j ≡ Some xs → slice_get lists i ≡ Some ys → j ≢ i → HaveNone xs ys
  lists_have_none j i xs ys at at' other k h s a b = other (apart.once j k i h s (xs, at, a) (ys, at', b)).0
