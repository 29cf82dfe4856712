-- Ranges that hold the members of two.
use Rattle.std.specs.Prelude.{◌≡◌, ◌⊎◌, ℕ, ◌<◌, ℤ, ◌≤ℤ◌, ◌<ℤ◌, List, length, slice_index_or}
use Rattle.sl_base.specs.declared.scalar.Scalar.TheVariants as kind
use Rattle.sl_intervals.specs.declared.interval.Interval.{Interval}
use Rattle.sl_intervals.specs.Intervals.{Holds, IsEmpty, IsFilled, IsAtLeast, IsAtMost, LiesIn}
use Rattle.sl_intervals.specs.Stops.{IsStopAbove, IsStopBelow}
use Rattle.sl_cells.specs.declared.item.Item.{Item}

-- r holds the members of a and of b, and goes no further than they do
pub record IsUnion (a b r : Interval) : Type 0 where
  pub holds : (z : ℤ) → (Holds a z ⊎ Holds b z) → Holds r z
  pub least : (z : ℤ) → IsAtLeast a z → IsAtLeast b z → IsAtLeast r z
  pub most : (z : ℤ) → IsAtMost a z → IsAtMost b z → IsAtMost r z

-- r holds the members of a and of b: an end of a that b doesn't pass stays, and one that it passes goes to the next of
-- the constants, and where there is none to the end of int
pub record IsWidening (constants : List ℤ) (a b r : Interval) : Type 0 where
  pub holds : (z : ℤ) → (Holds a z ⊎ Holds b z) → Holds r z
  pub first_empty : IsEmpty a → r ≡ b
  pub second_empty : IsFilled a → IsEmpty b → r ≡ a
  pub low_kept : IsFilled a → IsFilled b → a.low ≤ℤ b.low → r.low ≡ a.low
  pub low_fallen : IsFilled a → IsFilled b → b.low <ℤ a.low → IsStopBelow kind.Int constants b.low r.low
  pub high_kept : IsFilled a → IsFilled b → b.high ≤ℤ a.high → r.high ≡ a.high
  pub high_grown : IsFilled a → IsFilled b → a.high <ℤ b.high → IsStopAbove kind.Int constants b.high r.high
  pub ints : LiesIn kind.Int r

-- each item of rs is made of the first and the second at its place, by R of the keys and of the values
pub record IsItemwise (R : Interval → Interval → Interval → Type 0) (firsts seconds rs : List Item) : Type 0 where
  pub many : length rs ≡ length firsts
  pub keys : (k : ℕ) (d : Item) → k < length firsts → R (slice_index_or firsts k d).key (slice_index_or seconds k d).key (slice_index_or rs k d).key
  pub values : (k : ℕ) (d : Item) → k < length firsts
      → R (slice_index_or firsts k d).value (slice_index_or seconds k d).value (slice_index_or rs k d).value
