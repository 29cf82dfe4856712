-- Answers to a question on a part of the lists that are described.
--
-- Chosen here: the part lies between two places that are known as intervals, and the question is only asked where the
-- first isn't behind the second, and that one is a place of the list or its end.
use Rattle.std.specs.Prelude.{◌≡◌, ◌≢◌, ℕ, ◌≤◌, ℤ, pos, ◌≤ℤ◌, List, length, slice_range}
use Rattle.sl_intervals.specs.declared.interval.Interval.{Interval}
use Rattle.sl_intervals.specs.declared.sure.Sure.{Sure}
use Rattle.sl_intervals.specs.declared.sure.Sure.TheVariants.{Never, May, Always}
use Rattle.sl_intervals.specs.Intervals.{Holds, IsSingle}
use Rattle.sl_cells.specs.Windows.{Window, Describes, Knows, KnowsOrder}

-- f and t are members of the two intervals, and a part of xs lies between them
pub record IsPart (from to : Interval) (xs : List (ℤ × ℤ)) (f t : ℕ) : Type 0 where
  pub first : Holds from (pos f)
  pub last : Holds to (pos t)
  pub order : f ≤ t
  pub inside : t ≤ length xs

-- Always says P of the part of each described list, and Never of none
pub record IsVerdict (w : Window) (from to : Interval) (P : List (ℤ × ℤ) → Type 0) (r : Sure) : Type 0 where
  pub always : r ≡ Always → (xs : List (ℤ × ℤ)) (f t : ℕ) → Describes w xs → IsPart from to xs f t → P (slice_range xs f t)
  pub never : r ≡ Never → (xs : List (ℤ × ℤ)) (f t : ℕ) → Describes w xs → IsPart from to xs f t → P (slice_range xs f t) → ⊥

-- the answer isn't May where single numbers decide
abbrev pub IsDecided : Window → Interval → Interval → Sure → Type 0
IsDecided w from to r = (xs : List (ℤ × ℤ)) (f t : ℕ) → Knows w xs → IsSingle from (pos f) → IsSingle to (pos t) → f ≤ t → t ≤ length xs → r ≢ May

-- the answer is Always where each such part is without elements, and where the keys are known to ascend
pub record IsAtOnce (w : Window) (from to : Interval) (r : Sure) : Type 0 where
  pub none : to.high ≤ℤ from.low → r ≡ Always
  pub ordered : KnowsOrder w → r ≡ Always
