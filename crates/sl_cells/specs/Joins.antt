-- What is known of the lists that either of two describes.
use Rattle.std.specs.Prelude.{◌≡◌, ℤ, true, List, length}
use Rattle.sl_intervals.specs.declared.interval.Interval.{Interval}
use Rattle.sl_cells.specs.declared.sorted.Sorted.TheVariants.{Yes}
use Rattle.sl_cells.specs.Ranges.{IsItemwise}
use Rattle.sl_cells.specs.Windows.{Window, Describes, Knows, KnowsOrder, IsOfInts}

-- r describes what w and v describe, and keeps what both have; R says how two ranges become one
pub record IsJoin (R : Interval → Interval → Interval → Type 0) (w v r : Window) : Type 0 where
  pub first : (xs : List (ℤ × ℤ)) → Describes w xs → Describes r xs
  pub second : (xs : List (ℤ × ℤ)) → Describes v xs → Describes r xs
  pub exact : (xs : List (ℤ × ℤ)) → Knows w xs → Knows v xs → Knows r xs
  pub all : w.all ≡ true → v.all ≡ true → length w.known ≡ length v.known → r.all ≡ true
  pub known : r.all ≡ true → IsItemwise R w.known v.known r.known
  pub order : KnowsOrder w → KnowsOrder v → r.sorted ≡ Yes
  pub keys : R w.keys v.keys r.keys
  pub values : R w.values v.values r.values
  pub ints : IsOfInts w → IsOfInts v → IsOfInts r
