-- What is known of one element of a described list.
use Rattle.std.specs.Prelude.{◌≡◌, ℕ, ◌<◌, ℤ, pos, true, List, Some, length, slice_get, slice_index_or}
use Rattle.sl_intervals.specs.declared.interval.Interval.{Interval}
use Rattle.sl_intervals.specs.Intervals.{Holds, IsSingle}
use Rattle.sl_cells.specs.declared.item.Item.{Item}
use Rattle.sl_cells.specs.Windows.{Window, HoldsItem, IsOnly, Describes, Knows, IsInt, IsOfInts}

-- item is what w says of the element at a place
pub record IsRead (w : Window) (at : Interval) (item : Item) : Type 0 where
  pub holds : (xs : List (ℤ × ℤ)) (x : ℤ × ℤ) (k : ℕ) → Describes w xs → Holds at (pos k) → slice_get xs k ≡ Some x → HoldsItem item x
  pub exact : (xs : List (ℤ × ℤ)) (x : ℤ × ℤ) (k : ℕ) → Knows w xs → IsSingle at (pos k) → slice_get xs k ≡ Some x → IsOnly item x
  pub known : (k : ℕ) (d : Item) → w.all ≡ true → IsSingle at (pos k) → k < length w.known → item ≡ slice_index_or w.known k d
  pub ints : IsOfInts w → IsInt item
