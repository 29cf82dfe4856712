-- What an insertion, an erasure and a write make of what is known of a list.
--
-- Restates ISO/IEC 14882:2017, [sequence.reqmts] (insert, erase, and an element that is assigned).
-- Chosen here: a place is known as an interval. Each law speaks of the members of the interval that are places of the
-- described list, and for an insertion of its end too.
use Rattle.std.specs.Prelude.{◌≡◌, ℕ, suc, ◌<◌, ◌≤◌, ℤ, pos, ◌≤ℤ◌, true, List, length, slice_index_or, slice_set}
use Rattle.std.specs.List.{insert, remove_range}
use Rattle.sl_intervals.specs.declared.interval.Interval.{Interval}
use Rattle.sl_intervals.specs.Intervals.{Holds, IsSingle}
use Rattle.sl_cells.specs.declared.item.Item.{Item}
use Rattle.sl_cells.specs.declared.sorted.Sorted.TheVariants.{Yes}
use Rattle.sl_cells.specs.Ranges.{IsUnion}
use Rattle.sl_cells.specs.Verdicts.{IsPart}
use Rattle.sl_cells.specs.Windows.{Window, HoldsItem, IsOnly, Describes, Knows, KnowsOrder, IsInt, IsOfInts}

-- the keys of the first elements up to front aren't above the key, and those from back on aren't below it: their neighbours show it
pub record IsBetween (known : List Item) (front back : ℕ) (key : Interval) : Type 0 where
  pub behind : (k : ℕ) (d : Item) → suc k ≡ front → (slice_index_or known k d).key.high ≤ℤ key.low
  pub before : (d : Item) → back < length known → key.high ≤ℤ (slice_index_or known back d).key.low

-- r is w after an insertion of an element at a place; n elements have room
pub record IsInsertion (n : ℕ) (w : Window) (at : Interval) (item : Item) (r : Window) : Type 0 where
  pub describes : (xs : List (ℤ × ℤ)) (x : ℤ × ℤ) (k : ℕ) → Describes w xs → Holds at (pos k) → k ≤ length xs → HoldsItem item x
      → Describes r (insert xs k x)
  pub exact : (xs : List (ℤ × ℤ)) (x : ℤ × ℤ) (k : ℕ) → Knows w xs → IsSingle at (pos k) → k ≤ length xs → length xs < n → IsOnly item x
      → Knows r (insert xs k x)
  pub window : (k : ℕ) → w.all ≡ true → IsSingle at (pos k) → k ≤ length w.known → length w.known < n
      → (r.all ≡ true) × (r.known ≡ insert w.known k item)
  pub order : (k : ℕ) → w.all ≡ true → KnowsOrder w → IsSingle at (pos k) → k ≤ length w.known → IsBetween w.known k k item.key → r.sorted ≡ Yes
  pub keys : IsUnion w.keys item.key r.keys
  pub values : IsUnion w.values item.value r.values
  pub ints : IsOfInts w → IsInt item → IsOfInts r

-- r is w after an erasure of the elements between two places
pub record IsErasure (w : Window) (from to : Interval) (r : Window) : Type 0 where
  pub describes : (xs : List (ℤ × ℤ)) (f t : ℕ) → Describes w xs → IsPart from to xs f t → Describes r (remove_range xs f t)
  pub exact : (xs : List (ℤ × ℤ)) (f t : ℕ) → Knows w xs → IsSingle from (pos f) → IsSingle to (pos t) → f ≤ t → t ≤ length xs
      → Knows r (remove_range xs f t)
  pub window : (f t : ℕ) → w.all ≡ true → IsSingle from (pos f) → IsSingle to (pos t) → f ≤ t → t ≤ length w.known
      → (r.all ≡ true) × (r.known ≡ remove_range w.known f t)
  pub order : KnowsOrder w → r.sorted ≡ Yes
  pub keys : r.keys ≡ w.keys
  pub values : r.values ≡ w.values
  pub ints : IsOfInts w → IsOfInts r

-- r is w after a write of an element at a place
pub record IsWrite (w : Window) (at : Interval) (item : Item) (r : Window) : Type 0 where
  pub describes : (xs : List (ℤ × ℤ)) (x : ℤ × ℤ) (k : ℕ) → Describes w xs → Holds at (pos k) → k < length xs → HoldsItem item x
      → Describes r (slice_set xs k x)
  pub exact : (xs : List (ℤ × ℤ)) (x : ℤ × ℤ) (k : ℕ) → Knows w xs → IsSingle at (pos k) → k < length xs → IsOnly item x → Knows r (slice_set xs k x)
  pub window : (k : ℕ) → w.all ≡ true → IsSingle at (pos k) → k < length w.known → (r.all ≡ true) × (r.known ≡ slice_set w.known k item)
  pub order : (k : ℕ) → w.all ≡ true → KnowsOrder w → IsSingle at (pos k) → k < length w.known → IsBetween w.known k (suc k) item.key → r.sorted ≡ Yes
  pub keys : IsUnion w.keys item.key r.keys
  pub values : IsUnion w.values item.value r.values
  pub ints : IsOfInts w → IsInt item → IsOfInts r
