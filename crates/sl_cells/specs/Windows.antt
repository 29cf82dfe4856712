-- What is known of a list of keys and values, and which lists it describes.
--
-- Chosen here: it is a window of known elements, each as an interval of its key and one of its value, beside a range
-- of all keys, a range of all values, and whether the keys ascend. Where not all elements are known, the window says
-- nothing.
use Rattle.std.specs.Prelude.{◌≡◌, ◌⊎◌, ℕ, suc, ◌<◌, ℤ, ◌≤ℤ◌, Bool, true, List, length, slice_index_or}
use Rattle.std.specs.List.{AllZip, AllByRecursion}
use Rattle.sl_base.specs.declared.scalar.Scalar.TheVariants as kind
use Rattle.sl_intervals.specs.declared.interval.Interval.{Interval}
use Rattle.sl_intervals.specs.Intervals.{Holds, IsSingle, LiesIn}
use Rattle.sl_cells.specs.declared.item.Item.{Item}
use Rattle.sl_cells.specs.declared.sorted.Sorted.{Sorted}
use Rattle.sl_cells.specs.declared.sorted.Sorted.TheVariants.{Yes}
use Rattle.sl_cells.specs.Orders.{IsAscending}

-- whether all elements are known, the known ones, the ranges of all keys and values, and whether the keys ascend
pub record Window : Type 0 where
  pub all : Bool
  pub known : List Item
  pub keys : Interval
  pub values : Interval
  pub sorted : Sorted

-- neighbours show that the keys of these elements ascend
abbrev pub ShowsOrder : List Item → Type 0
ShowsOrder known = (k : ℕ) (d : Item) → suc k < length known → (slice_index_or known k d).key.high ≤ℤ (slice_index_or known (suc k) d).key.low

-- the keys are known to ascend, or the known elements show it
abbrev pub KnowsOrder : Window → Type 0
KnowsOrder w = (w.sorted ≡ Yes) ⊎ ((w.all ≡ true) × ShowsOrder w.known)

-- the element x is one of those that i says
pub record HoldsItem (i : Item) (x : ℤ × ℤ) : Type 0 where
  pub key : Holds i.key x.0
  pub value : Holds i.value x.1

-- the element x is the only one that i says
pub record IsOnly (i : Item) (x : ℤ × ℤ) : Type 0 where
  pub key : IsSingle i.key x.0
  pub value : IsSingle i.value x.1

-- the ranges of w as what they say of each element
abbrev pub ranges : Window → Item
ranges w = record { key = w.keys; value = w.values }

-- all that w says is so of xs
pub record Describes (w : Window) (xs : List (ℤ × ℤ)) : Type 0 where
  pub window : w.all ≡ true → AllZip HoldsItem w.known xs
  pub ranged : AllByRecursion (HoldsItem (ranges w)) xs
  pub order : w.sorted ≡ Yes → IsAscending xs

-- w describes xs, and all elements are known as single numbers
pub record Knows (w : Window) (xs : List (ℤ × ℤ)) : Type 0 where
  pub describes : Describes w xs
  pub all : w.all ≡ true
  pub known : AllZip IsOnly w.known xs

-- the key and the value are numbers of type int
pub record IsInt (i : Item) : Type 0 where
  pub key : LiesIn kind.Int i.key
  pub value : LiesIn kind.Int i.value

-- all that w says are numbers of type int
pub record IsOfInts (w : Window) : Type 0 where
  pub known : AllByRecursion IsInt w.known
  pub keys : LiesIn kind.Int w.keys
  pub values : LiesIn kind.Int w.values
