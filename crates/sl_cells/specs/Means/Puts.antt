-- What is known once an element comes to others, or some of them go.
use Rattle.std.specs.Prelude.{◌≡◌, ℕ, ◌+◌, ◌<◌, Bool, true, false, List, [], ◌∷◌, ◌++◌, length, take, drop, ℤ}
use Rattle.sl_cells.specs.declared.item.Item.{Item}
use Rattle.sl_cells.specs.declared.sorted.Sorted.{Sorted}
use Rattle.sl_cells.specs.declared.sorted.Sorted.TheVariants.{Yes}
use Rattle.sl_cells.specs.Edits.{IsBetween}
use Rattle.sl_cells.specs.Orders.{IsAscending}
use Rattle.sl_cells.specs.Ranges.{IsUnion}
use Rattle.sl_cells.specs.Windows.{Window, Describes, KnowsOrder}

-- r is w where an element stands between the first ones up to front and those from back on; n elements have room
pub record IsPut (n : ℕ) (w : Window) (front back : ℕ) (item : Item) (r : Window) : Type 0 where
  pub window : r.all ≡ true → r.known ≡ take front w.known ++ item ∷ drop back w.known
  pub room : length w.known + front < n + back → r.all ≡ true
  pub none : r.all ≡ false → r.known ≡ []
  pub keys : IsUnion w.keys item.key r.keys
  pub values : IsUnion w.values item.value r.values
  pub sorted : r.sorted ≡ Yes → ((xs : List (ℤ × ℤ)) → Describes w xs → IsAscending xs) × IsBetween w.known front back item.key
  pub order : KnowsOrder w → IsBetween w.known front back item.key → r.sorted ≡ Yes

-- r says no element, and is w with wider ranges and this order
pub record IsSpread (w : Window) (item : Item) (sorted : Sorted) (r : Window) : Type 0 where
  pub all : r.all ≡ false
  pub none : r.known ≡ []
  pub keys : IsUnion w.keys item.key r.keys
  pub values : IsUnion w.values item.value r.values
  pub order : r.sorted ≡ sorted

-- r has these known elements and this order, in the ranges of w
pub record IsRearranged (w : Window) (all : Bool) (known : List Item) (sorted : Sorted) (r : Window) : Type 0 where
  pub whole : r.all ≡ all
  pub items : r.known ≡ known
  pub keys : r.keys ≡ w.keys
  pub values : r.values ≡ w.values
  pub order : r.sorted ≡ sorted
