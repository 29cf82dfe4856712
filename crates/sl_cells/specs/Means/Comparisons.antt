-- Whether elements stand in an order, by what is known of neighbours.
use Rattle.std.specs.Prelude.{◌≡◌, ◌≢◌, ℤ, ◌≤ℤ◌, ◌<ℤ◌, List}
use Rattle.std.specs.List.{AllZip}
use Rattle.sl_intervals.specs.declared.interval.Interval.{Interval}
use Rattle.sl_intervals.specs.declared.sure.Sure.{Sure}
use Rattle.sl_intervals.specs.declared.sure.Sure.TheVariants.{Never, May, Always}
use Rattle.sl_intervals.specs.Intervals.{Holds, IsSingle}
use Rattle.sl_cells.specs.declared.item.Item.{Item}
use Rattle.sl_cells.specs.declared.order.Order.{Order}
use Rattle.sl_cells.specs.declared.order.Order.TheVariants.{Ascending, LessFirst, UptoFirst}
use Rattle.sl_cells.specs.Orders.{IsOrdered}
use Rattle.sl_cells.specs.Windows.{HoldsItem, IsOnly, ShowsOrder}

-- in this order, for the number z, the key q may stand behind p
abbrev pub Stands : Order → ℤ → ℤ → ℤ → Type 0
Stands Ascending z p q = p ≤ℤ q
Stands LessFirst z p q = q <ℤ z → p <ℤ z
Stands UptoFirst z p q = q ≤ℤ z → p ≤ℤ z

-- r tells whether members of b may stand behind members of a, for the members of x
pub record IsComparison (order : Order) (x a b : Interval) (r : Sure) : Type 0 where
  pub always : r ≡ Always → (z p q : ℤ) → Holds x z → Holds a p → Holds b q → Stands order z p q
  pub never : r ≡ Never → (z p q : ℤ) → Holds x z → Holds a p → Holds b q → Stands order z p q → ⊥
  pub exact : (z p q : ℤ) → IsSingle x z → IsSingle a p → IsSingle b q → r ≢ May
  pub shown : a.high ≤ℤ b.low → r ≡ Always

-- r tells whether the elements that these items say stand in the order, for the members of x
pub record IsWeighing (order : Order) (x : Interval) (items : List Item) (r : Sure) : Type 0 where
  pub always : r ≡ Always → (z : ℤ) (ys : List (ℤ × ℤ)) → Holds x z → AllZip HoldsItem items ys → IsOrdered (Stands order z) ys
  pub never : r ≡ Never → (z : ℤ) (ys : List (ℤ × ℤ)) → Holds x z → AllZip HoldsItem items ys → IsOrdered (Stands order z) ys → ⊥
  pub exact : (z : ℤ) (ys : List (ℤ × ℤ)) → IsSingle x z → AllZip IsOnly items ys → r ≢ May
  pub shown : ShowsOrder items → r ≡ Always
