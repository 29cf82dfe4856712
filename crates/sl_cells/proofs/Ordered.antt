-- Lists in an order, cut, joined and compared neighbour by neighbour.
use Rattle.std.proofs.Common.{ℕ, zero, suc, ◌<◌, ◌≤◌, ℤ, ◌≤ℤ◌, List, [], ◌∷◌, ◌++◌, length, take, drop, get_or, arith}
use Rattle.std.proofs.lemmas.Int.{ints}
use Rattle.std.specs.List.{AllByRecursion}
use Rattle.sl_cells.specs.declared.order.Order.{Order}
use Rattle.sl_cells.specs.declared.order.Order.TheVariants.{Ascending, LessFirst, UptoFirst}
use Rattle.sl_cells.specs.Orders.{IsOrdered, IsAscending}
use Rattle.sl_cells.specs.Means.Comparisons.{Stands}
use Rattle.sl_cells.proofs.Each.{each_append, each_take, each_drop, each_weaker}

module _ (R : ℤ → ℤ → Type 0) where
  -- R holds of the key of x and each of these
  abbrev pub Leads : (ℤ × ℤ) → List (ℤ × ℤ) → Type 0
  Leads x xs = AllByRecursion (λ (y : ℤ × ℤ). R x.0 y.0) xs

  pub ordered_take : (n : ℕ) (xs : List (ℤ × ℤ)) → IsOrdered R xs → IsOrdered R (take n xs)
  ordered_take zero xs o = tt
  ordered_take (suc n) [] o = tt
  ordered_take (suc n) (x ∷ xs) o = (each_take (λ (y : ℤ × ℤ). R x.0 y.0) n xs o.0, ordered_take n xs o.1)

  pub ordered_drop : (n : ℕ) (xs : List (ℤ × ℤ)) → IsOrdered R xs → IsOrdered R (drop n xs)
  ordered_drop zero xs o = o
  ordered_drop (suc n) [] o = tt
  ordered_drop (suc n) (x ∷ xs) o = ordered_drop n xs o.1

  -- without a stretch
  pub ordered_cut : (f t : ℕ) (xs : List (ℤ × ℤ)) → f ≤ t → IsOrdered R xs → IsOrdered R (take f xs ++ drop t xs)
  ordered_cut zero t xs l o = ordered_drop t xs o
  ordered_cut (suc f) zero xs l o = absurd (omega arith)
  ordered_cut (suc f) (suc t) [] l o = tt
  ordered_cut (suc f) (suc t) (x ∷ xs) l o = (
    each_append (λ (y : ℤ × ℤ). R x.0 y.0) (take f xs) (drop t xs) (each_take (λ (y : ℤ × ℤ). R x.0 y.0) f xs o.0)
        (each_drop (λ (y : ℤ × ℤ). R x.0 y.0) t xs o.0),
    ordered_cut f t xs (omega arith) o.1,
  )

  -- two lists in a row, of which each element of the first leads the second
  pub ordered_append : (xs ys : List (ℤ × ℤ)) → IsOrdered R xs → IsOrdered R ys → AllByRecursion (λ (x : ℤ × ℤ). Leads x ys) xs
      → IsOrdered R (xs ++ ys)
  ordered_append [] ys o p l = p
  ordered_append (x ∷ xs) ys o p l = (each_append (λ (y : ℤ × ℤ). R x.0 y.0) xs ys o.0 l.0, ordered_append xs ys o.1 p l.1)

  -- neighbours decide
  pub from_neighbours : ((p q r : ℤ) → R p q → R q r → R p r) → (xs : List (ℤ × ℤ))
      → ((k : ℕ) (d e : ℤ × ℤ) → suc k < length xs → R (get_or xs k d).0 (get_or xs (suc k) e).0) → IsOrdered R xs
  from_neighbours then [] near = tt
  from_neighbours then (x ∷ []) near = (tt, tt)
  from_neighbours then (x ∷ y ∷ ys) near =
      let rest = from_neighbours then (y ∷ ys) (λ k d e l. near (suc k) d e (omega arith)) in
      let first : R x.0 y.0 = near 0 x x (omega arith) in
      ((first, each_weaker (λ (w : ℤ × ℤ). R y.0 w.0) (λ (w : ℤ × ℤ). R x.0 w.0) (λ w h. then x.0 y.0 w.0 first h) ys rest.0), rest)

  pub neighbours : (xs : List (ℤ × ℤ)) (k : ℕ) (d e : ℤ × ℤ) → suc k < length xs → IsOrdered R xs → R (get_or xs k d).0 (get_or xs (suc k) e).0
  neighbours [] k d e l o = absurd (omega arith)
  neighbours (x ∷ []) k d e l o = absurd (omega arith)
  neighbours (x ∷ y ∷ ys) zero d e l o = o.0.0
  neighbours (x ∷ y ∷ ys) (suc k) d e l o = neighbours (y ∷ ys) k d e (omega arith) o.1

pub ordered_weaker : (R S : ℤ → ℤ → Type 0) → ((p q : ℤ) → R p q → S p q) → (xs : List (ℤ × ℤ)) → IsOrdered R xs → IsOrdered S xs
ordered_weaker R S w [] o = tt
ordered_weaker R S w (x ∷ xs) o = (
  each_weaker (λ (y : ℤ × ℤ). R x.0 y.0) (λ (y : ℤ × ℤ). S x.0 y.0) (λ y h. w x.0 y.0 h) xs o.0,
  ordered_weaker R S w xs o.1,
)

-- each order is transitive
pub stands_then : (order : Order) (z p q r : ℤ) → Stands order z p q → Stands order z q r → Stands order z p r
stands_then Ascending z p q r a b = omega (arith, ints)
stands_then LessFirst z p q r a b = λ h. a (b h)
stands_then UptoFirst z p q r a b = λ h. a (b h)

-- where keys ascend, each order is there
pub stands_where_ascending : (order : Order) (z p q : ℤ) → p ≤ℤ q → Stands order z p q
stands_where_ascending Ascending z p q a = a
stands_where_ascending LessFirst z p q a = λ h. omega (arith, ints)
stands_where_ascending UptoFirst z p q a = λ h. omega (arith, ints)

pub stands_everywhere : (order : Order) (z : ℤ) (xs : List (ℤ × ℤ)) → IsAscending xs → IsOrdered (Stands order z) xs
stands_everywhere order z xs o = ordered_weaker (λ p q. p ≤ℤ q) (Stands order z) (stands_where_ascending order z) xs o
