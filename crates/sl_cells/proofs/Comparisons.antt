-- What comparisons of neighbours tell.
use Rattle.std.proofs.Common.{◌≡◌, ◌≢◌, ℕ, suc, ◌+◌, ◌-◌, ◌<◌, ◌≤◌, ℤ, ◌≤ℤ◌, List, length, get_or, refl, sym, ap, subst, ◌∙◌, ⊎_elim, arith}
use Rattle.std.proofs.lemmas.Bool.{cases_eq}
use Rattle.std.proofs.lemmas.Int.{ints}
use Rattle.std.specs.List.{AllZip}
use Rattle.sl_intervals.specs.declared.interval.Interval.{Interval}
use Rattle.sl_intervals.specs.declared.sure.Sure.{Sure}
use Rattle.sl_intervals.specs.declared.sure.Sure.TheVariants.{Never, May, Always}
use Rattle.sl_intervals.specs.Intervals.{Holds, IsSingle}
use Rattle.sl_cells.specs.declared.item.Item.{Item}
use Rattle.sl_cells.specs.declared.order.Order.{Order}
use Rattle.sl_cells.specs.Windows.{HoldsItem, IsOnly, ShowsOrder}
use Rattle.sl_cells.specs.Means.Comparisons.{Stands, IsComparison}
use Rattle.sl_cells.proofs.Zips.{zip_at}

-- the three answers
pub sure_order : (order : Order) (x a b : Interval) → ((z p q : ℤ) → Holds x z → Holds a p → Holds b q → Stands order z p q)
    → IsComparison order x a b Always
sure_order order x a b h = record { always = λ e. h; never = λ e. absurd (cc); exact = λ z p q u v w e. cc; shown = λ l. refl }

pub sure_disorder : (order : Order) (x a b : Interval) → ((z p q : ℤ) → Holds x z → Holds a p → Holds b q → Stands order z p q → ⊥)
    → (a.high ≤ℤ b.low → ⊥) → IsComparison order x a b Never
sure_disorder order x a b h n = record { always = λ e. absurd (cc); never = λ e. h; exact = λ z p q u v w e. cc; shown = λ l. absurd (n l) }

pub unsure_order : (order : Order) (x a b : Interval) → ((z p q : ℤ) → IsSingle x z → IsSingle a p → IsSingle b q → ⊥) → (a.high ≤ℤ b.low → ⊥)
    → IsComparison order x a b May
unsure_order order x a b h n = record
    { always = λ e. absurd (cc); never = λ e. absurd (cc); exact = λ z p q u v w e. h z p q u v w; shown = λ l. absurd (n l) }

-- a is the key of the item at a place
abbrev pub IsKeyAt : Interval → List Item → ℕ → Type 0
IsKeyAt a items i = (d : Item) → a ≡ (get_or items i d).key

key_holds : (items : List Item) (ys : List (ℤ × ℤ)) (i k : ℕ) (a : Interval) (d : ℤ × ℤ) → IsKeyAt a items i → i ≡ k → k < length items
    → AllZip HoldsItem items ys → Holds a (get_or ys k d).0
key_holds items ys i k a d is e l z =
    let none : Item = record { key = a; value = a } in
    let same : a ≡ (get_or items k none).key = is none ∙ ap (λ n. (get_or items n none).key) e in
    let h = zip_at HoldsItem items ys k none d z l in
    subst (λ v. Holds v (get_or ys k d).0) (sym same) h.key

key_single : (items : List Item) (ys : List (ℤ × ℤ)) (i k : ℕ) (a : Interval) (d : ℤ × ℤ) → IsKeyAt a items i → i ≡ k → k < length items
    → AllZip IsOnly items ys → IsSingle a (get_or ys k d).0
key_single items ys i k a d is e l z =
    let none : Item = record { key = a; value = a } in
    let same : a ≡ (get_or items k none).key = is none ∙ ap (λ n. (get_or items n none).key) e in
    let h = zip_at IsOnly items ys k none d z l in
    subst (λ v. IsSingle v (get_or ys k d).0) (sym same) h.key

-- a and b are the keys of the neighbours at i - 1 and i
pub record IsNear (items : List Item) (i : ℕ) (a b : Interval) : Type 0 where
  pub above : 1 ≤ i
  pub inside : i < length items
  pub first : IsKeyAt a items (i - 1)
  pub second : IsKeyAt b items i

pub near_always : (order : Order) (x : Interval) (items : List Item) (i : ℕ) (a b : Interval) (r : Sure) → IsComparison order x a b r
    → IsNear items i a b → r ≡ Always → (z : ℤ) (ys : List (ℤ × ℤ)) → Holds x z → AllZip HoldsItem items ys → (k : ℕ) (d e : ℤ × ℤ) → suc k ≡ i
    → Stands order z (get_or ys k d).0 (get_or ys (suc k) e).0
near_always order x items i a b r is near sure z ys m zip k d e at =
    let one = near.above in let in' = near.inside in
    is.always sure z _ _ m
    (key_holds items ys (i - 1) k a d near.first (omega arith) (omega arith) zip)
    (key_holds items ys i (suc k) b e near.second (omega arith) (omega arith) zip)

pub near_never : (order : Order) (x : Interval) (items : List Item) (i : ℕ) (a b : Interval) (r : Sure) → IsComparison order x a b r
    → IsNear items i a b → r ≡ Never → (z : ℤ) (ys : List (ℤ × ℤ)) (d e : ℤ × ℤ) → Holds x z → AllZip HoldsItem items ys → (k : ℕ) → suc k ≡ i
    → Stands order z (get_or ys k d).0 (get_or ys (suc k) e).0 → ⊥
near_never order x items i a b r is near never z ys d e m zip k at =
    let one = near.above in let in' = near.inside in
    is.never never z _ _ m
    (key_holds items ys (i - 1) k a d near.first (omega arith) (omega arith) zip)
    (key_holds items ys i (suc k) b e near.second (omega arith) (omega arith) zip)

pub near_exact : (order : Order) (x : Interval) (items : List Item) (i : ℕ) (a b : Interval) (r : Sure) → IsComparison order x a b r
    → IsNear items i a b → (z : ℤ) (ys : List (ℤ × ℤ)) → IsSingle x z → AllZip IsOnly items ys → r ≢ May
near_exact order x items i a b r is near z ys m zip =
    let one = near.above in let in' = near.inside in
    is.exact z _ _ m
    (key_single items ys (i - 1) (i - 1) a (z, z) near.first (omega arith) (omega arith) zip)
    (key_single items ys i i b (z, z) near.second (omega arith) (omega arith) zip)

pub near_shown : (order : Order) (x : Interval) (items : List Item) (i : ℕ) (a b : Interval) (r : Sure) → IsComparison order x a b r
    → IsNear items i a b → ShowsOrder items → r ≡ Always
near_shown order x items i a b r is near shows =
    let one = near.above in let in' = near.inside in
    let none : Item = record { key = a; value = a } in
    let next : suc (i - 1) ≡ i = omega arith in
    let l = shows (i - 1) none (omega arith) in
    let p : a.high ≡ (get_or items (i - 1) none).key.high = ap (λ v. v.high) (near.first none) in
    let q : b.low ≡ (get_or items (suc (i - 1)) none).key.low = ap (λ v. v.low) (near.second none ∙ ap (λ n. (get_or items n none).key) (sym next)) in
    is.shown (omega (arith, ints))

-- a place before the next one is one of those before, or the last of them
pub below_next : {P : Type 0} (k i : ℕ) → suc k < i + 1 → (suc k < i → P) → (suc k ≡ i → P) → P
below_next k i l old new = ⊎_elim (λ (e : suc k ≡ i). new e) (λ (n : suc k ≡ i → ⊥). old (omega arith)) (cases_eq (suc k) i)
