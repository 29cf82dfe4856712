-- Warnings in the order of a report.
use Rattle.std.proofs.Common.{arith, ◌≡◌, ℕ, zero, suc, ◌<◌, List, [], ◌∷◌, Some, inl, inr, refl, sym}
use Rattle.std.specs.Prelude.{slice_get}
use Rattle.std.specs.Cmp.{nat_cmp_is}
use Rattle.std.specs.List.{AllByRecursion}
use Rattle.std.specs.List.Sorted.{IsStrictlySortedBy}
use Rattle.std.specs.declared.cmp.Ordering.TheVariants.{Less, Equal}
use Rattle.sl_base.specs.Places.{IsPlaceBefore}
use Rattle.sl_model.specs.Reports.Covers.{Warning}
use Rattle.sl_warnings.specs.Reports.{warning_cmp, IsAscending}

-- a warning at an earlier place is less
pub earlier_less : (v w : Warning) → IsPlaceBefore v.place w.place → warning_cmp v w ≡ Less
earlier_less v w (inl line) = rw (sym (nat_cmp_is v.place.line w.place.line Less line), warning_cmp) refl
earlier_less v w (inr (line, col)) =
    rw (sym (nat_cmp_is v.place.line w.place.line Equal line), sym (nat_cmp_is v.place.col w.place.col Less col), warning_cmp) refl

all_behind : (v : Warning) (r : List Warning) → ((j : ℕ) (w : Warning) → slice_get r j ≡ Some w → warning_cmp v w ≡ Less)
    → AllByRecursion (λ w. warning_cmp v w ≡ Less) r
all_behind v [] h = tt
all_behind v (w ∷ r) h = (h 0 w refl, all_behind v r (λ j x e. h (suc j) x e))

-- warnings ascend where each is less than those behind it
pub ascending : (r : List Warning) → ((i j : ℕ) (v w : Warning) → i < j → slice_get r i ≡ Some v → slice_get r j ≡ Some w → warning_cmp v w ≡ Less)
    → IsAscending r
unfolding IsStrictlySortedBy
ascending [] h = tt
ascending (v ∷ r) h =
    (all_behind v r (λ j w e. h 0 (suc j) v w (omega arith) refl e), ascending r (λ i j x y lt a b. h (suc i) (suc j) x y (omega arith) a b))

less_behind : (v : Warning) (r : List Warning) (j : ℕ) (w : Warning) → AllByRecursion (λ y. warning_cmp v y ≡ Less) r → slice_get r j ≡ Some w
    → warning_cmp v w ≡ Less
less_behind v [] j w all h = absurd cc
less_behind v (x ∷ r) zero w all h = let same : x ≡ w = cc in rw same at all.0
less_behind v (x ∷ r) (suc j) w all h = less_behind v r j w all.1 h

-- and each is, where they ascend
pub less_in : (r : List Warning) → IsAscending r → (i j : ℕ) (v w : Warning) → i < j → slice_get r i ≡ Some v → slice_get r j ≡ Some w
    → warning_cmp v w ≡ Less
unfolding IsStrictlySortedBy
less_in [] ascend i j v w lt a b = absurd cc
less_in (x ∷ r) ascend i zero v w lt a b = absurd (omega arith)
less_in (x ∷ r) ascend zero (suc j) v w lt a b = let same : x ≡ v = cc in less_behind v r j w (rw same at ascend.0) b
less_in (x ∷ r) ascend (suc i) (suc j) v w lt a b = less_in r ascend.1 i j v w (omega arith) a b
