-- What is known of one element.
use Rattle.std.proofs.Common.{◌≡◌, ℕ, zero, suc, ◌<◌, pos, true, List, [], ◌∷◌, length, get_or, Some, sym, ap, subst, ◌∙◌, arith}
use Rattle.std.proofs.lemmas.Int.{ints}
use Rattle.std.proofs.lemmas.List.{get_or_default}
use Rattle.std.specs.List.{AllByRecursion, slice_get}
use Rattle.sl_intervals.specs.declared.interval.Interval.{Interval}
use Rattle.sl_intervals.specs.Intervals.{Holds, IsSingle}
use Rattle.sl_cells.specs.declared.item.Item.{Item}
use Rattle.sl_cells.specs.Windows.{Window, ranges, HoldsItem, IsOnly, IsInt}
use Rattle.sl_cells.specs.Reads.{IsRead}
use Rattle.sl_cells.proofs.Zips.{zip_at, zip_length}

-- the place at which an element stands is inside
pub get_inside : {A : Type 0} (xs : List A) (k : ℕ) (x : A) → slice_get xs k ≡ Some x → k < length xs
get_inside [] k x e = absurd (cc)
get_inside (y ∷ ys) zero x e = omega arith
get_inside (y ∷ ys) (suc k) x e = let l = get_inside ys k x e in omega arith

pub get_same : {A : Type 0} (xs : List A) (k : ℕ) (x d : A) → slice_get xs k ≡ Some x → get_or xs k d ≡ x
get_same [] k x d e = absurd (cc)
get_same (y ∷ ys) zero x d e = cc
get_same (y ∷ ys) (suc k) x d e = get_same ys k x d e

pub each_at : {A : Type 0} (P : A → Type 0) (xs : List A) (k : ℕ) (d : A) → AllByRecursion P xs → k < length xs → P (get_or xs k d)
each_at P [] k d p l = absurd (omega arith)
each_at P (x ∷ xs) zero d p l = p.0
each_at P (x ∷ xs) (suc k) d p l = each_at P xs k d p.1 (omega arith)

-- two members of an interval with one member
pub same_place : (at : Interval) (p k : ℕ) → IsSingle at (pos p) → Holds at (pos k) → p ≡ k
same_place at p k s h = omega (arith, ints)

pub one_place : (at : Interval) (p k : ℕ) → IsSingle at (pos p) → IsSingle at (pos k) → p ≡ k
one_place at p k s h = omega (arith, ints)

-- the known element at the place
pub read_known : (w : Window) (at : Interval) (p : ℕ) (d : Item) → w.all ≡ true → IsSingle at (pos p) → p < length w.known
    → IsRead w at (get_or w.known p d)
read_known w at p d all s l = record {
  holds = λ xs x k is h e.
      let same : k ≡ p = sym (same_place at p k s h) in
      let r = zip_at HoldsItem w.known xs p d x (is.window all) l in
      subst (HoldsItem (get_or w.known p d)) (ap (λ n. get_or xs n x) (sym same) ∙ get_same xs k x x e) r;
  exact = λ xs x k is h e.
      let same : k ≡ p = sym (one_place at p k s h) in
      let r = zip_at IsOnly w.known xs p d x is.known l in
      subst (IsOnly (get_or w.known p d)) (ap (λ n. get_or xs n x) (sym same) ∙ get_same xs k x x e) r;
  known = λ k e a h m.
      let same : p ≡ k = one_place at p k s h in
      ap (λ n. get_or w.known n d) same ∙ get_or_default w.known k d e m;
  ints = λ is. each_at IsInt w.known p d is.known l;
}

-- an element that is only known by the ranges
pub read_ranges : (w : Window) (at : Interval) → (w.all ≡ true → (p : ℕ) → p < length w.known → IsSingle at (pos p) → ⊥) → IsRead w at (ranges w)
read_ranges w at none = record {
  holds = λ xs x k is h e. subst (HoldsItem (ranges w)) (get_same xs k x x e) (each_at (HoldsItem (ranges w)) xs k x is.ranged (get_inside xs k x e));
  exact = λ xs x k is h e.
      let l = get_inside xs k x e in
      let n = zip_length IsOnly w.known xs is.known in
      absurd (none is.all k (omega arith) h);
  known = λ k d a h l. absurd (none a k l h);
  ints = λ is. record { key = is.keys; value = is.values };
}
