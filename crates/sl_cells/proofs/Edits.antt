-- Insertions, erasures and writes.
use Rattle.std.proofs.Common.{◌≡◌, ℕ, suc, ◌<◌, ◌≤◌, ◌++◌, ℤ, pos, ◌≤ℤ◌, true, false, List, [], ◌∷◌, length, take, drop, sym, ap, subst, ◌∙◌, arith}
use Rattle.std.proofs.Common.{inl}
use Rattle.std.proofs.Common.{inr, ⊎_elim}
use Rattle.std.proofs.lemmas.Bool.{cases_Bool}
use Rattle.std.proofs.lemmas.List.{set_split}
use Rattle.std.specs.List.{AllByRecursion, AllZip, insert, remove_range}
use Rattle.sl_base.specs.declared.scalar.Scalar.TheVariants as kind
use Rattle.sl_model.specs.Numbers.{lowest, highest}
use Rattle.sl_intervals.specs.declared.interval.Interval.{Interval}
use Rattle.sl_intervals.specs.Intervals.{IsSingle, LiesIn, IsWithin, IsEmpty, IsAtLeast, IsAtMost}
use Rattle.sl_cells.specs.declared.item.Item.{Item}
use Rattle.sl_cells.specs.declared.sorted.Sorted.{Sorted}
use Rattle.sl_cells.specs.declared.sorted.Sorted.TheVariants.{Yes, Unknown}
use Rattle.sl_cells.specs.Orders.{IsAscending}
use Rattle.sl_cells.specs.Windows.{Window, ranges, HoldsItem, IsOnly, Describes, Knows, KnowsOrder, IsInt, IsOfInts}
use Rattle.sl_cells.specs.Ranges.{IsUnion}
use Rattle.sl_cells.specs.Edits.{IsBetween, IsInsertion, IsErasure, IsWrite}
use Rattle.sl_cells.specs.Means.Puts.{IsPut, IsSpread, IsRearranged}
use Rattle.sl_cells.proofs.Each.{each_append, each_take, each_drop, each_cut}
use Rattle.sl_cells.proofs.Zips.{zip_cut, zip_length}
use Rattle.sl_cells.proofs.Ordered.{ordered_cut}
use Rattle.sl_cells.proofs.Reading.{same_place, one_place}
use Rattle.sl_cells.proofs.Between.{between_list, put_describes, put_knows, spread_describes}

-- an interval with these ends lies in int
from_ends : (r : Interval) → IsAtLeast r (lowest kind.Int) → IsAtMost r (highest kind.Int) → LiesIn kind.Int r
from_ends r p q = ⊎_elim (λ (e : IsEmpty r). inl e)
    (λ (l : lowest kind.Int ≤ℤ r.low). ⊎_elim (λ (e : IsEmpty r). inl e) (λ (h : r.high ≤ℤ highest kind.Int). inr (record { low = l; high = h })) q)
    p

low_end : (a : Interval) → LiesIn kind.Int a → IsAtLeast a (lowest kind.Int)
low_end a p = ⊎_elim (λ (e : IsEmpty a). inl e) (λ (w : IsWithin kind.Int a). inr w.low) p

high_end : (a : Interval) → LiesIn kind.Int a → IsAtMost a (highest kind.Int)
high_end a p = ⊎_elim (λ (e : IsEmpty a). inl e) (λ (w : IsWithin kind.Int a). inr w.high) p

-- numbers of type int together
pub union_int : (a b r : Interval) → IsUnion a b r → LiesIn kind.Int a → LiesIn kind.Int b → LiesIn kind.Int r
union_int a b r u p q = from_ends r (u.least (lowest kind.Int) (low_end a p) (low_end b q)) (u.most (highest kind.Int) (high_end a p) (high_end b q))

put_ints : (n : ℕ) (w : Window) (front back : ℕ) (item : Item) (r : Window) → IsPut n w front back item r → IsOfInts w → IsInt item → IsOfInts r
put_ints n w front back item r put is h = record {
  known = ⊎_elim
      (λ (e : r.all ≡ true). rw (put.window e)
      (each_append IsInt (take front w.known) (item ∷ drop back w.known) (each_take IsInt front w.known is.known)
      (h, each_drop IsInt back w.known is.known)))
      (λ (e : r.all ≡ false). rw (put.none e) tt)
      (cases_Bool r.all);
  keys = union_int w.keys item.key r.keys put.keys is.keys h.key;
  values = union_int w.values item.value r.values put.values is.values h.value;
}

-- an element at a known place
pub put_insertion : (n : ℕ) (w : Window) (at : Interval) (p : ℕ) (item : Item) (r : Window) → IsPut n w p p item r → w.all ≡ true
    → IsSingle at (pos p) → p ≤ length w.known → IsInsertion n w at item r
put_insertion n w at p item r put all s l = record {
  describes = λ xs x k is h m i.
      let same : p ≡ k = same_place at p k s h in
      subst (λ j. Describes r (insert xs j x)) same (put_describes n w p p item r put all (omega arith) l xs x is i);
  exact = λ xs x k is h m room i.
      let same : p ≡ k = one_place at p k s h in
      let len = zip_length IsOnly w.known xs is.known in
      subst (λ j. Knows r (insert xs j x)) same (put_knows n w p p item r put (omega arith) l (omega arith) xs x is i);
  window = λ k a h m room.
      let same : p ≡ k = one_place at p k s h in
      let whole = put.room (omega arith) in
      (whole, put.window whole ∙ ap (λ j. insert w.known j item) same);
  order = λ k a sorted h m b. let same : p ≡ k = one_place at p k s h in put.order sorted (subst (λ j. IsBetween w.known j j item.key) (sym same) b);
  keys = put.keys;
  values = put.values;
  ints = put_ints n w p p item r put;
}

pub put_write : (n : ℕ) (w : Window) (at : Interval) (p : ℕ) (item : Item) (r : Window) → IsPut n w p (suc p) item r → length w.known ≤ n
    → w.all ≡ true → IsSingle at (pos p) → p < length w.known → IsWrite w at item r
put_write n w at p item r put room all s l = record {
  describes = λ xs x k is h m i.
      let same : p ≡ k = same_place at p k s h in
      subst (Describes r) (ap (λ j. between_list xs j (suc j) x) same ∙ sym (set_split xs k x m))
      (put_describes n w p (suc p) item r put all (omega arith) (omega arith) xs x is i);
  exact = λ xs x k is h m i.
      let same : p ≡ k = one_place at p k s h in
      subst (Knows r) (ap (λ j. between_list xs j (suc j) x) same ∙ sym (set_split xs k x m))
      (put_knows n w p (suc p) item r put (omega arith) (omega arith) (omega arith) xs x is i);
  window = λ k a h m.
      let same : p ≡ k = one_place at p k s h in
      let whole = put.room (omega arith) in
      (whole, put.window whole ∙ ap (λ j. take j w.known ++ item ∷ drop (suc j) w.known) same ∙ sym (set_split w.known k item m));
  order = λ k a sorted h m b. let same : p ≡ k = one_place at p k s h in put.order sorted
      (subst (λ j. IsBetween w.known j (suc j) item.key) (sym same) b);
  keys = put.keys;
  values = put.values;
  ints = put_ints n w p (suc p) item r put;
}

-- an element at an unknown place
pub spread_ints : (w r : Window) (item : Item) → r.known ≡ [] → IsUnion w.keys item.key r.keys → IsUnion w.values item.value r.values → IsOfInts w
    → IsInt item → IsOfInts r
spread_ints w r item none k v is h = record {
  known = rw none tt;
  keys = union_int w.keys item.key r.keys k is.keys h.key;
  values = union_int w.values item.value r.values v is.values h.value;
}

pub spread_insertion : (n : ℕ) (w : Window) (at : Interval) (item : Item) (r : Window) → IsSpread w item Unknown r
    → (w.all ≡ true → (p : ℕ) → p ≤ length w.known → IsSingle at (pos p) → ⊥) → IsInsertion n w at item r
spread_insertion n w at item r s open' = record {
  describes = λ xs x k is h m i. spread_describes w r item s.all s.order s.keys s.values xs x k k is i;
  exact = λ xs x k is h m room i. let n = zip_length IsOnly w.known xs is.known in absurd (open' is.all k (omega arith) h);
  window = λ k a h m room. absurd (open' a k m h);
  order = λ k a sorted h m b. absurd (open' a k m h);
  keys = s.keys;
  values = s.values;
  ints = spread_ints w r item s.none s.keys s.values;
}

pub spread_write : (w : Window) (at : Interval) (item : Item) (r : Window) → IsSpread w item Unknown r
    → (w.all ≡ true → (p : ℕ) → p < length w.known → IsSingle at (pos p) → ⊥) → IsWrite w at item r
spread_write w at item r s open' = record {
  describes = λ xs x k is h m i. subst (Describes r) (sym (set_split xs k x m))
      (spread_describes w r item s.all s.order s.keys s.values xs x k (suc k) is i);
  exact = λ xs x k is h m i. let n = zip_length IsOnly w.known xs is.known in absurd (open' is.all k (omega arith) h);
  window = λ k a h m. absurd (open' a k m h);
  order = λ k a sorted h m b. absurd (open' a k m h);
  keys = s.keys;
  values = s.values;
  ints = spread_ints w r item s.none s.keys s.values;
}

-- what is known of the order of w
pub record IsOrderOf (w : Window) (sorted : Sorted) : Type 0 where
  pub ascends : sorted ≡ Yes → (xs : List (ℤ × ℤ)) → Describes w xs → IsAscending xs
  pub kept : KnowsOrder w → sorted ≡ Yes

-- without a stretch: between known places, and between unknown ones
less_describes : (w r : Window) (xs : List (ℤ × ℤ)) (f t : ℕ) → r.keys ≡ w.keys → r.values ≡ w.values
    → (r.sorted ≡ Yes → (ys : List (ℤ × ℤ)) → Describes w ys → IsAscending ys) → f ≤ t → Describes w xs
    → (r.all ≡ true → AllZip HoldsItem r.known (remove_range xs f t)) → Describes r (remove_range xs f t)
less_describes w r xs f t k v order l is zip = record {
  window = zip;
  ranged = subst (λ (i : Item). AllByRecursion (HoldsItem i) (remove_range xs f t)) (sym (same_ranges w r k v))
      (each_cut (HoldsItem (ranges w)) f t xs is.ranged);
  order = λ e. ordered_cut (λ p q. p ≤ℤ q) f t xs l (order e xs is);
}
  where
    same_ranges : (w r : Window) → r.keys ≡ w.keys → r.values ≡ w.values → ranges r ≡ ranges w
    same_ranges w r k v = λ i. record { key = k i; value = v i }

less_ints : (w r : Window) → r.keys ≡ w.keys → r.values ≡ w.values → (IsOfInts w → AllByRecursion IsInt r.known) → IsOfInts w → IsOfInts r
less_ints w r k v known is = record { known = known is; keys = rw k is.keys; values = rw v is.values }

pub known_erasure : (w : Window) (from to : Interval) (f t : ℕ) (sorted : Sorted) (r : Window)
    → IsRearranged w true (remove_range w.known f t) sorted r → IsOrderOf w sorted → w.all ≡ true → IsSingle from (pos f) → IsSingle to (pos t)
    → IsErasure w from to r
known_erasure w from to f t sorted r s order all a b =
    let place = λ (g u : ℕ) (p : f ≡ g) (q : t ≡ u) (xs : List (ℤ × ℤ)). ap (λ j. remove_range xs j t) p ∙ ap (λ j. remove_range xs g j) q in
    record {
      describes = λ xs g u is part.
          let p : f ≡ g = same_place from f g a part.first in
          let q : t ≡ u = same_place to t u b part.last in
          let l = part.order in
          subst (Describes r) (place g u p q xs) (cut xs (omega arith) is);
      exact = λ xs g u is h i l m.
          let p : f ≡ g = one_place from f g a h in
          let q : t ≡ u = one_place to t u b i in
          subst (Knows r) (place g u p q xs) (record {
            describes = cut xs (omega arith) is.describes;
            all = s.whole;
            known = rw s.items (zip_cut IsOnly f t w.known xs is.known);
          });
      window = λ g u e h i l m.
          let p : f ≡ g = one_place from f g a h in
          let q : t ≡ u = one_place to t u b i in
          (s.whole, s.items ∙ ap (λ j. remove_range w.known j t) p ∙ ap (λ j. remove_range w.known g j) q);
      order = λ o. s.order ∙ order.kept o;
      keys = s.keys;
      values = s.values;
      ints = less_ints w r s.keys s.values (λ is. rw s.items (each_cut IsInt f t w.known is.known));
    }
  where
    cut : (xs : List (ℤ × ℤ)) → f ≤ t → Describes w xs → Describes r (remove_range xs f t)
    cut xs l is = less_describes w r xs f t s.keys s.values (λ e. order.ascends (sym s.order ∙ e)) l is
        (λ e. rw s.items (zip_cut HoldsItem f t w.known xs (is.window all)))

pub open_erasure : (w : Window) (from to : Interval) (sorted : Sorted) (r : Window) → IsRearranged w false [] sorted r → IsOrderOf w sorted
    → (w.all ≡ true → (f t : ℕ) → f ≤ t → t ≤ length w.known → IsSingle from (pos f) → IsSingle to (pos t) → ⊥) → IsErasure w from to r
open_erasure w from to sorted r s order open' = record {
  describes = λ xs f t is part. less_describes w r xs f t s.keys s.values (λ e. order.ascends (sym s.order ∙ e)) part.order is
      (λ e. let none = s.whole in absurd (cc));
  exact = λ xs f t is a b l m. let n = zip_length IsOnly w.known xs is.known in absurd (open' is.all f t l (omega arith) a b);
  window = λ f t e a b l m. absurd (open' e f t l m a b);
  order = λ o. s.order ∙ order.kept o;
  keys = s.keys;
  values = s.values;
  ints = less_ints w r s.keys s.values (λ is. rw s.items tt);
}
