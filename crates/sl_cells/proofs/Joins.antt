-- Joins and widenings.
use Rattle.std.proofs.Common.{◌≡◌, ℕ, zero, suc, ◌+◌, ◌<◌, ℤ, ◌≤ℤ◌, true, false, List, [], ◌∷◌, ◌++◌, length, get_or, refl, sym, subst, ◌∙◌, arith}
use Rattle.std.proofs.Common.{◌⊎◌, inl, inr, ⊎_elim}
use Rattle.std.proofs.lemmas.Int.{ints}
use Rattle.std.proofs.lemmas.Bool.{cases_eq}
use Rattle.std.specs.List.{AllByRecursion, AllZip}
use Rattle.sl_base.specs.declared.scalar.Scalar.TheVariants as kind
use Rattle.sl_intervals.specs.declared.interval.Interval.{Interval}
use Rattle.sl_intervals.specs.Intervals.{Holds, IsSingle, LiesIn, IsEmpty}
use Rattle.sl_cells.specs.declared.item.Item.{Item}
use Rattle.sl_cells.specs.declared.sorted.Sorted.TheVariants.{Yes}
use Rattle.sl_cells.specs.Orders.{IsAscending}
use Rattle.sl_cells.specs.Windows.{Window, ranges, HoldsItem, IsOnly, Describes, KnowsOrder, IsInt}
use Rattle.sl_cells.specs.Ranges.{IsUnion, IsWidening, IsItemwise}
use Rattle.sl_cells.specs.Joins.{IsJoin}
use Rattle.sl_cells.proofs.Each.{each_weaker}
use Rattle.sl_cells.proofs.Zips.{zip_at, zip_length}
use Rattle.sl_cells.proofs.Reading.{each_at}
use Rattle.sl_cells.proofs.Edits.{union_int}

-- elements that go together, by their places
pub zip_from_places : {A B : Type 0} (R : A → B → Type 0) (xs : List A) (ys : List B) → length xs ≡ length ys
    → ((k : ℕ) (d : A) (e : B) → k < length xs → R (get_or xs k d) (get_or ys k e)) → AllZip R xs ys
zip_from_places R [] [] same at = tt
zip_from_places R [] (y ∷ ys) same at = absurd (omega arith)
zip_from_places R (x ∷ xs) [] same at = absurd (omega arith)
zip_from_places R (x ∷ xs) (y ∷ ys) same
    at = (at zero x y (omega arith), zip_from_places R xs ys (omega arith) (λ k d e l. at (suc k) d e (omega arith)))

pub each_from_places : {A : Type 0} (P : A → Type 0) (xs : List A) → ((k : ℕ) (d : A) → k < length xs → P (get_or xs k d)) → AllByRecursion P xs
each_from_places P [] at = tt
each_from_places P (x ∷ xs) at = (at zero x (omega arith), each_from_places P xs (λ k d l. at (suc k) d (omega arith)))

-- a list with one more element behind
pub get_pushed : {A : Type 0} (xs : List A) (x d : A) (k : ℕ) → k ≡ length xs → get_or (xs ++ x ∷ []) k d ≡ x
get_pushed [] x d zero e = refl
get_pushed [] x d (suc k) e = absurd (omega arith)
get_pushed (y ∷ ys) x d zero e = absurd (omega arith)
get_pushed (y ∷ ys) x d (suc k) e = get_pushed ys x d k (omega arith)

pub get_before : {A : Type 0} (xs : List A) (x d : A) (k : ℕ) → k < length xs → get_or (xs ++ x ∷ []) k d ≡ get_or xs k d
get_before [] x d k l = absurd (omega arith)
get_before (y ∷ ys) x d zero l = refl
get_before (y ∷ ys) x d (suc k) l = get_before ys x d k (omega arith)

-- one more item that is made of two
pub push_made : (R : Interval → Interval → Interval → Type 0) (part : Item → Interval) (firsts seconds known : List Item) (i : ℕ) (a b x : Item)
    → i ≡ length known → ((d : Item) → a ≡ get_or firsts i d) → ((d : Item) → b ≡ get_or seconds i d) → R (part a) (part b) (part x)
    → ((k : ℕ) (d : Item) → k < i → R (part (get_or firsts k d)) (part (get_or seconds k d)) (part (get_or known k d))) → (k : ℕ) (d : Item)
    → k < i + 1 → R (part (get_or firsts k d)) (part (get_or seconds k d)) (part (get_or (known ++ x ∷ []) k d))
push_made R part firsts seconds known i a b x n p q made before k d l = ⊎_elim
    (λ (e : k ≡ i). rw (e, get_pushed known x d i n, sym (p d), sym (q d)) made)
    (λ (u : k ≡ i → ⊥). rw (get_before known x d k (omega arith)) (before k d (omega arith)))
    (cases_eq k i)

-- how two ranges become one: what a join and a widening have in common
pub record IsMixing (R : Interval → Interval → Interval → Type 0) : Type 0 where
  pub holds : (a b r : Interval) (z : ℤ) → R a b r → (Holds a z ⊎ Holds b z) → Holds r z
  pub single : (a b r : Interval) (z : ℤ) → R a b r → IsSingle a z → IsSingle b z → IsSingle r z
  pub ints : (a b r : Interval) → R a b r → LiesIn kind.Int a → LiesIn kind.Int b → LiesIn kind.Int r

union_single : (a b r : Interval) (z : ℤ) → IsUnion a b r → IsSingle a z → IsSingle b z → IsSingle r z
union_single a b r z u p q =
    let h = u.holds z (inl (record { low = omega (arith, ints); high = omega (arith, ints) })) in
    let l = u.least z (inr (omega (arith, ints))) (inr (omega (arith, ints))) in
    let m = u.most z (inr (omega (arith, ints))) (inr (omega (arith, ints))) in
    record {
      low = ⊎_elim (λ (e : IsEmpty r). absurd (omega (arith, ints))) (λ (g : z ≤ℤ r.low). omega (arith, ints)) l;
      high = ⊎_elim (λ (e : IsEmpty r). absurd (omega (arith, ints))) (λ (g : r.high ≤ℤ z). omega (arith, ints)) m;
    }

pub union_mixes : IsMixing IsUnion
union_mixes = record { holds = λ a b r z u. u.holds z; single = union_single; ints = union_int }

widening_single : (constants : List ℤ) (a b r : Interval) (z : ℤ) → IsWidening constants a b r → IsSingle a z → IsSingle b z → IsSingle r z
widening_single constants a b r z u p q =
    let l = u.low_kept (omega (arith, ints)) (omega (arith, ints)) (omega (arith, ints)) in
    let m = u.high_kept (omega (arith, ints)) (omega (arith, ints)) (omega (arith, ints)) in
    record { low = omega (arith, ints); high = omega (arith, ints) }

pub widening_mixes : (constants : List ℤ) → IsMixing (IsWidening constants)
widening_mixes constants = record { holds = λ a b r z u. u.holds z; single = widening_single constants; ints = λ a b r u p q. u.ints }

-- windows that become one
module _ (R : Interval → Interval → Interval → Type 0) (mix : IsMixing R) (w v r : Window) (keys : R w.keys v.keys r.keys)
    (values : R w.values v.values r.values) where
  first_ranged : (xs : List (ℤ × ℤ)) → AllByRecursion (HoldsItem (ranges w)) xs → AllByRecursion (HoldsItem (ranges r)) xs
  first_ranged xs h = each_weaker (HoldsItem (ranges w)) (HoldsItem (ranges r))
      (λ x i. record {
        key = mix.holds w.keys v.keys r.keys x.0 keys (inl i.key);
        value = mix.holds w.values v.values r.values x.1 values
            (inl i.value);
      }) xs h

  second_ranged : (xs : List (ℤ × ℤ)) → AllByRecursion (HoldsItem (ranges v)) xs → AllByRecursion (HoldsItem (ranges r)) xs
  second_ranged xs h = each_weaker (HoldsItem (ranges v)) (HoldsItem (ranges r))
      (λ x i. record {
        key = mix.holds w.keys v.keys r.keys x.0 keys (inr i.key);
        value = mix.holds w.values v.values r.values x.1 values
            (inr i.value);
      }) xs h

  -- no known elements
  pub open_join : r.all ≡ false → r.known ≡ [] → ((xs : List (ℤ × ℤ)) → r.sorted ≡ Yes → Describes w xs → IsAscending xs)
      → ((xs : List (ℤ × ℤ)) → r.sorted ≡ Yes → Describes v xs → IsAscending xs) → (KnowsOrder w → KnowsOrder v → r.sorted ≡ Yes)
      → (w.all ≡ true → v.all ≡ true → length w.known ≡ length v.known → ⊥) → IsJoin R w v r
  open_join none empty left right order unlike = record {
    first = λ xs d. record { window = λ e. absurd (cc); ranged = first_ranged xs d.ranged; order = λ e. left xs e d };
    second = λ xs d. record { window = λ e. absurd (cc); ranged = second_ranged xs d.ranged; order = λ e. right xs e d };
    exact = λ xs k l. absurd (unlike k.all l.all (zip_length IsOnly w.known xs k.known ∙ sym (zip_length IsOnly v.known xs l.known)));
    all = λ e f n. absurd (unlike e f n);
    known = λ e. absurd (cc);
    order = order;
    keys = keys;
    values = values;
    ints = λ i j. record {
      known = rw empty tt;
      keys = mix.ints w.keys v.keys r.keys keys i.keys j.keys;
      values = mix.ints w.values v.values r.values values i.values j.values;
    };
  }

  -- as many known elements in both
  pub known_join : r.all ≡ true → IsItemwise R w.known v.known r.known → ((xs : List (ℤ × ℤ)) → r.sorted ≡ Yes → Describes w xs → IsAscending xs)
      → ((xs : List (ℤ × ℤ)) → r.sorted ≡ Yes → Describes v xs → IsAscending xs) → (KnowsOrder w → KnowsOrder v → r.sorted ≡ Yes) → w.all ≡ true
      → v.all ≡ true → length w.known ≡ length v.known → IsJoin R w v r
  known_join given each left right order wall vall same = record {
    first = λ xs d. first' xs d;
    second = λ xs d. second' xs d;
    exact = λ xs k l. record { describes = first' xs k.describes; all = given; known = only xs k.known l.known };
    all = λ e f n. given;
    known = λ e. each;
    order = order;
    keys = keys;
    values = values;
    ints = λ i j. record {
      known = each_from_places IsInt r.known (λ k d l.
          let many = each.many in
          let a = each_at IsInt w.known k d i.known (omega arith) in
          let b = each_at IsInt v.known k d j.known (omega arith) in
          record {
            key = mix.ints _ _ _ (each.keys k d (omega arith)) a.key b.key;
            value = mix.ints _ _ _
                (each.values k d (omega arith)) a.value b.value;
          });
      keys = mix.ints w.keys v.keys r.keys keys i.keys j.keys;
      values = mix.ints w.values v.values r.values values i.values j.values;
    };
  }
    where
      holds : (k : ℕ) (d : Item) → k < length w.known → (x : ℤ × ℤ) → (HoldsItem (get_or w.known k d) x ⊎ HoldsItem (get_or v.known k d) x)
          → HoldsItem (get_or r.known k d) x
      holds k d l x h = ⊎_elim
          (λ (i : HoldsItem (get_or w.known k d) x).
          record { key = mix.holds _ _ _ x.0 (each.keys k d l) (inl i.key); value = mix.holds _ _ _ x.1 (each.values k d l) (inl i.value) })
          (λ (i : HoldsItem (get_or v.known k d) x).
          record { key = mix.holds _ _ _ x.0 (each.keys k d l) (inr i.key); value = mix.holds _ _ _ x.1 (each.values k d l) (inr i.value) })
          h

      only : (xs : List (ℤ × ℤ)) → AllZip IsOnly w.known xs → AllZip IsOnly v.known xs → AllZip IsOnly r.known xs
      only xs z y =
          let n = zip_length IsOnly w.known xs z in let many = each.many in
          zip_from_places IsOnly r.known xs (omega arith) (λ k d e l.
          let a = zip_at IsOnly w.known xs k d e z (omega arith) in
          let b = zip_at IsOnly v.known xs k d e y (omega arith) in
          record {
            key = mix.single _ _ _ _ (each.keys k d (omega arith)) a.key b.key;
            value = mix.single _ _ _ _
                (each.values k d (omega arith)) a.value b.value;
          })

      first' : (xs : List (ℤ × ℤ)) → Describes w xs → Describes r xs
      first' xs d =
          let z = d.window wall in let n = zip_length HoldsItem w.known xs z in let many = each.many in
          record {
            window = λ e. zip_from_places HoldsItem r.known xs (omega arith)
                (λ k i x l. holds k i (omega arith) (get_or xs k x) (inl (zip_at HoldsItem w.known xs k i x z (omega arith))));
            ranged = first_ranged xs d.ranged;
            order = λ e. left xs e d;
          }

      second' : (xs : List (ℤ × ℤ)) → Describes v xs → Describes r xs
      second' xs d =
          let z = d.window vall in let n = zip_length HoldsItem v.known xs z in let many = each.many in
          record {
            window = λ e. zip_from_places HoldsItem r.known xs (omega arith)
                (λ k i x l. holds k i (omega arith) (get_or xs k x) (inr (zip_at HoldsItem v.known xs k i x z (omega arith))));
            ranged = second_ranged xs d.ranged;
            order = λ e. right xs e d;
          }

-- ranges under other names
pub mixed : (R : Interval → Interval → Interval → Type 0) (a b c x y z : Interval) → a ≡ x → b ≡ y → c ≡ z → R a b c → R x y z
mixed R a b c x y z p q s h = subst (λ i. R i y z) p (subst (λ i. R a i z) q (subst (λ i. R a b i) s h))

pub itemwise_of : (R : Interval → Interval → Interval → Type 0) (a b x y rs : List Item) → a ≡ x → b ≡ y → IsItemwise R a b rs → IsItemwise R x y rs
itemwise_of R a b x y rs p q h = subst (λ i. IsItemwise R i y rs) p (subst (λ i. IsItemwise R a i rs) q h)
