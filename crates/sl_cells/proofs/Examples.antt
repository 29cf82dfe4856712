-- Closed lists, windows and ranges, each with what is so of it.
use Rattle.std.proofs.Common.{◌≡◌, ℕ, zero, suc, ℤ, pos, ◌≤ℤ◌, ◌<ℤ◌, true, false, List, [], ◌∷◌, get_or, refl, sym, ap, subst, ◌∙◌, arith, inr}
use Rattle.std.proofs.Common.{⊎_elim}
use Rattle.std.proofs.lemmas.Int.{ints}
use Rattle.sl_intervals.specs.declared.interval.Interval.{Interval}
use Rattle.sl_intervals.specs.declared.sure.Sure.TheVariants.{May, Always}
use Rattle.sl_intervals.specs.Intervals.{Holds}
use Rattle.sl_cells.specs.declared.item.Item.{Item}
use Rattle.sl_cells.specs.declared.sorted.Sorted.TheVariants.{Yes, Unknown}
use Rattle.sl_cells.specs.Orders.{IsAscending, IsPartitionedBelow, IsPartitionedAbove, with_key, IsSortOf}
use Rattle.sl_cells.specs.Windows.{Window, ranges, HoldsItem, IsOnly, Describes, Knows}
use Rattle.sl_cells.specs.Ranges.{IsUnion}
use Rattle.sl_cells.specs.Verdicts.{IsVerdict, IsDecided}
use Rattle.sl_cells.specs.Edits.{IsBetween}
use Rattle.sl_cells.proofs.Sorts.{by_key, skips}

-- keys with their values
abbrev one_two_two : List (ℤ × ℤ)
one_two_two = (pos 1, pos 0) ∷ (pos 2, pos 7) ∷ (pos 2, pos 5) ∷ []

abbrev three_one : List (ℤ × ℤ)
three_one = (pos 3, pos 0) ∷ (pos 1, pos 0) ∷ []

abbrev one_five_four : List (ℤ × ℤ)
one_five_four = (pos 1, pos 0) ∷ (pos 5, pos 0) ∷ (pos 4, pos 0) ∷ []

-- equal keys ascend, whatever their values, and no elements do
one_two_two_ascend : IsAscending one_two_two
one_two_two_ascend = ((omega (arith, ints), (omega (arith, ints), tt)), ((omega (arith, ints), tt), (tt, tt)))

none_ascend : IsAscending []
none_ascend = tt

three_one_do_not_ascend : IsAscending three_one → ⊥
three_one_do_not_ascend o = let h = o.0.0 in omega (arith, ints)

-- those below 3 come first of 1, 5 and 4, and those below 5 don't
one_five_four_below_three : IsPartitionedBelow (pos 3) one_five_four
one_five_four_below_three = ((λ h. omega (arith, ints), (λ h. omega (arith, ints), tt)), ((λ h. absurd (omega (arith, ints)), tt), (tt, tt)))

one_five_four_below_five : IsPartitionedBelow (pos 5) one_five_four → ⊥
one_five_four_below_five o = let h = o.1.0.0 in let l = h (omega (arith, ints)) in omega (arith, ints)

-- of 3 and 1 both aren't above 3, but 3 isn't below 3 and 1 is
three_one_upto_three : IsPartitionedAbove (pos 3) three_one
three_one_upto_three = ((λ h. omega (arith, ints), tt), (tt, tt))

three_one_below_three : IsPartitionedBelow (pos 3) three_one → ⊥
three_one_below_three o = let h = o.0.0 in let l = h (omega (arith, ints)) in omega (arith, ints)

-- a sort keeps the order of equal keys
abbrev two_one_two : List (ℤ × ℤ)
two_one_two = (pos 2, pos 7) ∷ (pos 1, pos 0) ∷ (pos 2, pos 5) ∷ []

sorted_two_one_two : IsSortOf two_one_two one_two_two
sorted_two_one_two = record {
  ascends = one_two_two_ascend;
  same = λ z. by_key z (pos 1, pos 0)
      (λ e. subst (λ y. with_key y one_two_two ≡ with_key y two_one_two) e refl)
      (λ n. by_key z (pos 2, pos 7)
      (λ e. subst (λ y. with_key y one_two_two ≡ with_key y two_one_two) e refl)
      (λ m.
      (skips z (pos 1, pos 0) ((pos 2, pos 7) ∷ (pos 2, pos 5) ∷ []) n ∙ skips z (pos 2, pos 7) ((pos 2, pos 5) ∷ []) m ∙ skips z (pos 2, pos 5) [] m)
      ∙ sym (skips z (pos 2, pos 7) ((pos 1, pos 0) ∷ (pos 2, pos 5) ∷ []) m ∙ skips z (pos 1, pos 0) ((pos 2, pos 5) ∷ []) n ∙ skips z
      (pos 2, pos 5) [] m)));
}

-- the value of the first element
abbrev first_value : List (ℤ × ℤ) → ℤ
first_value [] = pos 0
first_value (x ∷ xs) = x.1

exchanged_is_no_sort : IsSortOf two_one_two ((pos 1, pos 0) ∷ (pos 2, pos 5) ∷ (pos 2, pos 7) ∷ []) → ⊥
exchanged_is_no_sort s = let e : pos 5 ≡ pos 7 = ap first_value (s.same (pos 2)) in omega (arith, ints)

-- one element: its key is 1 or 2, its value 0
abbrev one_or_two : Item
one_or_two = record { key = record { low = pos 1; high = pos 2 }; value = record { low = pos 0; high = pos 0 } }

abbrev single : Window
single = record { all = true; known = one_or_two ∷ []; keys = one_or_two.key; values = one_or_two.value; sorted = Unknown }

single_describes_two : Describes single ((pos 2, pos 0) ∷ [])
single_describes_two =
    let h : HoldsItem one_or_two (pos 2, pos 0) =
    record {
      key = record { low = omega (arith, ints); high = omega (arith, ints) };
      value = record { low = omega (arith, ints); high = omega (arith, ints) };
    } in
    record { window = λ e. (h, tt); ranged = (h, tt); order = λ e. absurd (cc) }

single_describes_no_three : Describes single ((pos 3, pos 0) ∷ []) → ⊥
single_describes_no_three d = let h = d.ranged.0 in let l = h.key.high in omega (arith, ints)

single_describes_no_empty_list : Describes single [] → ⊥
single_describes_no_empty_list d = d.window refl

single_knows_nothing : Knows single ((pos 2, pos 0) ∷ []) → ⊥
single_knows_nothing k = let h = k.known.0 in let l = h.key.low in omega (arith, ints)

-- elements from 1 to 3 that ascend: how many is open
abbrev ordered : Window
ordered = record { all = false; known = []; keys = record { low = pos 1; high = pos 3 }; values = record { low = pos 0; high = pos 9 }; sorted = Yes }

ordered_describes_one_two_two : Describes ordered one_two_two
ordered_describes_one_two_two = record {
  window = λ e. absurd (cc);
  ranged = (
    record {
      key = record { low = omega (arith, ints); high = omega (arith, ints) };
      value = record { low = omega (arith, ints); high = omega (arith, ints) };
    },
    (
      record {
        key = record { low = omega (arith, ints); high = omega (arith, ints) };
        value = record { low = omega (arith, ints); high = omega (arith, ints) };
      },
      (
        record {
          key = record { low = omega (arith, ints); high = omega (arith, ints) };
          value = record { low = omega (arith, ints); high = omega (arith, ints) };
        },
        tt,
      ),
    ),
  );
  order = λ e. one_two_two_ascend;
}

ordered_describes_no_elements : Describes ordered []
ordered_describes_no_elements = record { window = λ e. absurd (cc); ranged = tt; order = λ e. tt }

ordered_describes_no_three_one : Describes ordered three_one → ⊥
ordered_describes_no_three_one d = three_one_do_not_ascend (d.order refl)

-- 2 fits behind one element of 1 or 2, and not in front of it
two_fits_behind : IsBetween (one_or_two ∷ []) 1 1 (record { low = pos 2; high = pos 2 })
two_fits_behind = record { behind = behind; before = λ d l. absurd (omega arith) }
  where
    behind : (k : ℕ) (d : Item) → suc k ≡ 1 → (get_or (one_or_two ∷ []) k d).key.high ≤ℤ pos 2
    behind zero d e = omega (arith, ints)
    behind (suc k) d e = absurd (omega arith)

two_does_not_fit_before : IsBetween (one_or_two ∷ []) 0 0 (record { low = pos 2; high = pos 2 }) → ⊥
two_does_not_fit_before b = let h = b.before one_or_two (omega arith) in omega (arith, ints)

-- the union of 1..2 and 5..6 is 1..6, and nothing wider
abbrev low_range : Interval
low_range = record { low = pos 1; high = pos 2 }

abbrev high_range : Interval
high_range = record { low = pos 5; high = pos 6 }

one_to_six_is_the_union : IsUnion low_range high_range (record { low = pos 1; high = pos 6 })
one_to_six_is_the_union = record {
  holds = λ z h. ⊎_elim
      (λ (p : Holds low_range z). record { low = omega (arith, ints); high = omega (arith, ints) })
      (λ (p : Holds high_range z). record { low = omega (arith, ints); high = omega (arith, ints) })
      h;
  least = λ z p q. ⊎_elim (λ (e : pos 2 <ℤ pos 1). absurd (omega (arith, ints))) (λ (l : z ≤ℤ pos 1). inr l) p;
  most = λ z p q. ⊎_elim (λ (e : pos 6 <ℤ pos 5). absurd (omega (arith, ints))) (λ (l : pos 6 ≤ℤ z). inr l) q;
}

zero_to_six_is_not_the_union : IsUnion low_range high_range (record { low = pos 0; high = pos 6 }) → ⊥
zero_to_six_is_not_the_union u = ⊎_elim
    (λ (e : pos 6 <ℤ pos 0). omega (arith, ints))
    (λ (l : pos 1 ≤ℤ pos 0). omega (arith, ints))
    (u.least (pos 1) (inr (omega (arith, ints))) (inr (omega (arith, ints))))

-- 3 and 1 as known elements: whether they ascend is decided, and they don't
abbrev exactly : ℤ → Interval
exactly z = record { low = z; high = z }

abbrev known_three_one : Window
known_three_one = record {
  all = true;
  known = record { key = exactly (pos 3); value = exactly (pos 0) } ∷ record { key = exactly (pos 1); value = exactly (pos 0) } ∷ [];
  keys = record { low = pos 1; high = pos 3 };
  values = exactly (pos 0);
  sorted = Unknown;
}

three_one_are_known : Knows known_three_one three_one
three_one_are_known = record {
  describes = record { window = λ e. (holds (pos 3), (holds (pos 1), tt)); ranged = (ranged, (ranged', tt)); order = λ e. absurd (cc) };
  all = refl;
  known = (only (pos 3), (only (pos 1), tt));
}
  where
    holds : (z : ℤ) → HoldsItem (record { key = exactly z; value = exactly (pos 0) }) (z, pos 0)
    holds z = record {
      key = record { low = omega (arith, ints); high = omega (arith, ints) };
      value = record { low = omega (arith, ints); high = omega (arith, ints) };
    }

    only : (z : ℤ) → IsOnly (record { key = exactly z; value = exactly (pos 0) }) (z, pos 0)
    only z = record { key = record { low = refl; high = refl }; value = record { low = refl; high = refl } }

    ranged : HoldsItem (ranges known_three_one) (pos 3, pos 0)
    ranged = record {
      key = record { low = omega (arith, ints); high = omega (arith, ints) };
      value = record { low = omega (arith, ints); high = omega (arith, ints) };
    }

    ranged' : HoldsItem (ranges known_three_one) (pos 1, pos 0)
    ranged' = record {
      key = record { low = omega (arith, ints); high = omega (arith, ints) };
      value = record { low = omega (arith, ints); high = omega (arith, ints) };
    }

may_is_no_answer : IsDecided known_three_one (exactly (pos 0)) (exactly (pos 2)) May → ⊥
may_is_no_answer d =
    d three_one 0 2 three_one_are_known (record { low = refl; high = refl }) (record { low = refl; high = refl }) (omega arith) (omega arith) refl

always_is_wrong : IsVerdict known_three_one (exactly (pos 0)) (exactly (pos 2)) IsAscending Always → ⊥
always_is_wrong v = three_one_do_not_ascend (v.always refl three_one 0 2 three_one_are_known.describes (record {
  first = record { low = omega (arith, ints); high = omega (arith, ints) };
  last = record { low = omega (arith, ints); high = omega (arith, ints) };
  order = omega arith;
  inside = omega arith;
}))
