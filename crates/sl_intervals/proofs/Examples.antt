-- Closed intervals and operators, each with the answer to which it computes.
use Rattle.std.proofs.Common.{◌≡◌, pos, negsuc, true, false, refl, inl, inr, arith}
use Rattle.std.proofs.lemmas.Int.{ints}
use Rattle.sl_base.specs.declared.scalar.Scalar.TheVariants as kind
use Rattle.sl_syntax.specs.declared.operator.Arithmetic.TheVariants as operator
use Rattle.sl_model.specs.Numbers.{value, converted, operated}
use Rattle.sl_intervals.specs.declared.interval.Interval.{Interval}
use Rattle.sl_intervals.specs.declared.size_fact.SizeFact.TheVariants.{Nothing, Upto, Below}
use Rattle.sl_intervals.specs.Intervals.{Holds, IsEmpty, LiesIn, NoFault, is_fault}
use Rattle.sl_intervals.specs.Products.{least_product, greatest_product, IsPlain}
use Rattle.sl_intervals.specs.SizeTable.{tells}

-- from -3 to 4
few : Interval
few = record { low = negsuc 2; high = pos 4 }

-- no number
none : Interval
none = record { low = pos 1; high = pos 0 }

minus_one_is_held : Holds few (negsuc 0)
unfolding few
minus_one_is_held = record { low = omega (arith, ints); high = omega (arith, ints) }

five_is_not_held : Holds few (pos 5) → ⊥
unfolding few
five_is_not_held h = let l = h.low in let m = h.high in omega (arith, ints)

none_is_empty : IsEmpty none
unfolding none
none_is_empty = omega (arith, ints)

-- an empty interval lies in every type, and from -3 to 4 is no range of bool
none_lies_in_bool : LiesIn kind.Bool none
none_lies_in_bool = inl none_is_empty

few_lies_in_int : LiesIn kind.Int few
unfolding few
few_lies_in_int = inr (record { low = omega (arith, ints); high = omega (arith, ints) })

-- INT_MAX + 1 is a fault; the greatest std::size_t and 1 more is 0
int_overflows : is_fault (operated operator.Add kind.Int (pos 2147483647) (pos 1)) ≡ true
int_overflows = refl

size_wraps : is_fault (operated operator.Add kind.Size (pos 18446744073709551615) (pos 1)) ≡ false
size_wraps = refl

-- -2 as a std::size_t, and the greatest std::size_t as an int
minus_two_as_size : converted kind.Size (negsuc 1) ≡ pos 18446744073709551614
minus_two_as_size = refl

greatest_size_as_int : converted kind.Int (pos 18446744073709551615) ≡ negsuc 0
greatest_size_as_int = refl

-- no size faults, and where there are no members none faults and all do
no_size_faults : (a b : Interval) → NoFault (operated operator.Add kind.Size) a b
no_size_faults a b x y p q = refl

nothing_faults : (a : Interval) → NoFault (operated operator.Add kind.Int) none a
unfolding none
nothing_faults a x y p q = let l = p.low in let m = p.high in absurd (omega (arith, ints))

-- products of numbers from -3 to 4 go from -12 to 16
least_of_few : least_product few few ≡ negsuc 11
unfolding few
least_of_few = refl

greatest_of_few : greatest_product few few ≡ pos 16
unfolding few
greatest_of_few = refl

-- a product of int is never taken modulo
int_is_plain : (a b : Interval) → IsPlain kind.Int a b
int_is_plain a b = inl (λ e. cc)

-- INT_MIN / -1 and INT_MIN % -1 are faults, and so is a divisor of 0; -7 / 2 is -3, and -7 % 2 is -1
least_by_minus_one : is_fault (operated operator.Divide kind.Int (negsuc 2147483647) (negsuc 0)) ≡ true
least_by_minus_one = refl

rest_by_minus_one : is_fault (operated operator.Remainder kind.Int (negsuc 2147483647) (negsuc 0)) ≡ true
rest_by_minus_one = refl

by_zero : is_fault (operated operator.Divide kind.Size (pos 7) (pos 0)) ≡ true
by_zero = refl

minus_seven_by_two : operated operator.Divide kind.Int (negsuc 6) (pos 2) ≡ value (negsuc 2)
minus_seven_by_two = refl

rest_of_minus_seven : operated operator.Remainder kind.Int (negsuc 6) (pos 2) ≡ value (negsuc 0)
rest_of_minus_seven = refl

-- x < size(c) tells x <= size(c) too, and not the other way round
below_tells_upto : tells Below Upto ≡ true
below_tells_upto = refl

upto_does_not_tell_below : tells Upto Below ≡ false
upto_does_not_tell_below = refl

every_fact_tells_nothing : tells Nothing Nothing ≡ true
every_fact_tells_nothing = refl
