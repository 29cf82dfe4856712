-- Quotients by part of the divisors, and by all that don't fault; where divisions fault.
use Rattle.std.specs.Prelude.{◌≡◌, ◌≢◌, ◌↔◌, ℤ, pos, negsuc, ◌≤ℤ◌, int_div}
use Rattle.sl_base.specs.declared.scalar.Scalar.{Scalar}
use Rattle.sl_model.specs.Numbers.{lowest, divided}
use Rattle.sl_intervals.specs.declared.interval.Interval.{Interval}
use Rattle.sl_intervals.specs.declared.sure.Sure.{Sure}
use Rattle.sl_intervals.specs.declared.sure.Sure.TheVariants.{Never, Always}
use Rattle.sl_intervals.specs.Intervals.{Holds, IsFilled, NoFault, AllFault}

-- i is the least interval that holds the quotients of members of a by members of b
pub record IsQuotients (a b i : Interval) : Type 0 where
  pub holds : (x y : ℤ) → Holds a x → Holds b y → Holds i (int_div x y)
  pub low : IsFilled i → (x : ℤ) × (y : ℤ) × Holds a x × Holds b y × (int_div x y ≡ i.low)
  pub high : IsFilled i → (x : ℤ) × (y : ℤ) × Holds a x × Holds b y × (int_div x y ≡ i.high)

-- y isn't 0, and isn't -1 where the type's least number alone is divided
pub record IsDivisor (ty : Scalar) (a : Interval) (y : ℤ) : Type 0 where
  pub some : y ≢ pos 0
  pub other : a.high ≤ℤ lowest ty → y ≢ negsuc 0

-- i is the least interval that holds the quotients of members of a by divisors in b
pub record IsDivided (ty : Scalar) (a b i : Interval) : Type 0 where
  pub holds : (x y : ℤ) → Holds a x → Holds b y → IsDivisor ty a y → Holds i (int_div x y)
  pub low : IsFilled i → (x : ℤ) × (y : ℤ) × Holds a x × Holds b y × IsDivisor ty a y × (int_div x y ≡ i.low)
  pub high : IsFilled i → (x : ℤ) × (y : ℤ) × Holds a x × Holds b y × IsDivisor ty a y × (int_div x y ≡ i.high)

-- whether divisions of members by members fault, by f: that doesn't rest on which of quotient and remainder is taken
pub record IsDivisionVerdict (ty : Scalar) (a b : Interval) (f : Sure) : Type 0 where
  pub never : (op : ℤ → ℤ → ℤ) → (f ≡ Never ↔ NoFault (λ x y. divided ty x y (op x y)) a b)
  pub always : (op : ℤ → ℤ → ℤ) → f ≢ Never → (f ≡ Always ↔ AllFault (λ x y. divided ty x y (op x y)) a b)

-- one number is divided by one that isn't 0
pub record IsSingleDivision (a b : Interval) : Type 0 where
  pub first : a.low ≡ a.high
  pub second : b.low ≡ b.high
  pub some : b.low ≢ pos 0
