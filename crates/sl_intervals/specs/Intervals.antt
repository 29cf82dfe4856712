-- Intervals as sets of whole numbers, and what an operator does on the members of two of them.
use Rattle.std.specs.Prelude.{◌≡◌, ◌⊎◌, ℤ, pos, negsuc, ◌≤ℤ◌, ◌<ℤ◌, Bool, true, false}
use Rattle.sl_base.specs.declared.scalar.Scalar.{Scalar}
use Rattle.sl_model.specs.Numbers.{Answer, value, fault, lowest, highest}
use Rattle.sl_intervals.specs.declared.interval.Interval.{Interval}

-- z is a member of i
pub record Holds (i : Interval) (z : ℤ) : Type 0 where
  pub low : i.low ≤ℤ z
  pub high : z ≤ℤ i.high

-- i has no members
abbrev pub IsEmpty : Interval → Type 0
IsEmpty i = i.high <ℤ i.low

-- i has a member
abbrev pub IsFilled : Interval → Type 0
IsFilled i = i.low ≤ℤ i.high

-- both ends are numbers of the type
pub record IsWithin (ty : Scalar) (i : Interval) : Type 0 where
  pub low : lowest ty ≤ℤ i.low
  pub high : i.high ≤ℤ highest ty

-- every member is a number of the type: an empty interval lies in every type
abbrev pub LiesIn : Scalar → Interval → Type 0
LiesIn ty i = IsEmpty i ⊎ IsWithin ty i

-- every member of i is at least z
abbrev pub IsAtLeast : Interval → ℤ → Type 0
IsAtLeast i z = IsEmpty i ⊎ z ≤ℤ i.low

-- every member of i is at most z
abbrev pub IsAtMost : Interval → ℤ → Type 0
IsAtMost i z = IsEmpty i ⊎ i.high ≤ℤ z

-- z is the only member
pub record IsSingle (i : Interval) (z : ℤ) : Type 0 where
  pub low : i.low ≡ z
  pub high : i.high ≡ z

-- an operator's answer is a fault
abbrev pub is_fault : Answer → Bool
is_fault (value z) = false
is_fault (fault n) = true

-- no members fault
abbrev pub NoFault : (ℤ → ℤ → Answer) → Interval → Interval → Type 0
NoFault op a b = (x y : ℤ) → Holds a x → Holds b y → is_fault (op x y) ≡ false

-- all members fault
abbrev pub AllFault : (ℤ → ℤ → Answer) → Interval → Interval → Type 0
AllFault op a b = (x y : ℤ) → Holds a x → Holds b y → is_fault (op x y) ≡ true

-- i has a member, and its ends are numbers of 64 bits, signed or not
pub record IsLimited (i : Interval) : Type 0 where
  pub low : negsuc 9223372036854775807 ≤ℤ i.low
  pub order : i.low ≤ℤ i.high
  pub high : i.high ≤ℤ pos 18446744073709551615
