-- What an operator gives on the members of two intervals.
use Rattle.std.specs.Prelude.{◌≡◌, ◌≢◌, ◌↔◌, ℤ, true, false}
use Rattle.sl_base.specs.declared.scalar.Scalar.{Scalar}
use Rattle.sl_model.specs.Numbers.{Answer, value, settled}
use Rattle.sl_intervals.specs.declared.interval.Interval.{Interval}
use Rattle.sl_intervals.specs.declared.outcome.Outcome.{Outcome}
use Rattle.sl_intervals.specs.declared.sure.Sure.TheVariants.{Never, Always}
use Rattle.sl_intervals.specs.Intervals.{Holds, IsFilled, IsSingle, LiesIn, NoFault, AllFault, is_fault}

-- r holds what the operator gives on members of a and b, and tells exactly whether it faults there
pub record IsOutcome (op : ℤ → ℤ → Answer) (ty : Scalar) (a b : Interval) (r : Outcome) : Type 0 where
  pub holds : (x y z : ℤ) → Holds a x → Holds b y → op x y ≡ value z → Holds r.value z
  pub exact : (x y z : ℤ) → IsSingle a x → IsSingle b y → op x y ≡ value z → IsSingle r.value z
  pub within : LiesIn ty r.value
  pub never : r.fault ≡ Never ↔ NoFault op a b
  pub always : r.fault ≢ Never → (r.fault ≡ Always ↔ AllFault op a b)

-- the ends of i are themselves what the operator gives on members of a and b
pub record IsTight (op : ℤ → ℤ → Answer) (a b i : Interval) : Type 0 where
  pub low : IsFilled i → (x : ℤ) × (y : ℤ) × Holds a x × Holds b y × (op x y ≡ value i.low)
  pub high : IsFilled i → (x : ℤ) × (y : ℤ) × Holds a x × Holds b y × (op x y ≡ value i.high)

-- the same of the numbers of one interval, each settled in the type
pub record IsSettled (ty : Scalar) (s : Interval) (r : Outcome) : Type 0 where
  pub holds : (t z : ℤ) → Holds s t → settled ty t ≡ value z → Holds r.value z
  pub within : LiesIn ty r.value
  pub never : r.fault ≡ Never ↔ ((t : ℤ) → Holds s t → is_fault (settled ty t) ≡ false)
  pub always : r.fault ≢ Never → (r.fault ≡ Always ↔ ((t : ℤ) → Holds s t → is_fault (settled ty t) ≡ true))
  pub low : IsFilled r.value → (t : ℤ) × Holds s t × (settled ty t ≡ value r.value.low)
  pub high : IsFilled r.value → (t : ℤ) × Holds s t × (settled ty t ≡ value r.value.high)
