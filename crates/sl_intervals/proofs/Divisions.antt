-- Where divisions of members fault.
use Rattle.std.proofs.Common.{◌≡◌, ◌≢◌, ℤ, pos, negsuc, ◌≤ℤ◌, ◌<ℤ◌, int_div, true, false, Bool, if◌then◌else◌, refl, ◌∙◌, ap, arith}
use Rattle.std.proofs.lemmas.Int.{ints, by_lt_z}
use Rattle.sl_base.specs.declared.scalar.Scalar.{Scalar}
use Rattle.sl_base.specs.declared.scalar.Scalar.TheVariants as kind
use Rattle.sl_model.specs.Numbers.{value, fault, divided, fits, is_zero, lowest, highest}
use Rattle.sl_intervals.specs.declared.interval.Interval.{Interval}
use Rattle.sl_intervals.specs.declared.sure.Sure.{Sure}
use Rattle.sl_intervals.specs.declared.sure.Sure.TheVariants.{Never, May, Always}
use Rattle.sl_intervals.specs.Intervals.{Holds, IsFilled, IsWithin, is_fault}
use Rattle.sl_intervals.specs.Means.Dividing.{IsDivisionVerdict}
use Rattle.sl_intervals.proofs.Truncation.{IsFromTo, quotient_fits, under_dividend, over_dividend}
use Rattle.sl_intervals.proofs.Verdicts.{does_fit}

-- y isn't 0, and isn't -1 where x is the type's least number
pub record IsFine (ty : Scalar) (x y : ℤ) : Type 0 where
  pub some : y ≢ pos 0
  pub other : x ≤ℤ lowest ty → y ≢ negsuc 0

-- numbers of the type
pub record AreOf (ty : Scalar) (x y : ℤ) : Type 0 where
  pub first_low : lowest ty ≤ℤ x
  pub first_high : x ≤ℤ highest ty
  pub second_low : lowest ty ≤ℤ y
  pub second_high : y ≤ℤ highest ty

pub are_of : (ty : Scalar) (a b : Interval) (x y : ℤ) → IsWithin ty a → IsWithin ty b → Holds a x → Holds b y → AreOf ty x y
are_of ty a b x y v w p q =
    let vl = v.low in let vh = v.high in let wl = w.low in let wh = w.high in
    let pl = p.low in let ph = p.high in let ql = q.low in let qh = q.high in
    record {
      first_low = omega (arith, ints);
      first_high = omega (arith, ints);
      second_low = omega (arith, ints);
      second_high = omega (arith, ints);
    }

-- the type has such a quotient
pub has_quotient : (ty : Scalar) (x y : ℤ) → ty ≢ kind.Bool → AreOf ty x y → IsFine ty x y → IsFromTo (lowest ty) (highest ty) (int_div x y)
has_quotient kind.Int x y number o f = quotient_fits 2147483647 x y (omega arith) o.first_low o.first_high f.some f.other
has_quotient kind.Bool x y number o f = absurd (number refl)
has_quotient kind.Size x y number o f =
    let s = f.some in let xl = o.first_low in let xh = o.first_high in let yl = o.second_low in
    let one : pos 1 ≤ℤ y = by_lt_z (pos 0) y
    (λ (h : pos 0 <ℤ y). omega (arith, ints)) (λ (h : y ≤ℤ pos 0). absurd (s (omega (arith, ints)))) in
    record {
      low = under_dividend x y (pos 0) one xl (omega (arith, ints));
      high = over_dividend x y (pos 18446744073709551615) one xh (omega (arith, ints));
    }
has_quotient kind.Diff x y number o f = quotient_fits 9223372036854775807 x y (omega arith) o.first_low o.first_high f.some f.other

not_zero : (y : ℤ) → y ≢ pos 0 → is_zero y ≡ false
not_zero y h = grind (arith, ints)

-- what a division gives
by_divisor : (ty : Scalar) (x y z : ℤ) → y ≢ pos 0 → divided ty x y z ≡ (if fits ty (int_div x y) then value z else fault 1)
by_divisor ty x y z h = ap (λ (b : Bool). if b then fault 2 else (if fits ty (int_div x y) then value z else fault 1)) (not_zero y h)

pub divided_fits : (ty : Scalar) (x y z : ℤ) → y ≢ pos 0 → lowest ty ≤ℤ int_div x y → int_div x y ≤ℤ highest ty → divided ty x y z ≡ value z
divided_fits ty x y z some p q = by_divisor ty x y z some ∙ ap (λ (b : Bool). if b then value z else fault 1) (does_fit ty (int_div x y) p q)

pub divided_value : (ty : Scalar) (x y z : ℤ) → ty ≢ kind.Bool → AreOf ty x y → IsFine ty x y → divided ty x y z ≡ value z
divided_value ty x y z number o f = let q = has_quotient ty x y number o f in divided_fits ty x y z f.some q.low q.high

-- a division that doesn't fault
pub record IsGood (ty : Scalar) (x y z w : ℤ) : Type 0 where
  pub same : z ≡ w
  pub fine : IsFine ty x y
  pub low : lowest ty ≤ℤ int_div x y
  pub high : int_div x y ≤ℤ highest ty

zero_fault : (ty : Scalar) (x z : ℤ) → divided ty x (pos 0) z ≡ fault 2
zero_fault ty x z = refl

least_fault : (ty : Scalar) (z : ℤ) → ty ≢ kind.Bool → ty ≢ kind.Size → divided ty (lowest ty) (negsuc 0) z ≡ fault 1
least_fault kind.Int z number signed = refl
least_fault kind.Bool z number signed = absurd (number refl)
least_fault kind.Size z number signed = absurd (signed refl)
least_fault kind.Diff z number signed = refl

-- only sizes have no -1
pub signed_of : (ty : Scalar) → lowest ty ≤ℤ negsuc 0 → ty ≢ kind.Size
signed_of kind.Int h e = absurd (cc)
signed_of kind.Bool h e = absurd (omega (arith, ints))
signed_of kind.Size h e = absurd (omega (arith, ints))
signed_of kind.Diff h e = absurd (cc)

pub zero_faults : (ty : Scalar) (x y z : ℤ) → y ≡ pos 0 → is_fault (divided ty x y z) ≡ true
zero_faults ty x y z e = ap (λ (v : ℤ). is_fault (divided ty x v z)) e

pub least_faults : (ty : Scalar) (x y z : ℤ) → ty ≢ kind.Bool → AreOf ty x y → x ≤ℤ lowest ty → y ≡ negsuc 0 → is_fault (divided ty x y z) ≡ true
least_faults ty x y z number o h e =
    let l = o.first_low in let m = o.second_low in
    let same : x ≡ lowest ty = omega (arith, ints) in
    ap (λ (v : ℤ). is_fault (divided ty v y z)) same ∙ ap (λ (v : ℤ). is_fault (divided ty (lowest ty) v z)) e ∙ ap is_fault
    (least_fault ty z number (signed_of ty (omega (arith, ints))))

pub fine_of : (ty : Scalar) (x y z w : ℤ) → ty ≢ kind.Bool → AreOf ty x y → divided ty x y z ≡ value w → IsFine ty x y
fine_of ty x y z w number o e = record {
  some = λ zero. let f = zero_faults ty x y z zero in let g = ap is_fault e in cc;
  other = λ least one. let f = least_faults ty x y z number o least one in let g = ap is_fault e in cc;
}

pub good : (ty : Scalar) (x y z w : ℤ) → ty ≢ kind.Bool → AreOf ty x y → divided ty x y z ≡ value w → IsGood ty x y z w
good ty x y z w number o e =
    let f = fine_of ty x y z w number o e in
    let q = has_quotient ty x y number o f in
    let v = divided_value ty x y z number o f in
    record { same = cc; fine = f; low = q.low; high = q.high }

-- a verdict from members: none faults, all do, or one does and one doesn't
pub none_do : (ty : Scalar) (a b : Interval) (f : Sure) → ty ≢ kind.Bool → IsWithin ty a → IsWithin ty b
    → ((x y : ℤ) → Holds a x → Holds b y → IsFine ty x y) → f ≡ Never → IsDivisionVerdict ty a b f
none_do ty a b f number v w all e = record {
  never = λ op. (
    λ q x y h k. ap is_fault (divided_value ty x y (op x y) number (are_of ty a b x y v w h k) (all x y h k)),
    λ q. e,
  );
  always = λ op ne. absurd (ne e);
}

pub all_do : (ty : Scalar) (a b : Interval) (f : Sure) → IsFilled a → IsFilled b
    → ((x y z : ℤ) → Holds a x → Holds b y → is_fault (divided ty x y z) ≡ true) → f ≡ Always → IsDivisionVerdict ty a b f
all_do ty a b f fa fb all e =
    let p : Holds a a.low = record { low = omega (arith, ints); high = fa } in
    let q : Holds b b.low = record { low = omega (arith, ints); high = fb } in
    record {
      never = λ op. (λ n. absurd (cc), λ n. let x = n a.low b.low p q in let y = all a.low b.low (op a.low b.low) p q in absurd (cc));
      always = λ op ne. (λ n x y h k. all x y (op x y) h k, λ n. e);
    }

pub some_do : (ty : Scalar) (a b : Interval) (f : Sure) (x y u v : ℤ) → ty ≢ kind.Bool → AreOf ty x y → Holds a x → Holds b y → IsFine ty x y
    → Holds a u → Holds b v → ((z : ℤ) → is_fault (divided ty u v z) ≡ true) → f ≡ May → IsDivisionVerdict ty a b f
some_do ty a b f x y u v number o p q fine s t bad e = record {
  never = λ op. (λ n. absurd (cc), λ n. let g = n u v s t in let h = bad (op u v) in absurd (cc));
  always = λ op ne. (
    λ n. absurd (cc),
    λ n. let g = n x y p q in let h = ap is_fault (divided_value ty x y (op x y) number o fine) in absurd (cc),
  );
}
