-- Results in a row, settled in a type.
use Rattle.std.proofs.Common.{◌≡◌, ◌≢◌, ◌↔◌, inl, inr, ℤ, pos, negsuc, ◌-ℤ◌, ◌≤ℤ◌, ◌<ℤ◌, true, false, Bool, if◌then◌else◌}
use Rattle.std.proofs.Common.{refl, ap, subst, ◌∙◌, arith}
use Rattle.std.proofs.lemmas.Int.{ints, by_lt_z}
use Rattle.sl_base.specs.declared.scalar.Scalar.{Scalar}
use Rattle.sl_base.specs.declared.scalar.Scalar.TheVariants as kind
use Rattle.sl_model.specs.Numbers.{value, fault, settled, converted, fits, lowest, highest}
use Rattle.sl_intervals.specs.declared.interval.Interval.{Interval}
use Rattle.sl_intervals.specs.declared.outcome.Outcome.{Outcome}
use Rattle.sl_intervals.specs.declared.sure.Sure.{Sure}
use Rattle.sl_intervals.specs.declared.sure.Sure.TheVariants.{Never, May, Always}
use Rattle.sl_intervals.specs.Intervals.{Holds, IsFilled, IsWithin, LiesIn, IsLimited, is_fault}
use Rattle.sl_intervals.proofs.Joined.{within_of}
use Rattle.sl_intervals.specs.Images.{IsImage}
use Rattle.sl_intervals.specs.Outcomes.{IsSettled}

-- a type has a number
pub some_number : (ty : Scalar) → lowest ty ≤ℤ highest ty
some_number kind.Int = omega (arith, ints)
some_number kind.Bool = omega (arith, ints)
some_number kind.Size = omega (arith, ints)
some_number kind.Diff = omega (arith, ints)

-- how large numbers of a type are
pub record IsNarrow (ty : Scalar) : Type 0 where
  pub low : negsuc 9223372036854775807 ≤ℤ lowest ty
  pub high : highest ty ≤ℤ pos 18446744073709551615

pub narrow : (ty : Scalar) → IsNarrow ty
narrow kind.Int = record { low = omega (arith, ints); high = omega (arith, ints) }
narrow kind.Bool = record { low = omega (arith, ints); high = omega (arith, ints) }
narrow kind.Size = record { low = omega (arith, ints); high = omega (arith, ints) }
narrow kind.Diff = record { low = omega (arith, ints); high = omega (arith, ints) }

-- how far apart two of them are
pub short : (ty : Scalar) → (highest ty -ℤ lowest ty) ≤ℤ pos 18446744073709551615
short kind.Int = omega (arith, ints)
short kind.Bool = omega (arith, ints)
short kind.Size = omega (arith, ints)
short kind.Diff = omega (arith, ints)

by_fit : (ty : Scalar) (z : ℤ) → ty ≢ kind.Size → settled ty z ≡ (if fits ty z then value z else fault 1)
by_fit kind.Int z signed = refl
by_fit kind.Bool z signed = refl
by_fit kind.Size z signed = absurd (signed refl)
by_fit kind.Diff z signed = refl

pub does_fit : (ty : Scalar) (z : ℤ) → lowest ty ≤ℤ z → z ≤ℤ highest ty → fits ty z ≡ true
does_fit ty z p q = grind (arith, ints)

pub is_under : (ty : Scalar) (z : ℤ) → z <ℤ lowest ty → fits ty z ≡ false
is_under ty z p = grind (arith, ints)

pub is_over : (ty : Scalar) (z : ℤ) → highest ty <ℤ z → fits ty z ≡ false
is_over ty z p = grind (arith, ints)

-- a number of the type is its own result
pub settled_in : (ty : Scalar) (z : ℤ) → ty ≢ kind.Size → lowest ty ≤ℤ z → z ≤ℤ highest ty → settled ty z ≡ value z
settled_in ty z signed p q = by_fit ty z signed ∙ ap (λ (b : Bool). if b then value z else fault 1) (does_fit ty z p q)

pub settled_under : (ty : Scalar) (z : ℤ) → ty ≢ kind.Size → z <ℤ lowest ty → settled ty z ≡ fault 1
settled_under ty z signed p = by_fit ty z signed ∙ ap (λ (b : Bool). if b then value z else fault 1) (is_under ty z p)

pub settled_over : (ty : Scalar) (z : ℤ) → ty ≢ kind.Size → highest ty <ℤ z → settled ty z ≡ fault 1
settled_over ty z signed p = by_fit ty z signed ∙ ap (λ (b : Bool). if b then value z else fault 1) (is_over ty z p)

-- a result is the number itself, and of the type
pub record IsOwn (ty : Scalar) (t z : ℤ) : Type 0 where
  pub same : t ≡ z
  pub low : lowest ty ≤ℤ t
  pub high : t ≤ℤ highest ty

pub settled_own : (ty : Scalar) (t z : ℤ) → ty ≢ kind.Size → settled ty t ≡ value z → IsOwn ty t z
settled_own ty t z signed e = by_lt_z t (lowest ty)
    (λ (h : t <ℤ lowest ty). let f = settled_under ty t signed h in absurd (cc))
    (λ (h : lowest ty ≤ℤ t). by_lt_z (highest ty) t
    (λ (g : highest ty <ℤ t). let f = settled_over ty t signed g in absurd (cc))
    (λ (g : t ≤ℤ highest ty). let f = settled_in ty t signed h g in record { same = cc; low = h; high = g }))

-- whether the numbers of an interval fault
pub record IsVerdict (ty : Scalar) (s : Interval) (f : Sure) : Type 0 where
  pub never : f ≡ Never ↔ ((t : ℤ) → Holds s t → is_fault (settled ty t) ≡ false)
  pub always : f ≢ Never → (f ≡ Always ↔ ((t : ℤ) → Holds s t → is_fault (settled ty t) ≡ true))

pub none_faults : (ty : Scalar) (s : Interval) (f : Sure) → ((t : ℤ) → Holds s t → is_fault (settled ty t) ≡ false) → f ≡ Never → IsVerdict ty s f
none_faults ty s f all e = record { never = (λ q. all, λ q. e); always = λ ne. absurd (ne e) }

pub all_fault : (ty : Scalar) (s : Interval) (f : Sure) (t : ℤ) → Holds s t → ((t : ℤ) → Holds s t → is_fault (settled ty t) ≡ true) → f ≡ Always
    → IsVerdict ty s f
all_fault ty s f t h all e = record {
  never = (λ q. absurd (cc), λ q. let p = q t h in let r = all t h in absurd (cc));
  always = λ ne. (λ q. all, λ q. e);
}

pub some_fault : (ty : Scalar) (s : Interval) (f : Sure) (t u : ℤ) → Holds s t → Holds s u → is_fault (settled ty t) ≡ false → is_fault
    (settled ty u) ≡ true
    → f ≡ May → IsVerdict ty s f
some_fault ty s f t u h k good bad e = record {
  never = (λ q. absurd (cc), λ q. let p = q u k in absurd (cc));
  always = λ ne. (λ q. absurd (cc), λ q. let p = q t h in absurd (cc));
}

module _ (ty : Scalar) (s : Interval) (f : Sure) (signed : ty ≢ kind.Size) (filled : IsFilled s) (never : IsWithin ty s → f ≡ Never)
    (under : s.high <ℤ lowest ty → f ≡ Always) (over : highest ty <ℤ s.low → f ≡ Always)
    (low : s.low <ℤ lowest ty → lowest ty ≤ℤ s.high → f ≡ May) (high : s.low ≤ℤ highest ty → highest ty <ℤ s.high → f ≡ May) where
  fine : (z : ℤ) → lowest ty ≤ℤ z → z ≤ℤ highest ty → is_fault (settled ty z) ≡ false
  fine z p q = ap is_fault (settled_in ty z signed p q)

  beneath : (z : ℤ) → z <ℤ lowest ty → is_fault (settled ty z) ≡ true
  beneath z p = ap is_fault (settled_under ty z signed p)

  beyond : (z : ℤ) → highest ty <ℤ z → is_fault (settled ty z) ≡ true
  beyond z p = ap is_fault (settled_over ty z signed p)

  first : Holds s s.low
  first = record { low = omega (arith, ints); high = filled }

  last : Holds s s.high
  last = record { low = filled; high = omega (arith, ints) }

  within_verdict : lowest ty ≤ℤ s.low → s.high ≤ℤ highest ty → IsVerdict ty s f
  within_verdict p q = none_faults ty s f
      (λ z h. let l = h.low in let r = h.high in fine z (omega (arith, ints)) (omega (arith, ints)))
      (never (record { low = p; high = q }))

  under_verdict : s.low <ℤ lowest ty → IsVerdict ty s f
  under_verdict p = by_lt_z s.high (lowest ty)
      (λ (h : s.high <ℤ lowest ty). all_fault ty s f s.low first (λ z k. let r = k.high in beneath z (omega (arith, ints))) (under h))
      (λ (h : lowest ty ≤ℤ s.high). let some = some_number ty in
      some_fault ty s f (lowest ty) s.low (record { low = omega (arith, ints); high = h }) first
      (fine (lowest ty) (omega (arith, ints)) some) (beneath s.low p) (low p h))

  over_verdict : lowest ty ≤ℤ s.low → highest ty <ℤ s.high → IsVerdict ty s f
  over_verdict p q = by_lt_z (highest ty) s.low
      (λ (h : highest ty <ℤ s.low). all_fault ty s f s.low first (λ z k. let l = k.low in beyond z (omega (arith, ints))) (over h))
      (λ (h : s.low ≤ℤ highest ty). some_fault ty s f s.low s.high first last (fine s.low p h) (beyond s.high q) (high h q))

  pub verdict : IsVerdict ty s f
  verdict = by_lt_z s.low (lowest ty)
      (λ (p : s.low <ℤ lowest ty). under_verdict p)
      (λ (p : lowest ty ≤ℤ s.low). by_lt_z (highest ty) s.high
      (λ (q : highest ty <ℤ s.high). over_verdict p q)
      (λ (q : s.high ≤ℤ highest ty). within_verdict p q))

-- signed results: those of the type, and the verdict
pub signed_settled : (ty : Scalar) (s : Interval) (r : Outcome) → ty ≢ kind.Size → IsVerdict ty s r.fault
    → ((z : ℤ) → (Holds r.value z ↔ (Holds s z × ((lowest ty ≤ℤ z) × (z ≤ℤ highest ty))))) → IsSettled ty s r
signed_settled ty s r signed v same = record {
  holds = λ t z h e. let own = settled_own ty t z signed e in subst (λ (w : ℤ). Holds r.value w) own.same ((same t).1 (h, (own.low, own.high)));
  within = by_lt_z r.value.high r.value.low
      (λ (h : r.value.high <ℤ r.value.low). inl h)
      (λ (h : r.value.low ≤ℤ r.value.high).
      let p = (same r.value.low).0 (record { low = omega (arith, ints); high = h }) in
      let q = (same r.value.high).0 (record { low = h; high = omega (arith, ints) }) in
      inr (record { low = p.1.0; high = q.1.1 }));
  never = v.never;
  always = v.always;
  low = λ h. let p = (same r.value.low).0 (record { low = omega (arith, ints); high = h }) in
      (r.value.low, p.0, settled_in ty r.value.low signed p.1.0 p.1.1);
  high = λ h. let p = (same r.value.high).0 (record { low = h; high = omega (arith, ints) }) in
      (r.value.high, p.0, settled_in ty r.value.high signed p.1.0 p.1.1);
}

-- unsigned results: what the numbers become, and none faults
pub size_settled : (s : Interval) (r : Outcome) → r.fault ≡ Never → IsImage kind.Size s r.value → IsSettled kind.Size s r
size_settled s r e image =
    let v = none_faults kind.Size s r.fault (λ z h. refl) e in
    record {
      holds = λ t z h q. let same : converted kind.Size t ≡ z = cc in subst (λ (w : ℤ). Holds r.value w) same (image.holds t h);
      within = inr image.within;
      never = v.never;
      always = v.always;
      low = λ h. let w = image.low in (w.0, w.1, ap value w.2);
      high = λ h. let w = image.high in (w.0, w.1, ap value w.2);
    }

-- the ends of an interval that lies in a type
pub limited_of : (ty : Scalar) (a : Interval) → IsFilled a → LiesIn ty a → IsLimited a
limited_of ty a f h =
    let w = within_of ty a f h in
    let n = narrow ty in
    let wl = w.low in let wh = w.high in let nl = n.low in let nh = n.high in
    record { low = omega (arith, ints); order = f; high = omega (arith, ints) }
