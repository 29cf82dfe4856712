-- Sums and differences of members, as numbers in a row.
use Rattle.std.proofs.Common.{◌≡◌, ◌⊎◌, inl, ℤ, ◌+ℤ◌, ◌-ℤ◌, ◌≤ℤ◌, ◌<ℤ◌, true, false, ap, subst, ◌∙◌, arith}
use Rattle.std.proofs.lemmas.Int.{ints, by_lt_z}
use Rattle.sl_base.specs.declared.scalar.Scalar.{Scalar}
use Rattle.sl_model.specs.Numbers.{Answer, value, settled}
use Rattle.sl_intervals.specs.declared.interval.Interval.{Interval}
use Rattle.sl_intervals.specs.declared.outcome.Outcome.{Outcome}
use Rattle.sl_intervals.specs.declared.sure.Sure.TheVariants.{Never}
use Rattle.sl_intervals.specs.Intervals.{Holds, IsEmpty, IsFilled, IsSingle, is_fault}
use Rattle.sl_intervals.specs.Outcomes.{IsOutcome, IsTight, IsSettled}

-- the numbers of s are what the operator gives on members of a and b
pub record IsSpan (op : ℤ → ℤ → ℤ) (a b s : Interval) : Type 0 where
  pub within : (x y : ℤ) → Holds a x → Holds b y → Holds s (op x y)
  pub parts : (t : ℤ) → Holds s t → (x : ℤ) × (y : ℤ) × Holds a x × Holds b y × (op x y ≡ t)

pub sum_span : (a b s : Interval) → IsFilled a → IsFilled b → s.low ≡ a.low +ℤ b.low → s.high ≡ a.high +ℤ b.high → IsSpan (λ x y. x +ℤ y) a b s
sum_span a b s f g low high = record {
  within = λ x y p q.
      let pl = p.low in let ph = p.high in let ql = q.low in let qh = q.high in
      record { low = omega (arith, ints); high = omega (arith, ints) };
  parts = λ t h.
      let hl = h.low in let hh = h.high in
      by_lt_z (a.high +ℤ b.low) t
      (λ (far : (a.high +ℤ b.low) <ℤ t). (
        a.high,
        t -ℤ a.high,
        record { low = f; high = omega (arith, ints) },
        record {
          low = omega (arith, ints);
          high = omega
              (arith, ints);
        },
        omega (arith, ints),
      ))
      (λ (near : t ≤ℤ (a.high +ℤ b.low)). (
        t -ℤ b.low,
        b.low,
        record { low = omega (arith, ints); high = omega (arith, ints) },
        record {
          low = omega (arith, ints);
          high =
              g;
        },
        omega (arith, ints),
      ));
}

pub difference_span : (a b s : Interval) → IsFilled a → IsFilled b → s.low ≡ a.low -ℤ b.high → s.high ≡ a.high -ℤ b.low → IsSpan (λ x y. x -ℤ y) a b s
difference_span a b s f g low high = record {
  within = λ x y p q.
      let pl = p.low in let ph = p.high in let ql = q.low in let qh = q.high in
      record { low = omega (arith, ints); high = omega (arith, ints) };
  parts = λ t h.
      let hl = h.low in let hh = h.high in
      by_lt_z (a.high -ℤ b.high) t
      (λ (far : (a.high -ℤ b.high) <ℤ t). (
        a.high,
        a.high -ℤ t,
        record { low = f; high = omega (arith, ints) },
        record {
          low = omega (arith, ints);
          high = omega
              (arith, ints);
        },
        omega (arith, ints),
      ))
      (λ (near : t ≤ℤ (a.high -ℤ b.high)). (
        t +ℤ b.high,
        b.high,
        record { low = omega (arith, ints); high = omega (arith, ints) },
        record {
          low = g;
          high = omega
              (arith, ints);
        },
        omega (arith, ints),
      ));
}

-- the one member
pub only : (a : Interval) (x w : ℤ) → IsSingle a x → Holds a w → w ≡ x
only a x w s h = let l = s.low in let r = s.high in let p = h.low in let q = h.high in omega (arith, ints)

pub its_own : (a : Interval) (x : ℤ) → IsSingle a x → Holds a x
its_own a x s = let l = s.low in let r = s.high in record { low = omega (arith, ints); high = omega (arith, ints) }

-- an interval that is no wider than its results is exact on single numbers
pub tight_exact : (op : ℤ → ℤ → Answer) (a b i : Interval) → ((x y z : ℤ) → Holds a x → Holds b y → op x y ≡ value z → Holds i z) → IsTight op a b i
    → (x y z : ℤ) → IsSingle a x → IsSingle b y → op x y ≡ value z → IsSingle i z
tight_exact op a b i holds tight x y z p q e =
    let inside = holds x y z (its_own a x p) (its_own b y q) e in
    let il = inside.low in let ih = inside.high in
    let l = tight.low (omega (arith, ints)) in
    let h = tight.high (omega (arith, ints)) in
    let lx = only a x l.0 p l.2 in let ly = only b y l.1 q l.3 in let le = l.4 in
    let hx = only a x h.0 p h.2 in let hy = only b y h.1 q h.3 in let he = h.4 in
    record { low = cc; high = cc }

-- no members, no results
pub no_members : (op : ℤ → ℤ → Answer) (ty : Scalar) (a b : Interval) (r : Outcome) → (IsEmpty a ⊎ IsEmpty b) → IsEmpty r.value → r.fault ≡ Never
    → IsOutcome op ty a b r
no_members op ty a b r none empty fine =
    let never_both : (x y : ℤ) → Holds a x → Holds b y → ⊥ =
    λ x y p q. let pl = p.low in let ph = p.high in let ql = q.low in let qh = q.high in omega (arith, ints) in
    record {
      holds = λ x y z p q e. absurd (never_both x y p q);
      exact = λ x y z p q e. absurd (never_both x y (its_own a x p) (its_own b y q));
      within = inl empty;
      never = (λ e x y p q. absurd (never_both x y p q), λ h. fine);
      always = λ ne. absurd (ne fine);
    }

module _ (op : ℤ → ℤ → ℤ) (ty : Scalar) (a b s : Interval) (r : Outcome) (span : IsSpan op a b s) (so : IsSettled ty s r) where
  pub span_tight : IsTight (λ x y. settled ty (op x y)) a b r.value
  span_tight = record {
    low = λ f. let w = so.low f in let p = span.parts w.0 w.1 in (p.0, p.1, p.2, p.3, ap (settled ty) p.4 ∙ w.2);
    high = λ f. let w = so.high f in let p = span.parts w.0 w.1 in (p.0, p.1, p.2, p.3, ap (settled ty) p.4 ∙ w.2);
  }

  -- a result on single numbers
  end_is : (x y z v u w : ℤ) → IsSingle a x → IsSingle b y → settled ty (op x y) ≡ value z → Holds a u → Holds b w → settled ty
      (op u w) ≡ value v → v ≡ z
  end_is x y z v u w p q e h k g = let i = only a x u p h in let j = only b y w q k in cc

  single_exact : (x y z : ℤ) → IsSingle a x → IsSingle b y → settled ty (op x y) ≡ value z → IsSingle r.value z
  single_exact x y z p q e =
      let inside = so.holds (op x y) z (span.within x y (its_own a x p) (its_own b y q)) e in
      let il = inside.low in let ih = inside.high in
      let filled : IsFilled r.value = omega (arith, ints) in
      let l = span_tight.low filled in
      let h = span_tight.high filled in
      record { low = end_is x y z r.value.low l.0 l.1 p q e l.2 l.3 l.4; high = end_is x y z r.value.high h.0 h.1 p q e h.2 h.3 h.4 }

  pub span_outcome : IsOutcome (λ x y. settled ty (op x y)) ty a b r
  span_outcome = record {
    holds = λ x y z p q e. so.holds (op x y) z (span.within x y p q) e;
    exact = single_exact;
    within = so.within;
    never = (
      λ e x y p q. so.never.0 e (op x y) (span.within x y p q),
      λ h. so.never.1 (λ t k. let w = span.parts t k in subst (λ (v : ℤ). is_fault (settled ty v) ≡ false) w.4 (h w.0 w.1 w.2 w.3)),
    );
    always = λ ne. (
      λ e x y p q. (so.always ne).0 e (op x y) (span.within x y p q),
      λ h. (so.always ne).1 (λ t k. let w = span.parts t k in subst (λ (v : ℤ). is_fault (settled ty v) ≡ true) w.4 (h w.0 w.1 w.2 w.3)),
    );
  }

pub no_ends : (op : ℤ → ℤ → Answer) (a b i : Interval) → IsEmpty i → IsTight op a b i
no_ends op a b i empty = record { low = λ f. absurd (omega (arith, ints)); high = λ f. absurd (omega (arith, ints)) }
