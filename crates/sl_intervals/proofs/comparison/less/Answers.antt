use Rattle.std.proofs.Common.{◌<ℤ◌, ◌≤ℤ◌, inl, inr, refl, arith}
use Rattle.std.proofs.lemmas.Int.{ints, by_lt_z}
use Rattle.sl_intervals.specs.Intervals.{IsEmpty}
use Rattle.sl_intervals.proofs.Joined.{truth_below, truth_not_below, no_filled, no_member}
use Rattle.sl_intervals.proofs.comparison.less.Goals as goal

pub returns-then-a : goal.returns-then-a
returns-then-a c =
    let none : IsEmpty c.args.a = grind (arith, ints) in
    record {
      none = λ e. omega (arith, ints);
      low = λ f g. absurd (no_filled c.args.a none f);
      high = λ f g. absurd (no_filled c.args.a none f);
      holds = λ x y p q. absurd (no_member c.args.a x none p);
      within = inl (omega (arith, ints));
      fault = refl;
    }

pub returns-then-b : goal.returns-then-b
returns-then-b c =
    let none : IsEmpty c.args.b = grind (arith, ints) in
    record {
      none = λ e. omega (arith, ints);
      low = λ f g. absurd (no_filled c.args.b none g);
      high = λ f g. absurd (no_filled c.args.b none g);
      holds = λ x y p q. absurd (no_member c.args.b y none q);
      within = inl (omega (arith, ints));
      fault = refl;
    }

pub returns-clause-holds : goal.returns-clause-holds
returns-clause-holds c = λ x y p q.
    let pl = p.low in let ph = p.high in let ql = q.low in let qh = q.high in
    by_lt_z x y
    (λ (h : x <ℤ y). let e = truth_below x y h in record { low = omega (arith, ints); high = omega (arith, ints) })
    (λ (h : y ≤ℤ x). let e = truth_not_below x y h in record { low = omega (arith, ints); high = omega (arith, ints) })

pub returns-clause-within : goal.returns-clause-within
returns-clause-within c = inr (record { low = omega (arith, ints); high = omega (arith, ints) })
