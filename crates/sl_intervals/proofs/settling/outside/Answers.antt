use Rattle.std.proofs.Common.{refl, arith}
use Rattle.std.proofs.lemmas.Int.{ints}
use Rattle.sl_intervals.proofs.Verdicts.{some_number}
use Rattle.sl_intervals.proofs.settling.outside.Goals as goal

pub returns-then-s-first : goal.returns-then-s-first
returns-then-s-first c =
    let s = some_number c.args.ty in
    record {
      never = λ w. let l = w.low in let h = w.high in absurd (omega (arith, ints));
      under = λ p. refl;
      over = λ p. refl;
      low = λ p q. absurd (omega (arith, ints));
      high = λ p q. absurd (omega (arith, ints));
    }

pub returns-then-last-s : goal.returns-then-last-s
returns-then-last-s c =
    let s = some_number c.args.ty in
    record {
      never = λ w. let l = w.low in let h = w.high in absurd (omega (arith, ints));
      under = λ p. refl;
      over = λ p. refl;
      low = λ p q. absurd (omega (arith, ints));
      high = λ p q. absurd (omega (arith, ints));
    }

pub returns-then-s-first-2 : goal.returns-then-s-first-2
returns-then-s-first-2 c =
    let s = some_number c.args.ty in
    record {
      never = λ w. let l = w.low in let h = w.high in absurd (omega (arith, ints));
      under = λ p. absurd (omega (arith, ints));
      over = λ p. absurd (omega (arith, ints));
      low = λ p q. refl;
      high = λ p q. refl;
    }

pub returns-then-last-s-2 : goal.returns-then-last-s-2
returns-then-last-s-2 c =
    let s = some_number c.args.ty in
    record {
      never = λ w. let l = w.low in let h = w.high in absurd (omega (arith, ints));
      under = λ p. absurd (omega (arith, ints));
      over = λ p. absurd (omega (arith, ints));
      low = λ p q. refl;
      high = λ p q. refl;
    }

pub returns : goal.returns
returns c =
    let s = some_number c.args.ty in
    record {
      never = λ w. refl;
      under = λ p. absurd (omega (arith, ints));
      over = λ p. absurd (omega (arith, ints));
      low = λ p q. absurd (omega (arith, ints));
      high = λ p q. absurd (omega (arith, ints));
    }
