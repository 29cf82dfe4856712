use Rattle.std.proofs.Common.{refl, ⊎_elim, arith}
use Rattle.std.proofs.lemmas.Int.{ints}
use Rattle.sl_intervals.specs.Intervals.{Holds, IsEmpty, IsFilled}
use Rattle.sl_intervals.proofs.Joined.{no_filled, no_member}
use Rattle.sl_intervals.proofs.Outer.{joined_holds, joined_least, joined_most, joined_within}
use Rattle.sl_intervals.proofs.lattice.join.Goals as goal

pub returns-then-a : goal.returns-then-a
returns-then-a c =
    let none : IsEmpty c.args.a = grind (arith, ints) in
    record {
      first_empty = λ e. refl;
      second_empty = λ f e. absurd (no_filled c.args.a none f);
      low = λ f g. absurd (no_filled c.args.a none f);
      high = λ f g. absurd (no_filled c.args.a none f);
      holds = λ z h. ⊎_elim (λ (p : Holds c.args.a z). absurd (no_member c.args.a z none p)) (λ (p : Holds c.args.b z). p) h;
      at_least = λ z p q. q;
      at_most = λ z p q. q;
      within = λ ty p q. q;
    }

pub returns-then-b : goal.returns-then-b
returns-then-b c =
    let none : IsEmpty c.args.b = grind (arith, ints) in
    let some : IsFilled c.args.a = omega (arith, ints) in
    record {
      first_empty = λ e. absurd (no_filled c.args.a e some);
      second_empty = λ f e. refl;
      low = λ f g. absurd (no_filled c.args.b none g);
      high = λ f g. absurd (no_filled c.args.b none g);
      holds = λ z h. ⊎_elim (λ (p : Holds c.args.a z). p) (λ (p : Holds c.args.b z). absurd (no_member c.args.b z none p)) h;
      at_least = λ z p q. p;
      at_most = λ z p q. p;
      within = λ ty p q. p;
    }

pub returns : goal.returns
returns c =
    let f : IsFilled c.args.a = omega (arith, ints) in
    let g : IsFilled c.args.b = omega (arith, ints) in
    let m = c.outer.ensures.outer in
    record {
      first_empty = λ e. absurd (no_filled c.args.a e f);
      second_empty = λ p e. absurd (no_filled c.args.b e g);
      low = λ p q. c.outer.ensures.low;
      high = λ p q. c.outer.ensures.high;
      holds = λ z h. joined_holds c.args.a c.args.b c.outer.result z m h;
      at_least = λ z p q. joined_least c.args.a c.args.b c.outer.result z m f g p q;
      at_most = λ z p q. joined_most c.args.a c.args.b c.outer.result z m f g p q;
      within = λ ty p q. joined_within ty c.args.a c.args.b c.outer.result m f g p q;
    }
