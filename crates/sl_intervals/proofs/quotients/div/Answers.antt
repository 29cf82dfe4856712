use Rattle.std.proofs.Common.{inl, inr, arith}
use Rattle.std.proofs.lemmas.Int.{ints}
use Rattle.sl_syntax.specs.declared.operator.Arithmetic.TheVariants as operator
use Rattle.sl_model.specs.Numbers.{operated}
use Rattle.sl_intervals.specs.Intervals.{IsEmpty, IsFilled}
use Rattle.sl_intervals.proofs.Joined.{within_of, no_filled}
use Rattle.sl_intervals.proofs.Divided.{low_quotient, high_quotient}
use Rattle.sl_intervals.proofs.Spanning.{no_members, no_ends}
use Rattle.sl_intervals.proofs.quotients.div.Goals as goal

pub returns-then-a : goal.returns-then-a
returns-then-a c =
    let none : IsEmpty c.args.a = grind (arith, ints) in
    record {
      outcome = no_members (operated operator.Divide c.args.ty) c.args.ty c.args.a c.args.b c.no_outcome.result (inl none)
          c.no_outcome.ensures.value c.no_outcome.ensures.fault;
      ends = no_ends (operated operator.Divide c.args.ty) c.args.a c.args.b c.no_outcome.result.value c.no_outcome.ensures.value;
      low = λ f g up above. absurd (no_filled c.args.a none f);
      high = λ f g up above. absurd (no_filled c.args.a none f);
    }

pub returns-then-b : goal.returns-then-b
returns-then-b c =
    let none : IsEmpty c.args.b = grind (arith, ints) in
    record {
      outcome = no_members (operated operator.Divide c.args.ty) c.args.ty c.args.a c.args.b c.no_outcome-then-b.result (inr none)
          c.no_outcome-then-b.ensures.value c.no_outcome-then-b.ensures.fault;
      ends = no_ends (operated operator.Divide c.args.ty) c.args.a c.args.b c.no_outcome-then-b.result.value
          c.no_outcome-then-b.ensures.value;
      low = λ f g up above. absurd (no_filled c.args.b none g);
      high = λ f g up above. absurd (no_filled c.args.b none g);
    }

pub plain_quotients-requires : goal.plain_quotients-requires
plain_quotients-requires c =
    let f : IsFilled c.args.a = omega (arith, ints) in
    let g : IsFilled c.args.b = omega (arith, ints) in
    record {
      number = c.requires.number;
      first = within_of c.args.ty c.args.a f c.requires.first;
      second = within_of c.args.ty c.args.b g c.requires.second;
      first_filled = f;
      second_filled = g;
    }

pub returns-clause-low : goal.returns-clause-low
returns-clause-low c = λ fa fb up above. low_quotient c.args.ty c.args.a c.args.b c.plain_quotients.result c.requires.number
    (within_of c.args.ty c.args.a fa c.requires.first) (within_of c.args.ty c.args.b fb c.requires.second) fa fb up above
    c.plain_quotients.ensures.outcome c.plain_quotients.ensures.ends

pub returns-clause-high : goal.returns-clause-high
returns-clause-high c = λ fa fb up above. high_quotient c.args.ty c.args.a c.args.b c.plain_quotients.result c.requires.number
    (within_of c.args.ty c.args.a fa c.requires.first) (within_of c.args.ty c.args.b fb c.requires.second) fa fb up above
    c.plain_quotients.ensures.outcome c.plain_quotients.ensures.ends
