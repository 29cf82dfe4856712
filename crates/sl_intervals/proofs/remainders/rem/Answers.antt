use Rattle.std.proofs.Common.{inl, inr, arith}
use Rattle.std.proofs.lemmas.Int.{ints}
use Rattle.sl_syntax.specs.declared.operator.Arithmetic.TheVariants as operator
use Rattle.sl_model.specs.Numbers.{operated}
use Rattle.sl_intervals.specs.Intervals.{IsEmpty, IsFilled}
use Rattle.sl_intervals.proofs.Joined.{within_of}
use Rattle.sl_intervals.proofs.Rests.{empty_remainders}
use Rattle.sl_intervals.proofs.Spanning.{no_members}
use Rattle.sl_intervals.proofs.remainders.rem.Goals as goal

pub returns-then-a : goal.returns-then-a
returns-then-a c =
    let none : IsEmpty c.args.a = grind (arith, ints) in
    record {
      outcome = no_members (operated operator.Remainder c.args.ty) c.args.ty c.args.a c.args.b c.no_outcome.result (inl none)
          c.no_outcome.ensures.value c.no_outcome.ensures.fault;
      ends = empty_remainders c.args.a c.args.b c.no_outcome.result.value (inl none) c.no_outcome.ensures.value;
    }

pub returns-then-b : goal.returns-then-b
returns-then-b c =
    let none : IsEmpty c.args.b = grind (arith, ints) in
    record {
      outcome = no_members (operated operator.Remainder c.args.ty) c.args.ty c.args.a c.args.b c.no_outcome-then-b.result (inr none)
          c.no_outcome-then-b.ensures.value c.no_outcome-then-b.ensures.fault;
      ends = empty_remainders c.args.a c.args.b c.no_outcome-then-b.result.value (inr none) c.no_outcome-then-b.ensures.value;
    }

pub plain_remainders-requires : goal.plain_remainders-requires
plain_remainders-requires c =
    let f : IsFilled c.args.a = omega (arith, ints) in
    let g : IsFilled c.args.b = omega (arith, ints) in
    record {
      number = c.requires.number;
      first = within_of c.args.ty c.args.a f c.requires.first;
      second = within_of c.args.ty c.args.b g c.requires.second;
      first_filled = f;
      second_filled = g;
    }
