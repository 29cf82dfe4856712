use Rattle.std.proofs.Common.{inr}
use Rattle.sl_intervals.proofs.Verdicts.{limited_of}
use Rattle.sl_intervals.proofs.Rests.{remainders_outcome}
use Rattle.sl_intervals.proofs.remainders.plain_remainders.Goals as goal

pub remainders-requires : goal.remainders-requires
remainders-requires c = record {
  first = limited_of c.args.ty c.args.a c.requires.first_filled (inr c.requires.first);
  second = limited_of c.args.ty c.args.b c.requires.second_filled (inr c.requires.second);
}

pub returns-clause-outcome : goal.returns-clause-outcome
returns-clause-outcome c = remainders_outcome c.args.ty c.args.a c.args.b _ c.requires.number c.requires.first c.requires.second
    c.remainders.ensures.remainders c.remainders.ensures.exact c.division_faults.ensures
