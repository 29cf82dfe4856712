use Rattle.std.proofs.Common.{inr, arith}
use Rattle.std.proofs.lemmas.Int.{ints, clamps}
use Rattle.sl_intervals.proofs.Verdicts.{limited_of}
use Rattle.sl_intervals.proofs.Divided.{quotients_outcome, quotients_tight}
use Rattle.sl_intervals.proofs.quotients.plain_quotients.Goals as goal

pub quotients-requires : goal.quotients-requires
quotients-requires c = record {
  first = limited_of c.args.ty c.args.a c.requires.first_filled (inr c.requires.first);
  second = limited_of c.args.ty c.args.b c.requires.second_filled (inr c.requires.second);
}

pub returns-clause-outcome : goal.returns-clause-outcome
returns-clause-outcome c = quotients_outcome c.args.ty c.args.a c.args.b c.quotients.result _ c.requires.number c.requires.first c.requires.second
    c.quotients.ensures (omega (arith, ints, clamps)) (omega (arith, ints, clamps)) c.division_faults.ensures

pub returns-clause-ends : goal.returns-clause-ends
returns-clause-ends c = quotients_tight c.args.ty c.args.a c.args.b c.quotients.result (record {
  value = c.meet.result;
  fault = c.division_faults.result;
}) c.requires.number c.requires.first c.requires.second c.quotients.ensures (omega (arith, ints, clamps)) (omega (arith, ints, clamps))
