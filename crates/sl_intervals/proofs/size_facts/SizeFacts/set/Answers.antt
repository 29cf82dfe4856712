use Rattle.std.proofs.Common.{◌≢◌, ◌+◌, ◌*◌, refl, arith, get_or-set_same, get_or-set_other}
use Rattle.sl_intervals.specs.declared.size_fact.SizeFact.TheVariants.{Nothing}
use Rattle.sl_intervals.specs.SizeTable.{told}
use Rattle.sl_intervals.proofs.Table.{apart}
use Rattle.sl_intervals.proofs.size_facts.SizeFacts.set.Goals as goal

pub returns-clause-same : goal.returns-clause-same
unfolding told
returns-clause-same c = rw c.place_of.ensures (get_or-set_same c.args.self.now.entries (c.args.x * 16 + c.args.c) c.args.fact Nothing (omega arith))

pub returns-clause-others : goal.returns-clause-others
unfolding told
returns-clause-others c = λ y d p q h.
    let differ : y * 16 + d ≢ c.args.x * 16 + c.args.c = apart c.args.x c.args.c y d (omega arith) q h in
    rw c.place_of.ensures (rw get_or-set_other refl)
