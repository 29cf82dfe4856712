use Rattle.indexmap.proofs.CallerLemmas.{keys-with_value_at}
use Rattle.sl_warnings.proofs.Entries.{listed-written}
use Rattle.sl_warnings.specs.Views.{sites_in}
use Rattle.sl_warnings.proofs.report.join_at.Goals as goal

pub returns-clause-keys : goal.returns-clause-keys
returns-clause-keys c = keys-with_value_at c.args.warnings.now c.args.at c.join.new.self

pub returns-clause-joined : goal.returns-clause-joined
returns-clause-joined c =
    listed-written c.args.warnings.now.entries c.args.at c.index_mut.result.now c.join.new.self
    (sites_in c.args.killers.now) c.index_mut.ensures.value c.join.ensures
