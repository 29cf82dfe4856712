use Rattle.sl_scopes.proofs.LimitLaws.{one_told}
use Rattle.sl_scopes.specs.SortView.{sort_seen}
use Rattle.sl_scopes.proofs.sorts.one_passes_limit.Goals as goal

pub returns : goal.returns
returns c name label =
    one_told name label c.args.variable_type c.args.scope.now (sort_seen c.sort_of-sort.result) c.count_of.result c.limit_of.result
    c.sort_of-sort.ensures c.count_of.ensures c.limit_of.ensures
