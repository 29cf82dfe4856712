use Rattle.std.proofs.Common.{◌≡◌, length, take, flat_map}
use Rattle.sl_expr_types.specs.Capped.{capped}
use Rattle.sl_expr_types.proofs.CountLaws.{sites_at}
use Rattle.sl_expr_types.proofs.sites.+site_count.Given as goal

abbrev pub invariant-site_count_of_all-loop-x : goal.invariant-site_count_of_all-loop-x
invariant-site_count_of_all-loop-x l = l.count ≡ capped (length (flat_map (sites_at l.scope) (take l.x-index l.xs)))
