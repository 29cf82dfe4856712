use Rattle.std.proofs.Common.{◌≡◌, ◌++◌}
use Rattle.sl_warnings.specs.Views.{sites_in}
use Rattle.sl_warnings.proofs.Sites.{sites_from}
use Rattle.sl_warnings.proofs.killers.sites_of.Given as goal

abbrev pub invariant-loop-number : goal.invariant-loop-number
invariant-loop-number l = l.sites ++ sites_from l.killers l.number ≡ sites_in l.killers
