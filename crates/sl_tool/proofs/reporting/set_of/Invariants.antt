use Rattle.std.proofs.Common.{◌≡◌, ◌++◌, drop}
use Rattle.sl_warnings.specs.Views.{sites_in}
use Rattle.sl_tool.proofs.reporting.set_of.Given as goal

abbrev pub invariant-loop-site : goal.invariant-loop-site
invariant-loop-site l = sites_in l.kills ++ drop l.site-index l.sites ≡ l.sites
