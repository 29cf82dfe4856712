use Rattle.std.proofs.Common.{◌≡◌, ◌++◌, drop}
use Rattle.sl_tool.specs.Means.Analysis.{sites_on}
use Rattle.sl_tool.proofs.analysis.sites_of.Given as goal

abbrev pub invariant-loop-push : goal.invariant-loop-push
invariant-loop-push l = l.sites ++ sites_on l.vector (drop l.push-index l.pushes) ≡ sites_on l.vector l.pushes
