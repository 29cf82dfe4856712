use Rattle.std.proofs.Common.{◌≡◌, ◌++◌, drop}
use Rattle.sl_model.specs.Reports.Texts.{further_sites}
use Rattle.sl_wording.proofs.sites.push_further.Given as goal

abbrev pub invariant-loop-killer : goal.invariant-loop-killer
invariant-loop-killer l = l.out ++ further_sites l.sites (drop l.killer-index l.killers) ≡ l.initial.out ++ further_sites l.sites l.killers
