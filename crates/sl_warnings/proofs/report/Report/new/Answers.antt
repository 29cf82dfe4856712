use Rattle.std.proofs.Common.{sym, subst}
use Rattle.sl_warnings.specs.Means.Kept.{IsKept}
use Rattle.sl_warnings.proofs.Entries.{kept-empty}
use Rattle.sl_warnings.proofs.report.Report.new.Goals as goal

pub invariant_of-result : goal.invariant_of-result
invariant_of-result c = subst IsKept (sym c.new.ensures.empty) kept-empty
