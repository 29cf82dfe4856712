use Rattle.std.proofs.Common.{◌≡◌, ◌++◌, drop}
use Rattle.sl_tool.specs.Means.Told.{report_of}
use Rattle.sl_tool.proofs.reporting.report_on.Given as goal

abbrev pub invariant-loop-warning : goal.invariant-loop-warning
invariant-loop-warning l = l.report ++ report_of l.names (drop l.warning-index l.warnings) ≡ report_of l.names l.warnings
