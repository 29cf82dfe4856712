use Rattle.std.proofs.Common.{◌≡◌, ◌++◌, drop}
use Rattle.sl_tool.specs.Means.Analysis.{nothing_known, warnings_of}
use Rattle.sl_tool.specs.Means.KnownView.{known_of}
use Rattle.sl_tool.proofs.analysis.warnings_in.Given as goal

abbrev pub invariant-loop-stmt : goal.invariant-loop-stmt
invariant-loop-stmt l = l.report ++ warnings_of (known_of l.known) (drop l.stmt-index l.stmts) ≡ warnings_of nothing_known l.stmts
