use Rattle.std.proofs.Common.{sym}
use Rattle.sl_tool.specs.Means.Analysis.{nothing_known, warnings_of}
use Rattle.sl_tool.specs.Means.Told.{report_of}
use Rattle.sl_tool.proofs.Reported.{is_report, ordered, ascending}
use Rattle.sl_tool.proofs.checking.report.Goals as goal

pub report_on-requires-clause-in_order : goal.report_on-requires-clause-in_order
report_on-requires-clause-in_order c = rw (c.as_slice-2.ensures, c.as_slice-3.ensures, c.in_ok-warnings.ensures, c.as_slice.ensures)
    (ordered c.args.p.now c.requires)

pub report_on-requires-clause-ascend : goal.report_on-requires-clause-ascend
report_on-requires-clause-ascend c = rw (c.as_slice-2.ensures, c.as_slice-3.ensures, c.in_ok-warnings.ensures, c.as_slice.ensures)
    (ascending c.args.p.now c.requires)

pub returns : goal.returns
returns c =
    let p = c.args.p.now in
    let report_is = rw (c.as_slice-2.ensures, c.as_slice-3.ensures, c.in_ok-warnings.ensures, c.as_slice.ensures) at c.in_ok-report.ensures in (
      report_of p.names (warnings_of nothing_known p.stmts),
      is_report c.requires.0 p c.requires.1,
      rw (sym report_is) c.status_of.ensures,
      rw (sym report_is) (rw (c.as_slice-4.ensures) at c.in_ok-text.ensures),
    )
