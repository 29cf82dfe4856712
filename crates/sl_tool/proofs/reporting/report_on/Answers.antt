use Rattle.sl_tool.proofs.ReportLaws.{report-step, killers-step}
use Rattle.sl_tool.proofs.reporting.report_on.Goals as goal

pub kept-requires : goal.kept-requires
kept-requires c = killers-step c.args.names.now c.args.warnings.now c.loop-warning.warning-index c.warning-item.result c.loop-warning.report
    c.requires.ascend c.loop-warning-test.true c.warning-item.is c.loop-warning.invariant

pub loop-warning-preserved : goal.loop-warning-preserved
loop-warning-preserved c = rw (c.in_ok-add.ensures.added, c.kept.ensures)
    (report-step c.args.names.now c.args.warnings.now c.loop-warning.warning-index c.warning-item.result c.loop-warning.report c.requires.in_order
    c.loop-warning-test.true c.warning-item.is c.loop-warning.invariant)
