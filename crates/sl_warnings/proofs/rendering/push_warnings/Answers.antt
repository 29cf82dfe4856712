use Rattle.std.proofs.Common.{arith, sym}
use Rattle.sl_model.specs.Reports.Texts.{warning_line}
use Rattle.sl_warnings.specs.Views.{warning_of}
use Rattle.sl_warnings.proofs.LineLaws.{line-next, some-there}
use Rattle.sl_warnings.proofs.rendering.push_warnings.Goals as goal
use Rattle.sl_warnings.proofs.rendering.push_warnings.Goals.{in-Some+in_ok-push_warning-in-Some, in-None}

pub loop-i-preserved : goal.loop-i-preserved
loop-i-preserved c = elim c.match-get.branch [
  | in-Some+in_ok-push_warning-in-Some w ↦
      rw (w.out-is, w.in_ok-push_warning-in-Some.ensures)
      (line-next (warning_line c.args.name.now c.args.sites.now) c.args.r.now c.loop-i.i (warning_of w.in-Some.warning.now) c.loop-i.out _
      (sym w.in-Some.ensures.value) c.loop-i.invariant)
  | in-None w ↦ absurd (some-there c.args.r.now c.loop-i.i (omega arith) (sym w.in-None.ensures.value))
]
