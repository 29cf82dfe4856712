use Rattle.std.proofs.Common.{arith, ◌∙◌}
use Rattle.sl_base.proofs.Told.{Appends-next}
use Rattle.sl_base.proofs.outside.writing.write_all.Goals as goal

pub loop-done-preserved : goal.loop-done-preserved
loop-done-preserved g c = (
  omega (arith, c.in_ok-done.ensures.bound),
  Appends-next _ _ _ _ _ _ c.loop-done.invariant.1 c.in_ok-done.ensures.bytes,
  c.in_ok-done.ensures.steady ∙ c.loop-done.invariant.2,
)
