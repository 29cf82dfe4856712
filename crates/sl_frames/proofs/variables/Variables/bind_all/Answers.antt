use Rattle.std.proofs.Common.{arith, ap}
use Rattle.std.proofs.lemmas.Option.{slice_get-get_or, slice_get_read}
use Rattle.sl_frames.proofs.BoundShows.{none_binds, one_binds, all_bind}
use Rattle.sl_frames.proofs.variables.Variables.bind_all.Goals as goal

pub loop-i-init : goal.loop-i-init
loop-i-init c = none_binds c.args.parameters.now c.args.base c.args.self.now

pub loop-i-preserved : goal.loop-i-preserved
loop-i-preserved c =
    let operands = c.loop-i.self.store.operands in
    let same = ap (λ v. v.len) c.loop-i.invariant.operands in
    one_binds c.args.parameters.now c.args.base c.loop-i.i c.args.self.now c.loop-i.self c.bind_one.new.self _ c.index-operand.result.now
    (slice_get-get_or c.args.parameters.now c.loop-i.i _ (omega (arith, c.loop-i-test.true, c.min-count.ensures)))
    (slice_get_read operands.items operands.len _ c.index-operand.result.now operands.ok.0
    (omega (arith, c.loop-i-test.true, c.min-count.ensures, c.saturating_sub-operands.ensures, c.len.ensures, same)) c.index-operand.ensures)
    c.in_ok-bind_one.ensures.operands c.in_ok-bind_one.ensures.mirrors c.loop-i.invariant

pub returns-clause-operands : goal.returns-clause-operands
returns-clause-operands c = c.loop-i.invariant.operands

pub returns-clause-mirrors : goal.returns-clause-mirrors
returns-clause-mirrors c = all_bind c.args.parameters.now c.args.base c.loop-i.i c.args.self.now c.loop-i.self
    (omega (arith, c.loop-i-test.false, c.min-count.ensures, c.saturating_sub-operands.ensures, c.len.ensures, c.args.self.now.store.operands.ok.0))
    c.loop-i.invariant
