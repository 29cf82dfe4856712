use Rattle.std.proofs.Common.{◌∙◌}
use Rattle.std.proofs.lemmas.Result.{on_ok_weaker}
use Rattle.sl_slots.specs.declared.slot.Pointer.TheVariants as p
use Rattle.sl_frames.specs.Changed.{PointerCame}
use Rattle.sl_frames.proofs.BoundShows.{binds_stamp, nothing_binds}
use Rattle.sl_frames.proofs.variables.Variables.bind_one.Goals as goal

pub returns-in-Iterator-clause-mirrors : goal.returns-in-Iterator-clause-mirrors
returns-in-Iterator-clause-mirrors c = on_ok_weaker c.declare_pointer.result
    (λ (is : PointerCame (p.Iterator c.in-Iterator.slot) c.args.self.now c.declare_pointer.new.self) s held u e used h.
    binds_stamp c.args.parameter c.in-Iterator.slot c.args.self.now c.declare_pointer.new.self is s held u (e ∙ c.in-Iterator.is) used h)
    c.declare_pointer.ensures.came

pub returns-in_default-clause-mirrors : goal.returns-in_default-clause-mirrors
returns-in_default-clause-mirrors c = λ s held u e used h. nothing_binds c.args.parameter c.args.operand c.args.self.now
    c.in_default.not-Number c.in_default.not-Iterator c.in_default.not-ScalarAt c.in_default.not-ContainerAt s held u e h
