use Rattle.std.proofs.Common.{Some, subst, sym, ◌∙◌}
use Rattle.sl_model.specs.Runs.Eval.{read_at}
use Rattle.sl_slots.specs.declared.slot.Value.{Value}
use Rattle.sl_frames.specs.Followed.{FitsRead}
use Rattle.sl_frames.proofs.ElementsShow.{element_fits}
use Rattle.sl_frames.proofs.variables.Variables.read.Goals as goal

pub returns-in-ElementAt-clause-shows : goal.returns-in-ElementAt-clause-shows
returns-in-ElementAt-clause-shows c = λ s held u at h e.
    subst (λ (w : Value). FitsRead at (Some w) s (read_at at u s)) (sym c.element_value.ensures)
    (element_fits c.args.self.now.store s held h.mirrors.store at c.in-ElementAt.container c.in-ElementAt.place c.in-ElementAt.part u
    (e ∙ c.in-ElementAt.is))
