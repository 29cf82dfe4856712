use Rattle.std.proofs.Common.{ap, ◌∙◌}
use Rattle.sl_slots.specs.Shown.{Plain}
use Rattle.sl_arguments.proofs.ValueReadings.{container_shows}
use Rattle.sl_arguments.proofs.arguments.Arguments.form.Goals as goal

pub returns : goal.returns
returns c = λ s h. c.form_at.ensures
    ∙ ap (λ (p : Plain). p.form) (container_shows c.args.self.now.containers.now s.memory h.containers c.args.container)
