use Rattle.std.proofs.Common.{Option, ap, ◌∙◌}
use Rattle.sl_base.specs.declared.form.Form.{Form}
use Rattle.sl_arguments.specs.Means.Sorts.{is_form}
use Rattle.sl_arguments.proofs.SortReadings.{form_read}
use Rattle.sl_arguments.proofs.arguments.Arguments.is_of_form.Goals as goal

pub returns : goal.returns
returns c = λ s h. c.is_form.ensures ∙ (ap (λ (o : Option Form). is_form o c.args.form) c.form_of.ensures
    ∙ form_read c.args.self.now s h c.args.form c.args.container)
