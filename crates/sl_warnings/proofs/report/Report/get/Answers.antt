use Rattle.std.proofs.Common.{sym, ap, ◌∙◌}
use Rattle.std.specs.Prelude.{slice_get}
use Rattle.sl_warnings.proofs.Entries.{slice_get-entry, slice_get-none}
use Rattle.sl_warnings.proofs.report.Report.get.Goals as goal

pub returns-in-Some-clause-value : goal.returns-in-Some-clause-value
returns-in-Some-clause-value c =
    sym (ap (λ l. slice_get l c.args.i) (sym c.self.view_is) ∙ slice_get-entry c.self.inside.warnings.entries c.args.i _ c.in-Some.warning.now
    (sym c.in-Some.ensures.entry))

pub returns-in-None-clause-value : goal.returns-in-None-clause-value
returns-in-None-clause-value c =
    sym (ap (λ l. slice_get l c.args.i) (sym c.self.view_is) ∙ slice_get-none c.self.inside.warnings.entries c.args.i (sym c.in-None.ensures.entry))
