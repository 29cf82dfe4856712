use Rattle.std.proofs.Common.{List, Bool, false, Option, Some, None, sym, ap, ◌∙◌}
use Rattle.sl_base.specs.declared.form.Form.{Form}
use Rattle.sl_base.specs.declared.form.Form.TheVariants as f
use Rattle.sl_specs.specs.Entries.{entry_row}
use Rattle.sl_model.specs.LibraryCalls.Operands.{Sort, all_sorts, are_of}
use Rattle.sl_arguments.proofs.SortReadings.{fit_read, row_sorts}
use Rattle.sl_arguments.proofs.arguments.Arguments.fit.Goals as goal

pub returns-in-Some : goal.returns-in-Some
returns-in-Some c = λ s h. let e = c.args.entry.now in
    c.fit_letters.ensures ∙ (fit_read c.args.self.now s h (all_sorts c.in-Some.form false e.signature.letters.now)
    ∙ ap (λ (sorts : List Sort). are_of s.memory sorts s.values) (sym (row_sorts c.args.appends (entry_row e)
    ∙ ap (λ (o : Option Form). elim o as (λ _. List Sort) [
      | Some form ↦ all_sorts form false e.signature.letters.now
      | None ↦ all_sorts f.Vector c.args.appends e.signature.letters.now
    ]) c.in-Some.is)))

pub returns-in-None : goal.returns-in-None
returns-in-None c = λ s h. let e = c.args.entry.now in
    c.fit_letters-in-None.ensures ∙ (fit_read c.args.self.now s h (all_sorts f.Vector c.args.appends e.signature.letters.now)
    ∙ ap (λ (sorts : List Sort). are_of s.memory sorts s.values) (sym (row_sorts c.args.appends (entry_row e)
    ∙ ap (λ (o : Option Form). elim o as (λ _. List Sort) [
      | Some form ↦ all_sorts form false e.signature.letters.now
      | None ↦ all_sorts f.Vector c.args.appends e.signature.letters.now
    ]) c.in-None.is)))
