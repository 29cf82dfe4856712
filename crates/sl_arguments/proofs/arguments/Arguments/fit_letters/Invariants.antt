use Rattle.std.proofs.Common.{◌≡◌, drop}
use Rattle.sl_model.specs.LibraryCalls.Operands.{all_sorts}
use Rattle.sl_arguments.specs.Means.Sorts.{are_shown, forms_of}
use Rattle.sl_arguments.proofs.arguments.Arguments.fit_letters.Given as goal

abbrev pub invariant-loop-i : goal.invariant-loop-i
invariant-loop-i l = are_shown (forms_of l.self.containers.now) (all_sorts l.form l.appends l.letters) l.self.values.now
    ≡ are_shown (forms_of l.self.containers.now) (all_sorts l.form l.appends (drop l.i l.letters)) l.rest
