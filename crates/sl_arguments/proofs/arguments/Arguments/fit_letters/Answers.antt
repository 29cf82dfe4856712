use Rattle.std.proofs.Common.{List, sym}
use Rattle.sl_specs.specs.declared.letter.Letter.{Letter}
use Rattle.sl_model.specs.LibraryCalls.Operands.{all_sorts}
use Rattle.sl_arguments.specs.Means.Sorts.{are_shown, forms_of}
use Rattle.sl_arguments.proofs.TakenLetters.{letter_taken}
use Rattle.sl_arguments.proofs.arguments.Arguments.fit_letters.Goals as goal

pub returns-in-Whole : goal.returns-in-Whole
returns-in-Whole c = sym (letter_taken (forms_of c.args.self.now.containers.now) c.args.form c.args.appends c.args.letters.now c.loop-i.i _
    c.loop-i.rest.now _ (λ (xs : List Letter). c.in-Whole.fit) c.loop-i-test.true c.in-Whole.ensures c.loop-i.invariant)

pub loop-i-preserved : goal.loop-i-preserved
loop-i-preserved c = let f = forms_of c.args.self.now.containers.now in
    letter_taken f c.args.form c.args.appends c.args.letters.now c.loop-i.i _ c.loop-i.rest.now _
    (λ (xs : List Letter). are_shown f (all_sorts c.args.form c.args.appends xs) c.in-Left.values.now)
    c.loop-i-test.true c.in-Left.ensures c.loop-i.invariant
