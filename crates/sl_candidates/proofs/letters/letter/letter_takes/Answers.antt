-- A range is tested by the type of its ends.
use Rattle.std.proofs.Common.{◌∙◌, ap}
use Rattle.sl_typing.specs.Types.{is_iterator_of, is_int_iterator}
use Rattle.sl_candidates.proofs.OperandLaws.{range_own, ints_taken}
use Rattle.sl_candidates.proofs.letters.letter.letter_takes.Goals as goal

pub returns-in-OwnRange : goal.returns-in-OwnRange
returns-in-OwnRange c =
    c.is_iterator_of-in-OwnRange.ensures ∙ (ap (is_iterator_of c.args.form) c.range_type.ensures ∙ rw c.in-OwnRange.is (range_own c.args.form c.args.types.now))

pub returns-in-IntRange : goal.returns-in-IntRange
returns-in-IntRange c =
    c.is_int_iterator.ensures
    ∙ (ap is_int_iterator c.range_type-in-IntRange.ensures ∙ ints_taken c.args.form c.args.letter c.args.types.now c.in-IntRange.is)
