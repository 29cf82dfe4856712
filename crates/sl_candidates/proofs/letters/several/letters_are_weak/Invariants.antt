-- One of the letters so far, or of those that are left.
use Rattle.std.proofs.Common.{◌≡◌, drop}
use Rattle.std.specs.Prelude.{◌||◌}
use Rattle.sl_typing.specs.Arguments.{some_letter, letters_seen, letter_is_weak}
use Rattle.sl_candidates.proofs.letters.several.letters_are_weak.Given as goal

abbrev pub invariant-loop-letter : goal.invariant-loop-letter
invariant-loop-letter l =
    (l.weak || some_letter letter_is_weak (letters_seen l.appends (drop l.letter-index l.letters)) l.left)
    ≡ some_letter letter_is_weak (letters_seen l.appends l.letters) l.types
