-- One of the letters so far, or of those that are left.
use Rattle.std.proofs.Common.{◌≡◌, drop}
use Rattle.std.specs.Prelude.{◌||◌}
use Rattle.sl_typing.specs.Arguments.{some_letter, letters_seen, letter_writes_const}
use Rattle.sl_candidates.proofs.letters.several.letters_write_const.Given as goal

abbrev pub invariant-loop-letter : goal.invariant-loop-letter
invariant-loop-letter l =
    (l.writes || some_letter letter_writes_const (letters_seen l.appends (drop l.letter-index l.letters)) l.left)
    ≡ some_letter letter_writes_const (letters_seen l.appends l.letters) l.types
