-- The letters that are left take the operands that are left.
use Rattle.std.proofs.Common.{◌≡◌, drop}
use Rattle.std.specs.Prelude.{◌&&◌}
use Rattle.sl_typing.specs.Arguments.{letters_take, letters_seen}
use Rattle.sl_candidates.proofs.letters.several.letters_take.Given as goal

abbrev pub invariant-loop-letter : goal.invariant-loop-letter
invariant-loop-letter l =
    (l.fits && letters_take l.form (letters_seen l.appends (drop l.letter-index l.letters)) l.left)
    ≡ letters_take l.form (letters_seen l.appends l.letters) l.types
