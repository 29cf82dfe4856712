use Rattle.std.proofs.Common.{◌≡◌, ◌++◌, drop}
use Rattle.sl_specs.specs.Printed.{other_letters}
use Rattle.sl_specs.proofs.printing.push_other_letters.Given as goal

abbrev pub invariant-loop-letter : goal.invariant-loop-letter
invariant-loop-letter l = l.out ++ other_letters (drop l.letter-index l.letters) ≡ l.initial.out ++ other_letters l.letters
