use Rattle.std.proofs.Common.{◌≡◌, ◌+◌, drop, slice_index_or}
use Rattle.sl_model.specs.LibraryCalls.Operands.{ranges_from}
use Rattle.sl_needs.proofs.letters.first_range.Given as goal

abbrev pub invariant-loop-letter : goal.invariant-loop-letter
invariant-loop-letter l = record {
  at : l.number ≡ l.letter-index + 1;
  rest : slice_index_or (ranges_from 1 l.letters) 0 1 ≡ slice_index_or (ranges_from l.number (drop l.letter-index l.letters)) 0 1;
}
