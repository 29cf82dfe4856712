use Rattle.std.proofs.Common.{◌≡◌, ◌+◌, ◌*◌, ◌≤◌, drop}
use Rattle.sl_model.specs.LibraryCalls.Situation.{Situation}
use Rattle.sl_model.specs.LibraryCalls.Operands.{ranges_from}
use Rattle.sl_model.specs.LibraryCalls.Needs.{each_range, first_failure}
use Rattle.sl_arguments.specs.Readings.{Reads}
use Rattle.sl_needs.specs.Failures.{told}
use Rattle.sl_needs.specs.Means.Sooner.{sooner}
use Rattle.sl_needs.specs.Means.Ranges.{range_fails}
use Rattle.sl_needs.proofs.range_test.each_range.Given as goal

abbrev pub invariant-loop-letter : goal.invariant-loop-letter
invariant-loop-letter l = record {
  near : l.number ≤ l.letter-index * 2 + 1;
  counts : (s : Situation) → Reads l.arguments s → first_failure (each_range (range_fails l.test s) (ranges_from 1 l.letters))
      ≡ sooner (told l.failure) (first_failure (each_range (range_fails l.test s) (ranges_from l.number (drop l.letter-index l.letters))));
}
