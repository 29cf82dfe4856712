use Rattle.std.proofs.Common.{◌≡◌, drop}
use Rattle.sl_specs.specs.Entries.{entry_row}
use Rattle.sl_model.specs.LibraryCalls.Situation.{Situation}
use Rattle.sl_model.specs.LibraryCalls.Needs.{all_failures, first_failure}
use Rattle.sl_arguments.specs.Readings.{Reads}
use Rattle.sl_needs.specs.Failures.{told}
use Rattle.sl_needs.specs.Means.Sooner.{sooner}
use Rattle.sl_needs.proofs.row.row_failure.Given as goal

abbrev pub invariant-loop-need : goal.invariant-loop-need
invariant-loop-need l = (s : Situation) → Reads l.arguments s → first_failure (all_failures (entry_row l.entry) l.entry.needs.now s)
    ≡ sooner (told l.failure) (first_failure (all_failures (entry_row l.entry) (drop l.need-index l.entry.needs.now) s))
