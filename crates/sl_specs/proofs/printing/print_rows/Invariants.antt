use Rattle.std.proofs.Common.{◌≡◌, ◌++◌, drop, map}
use Rattle.sl_specs.specs.Entries.{entry_row}
use Rattle.sl_specs.specs.Printed.{lines}
use Rattle.sl_specs.specs.Table.{table}
use Rattle.sl_specs.proofs.printing.print_rows.Given as goal

abbrev pub invariant-loop-entry : goal.invariant-loop-entry
invariant-loop-entry l = l.out ++ lines (map entry_row (drop l.entry-index l.entry-items)) ≡ lines table
