-- The rows that are left have the first that is called so.
use Rattle.std.proofs.Common.{◌≡◌, drop}
use Rattle.std.specs.Prelude.{find}
use Rattle.sl_specs.specs.Table.{is_called}
use Rattle.sl_specs.specs.Entries.{entries_from}
use Rattle.sl_specs.proofs.look_up.find_row.Given as goal

abbrev pub invariant-loop-number : goal.invariant-loop-number
invariant-loop-number l =
    find (is_called l.form l.call l.shape) (entries_from l.number (drop l.number l.entries))
    ≡ find (is_called l.form l.call l.shape) (entries_from 0 l.entries)
