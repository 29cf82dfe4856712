use Rattle.std.proofs.Common.{◌≡◌, ◌≤◌, take}
use Rattle.sl_typing.specs.Numbering.{trimmed}
use Rattle.sl_numbering.proofs.heads.trimmed.Given as goal

abbrev pub invariant-loop-i : goal.invariant-loop-i
invariant-loop-i l = record { within : l.end ≤ l.i; kept : trimmed (take l.i l.names) ≡ take l.end l.names }
