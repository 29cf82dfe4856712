-- What a found row of the code stands for.
use Rattle.sl_specs.specs.Entries.{entry_row}
use Rattle.sl_typing.specs.Candidates.{Found}
use Rattle.sl_candidates.specs.declared.rows.found.FoundRow.{FoundRow}

-- a row with its number
abbrev pub found_of : FoundRow → Found
found_of x = record { number = x.number; row = entry_row x.entry }
