-- What the table of the code says: the row of each entry, with its number and shape, and its signature.
use Rattle.std.specs.Prelude.{ℕ, ◌+◌, nat_le, Bool, List, [], ◌∷◌, length}
use Rattle.sl_specs.specs.declared.entry.Entry.{Entry}
use Rattle.sl_specs.specs.declared.letter.Letter.{Letter}
use Rattle.sl_specs.specs.declared.lib_row.LibRow.{LibRow}
use Rattle.sl_specs.specs.declared.return_type.ReturnType.{ReturnType}
use Rattle.sl_specs.specs.declared.entry.Signature.{Signature}
use Rattle.sl_specs.specs.Rows.{Row}
use Rattle.sl_specs.specs.Table.{lib_row}

-- the row of an entry
abbrev pub entry_row : Entry → Row
entry_row e = record {
  form = e.form;
  call = e.call;
  letters = e.signature.letters.now;
  gives = e.signature.gives;
  changes = e.signature.changes;
  needs = e.needs.now;
  kills = e.kills;
}

-- the same as callers see it, at a place
abbrev pub entry_lib_row : ℕ → Entry → LibRow
entry_lib_row number e = lib_row number e.shape (entry_row e)

-- the entries as callers see them, of which the first is at a place
abbrev pub entries_from : ℕ → List Entry → List LibRow
entries_from n [] = []
entries_from n (e ∷ es) = entry_lib_row n e ∷ entries_from (n + 1) es

-- an entry has as many needs as a row may have
abbrev pub has_few_needs : Entry → Bool
has_few_needs e = nat_le (length e.needs.now) 3

-- what a signature says
abbrev pub asked : Signature → List Letter × ReturnType × Bool
asked s = (s.letters.now, s.gives, s.changes)
