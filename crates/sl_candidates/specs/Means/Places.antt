-- Rows by their places, and what is asked of the row of a call.
use Rattle.std.specs.Prelude.{ℕ, Bool, true, false, ◌&&◌, List, length, Option, Some, None, option_map, slice_get}
use Rattle.std.specs.List.{list_any, position_from}
use Rattle.sl_base.specs.declared.form.Form.{Form}
use Rattle.sl_base.specs.declared.form.Form.TheVariants as f
use Rattle.sl_specs.specs.declared.call.Call.TheVariants as c
use Rattle.sl_specs.specs.declared.class.Class.{Class}
use Rattle.sl_specs.specs.declared.class.Class.TheVariants as k
use Rattle.sl_specs.specs.declared.entry.Entry.{Entry}
use Rattle.sl_specs.specs.Entries.{entry_row}
use Rattle.sl_specs.specs.Rows.{Row}
use Rattle.sl_typing.specs.declared.expr_type.ExprType.{ExprType}
use Rattle.sl_typing.specs.Candidates.{Found, is_candidate, is_row_of, is_constructor_of, end_in_output, row_kills}
use Rattle.sl_typing.specs.Arguments.{letters_take, letters_seen, takes_list}
use Rattle.sl_typing.specs.Order.{is_written_letter}

-- a row with its place
abbrev pub at_place : ℕ → Row → Found
at_place n r = record { number = n; row = r }

-- the row at a place
abbrev pub found_at : List Row → Option ℕ → Option Found
found_at rows None = None
found_at rows (Some n) = option_map (at_place n) (slice_get rows n)

-- the place of the first entry whose row passes a test
abbrev pub place_in : List Entry → (Row → Bool) → Option ℕ
place_in entries test = position_from (λ (e : Entry). test (entry_row e)) 0 entries

-- some entry's row passes a test
abbrev pub some_in : List Entry → (Row → Bool) → Bool
some_in entries test = list_any (λ (e : Entry). test (entry_row e)) entries

-- the row is the one that a member call means, if no earlier one is
abbrev pub is_meant_member : Form → List ℕ → List ExprType → Row → Bool
is_meant_member form name us r = is_candidate (Some form) name (length us) r && letters_take form r.letters us

-- so of a call of an algorithm
abbrev pub is_meant_algorithm : Bool → List ℕ → List ExprType → Row → Bool
is_meant_algorithm appends name us r = is_candidate None name (length us) r && letters_take f.Vector (letters_seen appends r.letters) us

-- so of a container that is made from a list
abbrev pub is_list_constructor : Form → Row → Bool
is_list_constructor form r = is_row_of form c.Constructor r && takes_list r.letters

-- so of one that is made from arguments
abbrev pub is_meant_constructor : Form → List ExprType → Row → Bool
is_meant_constructor form us r = is_constructor_of form (length us) r && letters_take form r.letters us

-- an algorithm that has an output
abbrev pub is_output_candidate : List ℕ → ℕ → Row → Bool
is_output_candidate name n r = is_candidate None name n r && end_in_output r.letters

-- a class invalidates something
abbrev pub class_kills : Class → Bool
class_kills k.Nothing = false
class_kills class = true

-- the same of a row, sealed
unfoldable pub kills_some : Row → Bool
kills_some r = row_kills r

-- a member that may invalidate something
abbrev pub is_killing_candidate : Form → List ℕ → ℕ → Row → Bool
is_killing_candidate form name n r = is_candidate (Some form) name n r && kills_some r

-- a member that changes its object
abbrev pub is_changing_candidate : Form → List ℕ → ℕ → Row → Bool
is_changing_candidate form name n r = is_candidate (Some form) name n r && r.changes

-- an algorithm that writes elements
abbrev pub is_writing_candidate : List ℕ → ℕ → Row → Bool
is_writing_candidate name n r = is_candidate None name n r && list_any is_written_letter r.letters
