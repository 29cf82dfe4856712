-- Which row of the library's table a call means: it is found by the form of the object, the name and the arguments.
--
-- Restates ISO/IEC 14882:2017, [over.match.viable], for the calls that there are.
use Rattle.std.specs.Prelude.{ℕ, ◌+◌, Bool, true, false, ◌&&◌, List, [], ◌∷◌, length, Option, Some, None, if◌then◌else◌}
use Rattle.std.specs.List.{list_any}
use Rattle.std.specs.Str.{bytes_eq}
use Rattle.sl_base.specs.declared.form.Form.{Form}
use Rattle.sl_base.specs.declared.form.Form.TheVariants as f
use Rattle.sl_specs.specs.declared.call.Call.{Call}
use Rattle.sl_specs.specs.declared.call.Call.TheVariants as c
use Rattle.sl_specs.specs.declared.class.Class.TheVariants as k
use Rattle.sl_specs.specs.declared.letter.Letter.{Letter}
use Rattle.sl_specs.specs.Forms.{same_object}
use Rattle.sl_specs.specs.Rows.{Row}
use Rattle.sl_specs.specs.Table.{table, same_call}
use Rattle.sl_specs.specs.Texts.{call_text}
use Rattle.sl_typing.specs.declared.expr_type.ExprType.{ExprType}
use Rattle.sl_typing.specs.Signatures.{is_output}
use Rattle.sl_typing.specs.Arguments.{takes_list, takes_count, letters_take, letters_seen}

-- a row with its number, which is its place in the table, from 0
pub record Found : Type 0 where
  pub number : ℕ
  pub row : Row

-- the first of these rows that passes a test, where the first of them has this number
abbrev pub first_from : ℕ → (Row → Bool) → List Row → Option Found
first_from n test [] = None
first_from n test (r ∷ rs) = if test r then Some (record { number = n; row = r }) else first_from (n + 1) test rs

-- the first row of the table that passes a test
unfoldable pub first_row : (Row → Bool) → Option Found
unfolding table
first_row test = first_from 0 test table

-- some row of the table passes a test
unfoldable pub has_row : (Row → Bool) → Bool
unfolding table
has_row test = list_any test table

-- what a text calls by a name: not what a declaration calls, nor `=` and `[ ]`
abbrev pub is_named : Call → Bool
is_named c.Constructor = false
is_named c.Assignment = false
is_named c.Subscript = false
is_named call = true

-- the row is one of a call of this name, of a form or of an algorithm
abbrev pub is_called : Option Form → List ℕ → Row → Bool
is_called form name r = same_object r.form form && is_named r.call && bytes_eq (call_text r.call) name

-- and takes so many arguments
abbrev pub is_candidate : Option Form → List ℕ → ℕ → Row → Bool
is_candidate form name n r = is_called form name r && takes_count r.letters n

-- a form has such a member
abbrev pub has_member : Form → List ℕ → ℕ → Bool
has_member form name n = has_row (is_candidate (Some form) name n)

-- there is such an algorithm
abbrev pub has_algorithm : List ℕ → ℕ → Bool
has_algorithm name n = has_row (is_candidate None name n)

-- the row that a member call means, by its form, its name and the types of its arguments
abbrev pub member_row : Form → List ℕ → List ExprType → Option Found
member_row form name us = first_row (λ r. is_candidate (Some form) name (length us) r && letters_take form r.letters us)

-- the row that a call of an algorithm means; no letter of an algorithm speaks of an object
abbrev pub algorithm_row : Bool → List ℕ → List ExprType → Option Found
algorithm_row appends name us = first_row (λ r. is_candidate None name (length us) r && letters_take f.Vector (letters_seen appends r.letters) us)

-- the row is this call of a form
abbrev pub is_row_of : Form → Call → Row → Bool
is_row_of form call r = same_object r.form (Some form) && same_call r.call call

-- the row of a form's `[ ]`, and that of `=` between two containers of it
abbrev pub subscript_row : Form → Option Found
subscript_row form = first_row (is_row_of form c.Subscript)

abbrev pub assignment_row : Form → Option Found
assignment_row form = first_row (is_row_of form c.Assignment)

-- the row is a constructor of a form from so many arguments in parentheses
abbrev pub is_constructor_of : Form → ℕ → Row → Bool
is_constructor_of form n r = is_row_of form c.Constructor r && takes_count r.letters n

-- the constructor of a form from a list in braces
abbrev pub list_constructor : Form → Option Found
list_constructor form = first_row (λ r. is_row_of form c.Constructor r && takes_list r.letters)

-- the constructor of a form from arguments of these types
abbrev pub constructor_row : Form → List ExprType → Option Found
constructor_row form us = first_row (λ r. is_constructor_of form (length us) r && letters_take form r.letters us)

-- the letters end with an output
abbrev pub end_in_output : List Letter → Bool
end_in_output [] = false
end_in_output (letter ∷ []) = is_output letter
end_in_output (letter ∷ rest) = end_in_output rest

-- an algorithm of a name that takes so many arguments has an output, which is its last
abbrev pub has_output : List ℕ → ℕ → Bool
has_output name n = has_row (λ r. is_candidate None name n r && end_in_output r.letters)

-- a row may invalidate something
abbrev pub row_kills : Row → Bool
row_kills r = elim r.kills as (λ _. Bool) [ k.Nothing ↦ false | class ↦ true ]

-- some member of a form with this name and number of arguments may invalidate something
abbrev pub member_kills : Form → List ℕ → ℕ → Bool
member_kills form name n = has_row (λ r. is_candidate (Some form) name n r && row_kills r)

-- a form's `[ ]` may
abbrev pub subscript_kills : Form → Bool
subscript_kills form = elim (subscript_row form) as (λ _. Bool) [ None ↦ false | Some x ↦ row_kills x.row ]

-- some member of a form with this name and number of arguments changes its object
abbrev pub form_member_changes : Form → List ℕ → ℕ → Bool
form_member_changes form name n = has_row (λ r. is_candidate (Some form) name n r && r.changes)

-- a form's `[ ]` does
abbrev pub form_subscript_changes : Form → Bool
form_subscript_changes form = elim (subscript_row form) as (λ _. Bool) [ None ↦ false | Some x ↦ x.row.changes ]

-- the name of an algorithm
abbrev pub is_algorithm_name : List ℕ → Bool
is_algorithm_name name = has_row (is_called None name)
