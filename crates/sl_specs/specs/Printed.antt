-- The text of the table: a line for each row, and one with their number.
-- No standard says any of it; all of it is chosen here. A line is `FORM.CALL(ARGUMENTS): needs NEEDS; kills KILLS`, and `std::CALL(ARGUMENTS)` of an
-- algorithm. Arguments are parted by a comma and a blank, needs by a blank; no needs are a dash.
use Rattle.std.specs.Prelude.{ℕ, List, [], ◌∷◌, ◌++◌, flat_map, Option, Some, None, codes}
use Rattle.sl_base.specs.declared.form.Form.{Form}
use Rattle.sl_specs.specs.declared.letter.Letter.{Letter}
use Rattle.sl_specs.specs.declared.need.Need.{Need}
use Rattle.sl_specs.specs.Texts.{form_text, call_text, letter_text, need_text, class_text}
use Rattle.sl_specs.specs.Rows.{Row}
use Rattle.sl_specs.specs.Table.{table}

-- what a call is a member of
abbrev pub owner_text : Option Form → List ℕ
owner_text (Some form) = form_text form ++ codes "."
owner_text None = codes "std::"

-- arguments behind others
abbrev pub other_letters : List Letter → List ℕ
other_letters letters = flat_map (λ letter. codes ", " ++ letter_text letter) letters

-- the arguments
abbrev pub letters_text : List Letter → List ℕ
letters_text [] = []
letters_text (first ∷ others) = letter_text first ++ other_letters others

-- the call with its arguments
abbrev pub call_line : Row → List ℕ
call_line r = owner_text r.form ++ (call_text r.call ++ (codes "(" ++ (letters_text r.letters ++ codes ")")))

-- needs behind others
abbrev pub other_needs : List Need → List ℕ
other_needs needs = flat_map (λ need. codes " " ++ need_text need) needs

-- the needs
abbrev pub needs_text : List Need → List ℕ
needs_text [] = codes "-"
needs_text (first ∷ others) = need_text first ++ other_needs others

-- the line of a row
abbrev pub row_line : Row → List ℕ
row_line r = call_line r ++ (codes ": needs " ++ (needs_text r.needs ++ (codes "; kills " ++ (class_text r.kills ++ 10 ∷ []))))

-- the lines of rows
abbrev pub lines : List Row → List ℕ
lines rows = flat_map row_line rows

-- the line behind them
abbrev pub last_line : List ℕ
last_line = codes "231 rows" ++ 10 ∷ []

-- the whole text
abbrev pub table_text : List ℕ
table_text = lines table ++ last_line
