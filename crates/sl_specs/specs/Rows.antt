-- What a row of the table is, and how the rows of a form follow from lines that speak of several forms.
use Rattle.std.specs.Prelude.{Bool, true, false, List, [], ◌∷◌, map, Option, Some, option_map, find, filter_map}
use Rattle.sl_base.specs.declared.form.Form.{Form}
use Rattle.sl_specs.specs.declared.call.Call.{Call}
use Rattle.sl_specs.specs.declared.letter.Letter.{Letter}
use Rattle.sl_specs.specs.declared.return_type.ReturnType.{ReturnType}
use Rattle.sl_specs.specs.declared.need.Need.{Need}
use Rattle.sl_specs.specs.declared.class.Class.{Class}
use Rattle.sl_specs.specs.Forms.{same_form}

-- a call of a form, or of an algorithm, which has none, with one list of arguments: what it takes and gives, whether it changes its object, what it
-- needs and invalidates
pub record Row : Type 0 where
  pub form : Option Form
  pub call : Call
  pub letters : List Letter
  pub gives : ReturnType
  pub changes : Bool
  pub needs : List Need
  pub kills : Class

-- a line: a call with one list of arguments, and what it invalidates in each form that has it
pub record Line : Type 0 where
  pub call : Call
  pub letters : List Letter
  pub gives : ReturnType
  pub changes : Bool
  pub needs : List Need
  pub classes : List (Form × Class)

-- a line by its parts
abbrev pub line : Call → List Letter → ReturnType → Bool → List Need → List (Form × Class) → Line
line call letters gives changes needs classes =
    record { call = call; letters = letters; gives = gives; changes = changes; needs = needs; classes = classes }

-- the call changes its object, or it doesn't: a constructor makes its object, and an algorithm has none
abbrev pub changing : Bool
changing = true

abbrev pub keeping : Bool
keeping = false

-- these forms have the call, with this class
abbrev pub on : List Form → Class → List (Form × Class)
on forms kills = map (λ form. (form, kills)) forms

-- this one has it
abbrev pub only : Form → Class → List (Form × Class)
only form kills = (form, kills) ∷ []

-- the class of a form, if it has the call
abbrev pub class_on : Form → List (Form × Class) → Option Class
class_on form classes = option_map (λ x. x.1) (find (λ x. same_form x.0 form) classes)

-- the row of a line and a form
abbrev pub row_of : Option Form → Line → Class → Row
row_of form x kills =
    record { form = form; call = x.call; letters = x.letters; gives = x.gives; changes = x.changes; needs = x.needs; kills = kills }

-- the rows of a form, in the order of the lines
abbrev pub rows_on : Form → List Line → List Row
rows_on form lines = filter_map (λ x. option_map (row_of (Some form) x) (class_on form x.classes)) lines

-- what typing asks of a row: what it takes and gives, and whether it changes its object
abbrev pub asks : Row → List Letter × ReturnType × Bool
asks r = (r.letters, r.gives, r.changes)
