-- Calls of `begin`, `end`, `size` and `empty` are of rows that take nothing, and give no element.
use Rattle.std.proofs.Common.{◌≡◌, ℕ, Bool, true, false, not, ◌&&◌, ◌||◌, List, [], ◌∷◌, Option, Some, None, refl, sym, subst}
use Rattle.std.specs.Prelude.{length, slice_get}
use Rattle.std.specs.List.{list_all, list_any}
use Rattle.std.specs.Str.{bytes_eq}
use Rattle.std.proofs.lemmas.Bool.{and_parts}
use Rattle.std.proofs.lemmas.Slice.Eq.{bytes_eq-Decides}
use Rattle.sl_base.specs.declared.form.Form.{Form}
use Rattle.sl_specs.specs.declared.letter.Letter.{Letter}
use Rattle.sl_specs.specs.Rows.{Row}
use Rattle.sl_specs.specs.Forms.{same_object}
use Rattle.sl_specs.specs.Table.{table}
use Rattle.sl_specs.specs.Texts.{call_text}
use Rattle.sl_typing.specs.declared.expr_type.ExprType.{ExprType}
use Rattle.sl_typing.specs.Signatures.{row_at, is_algorithm}
use Rattle.sl_typing.specs.Arguments.{takes_count, letters_take}
use Rattle.sl_typing.specs.Candidates.{Found, is_named, is_candidate, is_called, member_row}
use Rattle.sl_typing.specs.Order.{is_written_letter, is_quiet as is_quiet_name}
use Rattle.sl_model.specs.Typing.WellTypedCalls.{is_advance}
use Rattle.sl_model.specs.Typing.WellTypedOrder.{is_quiet_row}
use Rattle.sl_model.proofs.Passing.{passes_at}
use Rattle.sl_well_typed.proofs.Rows.{found_row, gives_element}

-- a row takes nothing
abbrev pub takes_nothing : List Letter → Bool
takes_nothing [] = true
takes_nothing letters = false

-- a quiet row of a form
abbrev pub is_quiet_fine : Row → Bool
is_quiet_fine row = not (is_quiet_name (call_text row.call)) || is_algorithm row
    || (is_quiet_row (Some row) && takes_nothing row.letters && not (gives_element row.gives))

-- `advance` alone moves an iterator, and no row of a form does; it writes nothing, and no row of an algorithm changes
abbrev pub is_change_fine : Row → Bool
is_change_fine row = not (is_advance row) || (is_algorithm row && not (list_any is_written_letter row.letters))

abbrev pub is_algorithm_change : Row → Bool
is_algorithm_change row = not (is_algorithm row) || not row.changes

-- each row is what these say
abbrev pub is_tame : Row → Bool
is_tame row = is_quiet_fine row && is_change_fine row && is_algorithm_change row

all_tame : list_all is_tame table ≡ true
unfolding table
all_tame = refl

pub row_is_tame : (n : ℕ) (row : Row) → slice_get table n ≡ Some row → is_tame row ≡ true
row_is_tame n row e = passes_at is_tame table n row all_tame e

-- a form is none
pub form_is_none : (o : Option Form) (form : Form) → same_object o (Some form) ≡ true → same_object o None ≡ false
form_is_none None form h = absurd cc
form_is_none (Some x) form h = refl

-- nothing is taken
nothing_taken : (form : Form) (letters : List Letter) (us : List ExprType) → takes_nothing letters ≡ true → letters_take form letters us ≡ true → us ≡ []
nothing_taken form [] [] h k = refl
nothing_taken form [] (u ∷ us) h k = absurd cc
nothing_taken form (letter ∷ rest) us h k = absurd cc

-- a row that a member call means
pub record IsMemberRow (name : List ℕ) (x : Found) : Type 0 where
  pub there : row_at x.number ≡ Some x.row
  pub text : call_text x.row.call ≡ name
  pub other : is_algorithm x.row ≡ false

pub member_row_is : (form : Form) (name : List ℕ) (us : List ExprType) (x : Found) → member_row form name us ≡ Some x → IsMemberRow name x
member_row_is form name us x e =
    let row = x.row in
    let found = found_row (λ r. is_candidate (Some form) name (length us) r && letters_take form r.letters us) x e in
    let tests = and_parts (is_candidate (Some form) name (length us) row) (letters_take form row.letters us) found.passes in
    let candidate = and_parts (is_called (Some form) name row) (takes_count row.letters (length us)) tests.0 in
    let called = and_parts (same_object row.form (Some form) && is_named row.call) (bytes_eq (call_text row.call) name) candidate.0 in
    let own = and_parts (same_object row.form (Some form)) (is_named row.call) called.0 in
    record {
      there = found.there;
      text = (bytes_eq-Decides (call_text row.call) name).0 called.1;
      other = form_is_none row.form form own.0;
    }

-- a quiet call
pub record IsQuietCall (x : Found) (us : List ExprType) : Type 0 where
  pub quiet : is_quiet_row (row_at x.number) ≡ true
  pub element : gives_element x.row.gives ≡ false
  pub none : us ≡ []

unnot : (b : Bool) → not b ≡ true → b ≡ false
unnot true h = absurd cc
unnot false h = refl

last_of : (a b c : Bool) → a ≡ true → b ≡ false → (not a || b || c) ≡ true → c ≡ true
last_of true false c h k is = is
last_of true true c h k is = absurd cc
last_of false b c h k is = absurd cc

pub quiet_call : (form : Form) (name : List ℕ) (us : List ExprType) → is_quiet_name name ≡ true → (x : Found) → member_row form name us ≡ Some x
    → IsQuietCall x us
quiet_call form name us quiet x e =
    let row = x.row in
    let is = member_row_is form name us x e in
    let found = found_row (λ r. is_candidate (Some form) name (length us) r && letters_take form r.letters us) x e in
    let tests = and_parts (is_candidate (Some form) name (length us) row) (letters_take form row.letters us) found.passes in
    let tame = and_parts (is_quiet_fine row && is_change_fine row) (is_algorithm_change row) (row_is_tame x.number row is.there) in
    let fine = and_parts (is_quiet_fine row) (is_change_fine row) tame.0 in
    let named : is_quiet_name (call_text row.call) ≡ true = subst (λ (n : List ℕ). is_quiet_name n ≡ true) (sym is.text) quiet in
    let rest = last_of (is_quiet_name (call_text row.call)) (is_algorithm row)
    (is_quiet_row (Some row) && takes_nothing row.letters && not (gives_element row.gives)) named is.other fine.0 in
    let two = and_parts (is_quiet_row (Some row) && takes_nothing row.letters) (not (gives_element row.gives)) rest in
    let one = and_parts (is_quiet_row (Some row)) (takes_nothing row.letters) two.0 in
    record {
      quiet = subst (λ (o : Option Row). is_quiet_row o ≡ true) (sym is.there) one.0;
      element = unnot (gives_element row.gives) two.1;
      none = nothing_taken form row.letters us one.1 tests.1;
    }
