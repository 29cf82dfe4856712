-- Which rows of the table can invalidate: of a member, by its form and its name alone; `=` can, a constructor and an algorithm can't.
use Rattle.std.proofs.Common.{◌≡◌, ℕ, zero, suc, Bool, true, false, List, [], ◌∷◌, ◌++◌, Option, Some, None, refl, sym, subst, ap, ◌∙◌}
use Rattle.std.specs.Prelude.{not, ◌&&◌, ◌||◌, codes, slice_get}
use Rattle.std.specs.List.{list_all, list_any}
use Rattle.std.specs.Str.{bytes_eq}
use Rattle.std.proofs.lemmas.Bool.{and_from, and_parts}
use Rattle.sl_base.specs.declared.form.Form.{Form}
use Rattle.sl_base.specs.declared.form.Form.TheVariants as f
use Rattle.sl_specs.specs.declared.call.Call.TheVariants as c
use Rattle.sl_specs.specs.Forms.{same_object}
use Rattle.sl_specs.specs.Rows.{Row}
use Rattle.sl_specs.specs.Table.{table, same_call}
use Rattle.sl_specs.specs.Texts.{call_text}
use Rattle.sl_typing.specs.Types.{same_answer}
use Rattle.sl_typing.specs.Signatures.{row_at}
use Rattle.sl_typing.specs.Scopes.{is_among}
use Rattle.sl_typing.specs.Arguments.{takes_count}
use Rattle.sl_typing.specs.Candidates.{has_row, is_candidate, is_called, is_named, row_kills, member_kills}
use Rattle.sl_model.proofs.Passing.{passes_at}
use Rattle.sl_well_typed.proofs.Rows.{some_row}
use Rattle.sl_typed_numbers.proofs.Same.{same_bool, same_form_is, same_text, where_true}

-- the members that can invalidate in each form that has them
abbrev always : List (List ℕ)
always =
    codes "erase" ∷ codes "clear" ∷ codes "resize" ∷ codes "assign" ∷ codes "reserve" ∷ codes "swap" ∷ codes "pop_back" ∷ codes "pop_front"
    ∷ codes "unique" ∷ codes "remove" ∷ []

-- those of a form
abbrev killers : Form → List (List ℕ)
killers f.Vector = always ++ codes "push_back" ∷ codes "insert" ∷ []
killers f.Deque = always ++ codes "push_back" ∷ codes "push_front" ∷ codes "insert" ∷ []
killers f.HashSet = always ++ codes "insert" ∷ []
killers f.HashMap = always ++ codes "emplace" ∷ []
killers form = always

abbrev is_killer : Form → List ℕ → Bool
is_killer form name = is_among name (killers form)

-- a row of a form, and one of none
abbrev is_due : Option Form → Row → Bool
is_due None row = not (row_kills row)
is_due (Some form) row = not (is_named row.call) || same_answer (is_killer form (call_text row.call)) (row_kills row)

abbrev is_row_due : Row → Bool
is_row_due row = is_due row.form row

abbrev is_assignment_due : Row → Bool
is_assignment_due row = not (same_call row.call c.Assignment) || row_kills row

abbrev is_constructor_due : Row → Bool
is_constructor_due row = not (same_call row.call c.Constructor) || not (row_kills row)

all_due : list_all is_row_due table ≡ true
unfolding table
all_due = refl

all_assignments_due : list_all is_assignment_due table ≡ true
unfolding table
all_assignments_due = refl

all_constructors_due : list_all is_constructor_due table ≡ true
unfolding table
all_constructors_due = refl

not_true : (b : Bool) → not b ≡ true → b ≡ false
not_true false h = refl
not_true true h = absurd cc

-- an algorithm can't
of_none : (o : Option Form) → same_object o None ≡ true → o ≡ None
of_none None h = refl
of_none (Some x) h = absurd cc

pub algorithm_kills_none : (n : ℕ) (row : Row) → row_at n ≡ Some row → same_object row.form None ≡ true → row_kills row ≡ false
algorithm_kills_none n row there own =
    let due = passes_at is_row_due table n row all_due there in
    not_true (row_kills row) (subst (λ (o : Option Form). is_due o row ≡ true) (of_none row.form own) due)

-- `=` can, and a constructor can't
pub assignment_kills : (n : ℕ) (row : Row) → row_at n ≡ Some row → same_call row.call c.Assignment ≡ true → row_kills row ≡ true
assignment_kills n row there is =
    where_true (same_call row.call c.Assignment) (row_kills row) (passes_at is_assignment_due table n row all_assignments_due there) is

pub constructor_kills_none : (n : ℕ) (row : Row) → row_at n ≡ Some row → same_call row.call c.Constructor ≡ true → row_kills row ≡ false
constructor_kills_none n row there is =
    not_true (row_kills row)
    (where_true (same_call row.call c.Constructor) (not (row_kills row)) (passes_at is_constructor_due table n row all_constructors_due there) is)

-- a member
of_form : (o : Option Form) (form : Form) → same_object o (Some form) ≡ true → o ≡ Some form
of_form None form h = absurd cc
of_form (Some x) form h = ap (λ (y : Form). Some y) (same_form_is x form h)

answers_same : (x y : Bool) → same_answer x y ≡ true → y ≡ x
answers_same true y h = h
answers_same false true h = absurd cc
answers_same false false h = refl

member_kills_by_name : (form : Form) (name : List ℕ) (n k : ℕ) (row : Row) → row_at k ≡ Some row → is_candidate (Some form) name n row ≡ true
    → row_kills row ≡ is_killer form name
member_kills_by_name form name n k row there candidate =
    let called = (and_parts (is_called (Some form) name row) (takes_count row.letters n) candidate).0 in
    let two = and_parts (same_object row.form (Some form) && is_named row.call) (bytes_eq (call_text row.call) name) called in
    let own = and_parts (same_object row.form (Some form)) (is_named row.call) two.0 in
    let due = subst (λ (o : Option Form). is_due o row ≡ true) (of_form row.form form own.0) (passes_at is_row_due table k row all_due there) in
    let same = where_true (is_named row.call) (same_answer (is_killer form (call_text row.call)) (row_kills row)) due own.1 in
    answers_same (is_killer form (call_text row.call)) (row_kills row) same
    ∙ ap (λ (text : List ℕ). is_killer form text) (same_text (call_text row.call) name two.1)

-- some row passes a test
or_left : (x y : Bool) → x ≡ true → (x || y) ≡ true
or_left true y h = refl
or_left false y h = absurd cc

or_right : (x y : Bool) → y ≡ true → (x || y) ≡ true
or_right true y h = refl
or_right false y h = h

one_of : (test : Row → Bool) (rs : List Row) (n : ℕ) (row : Row) → slice_get rs n ≡ Some row → test row ≡ true → list_any test rs ≡ true
one_of test [] n row there passes = absurd cc
one_of test (r ∷ rs) zero row there passes =
    let same : r ≡ row = cc in
    or_left (test r) (list_any test rs) (subst (λ (x : Row). test x ≡ true) (sym same) passes)
one_of test (r ∷ rs) (suc n) row there passes = or_right (test r) (list_any test rs) (one_of test rs n row there passes)

-- so each row that a member call may mean can, or none
pub member_kills_as : (form : Form) (name : List ℕ) (n k : ℕ) (row : Row) → row_at k ≡ Some row → is_candidate (Some form) name n row ≡ true
    → row_kills row ≡ member_kills form name n
unfolding has_row
member_kills_as form name n k row there candidate =
    let test = λ (r : Row). is_candidate (Some form) name n r && row_kills r in
    same_bool (row_kills row) (member_kills form name n)
    (λ kills. one_of test table k row there (and_from (is_candidate (Some form) name n row) (row_kills row) candidate kills))
    (λ some.
    let other = some_row test some in
    let both = and_parts (is_candidate (Some form) name n other.row) (row_kills other.row) other.passes in
    member_kills_by_name form name n k row there candidate
    ∙ sym (member_kills_by_name form name n other.index other.row other.there both.0) ∙ both.1)
