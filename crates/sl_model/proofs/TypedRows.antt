-- A call of the library that has a type: which row of the table it is of, of which type, and what that row means.
use Rattle.std.proofs.Common.{◌≡◌, ℕ, Bool, true, false, not, ◌&&◌, List, map, Option, Some, None, option_map, refl, ap, ◌∙◌}
use Rattle.std.specs.Prelude.{is_some, if◌then◌else◌}
use Rattle.std.specs.List.{slice_get, list_any}
use Rattle.std.proofs.lemmas.Bool.{not-true}
use Rattle.sl_base.specs.declared.form.Form.{Form}
use Rattle.sl_base.specs.declared.form.Form.TheVariants as f
use Rattle.sl_specs.specs.declared.call.Call.{Call}
use Rattle.sl_specs.specs.declared.call.Call.TheVariants as c
use Rattle.sl_specs.specs.Forms.{same_object}
use Rattle.sl_specs.specs.Rows.{Row as TableRow}
use Rattle.sl_specs.specs.Table.{table, same_call}
use Rattle.sl_syntax.specs.declared.operator.Access.{Access}
use Rattle.sl_syntax.specs.declared.typed.callee.Callee.TheVariants as callees
use Rattle.sl_typing.specs.declared.expr_type.ExprType.{ExprType}
use Rattle.sl_typing.specs.declared.expr_type.ExprType.TheVariants as types
use Rattle.sl_typing.specs.Types.{has_type, only, is_const}
use Rattle.sl_typing.specs.Signatures.{result_type, row_at, is_constructor, is_algorithm, is_output, appending}
use Rattle.sl_model.specs.LibraryCalls.Rows.{of_form, new_one, Row, member_row, algorithm_row, meaning_of, row_of, is_constructor as makes_one}
use Rattle.sl_model.specs.Typing.WellTypedScopes.{Scope, variable_type}
use Rattle.sl_model.specs.Typing.WellTypedCalls.{fits, may_be_called, member_type, row_type, appending_type, constructs, call_type}
use Rattle.sl_model.specs.Typing.WellTypedStatements.{is_making}
use Rattle.sl_model.proofs.Called.{one_form}
use Rattle.sl_model.proofs.Passing.{first_of_both, second_of_both}
use Rattle.sl_model.proofs.TypedOperands.{only_holds}

-- a form is this one where it is the same
pub one_object : (o : Option Form) (form : Form) → same_object o (Some form) ≡ true → o ≡ Some form
one_object None form h = absurd cc
one_object (Some x) form h = ap (λ (y : Form). Some y) (one_form x form h)

-- there is none where none is the same
pub no_object : (o : Option Form) → same_object o None ≡ true → o ≡ None
no_object None h = refl
no_object (Some x) h = absurd cc

-- a row of a form means what its call does on that form
pub meaning_on : (appends : Bool) (r : TableRow) (form : Form) → r.form ≡ Some form → meaning_of appends r ≡ member_row form r
meaning_on appends r form e =
    ap (λ (o : Option Form). elim o as (λ _. Row) [ None ↦ algorithm_row appends r | Some x ↦ member_row x r ]) e

-- one without a form means what the algorithm does
pub meaning_alone : (appends : Bool) (r : TableRow) → r.form ≡ None → meaning_of appends r ≡ algorithm_row appends r
meaning_alone appends r e =
    ap (λ (o : Option Form). elim o as (λ _. Row) [ None ↦ algorithm_row appends r | Some x ↦ member_row x r ]) e

-- what the row with a number means
numbered_means : (appends : Bool) (n : ℕ) (r : TableRow) (row : Row) → slice_get table n ≡ Some r → meaning_of appends r ≡ row
    → option_map (meaning_of appends) (slice_get table n) ≡ Some row
numbered_means appends n r row e means = ap (option_map (meaning_of appends)) e ∙ ap (λ (x : Row). Some x) means

-- a call makes a container where it is a constructor
makes_so : (call : Call) → makes_one call ≡ same_call c.Constructor call
makes_so c.Constructor = refl
makes_so call = refl

-- the object of a row on a form, by whether it makes a container
pub row_object : (form : Form) (r : TableRow) (b : Bool) → is_constructor r ≡ b
    → (member_row form r).object ≡ (if b then new_one form else of_form form)
row_object form r b h = ap (λ (x : Bool). if x then new_one form else of_form form) (makes_so r.call ∙ h)

-- a call of a member: on a container of a form, by a row of that form that makes none
pub record IsMember (g : Scope) (n x : ℕ) (us : List ExprType) : Type 0 where
  pub access : Access
  pub form : Form
  pub variable : variable_type g.containers x ≡ types.Container access form
  pub line : TableRow
  pub there : slice_get table n ≡ Some line
  pub on_form : line.form ≡ Some form
  pub makes_none : is_constructor line ≡ false
  pub may_be : may_be_called line.changes access ≡ true
  pub fitting : fits form line.letters us ≡ true
  pub is_row : row_of (callees.Row n) ≡ Some (member_row form line)
  pub on_object : (member_row form line).object ≡ of_form form
  pub is_type : call_type g (callees.Row n) (Some x) us ≡ result_type line.gives (is_const access) form us

-- a call of an algorithm: by a row without a form
pub record IsAlgorithm (g : Scope) (n : ℕ) (us : List ExprType) : Type 0 where
  pub line : TableRow
  pub there : slice_get table n ≡ Some line
  pub alone : line.form ≡ None
  pub fitting : fits f.Vector line.letters us ≡ true
  pub is_row : row_of (callees.Row n) ≡ Some (algorithm_row false line)
  pub is_type : call_type g (callees.Row n) None us ≡ result_type line.gives false f.Vector us

-- a call of an algorithm that appends: by a row without a form, which has an output
pub record IsAppending (g : Scope) (n : ℕ) (us : List ExprType) : Type 0 where
  pub line : TableRow
  pub there : slice_get table n ≡ Some line
  pub alone : line.form ≡ None
  pub has_output : list_any is_output line.letters ≡ true
  pub fitting : fits f.Vector (map appending line.letters) us ≡ true
  pub is_row : row_of (callees.Appends n) ≡ Some (algorithm_row true line)
  pub is_type : call_type g (callees.Appends n) None us ≡ types.Nothing

-- a call that makes a container of a form: by a row of that form
pub record IsMaker (form : Form) (n : ℕ) (us : List ExprType) : Type 0 where
  pub line : TableRow
  pub there : slice_get table n ≡ Some line
  pub on_form : line.form ≡ Some form
  pub makes : is_constructor line ≡ true
  pub fitting : fits form line.letters us ≡ true
  pub is_row : row_of (callees.Row n) ≡ Some (member_row form line)
  pub on_object : (member_row form line).object ≡ new_one form

-- the parts of a call of a member that has a type
member_by_line : (g : Scope) (n x : ℕ) (us : List ExprType) (line : TableRow) → slice_get table n ≡ Some line
    → has_type (member_type line (variable_type g.containers x) us) ≡ true → IsMember g n x us
member_by_line g n x us line e h = by_variable (variable_type g.containers x) refl h
  where
    by_variable : (u : ExprType) → variable_type g.containers x ≡ u → has_type (member_type line u us) ≡ true → IsMember g n x us
    by_variable (types.Container access form) v t =
        let whole = only_holds
        (same_object line.form (Some form) && not (is_constructor line) && may_be_called line.changes access && fits form line.letters us)
        (result_type line.gives (is_const access) form us) t in
        let three = first_of_both (same_object line.form (Some form) && not (is_constructor line) && may_be_called line.changes access)
        (fits form line.letters us) whole in
        let two = first_of_both (same_object line.form (Some form) && not (is_constructor line)) (may_be_called line.changes access) three in
        let on = one_object line.form form (first_of_both (same_object line.form (Some form)) (not (is_constructor line)) two) in
        let none = not-true (is_constructor line) (second_of_both (same_object line.form (Some form)) (not (is_constructor line)) two) in
        record {
          access = access;
          form = form;
          variable = v;
          line = line;
          there = e;
          on_form = on;
          makes_none = none;
          may_be = second_of_both (same_object line.form (Some form) && not (is_constructor line)) (may_be_called line.changes access) three;
          fitting = second_of_both (same_object line.form (Some form) && not (is_constructor line) && may_be_called line.changes access)
              (fits form line.letters us) whole;
          is_row = numbered_means false n line (member_row form line) e (meaning_on false line form on);
          on_object = row_object form line false none;
          is_type = ap (λ (found : Option TableRow). row_type g found (Some x) us) e
              ∙ (ap (λ (w : ExprType). member_type line w us) v
              ∙ ap (λ (b : Bool). only b (result_type line.gives (is_const access) form us)) whole);
        }
    by_variable u v t = absurd cc

-- a call of a member that has a type
pub is_member : (g : Scope) (n x : ℕ) (us : List ExprType) → has_type (call_type g (callees.Row n) (Some x) us) ≡ true → IsMember g n x us
is_member g n x us h = by_found (row_at n) refl h
  where
    by_found : (found : Option TableRow) → row_at n ≡ found → has_type (row_type g found (Some x) us) ≡ true → IsMember g n x us
    by_found None e t = absurd cc
    by_found (Some line) e t = member_by_line g n x us line e t

-- a call of an algorithm that has a type
pub is_alone : (g : Scope) (n : ℕ) (us : List ExprType) → has_type (call_type g (callees.Row n) None us) ≡ true → IsAlgorithm g n us
is_alone g n us h = by_found (row_at n) refl h
  where
    by_found : (found : Option TableRow) → row_at n ≡ found → has_type (row_type g found None us) ≡ true → IsAlgorithm g n us
    by_found None e t = absurd cc
    by_found (Some line) e t =
        let whole = only_holds (is_algorithm line && fits f.Vector line.letters us) (result_type line.gives false f.Vector us) t in
        let none = no_object line.form (first_of_both (is_algorithm line) (fits f.Vector line.letters us) whole) in
        record {
          line = line;
          there = e;
          alone = none;
          fitting = second_of_both (is_algorithm line) (fits f.Vector line.letters us) whole;
          is_row = numbered_means false n line (algorithm_row false line) e (meaning_alone false line none);
          is_type = ap (λ (o : Option TableRow). row_type g o None us) e
              ∙ ap (λ (b : Bool). only b (result_type line.gives false f.Vector us)) whole;
        }

-- a call that has a type has no object where that is asked for
pub none_given : (object : Option ℕ) (u : ExprType) → has_type (only (not (is_some object)) u) ≡ true → object ≡ None
none_given None u h = refl
none_given (Some x) u h = absurd cc

-- a call of an algorithm that appends, where it has a type
pub is_appending : (g : Scope) (n : ℕ) (us : List ExprType) → has_type (call_type g (callees.Appends n) None us) ≡ true → IsAppending g n us
is_appending g n us h = by_found (row_at n) refl h
  where
    by_found : (found : Option TableRow) → row_at n ≡ found → has_type (appending_type found us) ≡ true → IsAppending g n us
    by_found None e t = absurd cc
    by_found (Some line) e t =
        let whole = only_holds (is_algorithm line && list_any is_output line.letters && fits f.Vector (map appending line.letters) us)
        types.Nothing t in
        let two = first_of_both (is_algorithm line && list_any is_output line.letters) (fits f.Vector (map appending line.letters) us) whole in
        let none = no_object line.form (first_of_both (is_algorithm line) (list_any is_output line.letters) two) in
        record {
          line = line;
          there = e;
          alone = none;
          has_output = second_of_both (is_algorithm line) (list_any is_output line.letters) two;
          fitting = second_of_both (is_algorithm line && list_any is_output line.letters) (fits f.Vector (map appending line.letters) us) whole;
          is_row = numbered_means true n line (algorithm_row true line) e (meaning_alone true line none);
          is_type = ap (λ (o : Option TableRow). appending_type o us) e ∙ ap (λ (b : Bool). only b types.Nothing) whole;
        }

-- a call that makes a container of a form
pub is_maker : (form : Form) (n : ℕ) (us : List ExprType) → is_making form (callees.Row n) None us ≡ true → IsMaker form n us
is_maker form n us h = by_found (row_at n) refl h
  where
    by_found : (found : Option TableRow) → row_at n ≡ found → constructs form found us ≡ true → IsMaker form n us
    by_found None e t = absurd cc
    by_found (Some line) e t =
        let two = first_of_both (same_object line.form (Some form) && is_constructor line) (fits form line.letters us) t in
        let on = one_object line.form form (first_of_both (same_object line.form (Some form)) (is_constructor line) two) in
        let makes = second_of_both (same_object line.form (Some form)) (is_constructor line) two in
        record {
          line = line;
          there = e;
          on_form = on;
          makes = makes;
          fitting = second_of_both (same_object line.form (Some form) && is_constructor line) (fits form line.letters us) t;
          is_row = numbered_means false n line (member_row form line) e (meaning_on false line form on);
          on_object = row_object form line true makes;
        }
