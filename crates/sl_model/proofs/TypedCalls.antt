-- A call of the library that has a type: its operands have types, its row is there, and it has as many operands as the row's letters take.
use Rattle.std.proofs.Common.{◌≡◌, ℕ, ◌+◌, ◌≤◌, Bool, true, false, not, ◌&&◌, List, [], ◌∷◌, length, take, drop, map, Option, Some, None}
use Rattle.std.proofs.Common.{refl, subst, arith, length-drop}
use Rattle.std.specs.Prelude.{is_some, if◌then◌else◌}
use Rattle.std.specs.List.{list_any}
use Rattle.sl_base.specs.declared.form.Form.{Form}
use Rattle.sl_base.specs.declared.form.Form.TheVariants as f
use Rattle.sl_base.specs.declared.scalar.Scalar.TheVariants as t
use Rattle.sl_specs.specs.declared.letter.Letter.{Letter}
use Rattle.sl_specs.specs.declared.letter.Letter.TheVariants as l
use Rattle.sl_specs.specs.Forms.{same_form, same_object, is_keyed, is_random_access}
use Rattle.sl_specs.specs.Rows.{Row}
use Rattle.sl_syntax.specs.declared.operator.Comparison.{Comparison}
use Rattle.sl_syntax.specs.declared.typed.callee.Callee.{Callee}
use Rattle.sl_syntax.specs.declared.typed.callee.Callee.TheVariants as callees
use Rattle.sl_syntax.specs.declared.typed.operator.Operator.{Operator}
use Rattle.sl_syntax.specs.declared.typed.operator.Operator.TheVariants as operators
use Rattle.sl_typing.specs.declared.expr_type.ExprType.{ExprType}
use Rattle.sl_typing.specs.declared.expr_type.ExprType.TheVariants as types
use Rattle.sl_typing.specs.Types.{has_type, only, is_scalar, is_iterator, is_iterator_of, is_writing_iterator, same_iterators, is_const}
use Rattle.sl_typing.specs.Types.{is_container_of, is_changed_container, is_int_iterator, is_bidirectional, is_random}
use Rattle.sl_typing.specs.Signatures.{one, optional, range, elements, width, row_at, is_constructor, is_algorithm, is_output, appending, result_type}
use Rattle.sl_typing.specs.Signatures.{is_equality}
use Rattle.sl_model.specs.Typing.WellTypedScopes.{Scope, variable_type}
use Rattle.sl_model.specs.Typing.WellTypedCalls.{fits_letter, fits, operator_type, call_type, row_type, member_type, algorithm_type, appending_type}
use Rattle.sl_model.specs.Typing.WellTypedCalls.{constructs, may_be_called}
use Rattle.std.proofs.lemmas.List.{take_all}
use Rattle.std.proofs.lemmas.Bool.{and_from}
use Rattle.sl_model.specs.Typing.WellTypedStatements.{is_making}
use Rattle.sl_model.proofs.Passing.{first_of_both, second_of_both, first_of_neither, second_of_neither}
use Rattle.sl_model.proofs.TypedOperands.{typed_by, only_holds, only_rest, all_typed, fitting_typed, second_iterator_typed}

-- the second operand of an operator has a type where the first is an iterator and the call has one
two_typed : (b : Bool) (x : Form) (test : ExprType → Bool) → test types.Wrong ≡ false → (c : Bool) (u w : ExprType)
    → has_type (only (c && test u) w) ≡ true
    → all_typed (types.Iterator b x ∷ u ∷ []) ≡ true
two_typed b x test n c u w h =
    and_from (has_type u) true (typed_by test n u (second_of_both c (test u) (only_holds (c && test u) w h))) refl

-- the first of two iterators of one type has a type
pub first_iterator_typed : (u v : ExprType) → same_iterators u v ≡ true → has_type u ≡ true
first_iterator_typed types.Wrong v h = absurd cc
first_iterator_typed u v h = refl

-- two iterators that are compared have types
compared_typed : (o : Comparison) (u v : ExprType) → has_type (operator_type (operators.Compare o) (u ∷ v ∷ [])) ≡ true
    → all_typed (u ∷ v ∷ []) ≡ true
compared_typed o u v h =
    let same = first_of_both (same_iterators u v) (if is_equality o then true else is_random u)
    (only_holds (same_iterators u v && (if is_equality o then true else is_random u)) (types.Scalar t.Bool) h) in
    and_from (has_type u) (has_type v && true) (first_iterator_typed u v same) (and_from (has_type v) true (second_iterator_typed u v same) refl)

-- the operands of an operator that has a type have types
operator_operands_typed : (o : Operator) (us : List ExprType) → has_type (operator_type o us) ≡ true → all_typed us ≡ true
operator_operands_typed operators.Dereference (types.Iterator b x ∷ []) h = refl
operator_operands_typed operators.ArrowFirst (types.Iterator b x ∷ []) h = refl
operator_operands_typed operators.ArrowSecond (types.Iterator b x ∷ []) h = refl
operator_operands_typed operators.Increment (types.Iterator b x ∷ []) h = refl
operator_operands_typed operators.Decrement (types.Iterator b x ∷ []) h = refl
operator_operands_typed operators.Add (types.Iterator b x ∷ u ∷ []) h =
    two_typed b x (is_scalar t.Diff) refl (is_random_access x) u (types.Iterator b x) h
operator_operands_typed operators.Subtract (types.Iterator b x ∷ u ∷ []) h =
    two_typed b x (is_scalar t.Diff) refl (is_random_access x) u (types.Iterator b x) h
operator_operands_typed operators.AddAssign (types.Iterator b x ∷ u ∷ []) h =
    two_typed b x (is_scalar t.Diff) refl (is_random_access x) u types.Nothing h
operator_operands_typed operators.SubtractAssign (types.Iterator b x ∷ u ∷ []) h =
    two_typed b x (is_scalar t.Diff) refl (is_random_access x) u types.Nothing h
operator_operands_typed operators.Difference (types.Iterator b x ∷ u ∷ []) h =
    two_typed b x (is_iterator_of x) refl (is_random_access x) u (types.Scalar t.Diff) h
operator_operands_typed (operators.Compare o) (u ∷ v ∷ []) h = compared_typed o u v h
operator_operands_typed o us h = absurd cc

-- a letter stands for the elements of a list
abbrev pub is_list : Letter → Bool
is_list l.InitializerList = true
is_list letter = false

-- the fewest operands that a letter stands for
abbrev pub fewest_of : Letter → ℕ
fewest_of l.OwnRange = 2
fewest_of l.IntRange = 2
fewest_of l.SecondIntRange = 2
fewest_of l.WrittenRange = 2
fewest_of l.RandomAccessRange = 2
fewest_of l.AnyRange = 2
fewest_of l.OptionalDistance = 0
fewest_of letter = 1

-- the most, where it is no list
abbrev pub most_of : Letter → ℕ
most_of l.OptionalDistance = 1
most_of letter = fewest_of letter

-- the fewest operands of letters in turn
abbrev pub fewest : List Letter → ℕ
fewest [] = 0
fewest (letter ∷ rest) = fewest_of letter + fewest rest

-- the most of them
abbrev pub most : List Letter → ℕ
most [] = 0
most (letter ∷ rest) = most_of letter + most rest

-- n operands are as many as letters take
pub record Takes (letters : List Letter) (n : ℕ) : Type 0 where
  pub least : fewest letters ≤ n
  pub most : list_any is_list letters ≡ false → n ≤ most letters

-- a letter for one operand stands for one
one_counted : (test : ExprType → Bool) (us : List ExprType) → one test (take 1 us) ≡ true → 1 + length (drop 1 us) ≡ length us
one_counted test [] h = absurd cc
one_counted test (u ∷ us) h = omega arith

-- a range stands for two
range_counted : (test : ExprType → Bool) (us : List ExprType) → range test (take 2 us) ≡ true → 2 + length (drop 2 us) ≡ length us
range_counted test [] h = absurd cc
range_counted test (u ∷ []) h = absurd cc
range_counted test (u ∷ v ∷ us) h = omega arith

-- nothing is left of a list of which all is dropped
nothing_left : (us : List ExprType) → length (drop (length us) us) ≡ 0
nothing_left us = let left = length-drop (length us) us in omega (arith, left)

-- of so many operands a letter stands for no fewer and no more, where it is no list
abbrev Stands : Letter → List ExprType → Type 0
Stands letter us = (fewest_of letter + length (drop (width letter us) us) ≤ length us)
    × (is_list letter ≡ false → length us ≤ most_of letter + length (drop (width letter us) us))

-- the count of one operand
one_stands : (test : ExprType → Bool) (us : List ExprType) → one test (take 1 us) ≡ true
    → (1 + length (drop 1 us) ≤ length us) × (false ≡ false → length us ≤ 1 + length (drop 1 us))
one_stands test us h = let count = one_counted test us h in (omega (arith, count), λ e. omega (arith, count))

-- that of a range
range_stands : (test : ExprType → Bool) (us : List ExprType) → range test (take 2 us) ≡ true
    → (2 + length (drop 2 us) ≤ length us) × (false ≡ false → length us ≤ 2 + length (drop 2 us))
range_stands test us h = let count = range_counted test us h in (omega (arith, count), λ e. omega (arith, count))

-- at most one operand may be missing
optional_counted : (test : ExprType → Bool) (us : List ExprType) → optional test us ≡ true → length us ≤ 1
optional_counted test [] h = omega arith
optional_counted test (u ∷ []) h = omega arith
optional_counted test (u ∷ v ∷ us) h = absurd cc

-- a list has an element
elements_counted : (us : List ExprType) → elements us ≡ true → 1 ≤ length us
elements_counted [] h = absurd cc
elements_counted (u ∷ us) h = omega arith

-- the count of an operand that may be missing
optional_stands : (test : ExprType → Bool) (us : List ExprType) → optional test (take (length us) us) ≡ true
    → (0 + length (drop (length us) us) ≤ length us) × (false ≡ false → length us ≤ 1 + length (drop (length us) us))
optional_stands test us h =
    let all = subst (λ (vs : List ExprType). optional test vs ≡ true) (take_all (length us) us (omega arith)) h in
    let count = optional_counted test us all in let left = nothing_left us in (omega (arith, left), λ e. omega (arith, count, left))

-- that of a list
elements_stand : (us : List ExprType) → elements (take (length us) us) ≡ true
    → (1 + length (drop (length us) us) ≤ length us) × (true ≡ false → length us ≤ 1 + length (drop (length us) us))
elements_stand us h =
    let all = subst (λ (vs : List ExprType). elements vs ≡ true) (take_all (length us) us (omega arith)) h in
    let count = elements_counted us all in let left = nothing_left us in (omega (arith, count, left), λ e. absurd cc)

-- the count of a letter's operands
letter_stands : (form : Form) (letter : Letter) (us : List ExprType) → fits_letter form letter (take (width letter us) us) ≡ true → Stands letter us
letter_stands form l.Position us h = one_stands (is_iterator_of form) us h
letter_stands form l.SplicedPosition us h = one_stands (is_iterator_of form) us h
letter_stands form l.OwnRange us h = range_stands (is_iterator_of form) us h
letter_stands form l.IntRange us h = range_stands is_int_iterator us h
letter_stands form l.SecondIntRange us h = range_stands is_int_iterator us h
letter_stands form l.WrittenRange us h = range_stands is_writing_iterator us h
letter_stands form l.RandomAccessRange us h = range_stands (λ u. is_writing_iterator u && is_random u) us h
letter_stands form l.AnyRange us h = range_stands is_iterator us h
letter_stands form l.Count us h = one_stands (is_scalar t.Size) us h
letter_stands form l.Element us h = one_stands (is_scalar t.Int) us h
letter_stands form l.Key us h = one_stands (is_scalar t.Int) us h
letter_stands form l.InitializerList us h = elements_stand us h
letter_stands form l.Container us h = one_stands (is_container_of form) us h
letter_stands form l.ChangedContainer us h = one_stands (is_changed_container (same_form form)) us h
letter_stands form l.AppendedContainer us h = one_stands (is_changed_container (λ x. not (is_keyed x))) us h
letter_stands form l.Int us h = one_stands (is_scalar t.Int) us h
letter_stands form l.Output us h = one_stands is_writing_iterator us h
letter_stands form l.IteratorVariable us h = one_stands is_iterator us h
letter_stands form l.Iterator us h = one_stands is_iterator us h
letter_stands form l.BidirectionalIterator us h = one_stands is_bidirectional us h
letter_stands form l.Distance us h = one_stands (is_scalar t.Diff) us h
letter_stands form l.OptionalDistance us h = optional_stands (is_scalar t.Diff) us h

-- operands that fit letters are as many as these take
pub fitting_taken : (form : Form) (letters : List Letter) (us : List ExprType) → fits form letters us ≡ true → Takes letters (length us)
fitting_taken form [] [] h = record { least = omega arith; most = λ e. omega arith }
fitting_taken form [] (u ∷ us) h = absurd cc
fitting_taken form (letter ∷ rest) us h =
    let own = letter_stands form letter us
    (first_of_both (fits_letter form letter (take (width letter us) us)) (fits form rest (drop (width letter us) us)) h) in
    let others = fitting_taken form rest (drop (width letter us) us)
    (second_of_both (fits_letter form letter (take (width letter us) us)) (fits form rest (drop (width letter us) us)) h) in
    let least = own.0 in let most = own.1 in let least_of_others = others.least in
    record {
      least = omega (arith, least, least_of_others);
      most = λ e.
          let one_most = most (first_of_neither (is_list letter) (list_any is_list rest) e) in
          let others_most = others.most (second_of_neither (is_list letter) (list_any is_list rest) e) in
          omega (arith, one_most, others_most);
    }

-- operands fit the letters of a row, as one of a form or of an algorithm
abbrev Fit : List Letter → List ExprType → Type 0
Fit letters us = (form : Form) × (fits form letters us ≡ true)

-- the operands of a member call that has a type fit
member_fits : (row : Row) (u : ExprType) (us : List ExprType) → has_type (member_type row u us) ≡ true → Fit row.letters us
member_fits row (types.Container access x) us h =
    let all = only_holds (same_object row.form (Some x) && not (is_constructor row) && may_be_called row.changes access && fits x row.letters us)
    (result_type row.gives (is_const access) x us) h in
    (x, second_of_both (same_object row.form (Some x) && not (is_constructor row) && may_be_called row.changes access) (fits x row.letters us) all)
member_fits row u us h = absurd cc

-- so do those of an algorithm
algorithm_fits : (row : Row) (us : List ExprType) → has_type (algorithm_type row us) ≡ true → Fit row.letters us
algorithm_fits row us h =
    let all = only_holds (is_algorithm row && fits f.Vector row.letters us) (result_type row.gives false f.Vector us) h in
    (f.Vector, second_of_both (is_algorithm row) (fits f.Vector row.letters us) all)

-- so do those of either
row_fits : (g : Scope) (row : Row) (object : Option ℕ) (us : List ExprType) → has_type (row_type g (Some row) object us) ≡ true → Fit row.letters us
row_fits g row None us h = algorithm_fits row us h
row_fits g row (Some x) us h = member_fits row (variable_type g.containers x) us h

-- so do those of an algorithm that appends
appending_fits : (row : Row) (us : List ExprType) → has_type (appending_type (Some row) us) ≡ true → Fit (map appending row.letters) us
appending_fits row us h =
    let all = only_holds (is_algorithm row && list_any is_output row.letters && fits f.Vector (map appending row.letters) us) types.Nothing h in
    (f.Vector, second_of_both (is_algorithm row && list_any is_output row.letters) (fits f.Vector (map appending row.letters) us) all)

-- so do those of a constructor
constructor_fits : (form : Form) (row : Row) (us : List ExprType) → constructs form (Some row) us ≡ true → Fit row.letters us
constructor_fits form row us h =
    (form, second_of_both (same_object row.form (Some form) && is_constructor row) (fits form row.letters us) h)

-- there is a row with this number, and n operands are as many as these letters of it take
pub record HasRow (letters_of : Row → List Letter) (number n : ℕ) : Type 0 where
  pub row : Row
  pub there : row_at number ≡ Some row
  pub takes : Takes (letters_of row) n

-- the letters of a row
abbrev pub own_letters : Row → List Letter
own_letters row = row.letters

-- those with a container in place of the output
abbrev pub appended_letters : Row → List Letter
appended_letters row = map appending row.letters

-- a call of the library with n operands is one of a row that is there and takes so many, or an operator
abbrev pub IsThere : Callee → ℕ → Type 0
IsThere (callees.Row number) n = HasRow own_letters number n
IsThere (callees.Appends number) n = HasRow appended_letters number n
IsThere (callees.Operator o) n = Unit {0}
IsThere (callees.Hidden o) n = ⊥

-- what is known of operands of these types that fit
abbrev pub Known : Callee → List ExprType → Type 0
Known callee us = (all_typed us ≡ true) × IsThere callee (length us)

-- operands that fit have types, and the row takes so many
fit_known : (letters_of : Row → List Letter) (number : ℕ) (row : Row) (us : List ExprType) → row_at number ≡ Some row → Fit (letters_of row) us
    → (all_typed us ≡ true) × HasRow letters_of number (length us)
fit_known letters_of number row us e fit =
    (fitting_typed fit.0 (letters_of row) us fit.1, record { row = row; there = e; takes = fitting_taken fit.0 (letters_of row) us fit.1 })

-- what is known of the operands of a row
row_known : (g : Scope) (number : ℕ) (found : Option Row) (object : Option ℕ) (us : List ExprType) → row_at number ≡ found
    → has_type (row_type g found object us) ≡ true → Known (callees.Row number) us
row_known g number None object us e h = absurd cc
row_known g number (Some row) object us e h = fit_known own_letters number row us e (row_fits g row object us h)

-- of those of an algorithm that appends
appending_known : (number : ℕ) (found : Option Row) (us : List ExprType) → row_at number ≡ found → has_type (appending_type found us) ≡ true
    → Known (callees.Appends number) us
appending_known number None us e h = absurd cc
appending_known number (Some row) us e h = fit_known appended_letters number row us e (appending_fits row us h)

-- of those of a constructor
constructor_known : (form : Form) (number : ℕ) (found : Option Row) (us : List ExprType) → row_at number ≡ found → constructs form found us ≡ true
    → Known (callees.Row number) us
constructor_known form number None us e h = absurd cc
constructor_known form number (Some row) us e h = fit_known own_letters number row us e (constructor_fits form row us h)

-- where a call of the library has a type, its operands have types, and its row is there and takes so many
pub call_known : (g : Scope) (callee : Callee) (object : Option ℕ) (us : List ExprType) → has_type (call_type g callee object us) ≡ true
    → Known callee us
call_known g (callees.Row number) object us h = row_known g number (row_at number) object us refl h
call_known g (callees.Appends number) object us h =
    appending_known number (row_at number) us refl (only_rest (not (is_some object)) (appending_type (row_at number) us) h)
call_known g (callees.Operator o) object us h =
    (operator_operands_typed o us (only_rest (not (is_some object)) (operator_type o us) h), tt)
call_known g (callees.Hidden o) object us h = absurd cc

-- the same where a container is made
pub making_known : (form : Form) (callee : Callee) (object : Option ℕ) (us : List ExprType) → is_making form callee object us ≡ true
    → Known callee us
making_known form (callees.Row number) None us h = constructor_known form number (row_at number) us refl h
making_known form callee object us h = absurd cc
