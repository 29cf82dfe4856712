-- The type of a call that moves an iterator variable: the variable's, or that of nothing.
use Rattle.std.proofs.Common.{◌≡◌, ◌⊎◌, inl, inr, ℕ, Bool, true, false, not, ◌||◌, List, [], ◌∷◌, Option, Some, None, refl, subst, ◌∙◌, ap}
use Rattle.std.specs.Prelude.{is_some}
use Rattle.std.specs.List.{list_all}
use Rattle.sl_base.specs.declared.form.Form.TheVariants as f
use Rattle.sl_specs.specs.declared.return_type.ReturnType.{ReturnType}
use Rattle.sl_specs.specs.declared.return_type.ReturnType.TheVariants as r
use Rattle.sl_specs.specs.Rows.{Row}
use Rattle.sl_specs.specs.Table.{table}
use Rattle.sl_syntax.specs.declared.typed.callee.Callee.{Callee}
use Rattle.sl_syntax.specs.declared.typed.callee.Callee.TheVariants as callees
use Rattle.sl_syntax.specs.declared.typed.operator.Operator.{Operator}
use Rattle.sl_syntax.specs.declared.typed.operator.Operator.TheVariants as operators
use Rattle.sl_typing.specs.declared.expr_type.ExprType.{ExprType}
use Rattle.sl_typing.specs.declared.expr_type.ExprType.TheVariants as types
use Rattle.sl_typing.specs.Types.{has_type, only, is_const}
use Rattle.sl_typing.specs.Signatures.{result_type, row_at}
use Rattle.sl_model.specs.Typing.WellTypedExpressions.{only_element}
use Rattle.sl_model.proofs.TypedOperands.{typed_by}
use Rattle.sl_model.specs.Typing.WellTypedScopes.{Scope, variable_type}
use Rattle.sl_model.specs.Typing.WellTypedCalls.{call_type, row_type, member_type, operator_type, is_advance, is_moving, is_moving_operator}
use Rattle.sl_model.specs.Typing.WellTypedCalls.{is_moving_row}
use Rattle.sl_model.proofs.Passing.{passes_at}

-- a type is the one, or that of nothing
abbrev pub IsMoveType : ExprType → ExprType → Type 0
IsMoveType u v = (v ≡ u) ⊎ (v ≡ types.Nothing)

-- a type behind a condition that holds is the type
pub only_is : (b : Bool) (u : ExprType) → has_type (only b u) ≡ true → only b u ≡ u
only_is true u h = refl
only_is false u h = absurd (cc)

-- nothing is given
abbrev is_nothing : ReturnType → Bool
is_nothing r.Nothing = true
is_nothing x = false

-- a row that moves an iterator variable gives nothing
abbrev moves_silently : Row → Bool
moves_silently row = not (is_advance row) || is_nothing row.gives

-- each row of the table does so
all_silent : list_all moves_silently table ≡ true
unfolding table
all_silent = refl

-- what is nothing is that
nothing_is : (x : ReturnType) → is_nothing x ≡ true → x ≡ r.Nothing
nothing_is r.Nothing h = refl
nothing_is x h = absurd (cc)

-- of two answers the second is true, where the first is denied
second_holds : (b c : Bool) → (not b || c) ≡ true → b ≡ true → c ≡ true
second_holds true c h k = h
second_holds false c h k = absurd (cc)

-- what a row gives that moves a variable
row_silent : (n : ℕ) (row : Row) → row_at n ≡ Some row → is_advance row ≡ true → row.gives ≡ r.Nothing
row_silent n row there moves = nothing_is row.gives
    (second_holds (is_advance row) (is_nothing row.gives) (passes_at moves_silently table n row all_silent there) moves)

-- the type of a call of such a row on an object
member_empty : (row : Row) (u : ExprType) (us : List ExprType) → row.gives ≡ r.Nothing → has_type (member_type row u us) ≡ true
    → member_type row u us ≡ types.Nothing
member_empty row (types.Container access x) us e h =
    only_is _ (result_type row.gives (is_const access) x us) h ∙ ap (λ y. result_type y (is_const access) x us) e
member_empty row u us e h = absurd (cc)

-- of a row, if it is there
row_empty : (g : Scope) (row : Row) (object : Option ℕ) (us : List ExprType) → row.gives ≡ r.Nothing
    → has_type (row_type g (Some row) object us) ≡ true → row_type g (Some row) object us ≡ types.Nothing
row_empty g row None us e h = only_is _ (result_type row.gives false f.Vector us) h ∙ ap (λ y. result_type y false f.Vector us) e
row_empty g row (Some x) us e h = member_empty row (variable_type g.containers x) us e h

-- of a row with a number
numbered_empty : (g : Scope) (n : ℕ) (found : Option Row) (object : Option ℕ) (us : List ExprType) → row_at n ≡ found
    → is_moving_row found ≡ true → has_type (row_type g found object us) ≡ true → row_type g found object us ≡ types.Nothing
numbered_empty g n None object us there m h = absurd (cc)
numbered_empty g n (Some row) object us there m h = row_empty g row object us (row_silent n row there m) h

-- the type of an operator that moves a variable
operator_moves : (o : Operator) (u : ExprType) (us : List ExprType) → is_moving_operator o ≡ true → has_type (operator_type o (u ∷ us)) ≡ true
    → IsMoveType u (operator_type o (u ∷ us))
operator_moves operators.Increment (types.Iterator b x) [] m h = inl refl
operator_moves operators.Decrement (types.Iterator b x) [] m h = inl (only_is _ (types.Iterator b x) h)
operator_moves operators.AddAssign (types.Iterator b x) (v ∷ []) m h = inr (only_is _ types.Nothing h)
operator_moves operators.SubtractAssign (types.Iterator b x) (v ∷ []) m h = inr (only_is _ types.Nothing h)
operator_moves o u us m h = absurd (cc)

-- behind a condition
only_moves : (b : Bool) (u v : ExprType) → has_type (only b v) ≡ true → (has_type v ≡ true → IsMoveType u v) → IsMoveType u (only b v)
only_moves true u v h k = k h
only_moves false u v h k = absurd (cc)

-- the type of a call that moves a variable is the variable's, or that of nothing
pub move_type : (g : Scope) (callee : Callee) (object : Option ℕ) (u : ExprType) (us : List ExprType) → is_moving callee ≡ true
    → has_type (call_type g callee object (u ∷ us)) ≡ true → IsMoveType u (call_type g callee object (u ∷ us))
move_type g (callees.Row n) object u us m h = inr (numbered_empty g n (row_at n) object (u ∷ us) refl m h)
move_type g (callees.Operator o) object u us m h =
    only_moves (not (is_some object)) u (operator_type o (u ∷ us)) h (λ t. operator_moves o u us m t)
move_type g callee object u us m h = absurd (cc)

-- behind a condition there is no element where there is none
no_element_behind : (b : Bool) (u : ExprType) → only_element u ≡ types.Wrong → has_type (only_element (only b u)) ≡ true → ⊥
no_element_behind true u e h = let r : has_type types.Wrong ≡ true = subst (λ (x : ExprType). has_type x ≡ true) e h in absurd (cc)
no_element_behind false u e h = absurd (cc)

-- an operator that moves a variable gives no element
operator_gives_none : (o : Operator) (us : List ExprType) → is_moving_operator o ≡ true → (b : Bool)
    → has_type (only_element (only b (operator_type o us))) ≡ true → ⊥
operator_gives_none operators.Increment (types.Iterator c x ∷ []) m b h = no_element_behind b (types.Iterator c x) refl h
operator_gives_none operators.Decrement (types.Iterator c x ∷ []) m true h = no_element_behind _ (types.Iterator c x) refl h
operator_gives_none operators.AddAssign (types.Iterator c x ∷ v ∷ []) m true h = no_element_behind _ types.Nothing refl h
operator_gives_none operators.SubtractAssign (types.Iterator c x ∷ v ∷ []) m true h = no_element_behind _ types.Nothing refl h
operator_gives_none o us m true h = absurd (cc)
operator_gives_none o us m false h = absurd (cc)

-- a call that moves a variable gives none
moving_gives_none : (g : Scope) (callee : Callee) (object : Option ℕ) (us : List ExprType) → is_moving callee ≡ true
    → has_type (only_element (call_type g callee object us)) ≡ true → ⊥
moving_gives_none g (callees.Row n) object us m h =
    let typed = typed_by (λ x. has_type (only_element x)) refl (row_type g (row_at n) object us) h in
    let none = numbered_empty g n (row_at n) object us refl m typed in
    let r : has_type (only_element types.Nothing) ≡ true = subst (λ (x : ExprType). has_type (only_element x) ≡ true) none h in absurd (cc)
moving_gives_none g (callees.Operator o) object us m h = operator_gives_none o us m (not (is_some object)) h
moving_gives_none g callee object us m h = absurd (cc)

-- so a call that gives an element moves none
pub element_still : (g : Scope) (callee : Callee) (object : Option ℕ) (us : List ExprType)
    → has_type (only_element (call_type g callee object us)) ≡ true → is_moving callee ≡ false
element_still g callee object us h = by_answer (is_moving callee) refl
  where
    by_answer : (b : Bool) → is_moving callee ≡ b → is_moving callee ≡ false
    by_answer false e = e
    by_answer true e = absurd (moving_gives_none g callee object us e h)
