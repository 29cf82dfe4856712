-- A typed call that moves an iterator variable begins with it, and has no object: it is `advance` or an operator.
use Rattle.std.proofs.Common.{◌≡◌, ℕ, true, not, List, ◌∷◌, Option, Some, None, ap, sym, subst, ◌∙◌}
use Rattle.std.specs.Prelude.{is_some}
use Rattle.std.specs.List.{slice_get}
use Rattle.sl_base.specs.declared.form.Form.TheVariants as f
use Rattle.sl_specs.specs.Rows.{Row as TableRow}
use Rattle.sl_specs.specs.Table.{table}
use Rattle.sl_syntax.specs.declared.typed.callee.Callee.{Callee}
use Rattle.sl_syntax.specs.declared.typed.callee.Callee.TheVariants as callees
use Rattle.sl_typing.specs.declared.expr_type.ExprType.{ExprType}
use Rattle.sl_typing.specs.Types.{has_type, is_iterator}
use Rattle.sl_model.specs.Typing.WellTypedScopes.{Scope}
use Rattle.sl_model.specs.Typing.WellTypedCalls.{fits, operator_type, call_type, is_moving_row, is_moving}
use Rattle.sl_model.proofs.TypedOperands.{only_rest}
use Rattle.sl_model.proofs.TypedRows.{IsMember, is_member, is_alone}
use Rattle.sl_model.proofs.AlgorithmsFit.{advance_row, advancing_row, advance-begins}
use Rattle.sl_model.proofs.OperatorsFit.{moving_operator-begins}

-- the row with a number is that of `advance`, where its calls move a variable
pub moving_row : (n : ℕ) (line : TableRow) → slice_get table n ≡ Some line → is_moving (callees.Row n) ≡ true → line ≡ advance_row
moving_row n line e k = advancing_row n line e (sym (ap is_moving_row e) ∙ k)

-- no member moves a variable
no_member_moves : (g : Scope) (n x : ℕ) (us : List ExprType) → is_moving (callees.Row n) ≡ true → IsMember g n x us → ⊥
no_member_moves g n x us k call = never (sym call.on_form ∙ ap (λ (r : TableRow). r.form) (moving_row n call.line call.there k))
  where
    never : Some call.form ≡ None → ⊥
    never e = cc

-- a typed call of a row that moves a variable begins with an iterator
moved_by_row : (g : Scope) (n : ℕ) (object : Option ℕ) (u : ExprType) (us : List ExprType) → is_moving (callees.Row n) ≡ true
    → has_type (call_type g (callees.Row n) object (u ∷ us)) ≡ true → is_iterator u ≡ true
moved_by_row g n None u us k h =
    let call = is_alone g n (u ∷ us) h in
    advance-begins (u ∷ us)
    (subst (λ (r : TableRow). fits f.Vector r.letters (u ∷ us) ≡ true) (moving_row n call.line call.there k) call.fitting)
moved_by_row g n (Some x) u us k h = absurd (no_member_moves g n x (u ∷ us) k (is_member g n x (u ∷ us) h))

-- a typed call that moves a variable begins with an iterator
pub moving_first : (g : Scope) (callee : Callee) (object : Option ℕ) (u : ExprType) (us : List ExprType) → is_moving callee ≡ true
    → has_type (call_type g callee object (u ∷ us)) ≡ true → is_iterator u ≡ true
moving_first g (callees.Row n) object u us k h = moved_by_row g n object u us k h
moving_first g (callees.Appends n) object u us k h = absurd cc
moving_first g (callees.Operator o) object u us k h =
    moving_operator-begins o (u ∷ us) k (only_rest (not (is_some object)) (operator_type o (u ∷ us)) h)
moving_first g (callees.Hidden o) object u us k h = absurd cc
