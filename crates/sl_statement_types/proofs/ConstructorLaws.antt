-- A constructor is found by its first arguments: none of the library has more than eight.
use Rattle.std.proofs.Common.{◌≡◌, ℕ, ◌<◌, ◌≤◌, List, length, sym, ap, ◌∙◌, arith, ◌⊎◌, inl, inr}
use Rattle.sl_base.specs.declared.form.Form.{Form}
use Rattle.sl_typing.specs.declared.expr_type.ExprType.{ExprType}
use Rattle.sl_typing.specs.Candidates.{constructor_row}
use Rattle.sl_candidates.proofs.FewArguments.{no_constructor_row}
use Rattle.sl_expr_types.specs.Few.{few, listed}
use Rattle.sl_expr_types.proofs.FewLaws.{listed-few, listed-many}

few_or_many : (n : ℕ) → (n ≤ 8) ⊎ (8 < n)
few_or_many n = grind arith

-- a constructor is found by its first arguments
pub constructor_row-listed : (form : Form) (us : List ExprType) → constructor_row form (listed (few us)) ≡ constructor_row form us
constructor_row-listed form us = elim (few_or_many (length us)) [
  | inl h ↦ ap (constructor_row form) (listed-few us h)
  | inr h ↦ no_constructor_row form (listed (few us)) (listed-many us h) ∙ sym (no_constructor_row form us h)
]
