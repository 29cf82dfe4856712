-- The last of a list.
use Rattle.std.proofs.Common.{◌≡◌, ℕ, ◌-◌, suc, zero, List, [], ◌∷◌, length, Some, refl, ap, ◌∙◌, arith, Bool, true, false, ◌||◌}
use Rattle.std.specs.List.{slice_get}
use Rattle.sl_syntax.specs.declared.tree.expr.Expr.{Expr as ExprCode}
use Rattle.sl_syntax.specs.TreeView.{expr_of, exprs_of}
use Rattle.sl_typing.specs.TypeOf.{is_back_inserter, end_in_appender, size}

or-false : (b : Bool) → b || false ≡ b
or-false true = refl
or-false false = refl

end_in_appender-at : (xs : List ExprCode) (n : ℕ) (x : ExprCode) → length xs ≡ suc n → slice_get xs n ≡ Some x
    → end_in_appender (exprs_of xs) ≡ is_back_inserter (expr_of x)
end_in_appender-at [] n x k e = absurd (omega arith)
end_in_appender-at (y ∷ []) zero x k e =
    let same : y ≡ x = cc in or-false (is_back_inserter (expr_of y)) ∙ ap (λ (z : ExprCode). is_back_inserter (expr_of z)) same
end_in_appender-at (y ∷ []) (suc n) x k e = absurd (omega arith)
end_in_appender-at (y ∷ z ∷ xs) zero x k e = absurd (omega arith)
end_in_appender-at (y ∷ z ∷ xs) (suc n) x k e = end_in_appender-at (z ∷ xs) n x (omega arith) e

-- the last expression, where there is one
pub end_in_appender-get : (xs : List ExprCode) (x : ExprCode) → slice_get xs (length xs - 1) ≡ Some x
    → end_in_appender (exprs_of xs) ≡ is_back_inserter (expr_of x)
end_in_appender-get [] x e = cc
end_in_appender-get (y ∷ xs) x e = end_in_appender-at (y ∷ xs) (length (y ∷ xs) - 1) x (omega arith) e

-- how many there are
pub size-exprs_of : (xs : List ExprCode) → size (exprs_of xs) ≡ length xs
size-exprs_of [] = refl
size-exprs_of (x ∷ xs) = rw (size-exprs_of xs) (omega arith)

pub ruleset sizes = (size-exprs_of)
