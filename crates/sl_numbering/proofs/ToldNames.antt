-- The names of arguments of the code.
use Rattle.std.proofs.Common.{◌≡◌, ℕ, List, [], ◌∷◌, map, Option, refl, ap}
use Rattle.sl_syntax.specs.declared.tree.expr.Expr.{Expr as ExprCode}
use Rattle.sl_syntax.specs.TreeView.{expr_of, exprs_of}
use Rattle.sl_typing.specs.declared.scope.Scope.{Scope}
use Rattle.sl_typing.specs.Numbering.{told, told_all}

pub told_all-map : (g : Scope) (xs : List ExprCode) → told_all g (exprs_of xs) ≡ map (λ x. told g (expr_of x)) xs
told_all-map g [] = refl
told_all-map g (x ∷ xs) = ap (λ (names : List (Option ℕ)). told g (expr_of x) ∷ names) (told_all-map g xs)
