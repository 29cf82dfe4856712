-- A left side by its type.
use Rattle.std.specs.Prelude.{Bool, true, false}
use Rattle.sl_syntax.specs.Tree as s
use Rattle.sl_syntax.specs.Tree.{Expr}
use Rattle.sl_typing.specs.declared.expr_type.ExprType.{ExprType}
use Rattle.sl_typing.specs.Types.{is_element}

-- an expression of this type is a left side
abbrev pub left_side_at : Expr → ExprType → Bool
left_side_at (s.name x) u = true
left_side_at (s.parentheses at x) u = false
left_side_at e u = is_element u
