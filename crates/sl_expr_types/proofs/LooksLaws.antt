-- Left sides by their types.
use Rattle.std.proofs.Common.{◌≡◌, refl, sym, ap, ◌∙◌}
use Rattle.sl_syntax.specs.Tree as s
use Rattle.sl_syntax.specs.Tree.{Expr}
use Rattle.sl_typing.specs.declared.expr_type.ExprType.{ExprType}
use Rattle.sl_typing.specs.declared.scope.Scope.{Scope}
use Rattle.sl_typing.specs.Looks.{is_left_side}
use Rattle.sl_typing.specs.TypeOf.{type_of}
use Rattle.sl_expr_types.specs.Means.Sides.{left_side_at}

pub side_of : (g : Scope) (e : Expr) → left_side_at e (type_of g e) ≡ is_left_side g e
unfolding is_left_side
side_of g (s.number at n) = refl
side_of g (s.truth at x) = refl
side_of g (s.name x) = refl
side_of g (s.call f xs) = refl
side_of g (s.library_call f xs) = refl
side_of g (s.parentheses at x) = refl
side_of g (s.prefix op at x) = refl
side_of g (s.binary x op at y) = refl
side_of g (s.postfix x op at) = refl
side_of g (s.index x at y) = refl
side_of g (s.member_call x f xs) = refl
side_of g (s.member x selector at f) = refl

-- where its type is known
pub side_by : (g : Scope) (e : Expr) (u : ExprType) → type_of g e ≡ u → left_side_at e u ≡ is_left_side g e
side_by g e u t = ap (left_side_at e) (sym t) ∙ side_of g e
