-- The arguments that stand in the call.
use Rattle.std.proofs.Common.{sym, ap, ◌∙◌}
use Rattle.sl_syntax.specs.declared.tree.expr.Expr.{Expr as ExprCode}
use Rattle.sl_syntax.specs.Tree as s
use Rattle.sl_syntax.specs.TreeView.{expr_of}
use Rattle.sl_typing.specs.Order.{last_arguments}
use Rattle.sl_effect_order.proofs.OwnLaws.{last-LibraryCall}
use Rattle.sl_effect_order.proofs.named.arguments_of.Goals as goal

pub returns-in-LibraryCall : goal.returns-in-LibraryCall
returns-in-LibraryCall c =
    let a = c.in-LibraryCall in
    last-LibraryCall a.function a.arguments c.deref.result.now c.deref.ensures.value
    ∙ ap (λ (x : ExprCode). last_arguments (s.with (expr_of x) s.none)) (sym a.is)
