use Rattle.std.proofs.Common.{sym, ap, length, ◌∙◌}
use Rattle.sl_syntax.specs.declared.tree.expr.Expr.{Expr}
use Rattle.sl_syntax.specs.TreeView.{expr_of}
use Rattle.sl_typing.specs.Looks.{is_plain}
use Rattle.sl_expr_types.proofs.SiteLaws.{site_at, member-site, library-site}
use Rattle.sl_expr_types.proofs.TypeLaws.{type_at}
use Rattle.sl_expr_types.proofs.sites.is_site.Goals as goal

pub returns-in-MemberCall : goal.returns-in-MemberCall
returns-in-MemberCall c =
    let a = c.in-MemberCall in
    let g = c.args.scope.now in
    member-site g a.object a.function a.arguments _ _ _ _ _
    (c.is_plain.ensures ∙ ap (λ (x : Expr). is_plain (expr_of x)) c.deref-in-MemberCall.ensures)
    c.is_member_site.ensures
    (c.type_of-own.ensures ∙ ap (type_at g) c.deref.ensures)
    c.as_slice.ensures.value
    (ap length c.as_slice-count.ensures.value)
    ∙ ap (site_at g) (sym a.is)

pub returns-in-LibraryCall : goal.returns-in-LibraryCall
returns-in-LibraryCall c =
    let a = c.in-LibraryCall in
    library-site c.args.scope.now a.function a.arguments _ _ _ c.appends.ensures c.as_slice-in-LibraryCall.ensures.value c.deref-in-LibraryCall.ensures.value
    ∙ ap (site_at c.args.scope.now) (sym a.is)
