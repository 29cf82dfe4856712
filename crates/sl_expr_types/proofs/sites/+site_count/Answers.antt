use Rattle.std.proofs.Common.{◌+◌, sym, ap, ◌∙◌}
use Rattle.sl_syntax.specs.declared.tree.expr.Expr.{Expr}
use Rattle.sl_syntax.specs.TreeView.{expr_of}
use Rattle.sl_typing.specs.Sites.{is_site}
use Rattle.sl_expr_types.specs.Capped.{capped}
use Rattle.sl_expr_types.specs.Means.Counts.{one_if}
use Rattle.sl_expr_types.proofs.CountLaws.{two, count-none, count_at, call-count, library-count, index-count, member-count, count-more, count-all}
use Rattle.sl_expr_types.proofs.sites.+site_count.Goals as goal

pub site_count-returns-in-Call : goal.site_count-returns-in-Call
site_count-returns-in-Call t c =
    let a = c.in-Call in
    c.site_count_of_all.ensures ∙ call-count c.args.scope.now a.function a.arguments _ c.deref.ensures.value ∙ ap (count_at c.args.scope.now) (sym a.is)

pub site_count-returns-in-LibraryCall : goal.site_count-returns-in-LibraryCall
site_count-returns-in-LibraryCall t c =
    let a = c.in-LibraryCall in
    let g = c.args.scope.now in
    c.capped_sum.ensures
    ∙ library-count g a.function a.arguments _ _ _
    (c.one_if.ensures ∙ ap one_if c.is_site.ensures ∙ ap (λ (x : Expr). one_if (is_site g (expr_of x))) a.is)
    c.site_count_of_all-in-LibraryCall.ensures
    c.deref-in-LibraryCall.ensures.value
    ∙ ap (count_at g) (sym a.is)

pub site_count-returns-in-Index : goal.site_count-returns-in-Index
site_count-returns-in-Index t c =
    let a = c.in-Index in
    let g = c.args.scope.now in
    c.capped_sum-in-Index-2.ensures
    ∙ ap (λ (n : _). capped (n + c.site_count-in-Index-2.result)) c.capped_sum-in-Index.ensures
    ∙ index-count g a.object a.place a.index _ _ _ _ _
    c.site_count-in-Index.ensures
    c.deref-in-Index.ensures
    (c.one_if-in-Index.ensures ∙ ap one_if c.is_site-in-Index.ensures ∙ ap (λ (x : Expr). one_if (is_site g (expr_of x))) a.is)
    c.site_count-in-Index-2.ensures
    c.deref-in-Index-2.ensures
    ∙ ap (count_at g) (sym a.is)

pub site_count-returns-in-MemberCall : goal.site_count-returns-in-MemberCall
site_count-returns-in-MemberCall t c =
    let a = c.in-MemberCall in
    let g = c.args.scope.now in
    c.capped_sum-in-MemberCall-2.ensures
    ∙ ap (λ (n : _). capped (n + c.site_count_of_all-in-MemberCall.result)) c.capped_sum-in-MemberCall.ensures
    ∙ member-count g a.object a.function a.arguments _ _ _ _ _
    c.site_count-in-MemberCall.ensures
    c.deref-in-MemberCall.ensures
    (c.one_if-in-MemberCall.ensures ∙ ap one_if c.is_site-in-MemberCall.ensures ∙ ap (λ (x : Expr). one_if (is_site g (expr_of x))) a.is)
    c.site_count_of_all-in-MemberCall.ensures
    c.deref-in-MemberCall-2.ensures.value
    ∙ ap (count_at g) (sym a.is)

pub site_count_of_all-loop-x-init : goal.site_count_of_all-loop-x-init
site_count_of_all-loop-x-init t c = sym count-none

pub site_count_of_all-loop-x-preserved : goal.site_count_of_all-loop-x-preserved
site_count_of_all-loop-x-preserved t c =
    c.capped_sum-count.ensures
    ∙ two _ _ _ _ c.loop-x.invariant c.site_count.ensures
    ∙ count-more c.args.scope.now c.args.xs.now c.loop-x.x-index c.x-item.result c.loop-x-test.true c.x-item.is

pub site_count_of_all-returns : goal.site_count_of_all-returns
site_count_of_all-returns t c = c.loop-x.invariant ∙ count-all c.args.scope.now c.args.xs.now c.loop-x.x-index c.loop-x-test.false
