use Rattle.std.proofs.Common.{sym, ap, ◌∙◌}
use Rattle.sl_expr_types.specs.Few.{pushed_to}
use Rattle.sl_expr_types.proofs.TypeLaws.{type_at, library-type, member-type, types-more, types-all}
use Rattle.sl_expr_types.proofs.expression.+type_of.Goals as goal

pub type_of-returns-in-LibraryCall : goal.type_of-returns-in-LibraryCall
type_of-returns-in-LibraryCall t c =
    let a = c.in-LibraryCall in
    c.algorithm_call_type.ensures
    ∙ library-type c.args.scope.now a.function a.arguments _ _ _ _ _ c.as_slice-name.ensures.value c.deref.ensures.value c.deref-in-LibraryCall.ensures.value
    c.appends.ensures
    c.types_of.ensures
    ∙ ap (type_at c.args.scope.now) (sym a.is)

pub type_of-returns-in-MemberCall : goal.type_of-returns-in-MemberCall
type_of-returns-in-MemberCall t c =
    let a = c.in-MemberCall in
    c.member_call_type.ensures
    ∙ member-type c.args.scope.now a.object a.function a.arguments _ _ _ _ (c.type_of-own.ensures ∙ ap (type_at c.args.scope.now) c.deref-in-MemberCall.ensures)
    c.as_slice-in-MemberCall.ensures.value
    c.deref-in-MemberCall-2.ensures.value
    c.types_of-in-MemberCall.ensures
    ∙ ap (type_at c.args.scope.now) (sym a.is)

pub types_of-loop-x-preserved : goal.types_of-loop-x-preserved
types_of-loop-x-preserved t c =
    c.pushed-types.ensures
    ∙ ap (λ (o : _). pushed_to o c.type_of.result) c.loop-x.invariant
    ∙ ap (pushed_to _) c.type_of.ensures
    ∙ types-more c.args.scope.now c.args.xs.now c.loop-x.x-index c.x-item.result c.loop-x-test.true c.x-item.is

pub types_of-returns : goal.types_of-returns
types_of-returns t c = c.loop-x.invariant ∙ types-all c.args.scope.now c.args.xs.now c.loop-x.x-index c.loop-x-test.false
