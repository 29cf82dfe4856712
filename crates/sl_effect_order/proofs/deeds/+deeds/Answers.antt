-- The parts of the definition.
use Rattle.std.proofs.Common.{◌+◌, drop, ap, ◌∙◌}
use Rattle.sl_syntax.specs.TreeView.{expr_of}
use Rattle.sl_effect_order.specs.Means.Seen.{spares, both_seen}
use Rattle.sl_effect_order.proofs.SeenLaws.{none_both}
use Rattle.sl_effect_order.proofs.DeedLaws.{rest_seen, deeds-more, deeds-all, call-found, library-found, member-found, part-is}
use Rattle.sl_effect_order.proofs.deeds.+deeds.Goals as goal

pub deeds_of_all-returns : goal.deeds_of_all-returns
deeds_of_all-returns t c =
    deeds-all _ c.args.scope.now c.args.xs.now c.loop-x.x-index c.loop-x.done c.loop-x-test.false ∙ c.loop-x.invariant

pub deeds_of_all-loop-x-init : goal.deeds_of_all-loop-x-init
deeds_of_all-loop-x-init t c =
    ap (λ d. both_seen d (rest_seen (spares c.args.scope.now c.args.calls (expr_of c.args.other.now)) c.args.scope.now c.args.xs.now)) (c.nothing_done-done.ensures _) ∙ none_both (spares c.args.scope.now c.args.calls (expr_of c.args.other.now)) _

pub deeds_of_all-loop-x-preserved : goal.deeds_of_all-loop-x-preserved
deeds_of_all-loop-x-preserved t c =
    ap (λ d. both_seen d (rest_seen (spares c.args.scope.now c.args.calls (expr_of c.args.other.now)) c.args.scope.now (drop (c.loop-x.x-index + 1) c.args.xs.now))) (c.both-done.ensures ∙ ap (both_seen c.loop-x.done) c.deeds_seen.ensures)
    ∙ deeds-more _ c.args.scope.now c.args.xs.now c.loop-x.x-index c.x-item.result c.loop-x.done c.loop-x-test.true c.x-item.is
    ∙ c.loop-x.invariant

pub deeds_seen-returns-in-Call : goal.deeds_seen-returns-in-Call
deeds_seen-returns-in-Call t c =
    let a = c.in-Call in
    call-found _ c.args.scope.now a.function a.arguments _ _ _ _ _ _ c.both.ensures c.call_deeds.ensures c.as_slice.ensures.value c.deref.ensures.value
    c.deeds_of_all.ensures c.deref-in-Call.ensures.value
    ∙ part-is _ c.args.scope.now _ _ a.is

pub deeds_seen-returns-in-LibraryCall : goal.deeds_seen-returns-in-LibraryCall
deeds_seen-returns-in-LibraryCall t c =
    let a = c.in-LibraryCall in
    library-found _ c.args.scope.now a.function a.arguments _ _ _ _ _ _ c.both-in-LibraryCall.ensures c.algorithm_deeds.ensures
    c.as_slice-in-LibraryCall.ensures.value c.deref-in-LibraryCall.ensures.value c.deeds_of_all-in-LibraryCall.ensures
    c.deref-in-LibraryCall-2.ensures.value
    ∙ part-is _ c.args.scope.now _ _ a.is

pub deeds_seen-returns-in-MemberCall : goal.deeds_seen-returns-in-MemberCall
deeds_seen-returns-in-MemberCall t c =
    let a = c.in-MemberCall in
    member-found _ c.args.scope.now a.object a.function a.arguments _ _ _ _ _ _ _ _ _ _ c.both-in-MemberCall-2.ensures c.both-in-MemberCall.ensures
    c.member_deeds.ensures c.deref-in-MemberCall.ensures c.as_slice-in-MemberCall.ensures.value c.deref-in-MemberCall-2.ensures.value
    c.deeds_seen-in-MemberCall.ensures c.deref-in-MemberCall-3.ensures c.deeds_of_all-in-MemberCall.ensures c.deref-in-MemberCall-4.ensures.value
    ∙ part-is _ c.args.scope.now _ _ a.is
