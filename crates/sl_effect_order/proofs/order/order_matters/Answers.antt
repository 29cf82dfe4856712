-- By the order of the arguments.
use Rattle.std.proofs.Common.{sym, ◌∙◌}
use Rattle.sl_effect_order.proofs.RuleLaws.{rule-Call, rule-LibraryCall, rule-MemberCall, arguments-clash, node-is}
use Rattle.sl_effect_order.proofs.order.order_matters.Goals as goal

pub returns-in-Call : goal.returns-in-Call
returns-in-Call c =
    let a = c.in-Call in
    arguments-clash _ _ _ _ c.some_clash.ensures c.deref-in-Call.ensures.value ∙ sym (rule-Call c.args.scope.now a.function a.arguments)
    ∙ node-is c.args.scope.now _ _ a.is

pub returns-in-LibraryCall : goal.returns-in-LibraryCall
returns-in-LibraryCall c =
    let a = c.in-LibraryCall in
    arguments-clash _ _ _ _ c.some_clash-in-LibraryCall.ensures c.deref-in-LibraryCall.ensures.value
    ∙ sym (rule-LibraryCall c.args.scope.now a.function a.arguments)
    ∙ node-is c.args.scope.now _ _ a.is

pub returns-in-MemberCall : goal.returns-in-MemberCall
returns-in-MemberCall c =
    let a = c.in-MemberCall in
    arguments-clash _ _ _ _ c.some_clash-in-MemberCall.ensures c.deref-in-MemberCall.ensures.value
    ∙ sym (rule-MemberCall c.args.scope.now a.object a.function a.arguments)
    ∙ node-is c.args.scope.now _ _ a.is
