use Rattle.std.proofs.Common.{refl, sym}
use Rattle.sl_syntax.specs.Tree as s
use Rattle.sl_syntax.specs.TreeView.{expr_of, exprs_of}
use Rattle.sl_rules.proofs.CallLookLaws.{look-member_call}
use Rattle.sl_rules.proofs.nodes.member_call.member_call_look.Goals as goal

pub returns : goal.returns
returns c m l e r order =
    let g = c.args.scope.now in
    let x = expr_of c.args.object.now in
    let f = c.args.function.now in
    let xs = exprs_of c.args.arguments.now in
    let node = c.args.node in
    look-member_call g node.before m node.standing x f xs c.args.own c.args.looks.now _ _ _ c.is_call_site-is_own.result l e r
    (rw c.or.ensures at
    (c.fault_behind.ensures g node.before node.standing (s.member_call x f xs) refl (c.member_call_checks-checks.ensures l order)))
    (rw c.as_slice.ensures.value at c.member_call_type.ensures)
    (rw (c.capped_sum.ensures, c.with_own.ensures) refl)
    (c.is_call_site-is_own.ensures g (sym l.expr_type))
