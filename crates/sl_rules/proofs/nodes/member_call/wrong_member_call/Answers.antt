use Rattle.std.proofs.Common.{sym}
use Rattle.sl_syntax.specs.TreeView.{expr_of, exprs_of}
use Rattle.sl_rules.proofs.CallLookLaws.{wrong-member_call}
use Rattle.sl_rules.proofs.nodes.member_call.wrong_member_call.Goals as goal

pub returns : goal.returns
returns c h =
    let x = expr_of c.args.object.now in
    let f = c.args.function.now in
    let xs = exprs_of c.args.arguments.now in
    rw (c.is_iterator_pair.ensures, c.is_before_part.ensures)
    (wrong-member_call c.args.scope.now c.args.node.standing x f xs c.args.own c.member_call_type-gives.result c.args.types.now c.fits_member.result (sym h)
    c.requires
    (rw c.as_slice-name.ensures.value at c.member_call_type-gives.ensures)
    (rw c.as_slice-name.ensures.value at c.fits_member.ensures))
