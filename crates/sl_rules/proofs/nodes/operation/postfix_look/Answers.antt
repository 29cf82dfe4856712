use Rattle.std.proofs.Common.{refl, sym}
use Rattle.sl_syntax.specs.Tree as s
use Rattle.sl_syntax.specs.TreeView.{expr_of}
use Rattle.sl_rules.proofs.LookLaws.{look-postfix}
use Rattle.sl_rules.proofs.nodes.operation.postfix_look.Goals as goal

pub returns : goal.returns
returns c g n how l =
    let x = expr_of c.args.operand.now in
    look-postfix g n how x c.args.operator c.args.place c.args.own _ _ l
    (c.fault_behind.ensures g n how (s.postfix x c.args.operator c.args.place) refl (c.postfix_checks.ensures g n how c.args.place (sym l.expr_type)))
    c.value.ensures
