use Rattle.std.proofs.Common.{refl, sym}
use Rattle.sl_syntax.specs.Tree as s
use Rattle.sl_syntax.specs.TreeView.{expr_of}
use Rattle.sl_rules.proofs.LookLaws.{look-prefix}
use Rattle.sl_rules.proofs.nodes.operation.prefix_look.Goals as goal

pub returns : goal.returns
returns c g n how l =
    let x = expr_of c.args.operand.now in
    look-prefix g n how c.args.operator c.args.place x c.args.own _ _ l
    (c.fault_behind.ensures g n how (s.prefix c.args.operator c.args.place x) refl (c.prefix_checks.ensures g n how c.args.place (sym l.expr_type)))
    c.prefix_type.ensures
