use Rattle.std.proofs.Common.{refl, sym}
use Rattle.sl_syntax.specs.Tree as s
use Rattle.sl_rules.proofs.LookLaws.{look-binary}
use Rattle.sl_rules.proofs.nodes.operation.binary_look.Goals as goal

pub returns : goal.returns
returns c g n m how x y l e r order =
    let tree = s.binary x c.args.operator c.args.place y in
    let checks = c.binary_checks-checks.ensures g n how c.args.place x y (sym l.expr_type) (sym r.expr_type) order in
    look-binary g n m how x c.args.operator c.args.place y c.args.left c.args.right _ _ _ l e r
    (rw c.or.ensures at (c.fault_behind.ensures g n how tree refl checks)) c.binary_type.ensures c.capped_sum.ensures
