use Rattle.std.proofs.Common.{refl}
use Rattle.sl_syntax.specs.Tree as s
use Rattle.sl_syntax.specs.TreeView.{exprs_of}
use Rattle.sl_rules.proofs.CallLookLaws.{look-library_call}
use Rattle.sl_rules.proofs.nodes.library_call.library_call_look.Goals as goal

pub returns : goal.returns
returns c g m e r order =
    let f = c.args.function.now in
    let xs = exprs_of c.args.arguments.now in
    let node = c.args.node in
    look-library_call g node.before m node.standing f xs c.args.looks.now _ _ _ c.args.appends c.requires e r
    (c.fault_behind.ensures g node.before node.standing (s.library_call f xs) refl (c.library_call_checks-checks.ensures g r.types order))
    (rw c.as_slice.ensures.value at c.algorithm_call_type.ensures)
    c.with_own.ensures
