use Rattle.std.proofs.Common.{refl}
use Rattle.sl_syntax.specs.Tree as s
use Rattle.sl_syntax.specs.TreeView.{exprs_of}
use Rattle.sl_rules.proofs.CallLookLaws.{look-call}
use Rattle.sl_rules.proofs.nodes.own_call.call_look.Goals as goal

pub returns : goal.returns
returns c n how r =
    let g = c.args.scope.now in
    let f = c.args.function.now in
    let xs = exprs_of c.args.arguments.now in
    look-call g n how f xs c.args.looks.now c.broken-unknown.result _ _ r
    (rw (c.broken-unknown.ensures, c.is_unknown_function.ensures, c.as_slice-name.ensures.value) refl)
    (rw c.or.ensures at (c.fault_behind.ensures g n how (s.call f xs) refl (c.call_checks-checks.ensures n how)))
    (rw (c.own_call_type.ensures, c.function_named.ensures, c.as_slice-name.ensures.value) refl)
