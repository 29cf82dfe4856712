use Rattle.std.proofs.Common.{refl, sym}
use Rattle.sl_syntax.specs.Tree as s
use Rattle.sl_syntax.specs.TreeView.{expr_of}
use Rattle.sl_rules.proofs.LookLaws.{look-member}
use Rattle.sl_rules.proofs.nodes.member.member_look.Goals as goal

pub returns : goal.returns
returns c g n how l =
    let x = expr_of c.args.object.now in
    let f = c.args.member.now in
    look-member g n how x c.args.selector c.args.place f c.args.own _ _ l
    (c.fault_behind.ensures g n how (s.member x c.args.selector c.args.place f) refl (c.member_checks.ensures g n how c.args.place (sym l.expr_type)))
    (rw (c.selected_type.ensures, c.is_first.ensures, c.as_slice.ensures.value) refl)
