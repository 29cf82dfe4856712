use Rattle.std.proofs.Common.{◌≡◌, ◌+◌, ◌==◌, refl, sym, ◌∙◌}
use Rattle.sl_base.specs.declared.limits.TheConstants.{SITES}
use Rattle.sl_syntax.specs.Tree as s
use Rattle.sl_syntax.specs.TreeView.{expr_of, exprs_of}
use Rattle.sl_typing.specs.Rules.{has_no_member, member_writes_const}
use Rattle.sl_typing.specs.Sites.{is_site, site_count}
use Rattle.sl_typing.specs.TypeOf.{size, type_of, types_of}
use Rattle.sl_rules.proofs.ArgumentLaws.{size_exprs_of}
use Rattle.sl_rules.proofs.CheckLaws.{checks-member_call, last-number}
use Rattle.sl_rules.proofs.CallLookLaws.{sites_before}
use Rattle.sl_rules.proofs.nodes.member_call.member_call_checks.Goals as goal

pub returns : goal.returns
returns c l order =
    let g = c.args.scope.now in
    let n = c.args.node.before in
    let x = expr_of c.args.object.now in
    let f = c.args.function.now in
    let xs = exprs_of c.args.arguments.now in
    let call : c.has_no_member.result ≡ has_no_member (type_of g x) f.name (size xs) =
    c.has_no_member.ensures ∙ rw (c.as_slice-name.ensures.value, l.expr_type, size_exprs_of c.args.arguments.now) refl in
    let writes : c.member_writes_const.result ≡ member_writes_const (type_of g x) f.name (types_of g xs) =
    c.member_writes_const.ensures (types_of g xs) c.requires ∙ rw (c.as_slice-name.ensures.value, l.expr_type) refl in
    let site : c.is_call_site.result ≡ is_site g (s.member_call x f xs) = c.is_call_site.ensures g (sym l.expr_type) in
    let last : (c.capped_sum-number.result == SITES) ≡ (n + site_count g x == SITES) =
    last-number _ (n + site_count g x) (c.capped_sum-number.ensures ∙ sites_before g n x c.args.own l) in
    rw (checks-member_call g n c.args.node.standing x f xs, c.is_plain.ensures, call, c.wrong_member_call.ensures (sym l.expr_type), writes, site, last, order)
    refl
