use Rattle.std.proofs.Common.{◌≡◌, ap, sym, ◌∙◌, arith}
use Rattle.sl_syntax.specs.Tree as s
use Rattle.sl_syntax.specs.Tree.{Expr}
use Rattle.sl_syntax.specs.TreeView.{expr_of, exprs_of}
use Rattle.sl_syntax.proofs.TreeViews.{expr_of-Call, expr_of-LibraryCall, expr_of-Parentheses, expr_of-Prefix, expr_of-Binary, expr_of-Postfix}
use Rattle.sl_syntax.proofs.TreeViews.{expr_of-Index, expr_of-MemberCall, expr_of-Member}
use Rattle.sl_typing.specs.declared.standing.Standing.TheVariants as standing
use Rattle.sl_typing.specs.Faults.{last_standing, part_standing}
use Rattle.sl_typing.specs.Order.{order_matters}
use Rattle.sl_typing.specs.Sites.{is_site}
use Rattle.sl_typing.specs.TypeOf.{appends}
use Rattle.sl_rules.specs.Looks.{IsLook}
use Rattle.sl_rules.proofs.CallLookLaws.{sites_before}
use Rattle.sl_rules.proofs.LookLaws.{look-parentheses}
use Rattle.sl_rules.proofs.WalkLaws.{as_code, same_code, same_row, same_standing, same_last, counts_alike, looks_init, looks_turn, looks_end}
use Rattle.sl_rules.proofs.walk.+look.Goals as goal

pub look_at-call_look-requires : goal.look_at-call_look-requires
look_at-call_look-requires t c =
    let a = c.in-Call in
    let g = c.args.scope.now in
    c.order_matters.ensures
    ∙ ap (order_matters g)
    (ap expr_of a.is ∙ expr_of-Call a.function a.arguments ∙ ap (λ l. s.call a.function (exprs_of l)) (sym c.deref-in-Call.ensures.value))

pub look_at-returns-in-Number : goal.look_at-returns-in-Number
look_at-returns-in-Number t c =
    let a = c.in-Number in
    as_code c.args.scope.now c.args.before c.args.standing c.args.e.now (s.number a.place a.value) _ (ap expr_of a.is)
    (c.number_look.ensures _ _ _ a.place a.value)

pub look_at-returns-in-Truth : goal.look_at-returns-in-Truth
look_at-returns-in-Truth t c =
    let a = c.in-Truth in
    as_code c.args.scope.now c.args.before c.args.standing c.args.e.now (s.truth a.place a.value) _ (ap expr_of a.is)
    (c.truth_look.ensures _ _ _ a.place a.value)

pub look_at-returns-in-Name : goal.look_at-returns-in-Name
look_at-returns-in-Name t c =
    let a = c.in-Name in
    as_code c.args.scope.now c.args.before c.args.standing c.args.e.now (s.name a.name) _ (ap expr_of a.is) (c.name_look.ensures _)

pub look_at-returns-in-Call : goal.look_at-returns-in-Call
look_at-returns-in-Call t c =
    let a = c.in-Call in
    let g = c.args.scope.now in
    let n = c.args.before in
    let xs = c.deref-in-Call.result.now in
    let tree : expr_of c.args.e.now ≡ s.call a.function (exprs_of xs) =
    ap expr_of a.is ∙ expr_of-Call a.function a.arguments ∙ ap (λ l. s.call a.function (exprs_of l)) (sym c.deref-in-Call.ensures.value) in
    as_code g n c.args.standing c.args.e.now (s.call a.function (exprs_of xs)) _ tree
    (c.call_look.ensures n c.args.standing
    (same_row g n standing.Plain c.deref.result.now xs _ (c.deref.ensures.value ∙ sym c.deref-in-Call.ensures.value) c.look_at_all-looks.ensures))

pub look_at-returns-in-Parentheses : goal.look_at-returns-in-Parentheses
look_at-returns-in-Parentheses t c =
    let a = c.in-Parentheses in
    let g = c.args.scope.now in
    let n = c.args.before in
    as_code g n c.args.standing c.args.e.now (s.parentheses a.place (expr_of a.inner.value)) _ (ap expr_of a.is ∙ expr_of-Parentheses a.place a.inner)
    (look-parentheses g n c.args.standing a.place (expr_of a.inner.value) _
    (same_code g n standing.Plain c.deref-in-Parentheses.result.now a.inner.value _ c.deref-in-Parentheses.ensures c.look_at.ensures))

pub look_at-returns-in-Prefix : goal.look_at-returns-in-Prefix
look_at-returns-in-Prefix t c =
    let a = c.in-Prefix in
    let g = c.args.scope.now in
    let n = c.args.before in
    let x = c.deref-in-Prefix-2.result.now in
    let tree : expr_of c.args.e.now ≡ s.prefix a.operator a.place (expr_of x) =
    ap expr_of a.is
    ∙ expr_of-Prefix a.operator a.place a.operand
    ∙ ap (λ z. s.prefix a.operator a.place (expr_of z)) (sym c.deref-in-Prefix-2.ensures) in
    as_code g n c.args.standing c.args.e.now (s.prefix a.operator a.place (expr_of x)) _ tree
    (c.prefix_look.ensures g n c.args.standing
    (same_code g n standing.Plain c.deref-in-Prefix.result.now x _ (c.deref-in-Prefix.ensures ∙ sym c.deref-in-Prefix-2.ensures) c.look_at-own.ensures))

pub look_at-returns-in-Postfix : goal.look_at-returns-in-Postfix
look_at-returns-in-Postfix t c =
    let a = c.in-Postfix in
    let g = c.args.scope.now in
    let n = c.args.before in
    let x = c.deref-in-Postfix-2.result.now in
    let tree : expr_of c.args.e.now ≡ s.postfix (expr_of x) a.operator a.place =
    ap expr_of a.is
    ∙ expr_of-Postfix a.operand a.operator a.place
    ∙ ap (λ z. s.postfix (expr_of z) a.operator a.place) (sym c.deref-in-Postfix-2.ensures) in
    as_code g n c.args.standing c.args.e.now (s.postfix (expr_of x) a.operator a.place) _ tree
    (c.postfix_look.ensures g n c.args.standing
    (same_code g n standing.Plain c.deref-in-Postfix.result.now x _ (c.deref-in-Postfix.ensures ∙ sym c.deref-in-Postfix-2.ensures)
    c.look_at-own-in-Postfix.ensures))

pub look_at-returns-in-Binary : goal.look_at-returns-in-Binary
look_at-returns-in-Binary t c =
    let a = c.in-Binary in
    let g = c.args.scope.now in
    let n = c.args.before in
    let x = expr_of c.deref-in-Binary.result.now in
    let y = expr_of c.deref-in-Binary-2.result.now in
    let tree : expr_of c.args.e.now ≡ s.binary x a.operator a.place y =
    ap expr_of a.is
    ∙ expr_of-Binary a.left a.operator a.place a.right
    ∙ ap (λ z. s.binary (expr_of z) a.operator a.place (expr_of a.right.value)) (sym c.deref-in-Binary.ensures)
    ∙ ap (λ z. s.binary x a.operator a.place (expr_of z)) (sym c.deref-in-Binary-2.ensures) in
    as_code g n c.args.standing c.args.e.now (s.binary x a.operator a.place y) _ tree
    (c.binary_look.ensures g n c.capped_sum-between.result c.args.standing x y c.look_at-first.ensures
    (counts_alike _ _ (c.capped_sum-between.ensures ∙ sites_before g n x c.look_at-first.result c.look_at-first.ensures))
    c.look_at-second.ensures
    (c.order_matters.ensures ∙ ap (order_matters g) tree))

pub look_at-returns-in-Index : goal.look_at-returns-in-Index
look_at-returns-in-Index t c =
    let a = c.in-Index in
    let g = c.args.scope.now in
    let n = c.args.before in
    let x = expr_of c.deref-in-Index.result.now in
    let y = expr_of c.deref-in-Index-2.result.now in
    let tree : expr_of c.args.e.now ≡ s.index x a.place y =
    ap expr_of a.is
    ∙ expr_of-Index a.object a.place a.index
    ∙ ap (λ z. s.index (expr_of z) a.place (expr_of a.index.value)) (sym c.deref-in-Index.ensures)
    ∙ ap (λ z. s.index x a.place (expr_of z)) (sym c.deref-in-Index-2.ensures) in
    as_code g n c.args.standing c.args.e.now (s.index x a.place y) _ tree
    (c.index_look.ensures g c.inside_index-inside.result c.args.standing x y c.look_at-own-in-Index.ensures
    (counts_alike _ _ (c.inside_index-inside.ensures g x a.place y c.look_at-own-in-Index.ensures))
    c.look_at-second-in-Index.ensures)

pub look_at-returns-in-Member : goal.look_at-returns-in-Member
look_at-returns-in-Member t c =
    let a = c.in-Member in
    let g = c.args.scope.now in
    let n = c.args.before in
    let x = c.deref-in-Member-2.result.now in
    let tree : expr_of c.args.e.now ≡ s.member (expr_of x) a.selector a.place a.member =
    ap expr_of a.is
    ∙ expr_of-Member a.object a.selector a.place a.member
    ∙ ap (λ z. s.member (expr_of z) a.selector a.place a.member) (sym c.deref-in-Member-2.ensures) in
    let stands : c.part_standing-inner.result ≡ part_standing a.selector a.member.name =
    c.part_standing-inner.ensures ∙ ap (part_standing a.selector) c.as_slice-in-Member.ensures.value in
    as_code g n c.args.standing c.args.e.now (s.member (expr_of x) a.selector a.place a.member) _ tree
    (c.member_look.ensures g n c.args.standing
    (same_standing g n c.part_standing-inner.result (part_standing a.selector a.member.name) (expr_of x) _ stands
    (same_code g n c.part_standing-inner.result c.deref-in-Member.result.now x _ (c.deref-in-Member.ensures ∙ sym c.deref-in-Member-2.ensures)
    c.look_at-own-in-Member.ensures)))

pub look_at-returns-in-LibraryCall : goal.look_at-returns-in-LibraryCall
look_at-returns-in-LibraryCall t c =
    let a = c.in-LibraryCall in
    let f = a.function in
    let g = c.args.scope.now in
    let n = c.args.before in
    let m = c.inside_library_call-inside.result in
    let xs = c.deref-in-LibraryCall-4.result.now in
    let back = sym c.deref-in-LibraryCall-4.ensures.value in
    let tree : expr_of c.args.e.now ≡ s.library_call f (exprs_of xs) =
    ap expr_of a.is ∙ expr_of-LibraryCall f a.arguments ∙ ap (λ l. s.library_call f (exprs_of l)) back in
    let is : c.appends-is_site.result ≡ appends f.name (exprs_of xs) =
    c.appends-is_site.ensures
    ∙ ap (λ l. appends l (exprs_of c.deref-in-LibraryCall.result.now)) c.as_slice.ensures.value
    ∙ ap (λ l. appends f.name (exprs_of l)) (c.deref-in-LibraryCall.ensures.value ∙ back) in
    let last : c.last_standing-last.result ≡ last_standing f.name (exprs_of xs) =
    c.last_standing-last.ensures
    ∙ ap (λ l. last_standing l (exprs_of c.deref-in-LibraryCall-2.result.now)) c.as_slice-in-LibraryCall.ensures.value
    ∙ ap (λ l. last_standing f.name (exprs_of l)) (c.deref-in-LibraryCall-2.ensures.value ∙ back) in
    as_code g n c.args.standing c.args.e.now (s.library_call f (exprs_of xs)) _ tree
    (c.library_call_look.ensures g m (counts_alike _ _ (c.inside_library_call-inside.ensures g f (exprs_of xs) is))
    (same_last g m c.last_standing-last.result (last_standing f.name (exprs_of xs)) (exprs_of xs) _ last
    (same_row g m c.last_standing-last.result c.deref-in-LibraryCall-3.result.now xs _ (c.deref-in-LibraryCall-3.ensures.value ∙ back)
    c.look_at_all-looks-in-LibraryCall.ensures))
    (c.order_matters.ensures ∙ ap (order_matters g) tree))

pub look_at-returns-in-MemberCall : goal.look_at-returns-in-MemberCall
look_at-returns-in-MemberCall t c =
    let a = c.in-MemberCall in
    let f = a.function in
    let g = c.args.scope.now in
    let n = c.args.before in
    let m = c.inside_member_call-inside.result in
    let x = c.deref-in-MemberCall-5.result.now in
    let xs = c.deref-in-MemberCall-6.result.now in
    let here = sym c.deref-in-MemberCall-5.ensures in
    let back = sym c.deref-in-MemberCall-6.ensures.value in
    let tree : expr_of c.args.e.now ≡ s.member_call (expr_of x) f (exprs_of xs) =
    ap expr_of a.is
    ∙ expr_of-MemberCall a.object f a.arguments
    ∙ ap (λ z. s.member_call (expr_of z) f (exprs_of a.arguments.items)) here
    ∙ ap (λ l. s.member_call (expr_of x) f (exprs_of l)) back in
    let first = c.deref-in-MemberCall.result.now in
    let found = c.look_at-own-in-MemberCall.result in
    let own : IsLook g n standing.Plain (expr_of x) found =
    same_code g n standing.Plain first x found (c.deref-in-MemberCall.ensures ∙ here) c.look_at-own-in-MemberCall.ensures in
    let called : IsLook g n standing.Plain (expr_of c.deref-in-MemberCall-2.result.now) found =
    same_code g n standing.Plain first c.deref-in-MemberCall-2.result.now found (c.deref-in-MemberCall.ensures ∙ sym c.deref-in-MemberCall-2.ensures)
    c.look_at-own-in-MemberCall.ensures in
    let is : c.is_call_site-is_site.result ≡ is_site g (s.member_call (expr_of x) f (exprs_of xs)) =
    c.is_call_site-is_site.ensures g (sym called.expr_type)
    ∙ ap (λ z. is_site g (s.member_call (expr_of z) f (exprs_of c.deref-in-MemberCall-3.result.now))) (c.deref-in-MemberCall-2.ensures ∙ here)
    ∙ ap (λ l. is_site g (s.member_call (expr_of x) f (exprs_of l))) (c.deref-in-MemberCall-3.ensures.value ∙ back) in
    as_code g n c.args.standing c.args.e.now (s.member_call (expr_of x) f (exprs_of xs)) _ tree
    (c.member_call_look.ensures m own (counts_alike _ _ (c.inside_member_call-inside.ensures g (expr_of x) f (exprs_of xs) own is))
    (same_row g m standing.Plain c.deref-in-MemberCall-4.result.now xs _ (c.deref-in-MemberCall-4.ensures.value ∙ back)
    c.look_at_all-looks-in-MemberCall.ensures)
    (c.order_matters.ensures ∙ ap (order_matters g) tree))

pub look_at_all-loop-i-init : goal.look_at_all-loop-i-init
look_at_all-loop-i-init t c = looks_init c.args.scope.now c.args.before c.args.last c.args.xs.now c.empty-types.result c.empty-types.ensures

pub look_at_all-loop-i-preserved : goal.look_at_all-loop-i-preserved
look_at_all-loop-i-preserved t c =
    looks_turn c.args.scope.now c.args.before c.capped_sum.result c.args.last c.standing_before-standing.result c.args.xs.now c.loop-i.i c.index-xs-i.result
    c.look_at-look.result c.loop-i.fault c.or-fault.result c.loop-i.types c.pushed-types.result c.loop-i.sites c.capped_sum-sites.result (omega arith)
    c.index-xs-i.is c.loop-i.invariant c.capped_sum.ensures c.standing_before-standing.ensures c.look_at-look.ensures c.or-fault.ensures
    c.pushed-types.ensures c.capped_sum-sites.ensures

pub look_at_all-returns : goal.look_at_all-returns
look_at_all-returns t c =
    looks_end c.args.scope.now c.args.before c.args.last c.args.xs.now c.loop-i.i c.loop-i.fault c.loop-i.types c.loop-i.sites (omega arith)
    c.loop-i.invariant
