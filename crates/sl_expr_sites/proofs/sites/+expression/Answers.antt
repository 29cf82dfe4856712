use Rattle.std.proofs.Common.{◌≡◌, OnOk, sym, ◌∙◌, refl, ap, drop}
use Rattle.std.proofs.Common.{List}
use Rattle.std.proofs.lemmas.List.{at_drop_all}
use Rattle.sl_syntax.specs.declared.tree.expr.Expr.{Expr as ExprCode}
use Rattle.sl_syntax.specs.TreeView.{expr_of, exprs_of}
use Rattle.sl_typing.specs.Sites.{own_site, behind, behind_all}
use Rattle.sl_expr_sites.proofs.SiteLaws.{passed, behind-Number, behind-Truth, behind-Name, behind-Call, behind-LibraryCall, behind-Parentheses}
use Rattle.sl_expr_sites.proofs.SiteLaws.{behind-Prefix, behind-Binary, behind-Postfix, behind-Index, behind-MemberCall, behind-Member}
use Rattle.sl_expr_sites.proofs.SiteLaws.{behind_all-nil, behind_all-turn}
use Rattle.sl_expr_sites.proofs.sites.+expression.Goals as goal

pub pass-returns-in-Number : goal.pass-returns-in-Number
pass-returns-in-Number t c = rw c.in-Number.is (sym (behind-Number _ _ _))

pub pass-returns-in-Truth : goal.pass-returns-in-Truth
pass-returns-in-Truth t c = rw c.in-Truth.is (sym (behind-Truth _ _ _))

pub pass-returns-in-Name : goal.pass-returns-in-Name
pass-returns-in-Name t c = rw c.in-Name.is (sym (behind-Name _ _))

pub pass-returns-in-Call : goal.pass-returns-in-Call
pass-returns-in-Call t c = passed _ _ _ _ c.pass_all.ensures (rw (c.in-Call.is, c.deref.ensures.value) (behind-Call _ _ c.in-Call.arguments))

pub pass-returns-in_ok-pass_own-in-LibraryCall : goal.pass-returns-in_ok-pass_own-in-LibraryCall
pass-returns-in_ok-pass_own-in-LibraryCall t c =
    passed _ _ _ _ c.pass_all-in-LibraryCall.ensures
    (rw (c.in-LibraryCall.is, c.in_ok-pass_own-in-LibraryCall.ensures, c.deref-in-LibraryCall.ensures.value)
    (rw c.in-LibraryCall.is (behind-LibraryCall _ _ c.in-LibraryCall.arguments)))

pub pass-returns-in-Parentheses : goal.pass-returns-in-Parentheses
pass-returns-in-Parentheses t c =
    passed _ _ _ _ c.pass.ensures (rw (c.in-Parentheses.is, c.deref-in-Parentheses.ensures) (behind-Parentheses _ _ c.in-Parentheses.inner))

pub pass-returns-in-Prefix : goal.pass-returns-in-Prefix
pass-returns-in-Prefix t c =
    passed _ _ _ _ c.pass-in-Prefix.ensures (rw (c.in-Prefix.is, c.deref-in-Prefix.ensures) (behind-Prefix _ _ _ c.in-Prefix.operand))

pub pass-returns-in_ok-pass-in-Binary : goal.pass-returns-in_ok-pass-in-Binary
pass-returns-in_ok-pass-in-Binary t c =
    passed _ _ _ _ c.pass-in-Binary-2.ensures
    (rw (c.in-Binary.is, c.in_ok-pass-in-Binary.ensures, c.deref-in-Binary.ensures, c.deref-in-Binary-2.ensures)
    (behind-Binary _ c.in-Binary.left _ _ c.in-Binary.right))

pub pass-returns-in-Postfix : goal.pass-returns-in-Postfix
pass-returns-in-Postfix t c =
    passed _ _ _ _ c.pass-in-Postfix.ensures (rw (c.in-Postfix.is, c.deref-in-Postfix.ensures) (behind-Postfix _ c.in-Postfix.operand _ _))

pub pass-returns-in_ok-pass_own-in-Index : goal.pass-returns-in_ok-pass_own-in-Index
pass-returns-in_ok-pass_own-in-Index t c =
    passed _ _ _ _ c.pass-in-Index-2.ensures
    (rw (c.in-Index.is, c.in_ok-pass_own-in-Index.ensures, c.in_ok-pass-in-Index.ensures, c.deref-in-Index.ensures, c.deref-in-Index-2.ensures)
    (rw c.in-Index.is (behind-Index _ c.in-Index.object _ c.in-Index.index)))

pub pass-returns-in_ok-pass_own-in-MemberCall : goal.pass-returns-in_ok-pass_own-in-MemberCall
pass-returns-in_ok-pass_own-in-MemberCall t c =
    passed _ _ _ _ c.pass_all-in-MemberCall.ensures
    (rw (
      c.in-MemberCall.is,
      c.in_ok-pass_own-in-MemberCall.ensures,
      c.in_ok-pass-in-MemberCall.ensures,
      c.deref-in-MemberCall.ensures,
      c.deref-in-MemberCall-2.ensures.value,
    )
    (rw c.in-MemberCall.is (behind-MemberCall _ c.in-MemberCall.object _ c.in-MemberCall.arguments)))

pub pass-returns-in-Member : goal.pass-returns-in-Member
pass-returns-in-Member t c =
    passed _ _ _ _ c.pass-in-Member.ensures (rw (c.in-Member.is, c.deref-in-Member.ensures) (behind-Member _ c.in-Member.object _ _ _))

pub pass_all-loop-x-preserved : goal.pass_all-loop-x-preserved
pass_all-loop-x-preserved t c =
    behind_all-turn _ _ _ c.x-item.result _ _ c.loop-x-test.true c.x-item.is c.loop-x.invariant c.in_ok-pass.ensures

pub pass_all-returns : goal.pass_all-returns
pass_all-returns t c =
    let h = c.loop-x.known in
    sym (behind_all-nil h)
    ∙ sym (at_drop_all (λ (l : List ExprCode). behind_all h (exprs_of l)) c.args.xs.now c.loop-x.x-index c.loop-x-test.false)
    ∙ c.loop-x.invariant
