use Rattle.std.proofs.Common.{◌≡◌, [], ◌++◌, append-nil, append_assoc, sym, refl, arith}
use Rattle.std.proofs.lemmas.Result.{IfOk-equal}
use Rattle.sl_syntax.specs.TreeView.{expr_of, exprs_of}
use Rattle.sl_typing.specs.Literals.{literals, literals_of_all}
use Rattle.sl_constants.proofs.ExprLiterals.{literals_in, each_expr, literals-Name, literals-Call, literals-LibraryCall, literals-Binary, literals-Index, literals-MemberCall}
use Rattle.sl_constants.proofs.Walks.{none_left}
use Rattle.sl_constants.proofs.literals.expr.+expression.Goals as goal

pub push_expr-returns-in-Name : goal.push_expr-returns-in-Name
push_expr-returns-in-Name t c =
    let e : literals (expr_of c.args.x.now) ≡ [] = rw c.in-Name.is (literals-Name _) in
    rw e (sym (append-nil c.args.out.now))

pub push_expr-returns-in-Call : goal.push_expr-returns-in-Call
push_expr-returns-in-Call t c =
    let v = c.in-Call.arguments in
    let e : literals (expr_of c.args.x.now) ≡ literals_of_all (exprs_of v.items) = rw c.in-Call.is (literals-Call _ v) in
    rw e (IfOk-equal c.push_all.result _ _ _ c.push_all.ensures (rw c.deref.ensures.value refl))

pub push_expr-returns-in-LibraryCall : goal.push_expr-returns-in-LibraryCall
push_expr-returns-in-LibraryCall t c =
    let v = c.in-LibraryCall.arguments in
    let e : literals (expr_of c.args.x.now) ≡ literals_of_all (exprs_of v.items) = rw c.in-LibraryCall.is (literals-LibraryCall _ v) in
    rw e (IfOk-equal c.push_all-in-LibraryCall.result _ _ _ c.push_all-in-LibraryCall.ensures (rw c.deref-in-LibraryCall.ensures.value refl))

pub push_expr-returns-in_ok-push_expr-in-Binary : goal.push_expr-returns-in_ok-push_expr-in-Binary
push_expr-returns-in_ok-push_expr-in-Binary t c =
    let x = c.in-Binary.left in
    let y = c.in-Binary.right in
    let e : literals (expr_of c.args.x.now) ≡ literals_in x.value ++ literals_in y.value = rw c.in-Binary.is (literals-Binary x _ _ y) in
    let first = c.in_ok-push_expr-in-Binary.ensures in
    rw e
    (IfOk-equal c.push_expr-in-Binary-2.result _ _ _ c.push_expr-in-Binary-2.ensures
    (rw (first, c.deref-in-Binary.ensures, c.deref-in-Binary-2.ensures) (simp append_assoc)))

pub push_expr-returns-in_ok-push_expr-in-Index : goal.push_expr-returns-in_ok-push_expr-in-Index
push_expr-returns-in_ok-push_expr-in-Index t c =
    let x = c.in-Index.object in
    let y = c.in-Index.index in
    let e : literals (expr_of c.args.x.now) ≡ literals_in x.value ++ literals_in y.value = rw c.in-Index.is (literals-Index x _ y) in
    let first = c.in_ok-push_expr-in-Index.ensures in
    rw e
    (IfOk-equal c.push_expr-in-Index-2.result _ _ _ c.push_expr-in-Index-2.ensures
    (rw (first, c.deref-in-Index.ensures, c.deref-in-Index-2.ensures) (simp append_assoc)))

pub push_expr-returns-in_ok-push_expr-in-MemberCall : goal.push_expr-returns-in_ok-push_expr-in-MemberCall
push_expr-returns-in_ok-push_expr-in-MemberCall t c =
    let x = c.in-MemberCall.object in
    let v = c.in-MemberCall.arguments in
    let e : literals (expr_of c.args.x.now) ≡ literals_in x.value ++ literals_of_all (exprs_of v.items) =
    rw c.in-MemberCall.is (literals-MemberCall x _ v) in
    let first = c.in_ok-push_expr-in-MemberCall.ensures in
    rw e
    (IfOk-equal c.push_all-in-MemberCall.result _ _ _ c.push_all-in-MemberCall.ensures
    (rw (first, c.deref-in-MemberCall.ensures, c.deref-in-MemberCall-2.ensures.value) (simp append_assoc)))

pub push_all-returns : goal.push_all-returns
push_all-returns t c =
    let xs = c.args.xs.now in
    rw (each_expr xs) (none_left literals_in xs c.loop-x.x-index c.loop-x.out _ (omega arith) c.loop-x.invariant)
