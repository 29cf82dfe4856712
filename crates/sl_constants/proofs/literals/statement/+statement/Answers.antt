use Rattle.std.proofs.Common.{◌≡◌, [], ◌++◌, option_map, append-nil, append_assoc, sym, refl, arith}
use Rattle.std.proofs.lemmas.Result.{IfOk-equal}
use Rattle.sl_syntax.specs.TreeView.{expr_of, cond_of, first_of, effect_of, stmt_of, items_of}
use Rattle.sl_typing.specs.Literals.{literals_of_value, literals_of_effect, literals_of_cond, literals_of_first, literals_of_test, literals_of_last}
use Rattle.sl_typing.specs.Literals.{literals_of_stmt, literals_of_items}
use Rattle.sl_constants.proofs.StatementLiterals.{literals_in, item_literals, each_item, literals-Block, literals-If, literals-If_else, literals-While}
use Rattle.sl_constants.proofs.StatementLiterals.{literals-For, literals-RangeFor, literals-Break, literals-Continue, literals-Return, literals-Effect}
use Rattle.sl_constants.proofs.Walks.{none_left}
use Rattle.sl_constants.proofs.literals.statement.+statement.Goals as goal

pub push_stmt-returns-in-Block : goal.push_stmt-returns-in-Block
push_stmt-returns-in-Block t c =
    let b = c.in-Block.block in
    let e : literals_of_stmt (stmt_of c.args.x.now) ≡ literals_of_items (items_of b.items.items) = rw c.in-Block.is (literals-Block b) in
    rw e (IfOk-equal c.push_items.result _ _ _ c.push_items.ensures (rw c.deref.ensures.value refl))

pub push_stmt-returns-in-Some : goal.push_stmt-returns-in-Some
push_stmt-returns-in-Some t c =
    let k = c.in-If.cond in
    let a = c.in-If.then in
    let b = c.in-Some.otherwise in
    let e : literals_of_stmt (stmt_of c.args.x.now) ≡ literals_of_cond (cond_of k) ++ (literals_in a.value ++ literals_in b.value) =
    rw (c.in-If.is, c.in-Some.is) (literals-If_else _ k a b) in
    let first = c.in_ok-push_cond-in-If.ensures in
    let second = c.in_ok-push_stmt-in-If.ensures in
    rw e
    (IfOk-equal c.push_stmt-in-Some.result _ _ _ c.push_stmt-in-Some.ensures
    (rw (second, first, c.deref-in-If.ensures, c.deref-in-Some.ensures) (simp append_assoc)))

pub push_stmt-returns-in-None : goal.push_stmt-returns-in-None
push_stmt-returns-in-None t c =
    let k = c.in-If.cond in
    let a = c.in-If.then in
    let e : literals_of_stmt (stmt_of c.args.x.now) ≡ literals_of_cond (cond_of k) ++ literals_in a.value = rw (c.in-If.is, c.in-None.is) (literals-If _ k a) in
    let first = c.in_ok-push_cond-in-If.ensures in
    let second = c.in_ok-push_stmt-in-If.ensures in
    rw e (rw (second, first, c.deref-in-If.ensures) (simp append_assoc))

pub push_stmt-returns-in_ok-push_cond-in-While : goal.push_stmt-returns-in_ok-push_cond-in-While
push_stmt-returns-in_ok-push_cond-in-While t c =
    let k = c.in-While.cond in
    let a = c.in-While.body in
    let e : literals_of_stmt (stmt_of c.args.x.now) ≡ literals_of_cond (cond_of k) ++ literals_in a.value = rw c.in-While.is (literals-While _ k a) in
    let first = c.in_ok-push_cond-in-While.ensures in
    rw e (IfOk-equal c.push_stmt-in-While.result _ _ _ c.push_stmt-in-While.ensures (rw (first, c.deref-in-While.ensures) (simp append_assoc)))

pub push_stmt-returns-in_ok-push_last-in-For : goal.push_stmt-returns-in_ok-push_last-in-For
push_stmt-returns-in_ok-push_last-in-For t c =
    let x = c.in-For.first in
    let y = c.in-For.cond in
    let z = c.in-For.step in
    let a = c.in-For.body in
    let e : literals_of_stmt (stmt_of c.args.x.now) ≡ literals_of_first (option_map first_of x)
    ++ (literals_of_test (option_map cond_of y) ++ (literals_of_last (option_map effect_of z) ++ literals_in a.value)) =
    rw c.in-For.is (literals-For _ x y z a) in
    let first = c.in_ok-push_first-in-For.ensures in
    let test = c.in_ok-push_test-in-For.ensures in
    let last = c.in_ok-push_last-in-For.ensures in
    rw e (IfOk-equal c.push_stmt-in-For.result _ _ _ c.push_stmt-in-For.ensures (rw (last, test, first, c.deref-in-For.ensures) (simp append_assoc)))

pub push_stmt-returns-in-RangeFor : goal.push_stmt-returns-in-RangeFor
push_stmt-returns-in-RangeFor t c =
    let a = c.in-RangeFor.body in
    let e : literals_of_stmt (stmt_of c.args.x.now) ≡ literals_in a.value = rw c.in-RangeFor.is (literals-RangeFor _ _ _ _ a) in
    rw e (IfOk-equal c.push_stmt-in-RangeFor.result _ _ _ c.push_stmt-in-RangeFor.ensures (rw c.deref-in-RangeFor.ensures refl))

pub push_stmt-returns-in-Break : goal.push_stmt-returns-in-Break
push_stmt-returns-in-Break t c =
    let e : literals_of_stmt (stmt_of c.args.x.now) ≡ [] = rw c.in-Break.is (literals-Break _) in
    rw e (sym (append-nil c.args.out.now))

pub push_stmt-returns-in-Continue : goal.push_stmt-returns-in-Continue
push_stmt-returns-in-Continue t c =
    let e : literals_of_stmt (stmt_of c.args.x.now) ≡ [] = rw c.in-Continue.is (literals-Continue _) in
    rw e (sym (append-nil c.args.out.now))

pub push_stmt-returns-in-Return : goal.push_stmt-returns-in-Return
push_stmt-returns-in-Return t c =
    let v = c.in-Return.value in
    let e : literals_of_stmt (stmt_of c.args.x.now) ≡ literals_of_value (option_map expr_of v) = rw c.in-Return.is (literals-Return _ v) in
    rw e c.push_value.ensures

pub push_stmt-returns-in-Effect : goal.push_stmt-returns-in-Effect
push_stmt-returns-in-Effect t c =
    let w = c.in-Effect.effect in
    let e : literals_of_stmt (stmt_of c.args.x.now) ≡ literals_of_effect (effect_of w) = rw c.in-Effect.is (literals-Effect _ w) in
    rw e c.push_effect.ensures

pub push_items-returns : goal.push_items-returns
push_items-returns t c =
    let xs = c.args.xs.now in
    rw (each_item xs) (none_left item_literals xs c.loop-x.x-index c.loop-x.out _ (omega arith) c.loop-x.invariant)
