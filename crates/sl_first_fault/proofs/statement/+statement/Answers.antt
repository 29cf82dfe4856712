use Rattle.std.proofs.Common.{option_map}
use Rattle.std.proofs.lemmas.Result.{err_from_is_err_and}
use Rattle.sl_syntax.specs.TreeView.{cond_of, effect_of, first_of, stmt_of, items_of}
use Rattle.sl_syntax.proofs.TreeViews.{stmt_of-If_else, stmt_of-RangeFor}
use Rattle.sl_first_fault.proofs.LoopLaws.{Left-init, Left-turn, Left-stops, Left-spent}
use Rattle.sl_first_fault.proofs.StatementLaws.{choice_else, choice_else_stops, while, for, range_for, block as block_done}
use Rattle.sl_first_fault.proofs.Walks.{item_walk}
use Rattle.sl_first_fault.proofs.statement.+statement.Goals as goal

pub items-loop-x-init : goal.items-loop-x-init
items-loop-x-init t c = Left-init item_walk _ _

pub items-loop-x-preserved : goal.items-loop-x-preserved
items-loop-x-preserved t c =
    Left-turn item_walk _ _ _ _ _ c.x-item.result c.loop-x-test.true c.x-item.is c.loop-x.invariant c.in_ok-item.ensures

pub items-returns-in_err-item : goal.items-returns-in_err-item
items-returns-in_err-item t c =
    let p = err_from_is_err_and c.from_residual.result c.from_residual.ensures.1 in
    rw (p.1, p.2) (Left-stops item_walk _ _ _ _ c.x-item.result _ c.loop-x-test.true c.x-item.is c.loop-x.invariant c.in_err-item.ensures)

pub items-returns : goal.items-returns
items-returns t c = Left-spent item_walk _ _ _ _ c.loop-x-test.false c.loop-x.invariant

pub while_loop-returns : goal.while_loop-returns
while_loop-returns t c =
    while c.stop_at.result c.while_fault-own.result c.args.known.now c.while_condition.new.known c.looping-in_loop.new.self c.statement.new.known
    c.leave_loop.new.self c.looping-in_loop.result c.args.place (cond_of c.args.cond.now) (stmt_of c.args.body.now) c.in_ok-while_condition.ensures
    c.looping-in_loop.ensures.looping c.looping-in_loop.ensures.before c.in_ok-statement.ensures c.leave_loop.ensures c.while_fault-own.ensures
    c.stop_at.ensures

pub for_loop-returns : goal.for_loop-returns
for_loop-returns t c =
    for c.stop_at.result _ c.args.known.now c.for_head.new.known c.statement.new.known c.leave.new.self _ c.args.place
    (option_map first_of c.args.first.now) (option_map cond_of c.args.cond.now) (option_map effect_of c.args.step.now) (stmt_of c.args.body.now)
    c.in_ok-head.ensures.walk c.in_ok-statement.ensures c.in_ok-head.ensures.outside c.leave.ensures c.in_ok-head.ensures.own c.stop_at.ensures

pub range_loop-returns : goal.range_loop-returns
range_loop-returns t c =
    range_for c.stop_at.result _ c.args.known.now c.range_head.new.known c.statement.new.known c.leave.new.self _ c.args.place c.args.element
    c.args.name.now c.args.over.now (stmt_of c.args.body.now) c.in_ok-head.ensures.walk c.in_ok-statement.ensures c.in_ok-head.ensures.outside
    c.leave.ensures c.in_ok-head.ensures.own c.stop_at.ensures

pub block-returns : goal.block-returns
block-returns t c =
    block_done c.args.known.now c.enter.new.self c.items.new.known c.brace.new.known c.leave.new.self _ c.args.x.now.place
    (items_of c.args.x.now.items.items) c.args.x.now.close c.in_ok-outside.ensures.entered c.in_ok-outside.ensures.outside
    (rw c.deref.ensures.value at c.in_ok-items.ensures) (rw c.deref-2.ensures.value at c.in_ok-brace.ensures) c.leave.ensures

pub statement-returns-in_err-statement-in-Some : goal.statement-returns-in_err-statement-in-Some
statement-returns-in_err-statement-in-Some t c =
    let r = c.from_residual-in_err-statement-in-Some in
    let p = err_from_is_err_and r.result r.ensures.1 in
    rw (p.1, p.2)
    (rw (c.in-If.is, c.in-Some.is, stmt_of-If_else c.in-If.place c.in-If.cond c.in-If.then c.in-Some.otherwise)
    (choice_else_stops _ c.args.known.now c.choice_condition.new.known c.statement.new.known c.in-If.place (cond_of c.in-If.cond)
    (stmt_of c.in-If.then.value) (stmt_of c.in-Some.otherwise.value) c.in_ok-choice_condition-in-If.ensures
    (rw c.deref.ensures at c.in_ok-statement-in-If.ensures) (rw c.deref-in-Some.ensures at c.in_err-statement-in-Some.ensures)))

pub statement-returns-in_ok-statement-in-Some : goal.statement-returns-in_ok-statement-in-Some
statement-returns-in_ok-statement-in-Some t c =
    rw (c.in-If.is, c.in-Some.is, stmt_of-If_else c.in-If.place c.in-If.cond c.in-If.then c.in-Some.otherwise)
    (choice_else c.stop_at-in-Some.result c.choice_fault-own.result c.args.known.now c.choice_condition.new.known c.statement.new.known
    c.statement-in-Some.new.known c.in-If.place (cond_of c.in-If.cond) (stmt_of c.in-If.then.value) (stmt_of c.in-Some.otherwise.value)
    c.in_ok-choice_condition-in-If.ensures (rw c.deref.ensures at c.in_ok-statement-in-If.ensures)
    (rw c.deref-in-Some.ensures at c.in_ok-statement-in-Some.ensures) c.choice_fault-own.ensures c.stop_at-in-Some.ensures)

pub statement-returns-in-RangeFor : goal.statement-returns-in-RangeFor
statement-returns-in-RangeFor t c =
    rw (c.in-RangeFor.is, stmt_of-RangeFor c.in-RangeFor.place c.in-RangeFor.element c.in-RangeFor.name c.in-RangeFor.container c.in-RangeFor.body)
    (rw c.deref-in-RangeFor.ensures at c.range_loop.ensures)
