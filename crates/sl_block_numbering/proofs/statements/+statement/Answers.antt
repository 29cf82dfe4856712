use Rattle.std.proofs.Common.{rules, ◌≡◌, [], ◌∷◌, ◌++◌, ◌∙◌, option_map}
use Rattle.sl_syntax.specs.declared.tree.statement.Stmt.{the_lemmas as stmt_lemmas}
use Rattle.sl_syntax.specs.TreeView.{cond_of, effect_of, first_of, items_of, stmt_of}
use Rattle.sl_syntax.specs.TypedView.{stmts_of}
use Rattle.sl_syntax.proofs.TreeViews.{stmt_of-Block as block_tree-is, stmt_of-If_else}
use Rattle.sl_syntax.proofs.TypedViews.{stmt_of-Block as typed_block}
use Rattle.sl_number_limits.proofs.ContextLaws.{enter_fits}
use Rattle.sl_number_limits.proofs.PartFaults.{block_items, block_brace, else_body, while_body, for_body, range_body}
use Rattle.sl_number_limits.proofs.StatementParts.{in_while_fits, in_for_fits, in_range_fits}
use Rattle.sl_number_limits.proofs.Statements.{in_else, at_brace_fits}
use Rattle.sl_statement_numbering.proofs.WalkLaws.{Left-init, Left-kept, Left-turn, Left-known, Left-typed}
use Rattle.sl_block_numbering.proofs.ChoiceLaws.{begun_fits, condition_kept, branch_fits, branch_kept}
use Rattle.sl_block_numbering.proofs.ItemWalk.{item_walk, stmts_seen}
use Rattle.sl_block_numbering.proofs.StatementLaws.{while_behind, for_behind, range_behind, block_behind, block_typed}
use Rattle.sl_block_numbering.proofs.statements.+statement.Goals as goal

pub items-loop-x-init : goal.items-loop-x-init
items-loop-x-init t c = Left-init item_walk _ _ _ c.new-typed.ensures.items c.requires.fits c.requires.kept

pub items-item-requires : goal.items-item-requires
items-item-requires t c =
    (search (rules, stmt_lemmas, c.x-item.is, c.loop-x-test.true, c.decreases), (c.loop-x.invariant.fits, Left-kept item_walk _ _ _ _ _ c.x-item.result c.loop-x-test.true c.x-item.is c.loop-x.invariant))

pub items-loop-x-preserved : goal.items-loop-x-preserved
items-loop-x-preserved t c =
    let pushed : c.push.new.self.items ≡ c.loop-x.typed.items ++ c.in_ok-item.item ∷ [] = c.in_ok-push.ensures.items in
    rw pushed
    (Left-turn item_walk _ _ _ _ _ _ c.x-item.result c.in_ok-item.item c.loop-x-test.true c.x-item.is c.loop-x.invariant
    c.in_ok-item.ensures.typed c.in_ok-item.ensures.behind)

pub items-returns-clause-typed : goal.items-returns-clause-typed
items-returns-clause-typed t c = stmts_seen c.loop-x.typed.items ∙ Left-typed item_walk _ _ _ _ _ c.loop-x-test.false c.loop-x.invariant

pub items-returns-clause-behind : goal.items-returns-clause-behind
items-returns-clause-behind t c = Left-known item_walk _ _ _ _ _ c.loop-x-test.false c.loop-x.invariant

pub for_loop-statement-requires : goal.for_loop-statement-requires
for_loop-statement-requires t c =
    let x = option_map first_of c.args.first.now in
    let k = option_map cond_of c.args.cond.now in
    let w = option_map effect_of c.args.step.now in
    let a = stmt_of c.args.body.now in (
      search rules,
      (
        rw c.in_ok-head.ensures.inside (in_for_fits c.args.known.now c.args.place x k w a c.requires.fits c.requires.kept),
        rw c.in_ok-head.ensures.inside (for_body c.args.known.now c.args.place x k w a c.requires.kept),
      ),
    )

pub for_loop-returns-clause-behind : goal.for_loop-returns-clause-behind
for_loop-returns-clause-behind t c =
    for_behind c.args.known.now c.for_head.new.known c.statement.new.known c.leave.new.self _ c.args.place (option_map first_of c.args.first.now)
    (option_map cond_of c.args.cond.now) (option_map effect_of c.args.step.now) (stmt_of c.args.body.now)
    c.in_ok-head.ensures.inside c.in_ok-body.ensures.behind c.in_ok-head.ensures.outside c.leave.ensures

pub range_loop-statement-requires : goal.range_loop-statement-requires
range_loop-statement-requires t c =
    let a = stmt_of c.args.body.now in (
      search rules,
      (
        rw c.in_ok-head.ensures.inside
            (in_range_fits c.args.known.now c.args.place c.args.element c.args.name.now c.args.over.now a c.requires.fits c.requires.kept),
        rw c.in_ok-head.ensures.inside
            (range_body c.args.known.now c.args.place c.args.element c.args.name.now c.args.over.now a c.requires.kept),
      ),
    )

pub range_loop-returns-clause-behind : goal.range_loop-returns-clause-behind
range_loop-returns-clause-behind t c =
    range_behind c.args.known.now c.range_head.new.known c.statement.new.known c.leave.new.self _ c.args.place c.args.element c.args.name.now
    c.args.over.now (stmt_of c.args.body.now) c.in_ok-head.ensures.inside c.in_ok-body.ensures.behind c.in_ok-head.ensures.outside
    c.leave.ensures

pub while_loop-statement-requires : goal.while_loop-statement-requires
while_loop-statement-requires t c =
    let k = cond_of c.args.cond.now in
    let a = stmt_of c.args.body.now in (
      search rules,
      (
        rw c.in_ok-head.ensures.inside (in_while_fits c.args.known.now c.args.place k a c.requires.fits c.requires.kept),
        rw c.in_ok-head.ensures.inside (while_body c.args.known.now c.args.place k a c.requires.kept),
      ),
    )

pub while_loop-returns-clause-behind : goal.while_loop-returns-clause-behind
while_loop-returns-clause-behind t c =
    while_behind c.args.known.now c.while_head.new.known c.statement.new.known c.leave_loop.new.self _ c.args.place (cond_of c.args.cond.now)
    (stmt_of c.args.body.now) c.in_ok-head.ensures.inside c.in_ok-head.ensures.in_loop c.in_ok-body.ensures.behind c.leave_loop.ensures

pub inner_block-items-requires : goal.inner_block-items-requires
inner_block-items-requires t c =
    let xs = items_of c.args.xs.now in (
      search rules,
      (
        rw c.in_ok-outside.ensures.entered (enter_fits c.args.known.now c.requires.fits),
        rw c.in_ok-outside.ensures.entered (block_items c.args.known.now c.args.place xs c.args.close c.requires.kept),
      ),
    )

pub inner_block-closing_brace-requires-clause-fits : goal.inner_block-closing_brace-requires-clause-fits
inner_block-closing_brace-requires-clause-fits t c =
    rw (c.in_ok-stmts.ensures.behind, c.in_ok-outside.ensures.entered)
    (at_brace_fits c.args.known.now c.args.place (items_of c.args.xs.now) c.args.close c.requires.fits c.requires.kept)

pub inner_block-closing_brace-requires-clause-kept : goal.inner_block-closing_brace-requires-clause-kept
inner_block-closing_brace-requires-clause-kept t c =
    rw (c.in_ok-stmts.ensures.behind, c.in_ok-outside.ensures.entered)
    (block_brace c.args.known.now c.args.place (items_of c.args.xs.now) c.args.close c.requires.kept)

pub inner_block-returns-clause-typed : goal.inner_block-returns-clause-typed
inner_block-returns-clause-typed t c =
    typed_block (record { site = c.in_ok-site.site; stmts = c.in_ok-stmts.stmts })
    ∙ block_typed c.args.known.now c.enter.new.self c.items.new.known c.args.place (items_of c.args.xs.now) c.args.close c.in_ok-site.site
    (stmts_of c.in_ok-stmts.stmts.items) c.in_ok-outside.ensures.entered c.in_ok-stmts.ensures.behind c.in_ok-site.ensures.site
    c.in_ok-stmts.ensures.typed

pub inner_block-returns-clause-behind : goal.inner_block-returns-clause-behind
inner_block-returns-clause-behind t c =
    block_behind c.args.known.now c.enter.new.self c.items.new.known c.closing_brace.new.known c.leave.new.self _ c.args.place
    (items_of c.args.xs.now) c.args.close c.in_ok-outside.ensures.entered c.in_ok-outside.ensures.outside c.in_ok-stmts.ensures.behind
    c.in_ok-site.ensures.behind c.leave.ensures

pub statement-inner_block-requires : goal.statement-inner_block-requires
statement-inner_block-requires t c =
    (search (rules, stmt_lemmas, c.in-Block.is, c.deref.ensures, c.decreases), (c.requires.fits, rw c.deref.ensures.value (rw (c.in-Block.is, block_tree-is c.in-Block.x) at c.requires.kept)))

pub statement-choice_condition-requires-clause-fits : goal.statement-choice_condition-requires-clause-fits
statement-choice_condition-requires-clause-fits t c =
    begun_fits c.args.known.now c.in-If.place c.in-If.cond c.in-If.then c.in-If.otherwise c.requires.fits (rw c.in-If.is at c.requires.kept)

pub statement-choice_condition-requires-clause-kept : goal.statement-choice_condition-requires-clause-kept
statement-choice_condition-requires-clause-kept t c =
    condition_kept c.args.known.now c.in-If.place c.in-If.cond c.in-If.then c.in-If.otherwise (rw c.in-If.is at c.requires.kept)

pub statement-statement-requires : goal.statement-statement-requires
statement-statement-requires t c = (
  search (rules, stmt_lemmas, c.in-If.is, c.deref-in-If.ensures, c.decreases),
  (
    rw c.in_ok-cond-in-If.ensures.behind
        (branch_fits c.args.known.now c.in-If.place c.in-If.cond c.in-If.then c.in-If.otherwise c.requires.fits (rw c.in-If.is at c.requires.kept)),
    rw (c.in_ok-cond-in-If.ensures.behind, c.deref-in-If.ensures)
        (branch_kept c.args.known.now c.in-If.place c.in-If.cond c.in-If.then c.in-If.otherwise (rw c.in-If.is at c.requires.kept)),
  ),
)

pub statement-statement-requires-in-Some : goal.statement-statement-requires-in-Some
statement-statement-requires-in-Some t c =
    let g = c.args.known.now in
    let a = c.in-If in
    let b = c.in-Some.otherwise in
    let kept = rw (a.is, c.in-Some.is, stmt_of-If_else a.place a.cond a.then b) at c.requires.kept in (
      search (rules, stmt_lemmas, a.is, c.in-Some.is, c.deref-in-Some.ensures, c.decreases),
      (
        rw (c.in_ok-then-in-If.ensures.behind, c.in_ok-cond-in-If.ensures.behind, c.deref-in-If.ensures)
            (in_else g a.place (cond_of a.cond) (stmt_of a.then.value) (stmt_of b.value) c.requires.fits kept),
        rw (c.in_ok-then-in-If.ensures.behind, c.in_ok-cond-in-If.ensures.behind, c.deref-in-If.ensures, c.deref-in-Some.ensures)
            (else_body g a.place (cond_of a.cond) (stmt_of a.then.value) (stmt_of b.value) kept),
      ),
    )
