use Rattle.std.proofs.Common.{sym, ap, ◌∙◌}
use Rattle.sl_model.specs.LibraryCalls.Needs.{first_failure}
use Rattle.sl_specs.specs.Entries.{entry_row}
use Rattle.sl_needs.proofs.NeedLaws.{one_need, all_told, needs_of}
use Rattle.sl_needs.proofs.row.row_failure.Goals as goal

pub loop-need-preserved : goal.loop-need-preserved
loop-need-preserved c = λ s h. one_need (entry_row c.args.entry.now) c.args.entry.now.needs.now s c.loop-need.need-index _ _
    c.loop-need.failure c.need_failure.result c.earlier-failure.result c.loop-need-test.true (c.need_failure.ensures s h)
    c.earlier-failure.ensures (c.loop-need.invariant s h)

pub returns : goal.returns
returns c = λ s appends h. all_told (entry_row c.args.entry.now) c.args.entry.now.needs.now s c.loop-need.need-index _ c.loop-need.failure
    c.loop-need-test.false (c.loop-need.invariant s h) ∙ ap first_failure (sym (needs_of appends (entry_row c.args.entry.now) s))
