use Rattle.std.proofs.Common.{ap, ◌∙◌}
use Rattle.sl_slots.proofs.EndingShows.{ended_holds}
use Rattle.sl_slots.proofs.store.Store.end_from.Goals as goal

pub returns-clause-shows : goal.returns-clause-shows
returns-clause-shows c = ended_holds c.args.self.now c.move_all.new.store c.args.first c.args.site (record {
  containers = ap (λ v. v.items) c.move_all.ensures.containers ∙ c.truncate.ensures.items;
  moved = record { pointers = c.move_all.ensures.moved.pointers; operands = c.move_all.ensures.moved.operands };
})
