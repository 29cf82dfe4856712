use Rattle.std.proofs.Common.{map, refl, ap, ◌∙◌}
use Rattle.sl_model.proofs.Making.{map_last}
use Rattle.sl_slots.specs.Shown.{contents}
use Rattle.sl_slots.proofs.MakingShows.{made_holds}
use Rattle.sl_slots.proofs.store.Store.make.Goals as goal

pub returns-clause-shows : goal.returns-clause-shows
returns-clause-shows c = made_holds c.args.self.now (record {
  containers = c.push.new.self;
  pointers = c.args.self.now.pointers;
  operands = c.args.self.now.operands;
}) c.args.form c.args.room c.args.elements.items (record {
  containers = ap (map contents) (c.in_ok-push.ensures.items) ∙ map_last contents c.args.self.now.containers.items _;
  pointers = refl;
  operands = refl;
})
