use Rattle.std.proofs.Common.{◌∙◌}
use Rattle.sl_slots.proofs.ReadingShows.{read_there, size_shown}
use Rattle.sl_slots.proofs.store.Store.size.Goals as goal

pub returns-clause-shows : goal.returns-clause-shows
returns-clause-shows c = λ m ps vs h. c.len.ensures ∙ (c.index.result.now.elements.ok.0 ∙ size_shown c.args.self.now m ps vs h c.args.container c.index.result.now
    (read_there c.args.self.now.containers.items c.args.container c.index.result.now c.requires c.index.ensures))
