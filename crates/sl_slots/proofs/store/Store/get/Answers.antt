use Rattle.sl_slots.proofs.ReadingShows.{read_there, element_there, element_shown}
use Rattle.sl_slots.proofs.store.Store.get.Goals as goal

pub returns-clause-value : goal.returns-clause-value
returns-clause-value c = element_there c.args.self.now c.args.container c.args.place c.index.result.now c.index-2.result.now
    (read_there c.args.self.now.containers.items c.args.container c.index.result.now c.requires.there c.index.ensures)
    c.requires.inside c.index-2.ensures

pub returns-clause-shows : goal.returns-clause-shows
returns-clause-shows c = λ m ps vs which h.
    let there = read_there c.args.self.now.containers.items c.args.container c.index.result.now c.requires.there c.index.ensures in
    element_shown c.args.self.now m ps vs h c.args.container c.args.place c.index.result.now c.index-2.result.now which there
    (element_there c.args.self.now c.args.container c.args.place c.index.result.now c.index-2.result.now there
    c.requires.inside c.index-2.ensures)
