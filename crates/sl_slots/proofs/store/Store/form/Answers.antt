use Rattle.sl_slots.proofs.ReadingShows.{read_there, form_shown}
use Rattle.sl_slots.proofs.store.Store.form.Goals as goal

pub returns-clause-shows : goal.returns-clause-shows
returns-clause-shows c = λ m ps vs h. (form_shown c.args.self.now m ps vs h c.args.container c.index.result.now
    (read_there c.args.self.now.containers.items c.args.container c.index.result.now c.requires c.index.ensures)).0
