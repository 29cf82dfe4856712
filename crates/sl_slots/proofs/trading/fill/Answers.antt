use Rattle.std.proofs.Common.{map, sym, ap, ◌∙◌, length}
use Rattle.std.specs.List.{slice_set}
use Rattle.sl_base.specs.declared.form.Form.{Form}
use Rattle.sl_model.proofs.Getting.{map_set}
use Rattle.sl_slots.specs.Shown.{Plain, contents}
use Rattle.sl_slots.proofs.ReadingShows.{read_there, contents-there}
use Rattle.sl_slots.proofs.trading.fill.Goals as goal

pub returns-clause-containers : goal.returns-clause-containers
returns-clause-containers c =
    let old = c.args.store.now in
    let j = c.args.side.now.container in
    let there = read_there old.containers.items j c.index_mut.result.now c.requires c.index_mut.ensures.value in
    map_set contents old.containers.items j c.refill.new.container
    ∙ ap (slice_set (map contents old.containers.items) j)
    (c.refill.ensures
    ∙ ap (λ (f : Form). record { form = f; elements = c.args.elements.items; room = c.args.side.now.room })
    (ap (λ (x : Plain). x.form) (sym (contents-there old j c.index_mut.result.now there))))
