use Rattle.std.proofs.Common.{◌≡◌, map, refl, ap, sym, ◌∙◌, ℤ, Some, to_z, of_z}
use Rattle.std.specs.List.{slice_set}
use Rattle.std.specs.Int.{w32}
use Rattle.std.proofs.lemmas.Int.{to_z-of_z}
use Rattle.sl_base.specs.declared.form.Form.{Form}
use Rattle.sl_model.proofs.Getting.{map_set}
use Rattle.sl_slots.specs.declared.container.Element.{Element}
use Rattle.sl_slots.specs.Shown.{contents}
use Rattle.sl_slots.specs.Stored.{contents_at, written}
use Rattle.sl_slots.proofs.ReadingShows.{read_there}
use Rattle.sl_slots.proofs.WritingShows.{write_contents, written_holds}
use Rattle.sl_slots.proofs.store.Store.write.Goals as goal

pub returns-clause-written : goal.returns-clause-written
returns-clause-written c = λ x at.
    let old = c.args.self.now in
    let part = c.args.part in
    let number = c.args.number in
    let form : Form = (contents_at old c.args.container).form in
    let there = read_there old.containers.items c.args.container c.index_mut.result.now c.requires.there c.index_mut.ensures.value in
    let here : Some c.get.result ≡ Some x = sym c.get.ensures.value ∙ at in
    let same : c.get.result ≡ x = cc in
    let y = c.after_writing-element.ensures
    ∙ (ap (λ (f : Form). written f part (to_z w32 (of_z w32 number)) c.get.result) c.form.ensures.value
    ∙ (ap (λ (n : ℤ). written form part n c.get.result) (to_z-of_z w32 number c.ranges.number)
    ∙ ap (λ (e : Element). written form part number e) same)) in record {
      containers = map_set contents old.containers.items c.args.container _
          ∙ ap (slice_set (map contents old.containers.items) c.args.container)
          (write_contents old c.args.container c.args.place c.index_mut.result.now x c.after_writing-element.result part number there y);
      pointers = refl;
      operands = refl;
    }

pub returns-clause-shows : goal.returns-clause-shows
returns-clause-shows c = λ m ps vs which z same_part same h. written_holds c.args.self.now _ c.args.container c.args.place c.get.result
    c.args.part c.args.number (returns-clause-written c c.get.result c.get.ensures.value) c.requires.there c.get.ensures.value
    m ps vs which z same_part same h
