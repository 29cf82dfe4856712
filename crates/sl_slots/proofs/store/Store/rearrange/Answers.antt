use Rattle.std.proofs.Common.{◌≡◌, List, map, sym, ap, ◌∙◌}
use Rattle.std.specs.List.{slice_set}
use Rattle.sl_base.specs.declared.form.Form.{Form}
use Rattle.sl_model.proofs.Getting.{map_set}
use Rattle.sl_slots.specs.declared.container.Element.{Element}
use Rattle.sl_slots.specs.declared.source.Source.{Source}
use Rattle.sl_slots.specs.Shown.{Plain, contents}
use Rattle.sl_slots.specs.Rearranging.{element_from}
use Rattle.sl_slots.specs.Stored.{contents_at, elements_at, rearranged}
use Rattle.sl_slots.proofs.ReadingShows.{read_there, contents-there, elements-there}
use Rattle.sl_slots.proofs.RearrangingShows.{rearranged_holds}
use Rattle.sl_slots.proofs.store.Store.rearrange.Goals as goal

pub returns-clause-rearranged : goal.returns-clause-rearranged
returns-clause-rearranged c =
    let old = c.args.self.now in
    let by = c.args.by in
    let there = read_there old.containers.items by.container c.index.result.now c.requires.there c.index.ensures in
    let there' = read_there old.containers.items by.container c.index_mut.result.now c.requires.there c.index_mut.ensures.value in
    let elements : c.deref.result.now ≡ elements_at old by.container =
    c.deref.ensures.value ∙ sym (elements-there old by.container c.index.result.now there) in
    let form : c.index_mut.result.now.form ≡ (contents_at old by.container).form =
    ap (λ (x : Plain). x.form) (sym (contents-there old by.container c.index_mut.result.now there')) in
    let there'' = read_there old.containers.items by.container c.index-2.result.now c.requires.there c.index-2.ensures in
    let elements' : c.deref-2.result.now ≡ elements_at old by.container =
    c.deref-2.ensures.value ∙ sym (elements-there old by.container c.index-2.result.now there'') in
    let made = c.in_ok-elements.ensures
    ∙ (ap (λ (es : List Element). map (element_from es c.deref-2.result.now) c.deref-3.result.now) elements
    ∙ (ap (λ (es : List Element). map (element_from (elements_at old by.container) es) c.deref-3.result.now) elements'
    ∙ ap (λ (ss : List Source). map (element_from (elements_at old by.container) (elements_at old by.container)) ss) c.deref-3.ensures.value)) in
    let as_plain : Form → List Element → Plain = λ f es. record { form = f; elements = es; room = by.room } in record {
      containers = ap (λ v. map contents v.items) c.move_all.ensures.containers
          ∙ (map_set contents old.containers.items by.container c.refill.new.container
          ∙ ap (slice_set (map contents old.containers.items) by.container)
          (c.refill.ensures
          ∙ (ap (λ (f : Form). as_plain f c.in_ok-elements.elements.items) form
          ∙ ap (as_plain (contents_at old by.container).form) made)));
      moved = record { pointers = c.move_all.ensures.moved.pointers; operands = c.move_all.ensures.moved.operands };
    }

pub returns-clause-shows : goal.returns-clause-shows
returns-clause-shows c = λ m ps vs ch same fair h. rearranged_holds c.args.self.now c.move_all.new.store c.args.by
    (returns-clause-rearranged c) c.requires.there c.requires.size m ps vs ch same fair h
