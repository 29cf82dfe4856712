use Rattle.std.proofs.Common.{◌≡◌, List, map, sym, ◌∙◌, subst, IfOk}
use Rattle.sl_slots.specs.declared.container.Element.{Element}
use Rattle.sl_slots.specs.declared.source.Source.{Source}
use Rattle.sl_slots.specs.Rearranging.{element_from}
use Rattle.sl_slots.specs.Stored.{elements_at}
use Rattle.sl_slots.proofs.ReadingShows.{read_there, elements-there}
use Rattle.sl_slots.proofs.trading.side_elements.Goals as goal

pub returns : goal.returns
returns c =
    let st = c.args.store.now in
    let j = c.args.own.now.container in
    let i = c.args.other.now.container in
    let there = read_there st.containers.items j c.index.result.now c.requires.own c.index.ensures in
    let there' = read_there st.containers.items i c.index-2.result.now c.requires.other c.index-2.ensures in
    let own : c.deref.result.now ≡ elements_at st j = c.deref.ensures.value ∙ sym (elements-there st j c.index.result.now there) in
    let other : c.deref-2.result.now ≡ elements_at st i = c.deref-2.ensures.value ∙ sym (elements-there st i c.index-2.result.now there') in
    subst (λ (ss : List Source). IfOk c.put_together.result (λ made. made.items ≡ map (element_from (elements_at st j) (elements_at st i)) ss))
    c.deref-3.ensures.value
    (subst (λ (es : List Element). IfOk c.put_together.result (λ made. made.items ≡ map (element_from (elements_at st j) es) c.deref-3.result.now))
    other
    (subst (λ (es : List Element). IfOk c.put_together.result
    (λ made. made.items ≡ map (element_from es c.deref-2.result.now) c.deref-3.result.now)) own c.put_together.ensures))
