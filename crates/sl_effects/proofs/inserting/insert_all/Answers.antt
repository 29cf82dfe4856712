use Rattle.std.proofs.Common.{◌≡◌, ℕ, pos, List, length, ◌+◌, ◌≤◌, map, arith, ap, sym, refl, subst}
use Rattle.std.proofs.lemmas.List.{length-map}
use Rattle.sl_slots.specs.declared.container.Element.{Element}
use Rattle.sl_slots.specs.Shown.{new_element}
use Rattle.sl_base.specs.declared.limits.TheConstants.{ELEMENTS}
use Rattle.sl_model.specs.Memory.Containers.{cont_at, size}
use Rattle.sl_model.specs.LibraryCalls.KeyActions.{new_keys}
use Rattle.sl_model.proofs.FineEffects.{keys_in}
use Rattle.sl_model.specs.LibraryCalls.Effects.{insert_all, left_after}
use Rattle.sl_effects.specs.Carried.{Carries}
use Rattle.sl_effects.proofs.InsertLaws.{insert_next, insert_end}
use Rattle.sl_effects.proofs.Stores.{grew_none, grew_then}
use Rattle.sl_effects.proofs.inserting.insert_all.Goals as goal

pub returns : goal.returns
returns c = record {
  grew = c.loop-element.invariant.grew;
  shows = λ form s ps vs xs class all fine h.
      let l : length xs ≤ c.loop-element.element-index =
      (let a : length (map new_element xs) ≡ length c.args.elements.now = ap (λ (l : List Element). length l) all.elements in
      let b : length (map new_element xs) ≡ length xs = length-map xs new_element in
      let e = c.loop-element-test.false in omega arith) in
      subst (λ (site : ℕ). Carries c.loop-element.store c.loop-element.picks
      (insert_all c.args.class site s.object xs (left_after s 0 s.memory)) ps vs) (sym h.at)
      (subst (λ (j : ℕ). Carries c.loop-element.store c.loop-element.picks
      (insert_all c.args.class c.args.site j xs (left_after s 0 s.memory)) ps vs) (sym h.on)
      (insert_end c.args.class c.args.site c.args.container xs (left_after s 0 s.memory) c.loop-element.element-index c.loop-element.store
      c.loop-element.picks ps vs l
      (c.loop-element.invariant.runs (left_after s 0 s.memory) ps vs xs class all
      (subst (λ (j : ℕ). size (cont_at s.memory j) + new_keys (cont_at s.memory j) (keys_in xs) ≤ ELEMENTS) h.on fine.1)
      h.carries)));
}

pub insert_key-requires : goal.insert_key-requires
insert_key-requires c =
    let a = c.loop-element.invariant.grew.containers in
    let b = c.loop-element.invariant.long in
    let d = c.requires.there in
    let e = c.requires.few in
    let t = c.loop-element-test.true in record { there = omega arith; few = omega arith }

pub loop-element-init : goal.loop-element-init
loop-element-init c = record {
  grew = grew_none c.args.store.now;
  long = omega arith;
  runs = λ left ps vs xs class all few h. record { mid = left; carried = h; rest = refl; few = few };
}

pub loop-element-preserved : goal.loop-element-preserved
loop-element-preserved c = record {
  grew = grew_then c.args.store.now c.loop-element.store c.insert_key.new.store 0 0 c.loop-element.invariant.grew c.in_ok-insert_key.ensures.grew;
  long = let a = c.in_ok-insert_key.ensures.size in let b = c.loop-element.invariant.long in omega arith;
  runs = λ left ps vs xs class all few h.
      insert_next c.args.class c.args.site c.args.container xs c.args.elements.now left c.loop-element.element-index c.loop-element.store
      c.insert_key.new.store c.loop-element.picks c.insert_key.new.picks _
      (record { key = pos 0; value = pos 0 }) ps vs class c.in_ok-insert_key.ensures.shows all
      c.loop-element-test.true refl
      (let a = c.loop-element.invariant.grew.containers in let d = c.requires.there in omega arith)
      (c.loop-element.invariant.runs left ps vs xs class all few h);
}
