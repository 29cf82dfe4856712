use Rattle.std.proofs.Common.{ap, sym, ◌∙◌, refl, w32, FitsSigned, rules, ℤ}
use Rattle.std.proofs.lemmas.Int.{to_z-of_z}
use Rattle.sl_model.specs.Memory.Containers.{cont_at}
use Rattle.sl_model.specs.LibraryCalls.Effects.{key_place}
use Rattle.sl_effects.proofs.AddLaws.{add_shows}
use Rattle.sl_effects.proofs.HashLaws.{turn_kept}
use Rattle.sl_effects.proofs.Stores.{grew_edited, size_edited}
use Rattle.sl_effects.proofs.adding.add_between.Goals as goal

pub returns : goal.returns
returns c = record {
  grew = grew_edited c.args.store.now c.edit.new.self c.args.container _ _ c.args.site c.in_ok-edit.ensures.edited;
  size = size_edited c.args.store.now c.edit.new.self c.args.container _ _ c.args.site c.in_ok-edit.ensures.edited
      c.requires.there refl c.key_place.ensures.within;
  shows = λ left ps vs x still is key few h.
      let fits : FitsSigned w32 c.args.element.key = search rules in
      let d = cont_at left.memory c.args.container in
      add_shows c.args.store.now c.edit.new.self c.args.container c.args.site _ c.args.element c.in_ok-edit.ensures.shows
      c.requires.there c.key_place.ensures.within refl left.memory ps vs x left.picks is few (turn_kept d left.picks still)
      (c.key_place.ensures.shows left ps vs h
      ∙ ap (λ (k : ℤ). key_place d k left.picks) (to_z-of_z w32 c.args.element.key fits ∙ sym key))
      (c.key_room.ensures left ps vs h) h.holds;
}
