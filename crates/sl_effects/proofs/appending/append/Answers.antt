use Rattle.std.proofs.Common.{ℕ, ℤ, pos, ap, sym, ◌∙◌, w32, arith}
use Rattle.std.proofs.lemmas.Int.{to_z-of_z}
use Rattle.sl_slots.specs.declared.container.Element.{Element}
use Rattle.sl_model.specs.Memory.Schedule.{after_picks}
use Rattle.sl_effects.proofs.AppendLaws.{append_carries}
use Rattle.sl_effects.proofs.Stores.{grew_edited, size_edited}
use Rattle.sl_effects.proofs.appending.append.Goals as goal

pub returns : goal.returns
returns c = record {
  grew = grew_edited c.args.store.now c.edit.new.self c.args.container c.end_insertion-edit.result _ c.args.site c.in_ok-edit.ensures.edited;
  size = size_edited c.args.store.now c.edit.new.self c.args.container c.end_insertion-edit.result _ c.args.site c.in_ok-edit.ensures.edited
      c.requires.there c.end_insertion-edit.ensures.gone (let f = c.end_insertion-edit.ensures.from in omega arith);
  shows = λ left ps vs x is few h.
      append_carries c.args.store.now c.edit.new.self c.args.picks.now c.skip.new.self c.args.container c.args.site
      c.end_insertion-edit.result _ left ps vs x c.in_ok-edit.ensures.shows (c.end_insertion-edit.ensures.edit left ps vs h)
      (c.skip.ensures
      ∙ (ap (after_picks c.sequence_picks.result) h.schedule
      ∙ ap (λ (n : ℕ). after_picks n left.picks) (c.sequence_picks.ensures left.memory ps vs h.holds)))
      (ap (λ (z : ℤ). as_key z) (is ∙ sym (to_z-of_z w32 c.args.number c.ranges.number))) few h;
}
  where
    as_key : ℤ → Element
    as_key z = record { key = z; value = pos 0 }
