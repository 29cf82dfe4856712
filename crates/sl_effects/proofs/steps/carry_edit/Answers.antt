use Rattle.std.proofs.Common.{ℕ, drop, ap, sym, ◌∙◌, subst}
use Rattle.sl_model.specs.Memory.Containers.{cont_at}
use Rattle.sl_model.specs.Memory.Edits.{after, change_of}
use Rattle.sl_model.proofs.Places.{CountsFair}
use Rattle.sl_slots.specs.Shown.{Holds}
use Rattle.sl_effects.proofs.Stores.{grew_edited}
use Rattle.sl_effects.proofs.steps.carry_edit.Goals as goal

pub returns : goal.returns
returns c = record {
  grew = grew_edited c.args.store.now c.edit.new.self c.args.container c.args.edit.now c.args.come.now c.args.site c.in_ok-edit.ensures.edited;
  edited = c.in_ok-edit.ensures.edited;
  shows = λ form s ps vs e is fine h.
      let class = c.args.edit.now.class in
      let new = c.edit.new.self in record {
        holds = subst
            (λ (site : ℕ). Holds new (after (change_of class (cont_at s.memory s.object) e) s.memory s.object (cont_at s.memory s.object) site) ps vs)
            (sym h.at)
            (subst (λ (j : ℕ). Holds new (after (change_of class (cont_at s.memory j) e) s.memory j (cont_at s.memory j) c.args.site) ps vs)
            (sym h.on)
            (c.in_ok-edit.ensures.shows s.memory ps vs e is
            (subst (λ (j : ℕ). CountsFair (cont_at s.memory j) (change_of class (cont_at s.memory j) e)) h.on fine.1) h.carries.holds));
        schedule = c.skip.ensures ∙ ap (drop c.args.taken) h.carries.schedule;
      };
}
