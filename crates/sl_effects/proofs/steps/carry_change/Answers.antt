use Rattle.std.proofs.Common.{ℕ, drop, ap, sym, ◌∙◌, subst}
use Rattle.sl_model.specs.Memory.Containers.{cont_at}
use Rattle.sl_model.specs.Memory.Edits.{after}
use Rattle.sl_slots.specs.Shown.{Holds}
use Rattle.sl_effects.proofs.Stores.{grew_rearranged}
use Rattle.sl_effects.proofs.steps.carry_change.Goals as goal

pub returns : goal.returns
returns c = record {
  grew = grew_rearranged c.args.store.now c.rearrange.new.self c.args.by c.in_ok-rearrange.ensures.rearranged;
  rearranged = c.in_ok-rearrange.ensures.rearranged;
  shows = λ form class s ps vs ch is fine h. record {
    holds = subst
        (λ (site : ℕ). Holds c.rearrange.new.self (after ch s.memory c.args.by.container (cont_at s.memory c.args.by.container) site) ps vs)
        (sym h.at)
        (c.in_ok-rearrange.ensures.shows s.memory ps vs ch is fine.1 h.carries.holds);
    schedule = c.skip.ensures ∙ ap (drop c.args.taken) h.carries.schedule;
  };
}
