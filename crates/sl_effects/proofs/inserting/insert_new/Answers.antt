use Rattle.std.proofs.Common.{ℕ, ap, ◌∙◌}
use Rattle.sl_model.specs.Memory.Schedule.{after_picks}
use Rattle.sl_effects.proofs.inserting.insert_new.Goals as goal

pub returns : goal.returns
returns c = record {
  grew = c.in_ok-add.ensures.grew;
  size = c.in_ok-add.ensures.size;
  shows = λ left ps vs x class is key few h. record {
    holds = c.in_ok-add.ensures.shows left ps vs x class is key few h;
    schedule = c.skip.ensures
        ∙ (ap (after_picks c.key_picks-count.result) h.schedule
        ∙ ap (λ (n : ℕ). after_picks n left.picks) (c.key_picks-count.ensures left.memory ps vs h.holds));
  };
}
