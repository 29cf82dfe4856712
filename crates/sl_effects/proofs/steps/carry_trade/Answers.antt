use Rattle.std.proofs.Common.{ℕ, sym, subst}
use Rattle.sl_model.specs.Memory.Containers.{cont_at}
use Rattle.sl_model.specs.Memory.Edits.{after_two}
use Rattle.sl_model.proofs.Places.{CountsFairSide}
use Rattle.sl_slots.specs.Shown.{Holds}
use Rattle.sl_effects.proofs.Stores.{grew_traded}
use Rattle.sl_effects.proofs.steps.carry_trade.Goals as goal

pub returns : goal.returns
returns c = record {
  grew = grew_traded c.args.store.now c.trade.new.self c.args.by c.in_ok-trade.ensures.traded;
  traded = c.in_ok-trade.ensures.traded;
  shows = λ form class picks s ps vs ch dh first second fine h.
      let i = c.args.by.second.container in
      let m = s.memory in record {
        holds = subst (λ (site : ℕ). Holds c.trade.new.self (after_two ch dh m s.object (cont_at m s.object) i (cont_at m i) site) ps vs) (sym h.at)
            (subst (λ (j : ℕ). Holds c.trade.new.self (after_two ch dh m j (cont_at m j) i (cont_at m i) c.args.by.site) ps vs) (sym h.on)
            (c.in_ok-trade.ensures.shows m ps vs ch dh first second
            (subst (λ (j : ℕ). CountsFairSide (cont_at m j) (cont_at m i) ch dh) h.on fine.first)
            (subst (λ (j : ℕ). CountsFairSide (cont_at m i) (cont_at m j) dh ch) h.on fine.second) h.carries.holds));
        schedule = h.carries.schedule;
      };
}
