use Rattle.std.proofs.Common.{ℕ, Option, sym, ap, ◌∙◌}
use Rattle.sl_slots.specs.Trading.{traded_place}
use Rattle.sl_slots.proofs.trade.element_goes.Goals as goal

pub returns-in-None : goal.returns-in-None
returns-in-None c = c.given_goes.ensures c.args.own.now.container
    ∙ ap (λ (kept : Option ℕ). traded_place c.args.own.now.container kept c.args.other.now.container c.args.given c.args.site) (sym c.in-None.is)
