use Rattle.std.proofs.Common.{drop, ap, ◌∙◌}
use Rattle.sl_effects.proofs.Stores.{grew_made}
use Rattle.sl_effects.proofs.making.make.Goals as goal

pub returns : goal.returns
returns c = record {
  grew = grew_made c.args.store.now c.make.new.self c.args.form c.args.room c.args.elements.items c.in_ok-make.ensures.made;
  shows = λ class s ps vs xs is few h. record {
    holds = c.in_ok-make.ensures.shows s.memory ps vs xs is few h.carries.holds;
    schedule = c.skip.ensures ∙ ap (drop c.args.taken) h.carries.schedule;
  };
  kept = tt;
}
