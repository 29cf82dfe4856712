use Rattle.std.proofs.Common.{sym, ◌∙◌}
use Rattle.sl_effects.proofs.adding.add.Goals as goal

pub returns-then-is_rebuilt : goal.returns-then-is_rebuilt
returns-then-is_rebuilt c = record {
  grew = c.in_ok-rebuild_with.ensures.grew;
  size = c.in_ok-rebuild_with.ensures.size;
  shows = λ left ps vs x class is key few h. c.in_ok-rebuild_with.ensures.shows left ps vs x class
      (sym (c.is_rebuilt.ensures left.memory ps vs h.holds) ∙ c.if-is_rebuilt.true) is key few h;
}

pub returns : goal.returns
returns c = record {
  grew = c.in_ok-add_between.ensures.grew;
  size = c.in_ok-add_between.ensures.size;
  shows = λ left ps vs x class is key few h. c.in_ok-add_between.ensures.shows left ps vs x
      (sym (c.is_rebuilt.ensures left.memory ps vs h.holds) ∙ c.if-is_rebuilt.false) is key few h;
}
