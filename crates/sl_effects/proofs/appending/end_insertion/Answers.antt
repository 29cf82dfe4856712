use Rattle.std.proofs.Common.{ap, ◌∙◌, refl}
use Rattle.sl_model.specs.LibraryCalls.Effects.{insertion_class}
use Rattle.sl_effects.proofs.appending.end_insertion.Goals as goal

pub returns-clause-edit : goal.returns-clause-edit
returns-clause-edit c = λ left ps vs h. record {
  class = c.insertion_class.ensures ∙ ap insertion_class (c.form.ensures.shows left.memory ps vs h.holds);
  from = c.size.ensures.shows left.memory ps vs h.holds;
  gone = refl;
  room = c.sequence_room.ensures left ps vs h;
}
