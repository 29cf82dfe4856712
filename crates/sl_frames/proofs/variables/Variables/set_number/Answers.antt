use Rattle.std.proofs.Common.{refl, ◌∙◌, arith}
use Rattle.std.specs.Int.{w128}
use Rattle.std.proofs.lemmas.Int.{to_z-of_z}
use Rattle.std.proofs.lemmas.Option.{slice_get_read}
use Rattle.sl_frames.proofs.SetShows.{number_follows, number_there, number_absent}
use Rattle.sl_frames.proofs.variables.Variables.set_number.Goals as goal

pub returns-then-location-len-clause-set : goal.returns-then-location-len-clause-set
returns-then-location-len-clause-set c = record {
  frame = refl;
  scalars = number_there c.args.self.now.scalars.items c.args.location c.index_mut.result.now c.args.number _
      (slice_get_read c.args.self.now.scalars.items c.len.result c.args.location c.index_mut.result.now
      (c.len.ensures ∙ c.args.self.now.scalars.ok.0) c.if-location-len.true c.index_mut.ensures.value)
      (to_z-of_z w128 c.args.number c.ranges.number);
  store = refl;
}

pub returns-then-location-len-clause-shows : goal.returns-then-location-len-clause-shows
returns-then-location-len-clause-shows c = λ s held h. number_follows c.args.location c.args.number c.args.self.now _ s held
    (returns-then-location-len-clause-set c) h

pub returns-else-location-len-clause-set : goal.returns-else-location-len-clause-set
returns-else-location-len-clause-set c = record {
  frame = refl;
  scalars = number_absent c.args.self.now.scalars.items c.args.location c.args.number (omega (
    arith,
    c.if-location-len.false,
    c.len.ensures,
    c.args.self.now.scalars.ok.0,
  ));
  store = refl;
}

pub returns-else-location-len-clause-shows : goal.returns-else-location-len-clause-shows
returns-else-location-len-clause-shows c = λ s held h. number_follows c.args.location c.args.number c.args.self.now _ s held
    (returns-else-location-len-clause-set c) h
