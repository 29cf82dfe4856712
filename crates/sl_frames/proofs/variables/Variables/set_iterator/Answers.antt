use Rattle.std.proofs.Common.{refl, sym, arith}
use Rattle.std.proofs.Math.Seq.{set_out}
use Rattle.sl_frames.proofs.SetShows.{iterator_follows}
use Rattle.sl_frames.proofs.variables.Variables.set_iterator.Goals as goal

pub returns-then-location-len-clause-set : goal.returns-then-location-len-clause-set
returns-then-location-len-clause-set c =
    record { frame = refl; scalars = refl; containers = refl; pointers = refl; operands = refl }

pub returns-then-location-len-clause-shows : goal.returns-then-location-len-clause-shows
returns-then-location-len-clause-shows c = λ s held stamp low same h. iterator_follows c.args.location c.args.slot c.args.self.now _
    s held stamp low same (returns-then-location-len-clause-set c) h

pub returns-else-location-len-clause-set : goal.returns-else-location-len-clause-set
returns-else-location-len-clause-set c = record {
  frame = refl;
  scalars = refl;
  containers = refl;
  pointers = sym (set_out c.args.self.now.store.pointers.items c.args.location _ (omega (
    arith,
    c.if-location-len.false,
    c.len.ensures,
    c.args.self.now.store.pointers.ok.0,
  )));
  operands = refl;
}

pub returns-else-location-len-clause-shows : goal.returns-else-location-len-clause-shows
returns-else-location-len-clause-shows c = λ s held stamp low same h. iterator_follows c.args.location c.args.slot c.args.self.now _
    s held stamp low same (returns-else-location-len-clause-set c) h
