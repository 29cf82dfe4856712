use Rattle.std.proofs.Common.{refl}
use Rattle.sl_model.specs.LibraryCalls.Situation.{Situation}
use Rattle.sl_arguments.proofs.object.object_in.Goals as goal

pub returns : goal.returns
returns c = λ site picks s h. let first : Situation = record s { object = 0 } in
    c.object_given.ensures first (c.of.ensures site picks first (record {
      pointers = h.pointers;
      held = h.held;
      below = h.below;
      holds = h.holds;
      on = refl;
      at = h.at;
      left = h.left;
    }))
