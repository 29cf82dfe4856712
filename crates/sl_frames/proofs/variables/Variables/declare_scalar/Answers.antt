use Rattle.std.proofs.Common.{ℕ, List, [], ◌∷◌, ◌++◌, map, refl, ap, ◌∙◌}
use Rattle.sl_model.specs.Runs.State.{Frame}
use Rattle.sl_model.proofs.Making.{map_last}
use Rattle.sl_frames.specs.Followed.{frame_of, variable_of}
use Rattle.sl_frames.proofs.CameShows.{scalar_follows}
use Rattle.sl_frames.proofs.variables.Variables.declare_scalar.Goals as goal

pub returns-clause-came : goal.returns-clause-came
returns-clause-came c =
    let old = c.args.self.now in
    let as_frame : List ℕ → Frame = λ l. record (frame_of old.frame) { scalars = l } in record {
      frame = ap as_frame c.in_ok-push.ensures.items
          ∙ ap (λ (n : ℕ). as_frame (old.frame.scalars.items ++ n ∷ [])) (c.len.ensures ∙ old.scalars.ok.0);
      scalars = ap (map variable_of) c.in_ok-push-2.ensures.items ∙ map_last variable_of old.scalars.items c.args.scalar;
      store = refl;
    }

pub returns-clause-shows : goal.returns-clause-shows
returns-clause-shows c = λ s held h. scalar_follows c.args.scalar.ty c.args.scalar.value c.args.self.now _ s held (returns-clause-came c) h
