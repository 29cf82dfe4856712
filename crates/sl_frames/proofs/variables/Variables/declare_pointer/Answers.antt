use Rattle.std.proofs.Common.{ℕ, List, [], ◌∷◌, ◌++◌, refl, ap, ◌∙◌}
use Rattle.sl_model.specs.Runs.State.{Frame}
use Rattle.sl_frames.specs.Followed.{frame_of}
use Rattle.sl_frames.proofs.CameShows.{pointer_follows}
use Rattle.sl_frames.proofs.variables.Variables.declare_pointer.Goals as goal

pub returns-clause-came : goal.returns-clause-came
returns-clause-came c =
    let old = c.args.self.now in
    let as_frame : List ℕ → Frame = λ l. record (frame_of old.frame) { iters = l } in record {
      frame = ap as_frame c.in_ok-push.ensures.items
          ∙ ap (λ (n : ℕ). as_frame (old.frame.pointers.items ++ n ∷ [])) (c.len.ensures ∙ old.store.pointers.ok.0);
      scalars = refl;
      containers = refl;
      pointers = c.in_ok-push-2.ensures.items;
      operands = refl;
    }

pub returns-clause-shows : goal.returns-clause-shows
returns-clause-shows c = λ s held q low same h. pointer_follows c.args.pointer c.args.self.now _ s held q low same (returns-clause-came c) h
