use Rattle.std.proofs.Common.{ap, ◌∙◌}
use Rattle.sl_frames.specs.Followed.{frame_of}
use Rattle.sl_frames.proofs.CutShows.{left_follows}
use Rattle.sl_frames.proofs.variables.Variables.leave_call.Goals as goal

pub returns : goal.returns
returns c = record {
  frame = c.cut.ensures.frame;
  cut = record {
    scalars = c.cut.ensures.cut.scalars;
    containers = c.cut.ensures.cut.containers;
    pointers = c.cut.ensures.cut.pointers;
    operands = c.cut.ensures.cut.operands;
  };
  shows = λ before s held is good h.
      left_follows c.args.caller.heights 0 c.args.self.now c.cut.new.self before s held
      (record {
        scalars = c.cut.ensures.cut.scalars;
        containers = c.cut.ensures.cut.containers;
        pointers = c.cut.ensures.cut.pointers;
        operands = c.cut.ensures.cut.operands;
      })
      (ap frame_of c.cut.ensures.frame ∙ is.frame) is.stacks (c.cut.ensures.shows s.memory s.iters held h.mirrors.store) good h.mirrors;
}
