use Rattle.std.proofs.Common.{ap, ◌∙◌}
use Rattle.sl_frames.specs.Followed.{frame_of}
use Rattle.sl_frames.specs.Changed.{frame_cut}
use Rattle.sl_frames.proofs.CutShows.{left_follows, front_cut}
use Rattle.sl_frames.proofs.variables.Variables.leave.Goals as goal

pub returns-clause-shows : goal.returns-clause-shows
returns-clause-shows c = λ start s held marked front good h.
    left_follows c.args.mark.now.in_all c.args.site c.args.self.now c.cut-2.new.self start s held
    (record {
      scalars = c.cut-2.ensures.cut.scalars;
      containers = c.cut-2.ensures.cut.containers;
      pointers = c.cut-2.ensures.cut.pointers;
      operands = c.cut-2.ensures.cut.operands;
    })
    (ap frame_of c.cut-2.ensures.frame ∙ (c.cut.ensures ∙ (ap (frame_cut c.args.mark.now.in_scope) h.mirrors.frame
    ∙ front_cut c.args.mark.now.in_scope start.frame s.frame marked.frame front)))
    marked.stacks (c.cut-2.ensures.shows s.memory s.iters held h.mirrors.store) good h.mirrors
