use Rattle.std.proofs.Common.{refl}
use Rattle.sl_frames.proofs.CutShows.{fewer_held}
use Rattle.sl_frames.proofs.variables.Variables.cut.Goals as goal

pub returns-clause-shows : goal.returns-clause-shows
returns-clause-shows c = λ m ps held h. c.end_from.ensures.shows m _ held
    (fewer_held c.args.self.now.store _ c.args.heights.now.pointers m ps held refl c.truncate-2.ensures.items refl h)
