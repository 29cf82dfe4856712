use Rattle.std.proofs.Common.{◌++◌, take, refl, ap, sym, ◌∙◌, subst}
use Rattle.sl_model.specs.Runs.Binding.{no_frame}
use Rattle.sl_frames.specs.declared.heights.Heights.{Heights}
use Rattle.sl_frames.specs.Followed.{AreHeights, Mirrors, frame_of}
use Rattle.sl_frames.proofs.CutShows.{heights_shown, fewer_operands}
use Rattle.sl_frames.proofs.variables.Variables.enter_call.Goals as goal

pub returns : goal.returns
returns c = record {
  frame = c.replace-frame.ensures.value;
  heights = c.heights-heights.ensures;
  operands = c.truncate.ensures.items ∙ ap (λ w. take c.args.base w.items) c.in_ok-bind_all.ensures.operands;
  shows = λ s held vs many good h.
      let begun : Mirrors (record c.args.self.now { frame = c.replace-frame.new.dest }) (record s { frame = no_frame }) (held ++ vs) = record {
        frame = ap frame_of c.replace-frame.ensures.after ∙ c.new.ensures;
        scalars = h.mirrors.scalars;
        store = h.mirrors.store;
      } in
      let done = c.in_ok-bind_all.ensures.mirrors (record s { frame = no_frame }) held vs many begun in (
        record {
          frame = ap frame_of c.replace-frame.ensures.value ∙ h.mirrors.frame;
          stacks = subst (λ (x : Heights). AreHeights x s) (sym c.heights-heights.ensures) (heights_shown c.args.self.now s (held ++ vs) h.mirrors);
        },
        record {
          good = good;
          mirrors = fewer_operands c.bind_all.new.self _ c.args.base _ held vs refl refl refl refl c.truncate.ensures.items many done;
        },
      );
}
