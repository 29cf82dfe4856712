use Rattle.std.proofs.Common.{[], ◌∷◌, codes}
use Rattle.sl_model.specs.Reports.Texts.{place_text}
use Rattle.sl_end_text.proofs.LineLaws.{grouped}
use Rattle.sl_end_text.proofs.end_line.push_thrown.Goals as goal

pub returns : goal.returns
returns c =
    rw (c.in_ok-push.ensures.pushed, c.in_ok-push_place.ensures, c.in_ok-extend_from_slice.ensures.extended)
    (grouped c.args.out.now (codes "run: exception at ") (place_text c.args.place) (10 ∷ []))
