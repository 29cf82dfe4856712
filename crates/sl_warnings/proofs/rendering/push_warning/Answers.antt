use Rattle.std.specs.Prelude.{codes}
use Rattle.std.specs.Fmt.{decimal}
use Rattle.std.proofs.Common.{[], ◌∷◌}
use Rattle.sl_model.specs.Reports.Texts.{kind_text, killers_text, who_text}
use Rattle.sl_warnings.specs.Views.{sites_in}
use Rattle.sl_warnings.proofs.LineLaws.{regrouped}
use Rattle.sl_warnings.proofs.rendering.push_warning.Goals as goal

pub returns : goal.returns
returns c =
    let w = c.args.warning.now in
    rw (
      c.in_ok-extend_from_slice-6.ensures.extended,
      c.in_ok-push_killers.ensures,
      c.in_ok-push_who.ensures,
      c.in_ok-extend_from_slice-5.ensures.extended,
      c.in_ok-extend_from_slice-4.ensures.extended,
      c.in_ok-extend_from_slice-3.ensures.extended,
      c.in_ok-extend_from_slice-2.ensures.extended,
      c.in_ok-extend_from_slice.ensures.extended,
      c.as_bytes.ensures.value,
      c.in_ok-format.ensures.ok,
      c.as_bytes-2.ensures.value,
      c.kind_words.ensures,
      c.as_slice-call.ensures.value,
    ) (regrouped c.args.out.now c.args.name.now (codes ":") (decimal w.place.line) (codes ":") (decimal w.place.col) (codes ": ") (kind_text w.kind)
    (codes " in ") w.call (codes ": ")
    (who_text w.call w.argument w.name) (killers_text c.args.sites.now w.kind (sites_in w.killers)) (10 ∷ []))
