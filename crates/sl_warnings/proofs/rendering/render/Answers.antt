use Rattle.std.proofs.Common.{◌∙◌, refl}
use Rattle.sl_warnings.proofs.LineLaws.{report_text-some}
use Rattle.sl_warnings.proofs.rendering.render.Goals as goal

pub returns : goal.returns
returns c =
    rw (
      report_text-some c.args.name.now c.args.sites.now c.args.r.now (λ e. c.if-count-eq0.false (c.len-count.ensures.value ∙ e)),
      c.in_ok-extend_from_slice-2.ensures.extended,
      c.in_ok-push_warnings.ensures,
      c.new-out.ensures,
      c.as_bytes-2.ensures.value,
      c.in_ok-format-2.ensures.ok,
      c.len-count.ensures.value,
    ) refl
