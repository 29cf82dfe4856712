use Rattle.sl_end_text.proofs.LineLaws.{lost_line-some}
use Rattle.sl_end_text.proofs.output.push_lost.Goals as goal

pub returns : goal.returns
returns c =
    rw (
      c.in_ok-extend_from_slice-3.ensures.extended,
      c.in_ok-extend_from_slice-2.ensures.extended,
      c.in_ok-extend_from_slice.ensures.extended,
      c.as_bytes.ensures.value,
      c.in_ok-format.ensures.ok,
    ) (lost_line-some c.args.out.now c.args.lost c.if-lost-eq0.false)
