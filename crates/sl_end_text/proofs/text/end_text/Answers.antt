use Rattle.sl_end_text.proofs.LineLaws.{text_told}
use Rattle.sl_end_text.proofs.text.end_text.Goals as goal

pub returns : goal.returns
returns c = λ p f same told.
    rw (c.in_ok-push_end.ensures, c.in_ok-push_output.ensures, c.new-out.ensures)
    (text_told p c.args.sites.now c.args.finish.now f same told)
