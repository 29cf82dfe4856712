use Rattle.sl_tool.specs.Answers.{not_built}
use Rattle.sl_tool.proofs.AnswerLaws.{AnswerTo-report}
use Rattle.sl_tool.proofs.checking.check.Goals as goal

pub report-requires : goal.report-requires
report-requires c = (c.args.text.now, (c.args.parsed.now.tokens, c.requires.cut, rw (c.in-Whole.is, c.as_slice-tokens.ensures) at c.in_ok-p.ensures))

pub returns-in-Whole : goal.returns-in-Whole
returns-in-Whole c = AnswerTo-report _ _ _ _ c.in-Whole.p _ c.requires (rw (c.in-Whole.is, c.as_slice-tokens.ensures) at c.in_ok-p.ensures)
    c.report.ensures

pub returns-in_ok-line-in-Stops : goal.returns-in_ok-line-in-Stops
returns-in_ok-line-in-Stops c = rw (c.in_ok-line-in-Stops.ensures, c.stop_place.ensures, c.as_slice-tokens.ensures)
    (not_built _ _ c.requires c.in-Stops.k (rw (c.in-Stops.is, c.as_slice-tokens.ensures) at c.in_ok-p.ensures))
