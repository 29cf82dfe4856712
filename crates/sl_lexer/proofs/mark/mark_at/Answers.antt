-- All of the first two bytes are those that were asked for.
use Rattle.std.proofs.Common.{sym, ap, ◌∙◌}
use Rattle.sl_base.specs.Marks.{mark_of}
use Rattle.sl_lexer.proofs.MarkLaws.{same-bytes}
use Rattle.sl_lexer.proofs.mark.mark_at.Goals as goal

pub returns-in-Some-clause-mark : goal.returns-in-Some-clause-mark
returns-in-Some-clause-mark c =
    ap mark_of (same-bytes 2 c.args.rest.now c.first_bytes-two.result.now c.first_bytes-two.ensures) ∙ sym c.mark_of.ensures ∙ c.in-Some.is
