use Rattle.std.proofs.Common.{ap, Err}
use Rattle.sl_tool.proofs.PhaseLaws.{told_fault}
use Rattle.sl_tool.proofs.phases.typing.typed_of.Goals as goal

pub returns-in-Err-At-clause-refused : goal.returns-in-Err-At-clause-refused
returns-in-Err-At-clause-refused c = λ file line e.
    let x = c.in-Err-At in
    told_fault file line _ _ _ _ (x.ensures.fault x.place x.rule (ap Err x.field-0-is)) c.rule_words.ensures e
