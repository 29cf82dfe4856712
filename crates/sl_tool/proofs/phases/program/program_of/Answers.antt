use Rattle.std.proofs.Common.{arith, ap, Err}
use Rattle.sl_lexer.proofs.CutLaws.{few_tokens}
use Rattle.sl_model.specs.Reports.Refusals.{IsRefusal, by_grammar}
use Rattle.sl_tool.proofs.RefusalLaws.{is_line}
use Rattle.sl_tool.proofs.phases.program.program_of.Goals as goal

pub parse-requires : goal.parse-requires
parse-requires c = omega (arith, c.requires.short, few_tokens c.args.text.now c.args.tokens.now c.requires.cut)

pub returns-in-Err-Grammar-clause-refused : goal.returns-in-Err-Grammar-clause-refused
returns-in-Err-Grammar-clause-refused c = λ file line e.
    let k = c.in-Err-Grammar.token in
    is_line (IsRefusal file c.args.text.now) _ line e
    (rw c.stop_place.ensures (by_grammar c.requires.short c.args.tokens.now c.requires.cut k (c.in-Err-Grammar.ensures.stops k (ap Err c.in-Err-Grammar.field-0-is))))
