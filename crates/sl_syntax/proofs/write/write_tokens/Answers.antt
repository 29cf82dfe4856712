use Rattle.std.proofs.Common.{arith, sym, ◌∙◌}
use Rattle.sl_syntax.proofs.FunctionWords.{function_words_of, program_words}
use Rattle.sl_syntax.proofs.WrittenLaws.{none_left}
use Rattle.sl_syntax.proofs.write.write_tokens.Goals as goal

pub returns : goal.returns
returns c =
    let p = c.args.p.now in
    none_left function_words_of p.functions.items c.loop-function.function-index c.loop-function.out _
    (omega (arith, c.deref-function-items.ensures.len)) c.loop-function.invariant
    ∙ sym (program_words p)
