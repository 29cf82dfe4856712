use Rattle.std.proofs.Common.{◌++◌, List, append_assoc, arith, sym, ap, ◌∙◌}
use Rattle.sl_base.specs.declared.word.Word.{Word}
use Rattle.sl_syntax.proofs.EffectWords.{variable_words, read_words}
use Rattle.sl_syntax.proofs.WrittenLaws.{none_left}
use Rattle.sl_syntax.proofs.write.effect.write_read.Goals as goal

pub returns : goal.returns
returns c =
    let first = c.in_ok-push.ensures.pushed in
    none_left variable_words c.as_slice-x-items.result.now c.loop-x.x-index c.loop-x.out _ (omega arith) c.loop-x.invariant
    ∙ rw (first, c.lib.ensures, c.as_slice-x-items.ensures, append_assoc)
    (ap (λ (l : List Word). c.args.out.now ++ l) (sym (read_words c.args.read.now)))
