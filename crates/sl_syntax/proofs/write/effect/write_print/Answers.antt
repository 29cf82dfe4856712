use Rattle.std.proofs.Common.{◌++◌, List, append_assoc, arith, sym, ap, ◌∙◌}
use Rattle.sl_base.specs.declared.word.Word.{Word}
use Rattle.sl_syntax.proofs.EffectWords.{item_words, print_words}
use Rattle.sl_syntax.proofs.WrittenLaws.{none_left}
use Rattle.sl_syntax.proofs.write.effect.write_print.Goals as goal

pub returns : goal.returns
returns c =
    let first = c.in_ok-push.ensures.pushed in
    let items = c.args.print.now.items.items in
    none_left item_words items c.loop-x.x-index c.loop-x.out _ (omega (arith, c.deref-x-items.ensures.len)) c.loop-x.invariant
    ∙ rw (first, c.lib.ensures, append_assoc) (ap (λ (l : List Word). c.args.out.now ++ l) (sym (print_words c.args.print.now.place items)))
