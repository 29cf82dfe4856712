use Rattle.std.proofs.Common.{◌≡◌, ◌++◌, drop, flat_map}
use Rattle.sl_syntax.proofs.EffectWords.{item_words}
use Rattle.sl_syntax.proofs.write.effect.write_print.Given as goal

abbrev pub invariant-loop-x : goal.invariant-loop-x
invariant-loop-x l = l.out ++ flat_map item_words (drop l.x-index l.print.items.items) ≡ l.initial.out ++ flat_map item_words l.print.items.items
