use Rattle.std.proofs.Common.{◌≡◌, ◌++◌, drop, flat_map}
use Rattle.sl_syntax.proofs.EffectWords.{variable_words}
use Rattle.sl_syntax.proofs.write.effect.write_read.Given as goal

abbrev pub invariant-loop-x : goal.invariant-loop-x
invariant-loop-x l = l.out ++ flat_map variable_words (drop l.x-index l.x-items) ≡ l.initial.out ++ flat_map variable_words l.x-items
