use Rattle.std.proofs.Common.{sym, ◌∙◌, w32}
use Rattle.std.proofs.lemmas.Int.{to_z-of_z}
use Rattle.sl_effects.proofs.KeyLaws.{found_here, found_later}
use Rattle.sl_effects.proofs.keys.find_key.Goals as goal

pub returns-then-has_key : goal.returns-then-has_key
returns-then-has_key c = found_here c.args.key _ c.args.elements.now c.loop-i.i _ c.loop-i-test.true (to_z-of_z w32 c.args.key c.ranges.key)
    c.loop-i.invariant (sym c.has_key.ensures ∙ c.if-has_key.true)

pub loop-i-preserved : goal.loop-i-preserved
loop-i-preserved c = found_later _ c.args.elements.now c.loop-i.i _ c.loop-i-test.true c.loop-i.invariant (sym c.has_key.ensures ∙ c.if-has_key.false)
