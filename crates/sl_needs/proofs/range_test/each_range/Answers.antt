use Rattle.std.proofs.Common.{arith}
use Rattle.sl_needs.specs.Means.Ranges.{range_fails}
use Rattle.sl_needs.proofs.LetterLaws.{one_letter}
use Rattle.sl_needs.proofs.range_test.each_range.Goals as goal

pub loop-letter-preserved : goal.loop-letter-preserved
loop-letter-preserved c = record {
  near = let few = c.width-number.ensures.few in let near = c.loop-letter.invariant.near in omega arith;
  counts = λ s h. one_letter (range_fails c.args.test s) c.args.letters.now c.loop-letter.letter-index c.loop-letter.number
      c.width-number.result _ _ c.loop-letter.failure c.letter_failure.result c.earlier-failure.result c.loop-letter-test.true
      c.width-number.ensures.value (c.letter_failure.ensures s h) c.earlier-failure.ensures (c.loop-letter.invariant.counts s h);
}
