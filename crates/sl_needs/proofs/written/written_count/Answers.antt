use Rattle.std.proofs.Common.{ℤ, List, map, ap, ◌∙◌}
use Rattle.sl_model.specs.LibraryCalls.Situation.{range_keys}
use Rattle.sl_arguments.specs.Readings.{key_of}
use Rattle.sl_needs.specs.Means.Merging.{counted}
use Rattle.sl_needs.proofs.WrittenCounts.{counts_written}
use Rattle.sl_needs.proofs.written.written_count.Goals as goal

pub returns : goal.returns
returns c = λ s h e. c.counted.ensures
    ∙ (ap (λ (xs : List ℤ). counted c.args.call xs (map key_of c.range-2.result.now)) (c.range.ensures.keys s h)
    ∙ (ap (λ (ys : List ℤ). counted c.args.call (range_keys s 1) ys) (c.range-2.ensures.keys s h) ∙ counts_written c.args.call s e))
