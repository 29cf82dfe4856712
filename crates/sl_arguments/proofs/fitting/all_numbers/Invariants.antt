use Rattle.std.proofs.Common.{◌≡◌, drop}
use Rattle.sl_arguments.specs.Means.Sorts.{all_number}
use Rattle.sl_arguments.proofs.fitting.all_numbers.Given as goal

abbrev pub invariant-loop-value : goal.invariant-loop-value
invariant-loop-value l = all_number l.values ≡ all_number (drop l.value-index l.values)
