use Rattle.std.proofs.Common.{ℕ, ◌+◌, drop}
use Rattle.sl_syntax.specs.Begins.{words_in}
use Rattle.sl_tool.specs.Means.Reading.{scope_of}
use Rattle.sl_tool.specs.Means.Slots.{Fit}
use Rattle.sl_tool.proofs.reading.stopping.fitting.Given as goal

abbrev pub invariant-loop-k : goal.invariant-loop-k
invariant-loop-k l = (n : ℕ) → Fit (scope_of l.reader) (drop l.k l.slots) (drop l.k (words_in l.tokens)) n
    → Fit (scope_of l.reader) l.slots (words_in l.tokens) (l.k + n)
