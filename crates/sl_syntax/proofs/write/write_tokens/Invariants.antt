use Rattle.std.proofs.Common.{◌≡◌, ◌++◌, drop, flat_map}
use Rattle.sl_syntax.proofs.FunctionWords.{function_words_of}
use Rattle.sl_syntax.proofs.write.write_tokens.Given as goal

abbrev pub invariant-loop-function : goal.invariant-loop-function
invariant-loop-function l =
    l.out ++ flat_map function_words_of (drop l.function-index l.p.functions.items) ≡ flat_map function_words_of l.p.functions.items
