-- No word so far has these bytes: the answer is that at the words that are left.
use Rattle.std.proofs.Common.{◌≡◌, drop}
use Rattle.std.specs.List.{list_any}
use Rattle.std.specs.Str.{bytes_eq}
use Rattle.sl_lexer.proofs.keyword.any_equal.Given as goal

abbrev pub invariant-loop-word : goal.invariant-loop-word
invariant-loop-word l =
    list_any (λ word. bytes_eq word.now l.fn.name) (drop l.word-index l.words) ≡ list_any (λ word. bytes_eq word.now l.fn.name) l.words
