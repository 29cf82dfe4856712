use Rattle.std.proofs.Common.{◌≡◌, take, vec_len}
use Rattle.sl_base.specs.RealWords.{names_of_words}
use Rattle.sl_base.proofs.outside.real_files.RealFiles.new.Given as goal

abbrev pub invariant-loop-word : goal.invariant-loop-word
invariant-loop-word g l = record {
  one_each : vec_len l.opened ≡ vec_len l.copies;
  copied : names_of_words l.copies.items ≡ names_of_words (take l.word-index l.words);
}
