-- A name that is short enough is answered with the word that its bytes say.
use Rattle.std.proofs.Common.{◌≡◌, ℕ, cond, ltb, List, length, take, Option, Some, Result, Ok, Err, ap, ◌∙◌}
use Rattle.std.specs.List.{prefix_len}
use Rattle.std.proofs.lemmas.List.Folds.{length-prefix_len}
use Rattle.sl_base.specs.Bytes.{is_name_byte}
use Rattle.sl_base.specs.Pieces.{name_piece, word_of}
use Rattle.sl_base.specs.declared.limits.TheConstants.{NAME_BYTES}
use Rattle.sl_base.specs.declared.word.Word.{Word}
use Rattle.sl_lexer.specs.Means.Answers.{answer_of}
use Rattle.sl_lexer.specs.Means.Front.{judged}
use Rattle.sl_lexer.specs.declared.error.LexErr.{LexErr}
use Rattle.sl_lexer.specs.declared.front.Front.{Front}
use Rattle.sl_lexer.proofs.WordLaws.{taken}
use Rattle.sl_lexer.proofs.name.name_front.Goals as goal

named : (from : ℕ) (rest : List ℕ) (name : List ℕ) (w : Word) (e : LexErr)
    → Ok name ≡ cond (ltb NAME_BYTES (prefix_len is_name_byte rest)) (Err e) (Ok (take (prefix_len is_name_byte rest) rest))
    → Some w ≡ word_of name_piece name
    → Ok (record { word = Some w; len = length name }) ≡ answer_of from rest (judged name_piece (prefix_len is_name_byte rest) rest)
named from rest name w e told said =
    let n = prefix_len is_name_byte rest in
    let t = taken (ltb NAME_BYTES n) e name (take n rest) told in
    let by_len : ℕ → Result Front LexErr = λ k. Ok (record { word = Some w; len = k }) in
    let by_word : Option Word → Result Front LexErr = λ x. Ok (record { word = x; len = n }) in
    rw t.0 (ap by_len (ap length t.1 ∙ length-prefix_len is_name_byte rest) ∙ ap by_word (said ∙ ap (word_of name_piece) t.1))

pub returns : goal.returns
returns c = rw c.as_slice-len.ensures.value
    (named c.args.from c.args.rest.now c.in_ok-name.name c.word_of.result _ c.in_ok-name.ensures c.word_of.ensures)
