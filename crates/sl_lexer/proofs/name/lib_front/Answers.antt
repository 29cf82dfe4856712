-- A name behind `std::` that is short enough is answered with its word.
use Rattle.std.proofs.Common.{◌≡◌, ℕ, false, ◌+◌, cond, ltb, List, length, take, drop, Some, Result, Ok, Err, sym, ap, ◌∙◌, subst, arith}
use Rattle.std.specs.List.{prefix_len}
use Rattle.std.proofs.lemmas.Bool.{ltb-false, le-ltb}
use Rattle.std.proofs.lemmas.List.{drop-take, take_rest}
use Rattle.std.proofs.lemmas.List.Folds.{length-prefix_len}
use Rattle.sl_base.specs.Bytes.{is_name_byte}
use Rattle.sl_base.specs.Pieces.{lib_piece}
use Rattle.sl_base.specs.declared.limits.TheConstants.{NAME_BYTES}
use Rattle.sl_base.specs.declared.word.Word.TheVariants.{Lib}
use Rattle.sl_lexer.specs.Means.Answers.{answer_of}
use Rattle.sl_lexer.specs.Means.Front.{judged}
use Rattle.sl_lexer.specs.declared.error.LexErr.{LexErr}
use Rattle.sl_lexer.specs.declared.front.Front.{Front}
use Rattle.sl_lexer.proofs.WordLaws.{taken}
use Rattle.sl_lexer.proofs.name.lib_front.Goals as goal

-- what `name_at` tells of the bytes behind `std::`
abbrev IsTaken : List ℕ → LexErr → List ℕ → Type 0
IsTaken name e behind = Ok name ≡ cond (ltb NAME_BYTES (prefix_len is_name_byte behind)) (Err e) (Ok (take (prefix_len is_name_byte behind) behind))

named : (from : ℕ) (rest : List ℕ) (name : List ℕ) (e : LexErr) → IsTaken name e (drop 5 rest)
    → Ok (record { word = Some (Lib name); len = 5 + length name }) ≡ answer_of from rest
    (judged lib_piece (5 + prefix_len is_name_byte (drop 5 rest)) rest)
named from rest name e told =
    let behind = drop 5 rest in
    let n = prefix_len is_name_byte behind in
    let t = taken (ltb NAME_BYTES n) e name (take n behind) told in
    let short : ltb (5 + NAME_BYTES) (5 + n) ≡ false = le-ltb (5 + NAME_BYTES) (5 + n) (omega (arith, ltb-false NAME_BYTES n t.0)) in
    let by_len : ℕ → Result Front LexErr = λ k. Ok (record { word = Some (Lib name); len = 5 + k }) in
    let by_name : List ℕ → Result Front LexErr = λ bytes. Ok (record { word = Some (Lib bytes); len = 5 + n }) in
    rw short (ap by_len (ap length t.1 ∙ length-prefix_len is_name_byte behind) ∙ ap by_name (t.1 ∙ sym (drop-take 5 n rest)))

pub returns : goal.returns
returns c =
    let rest = c.args.rest.now in
    rw c.as_slice.ensures.value
    (named c.args.from rest c.in_ok-name.name _ (subst (IsTaken c.in_ok-name.name _) (take_rest rest 5) c.in_ok-name.ensures))
