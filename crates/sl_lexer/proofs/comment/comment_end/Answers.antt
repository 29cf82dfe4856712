-- One byte more at which no `*/` begins.
use Rattle.std.proofs.Common.{◌≡◌, ℕ, ◌+◌, ◌<◌, ◌==◌, ◌&&◌, false, List, ◌∷◌, length, drop, get_or, option_map, refl, sym, ap, ◌∙◌, arith}
use Rattle.std.proofs.lemmas.Bool.{and_left, and_right, ne_eqb}
use Rattle.std.proofs.lemmas.List.{drop_more, take_rest}
use Rattle.sl_base.specs.Bytes.{begins}
use Rattle.sl_base.specs.Comments.{comment_end}
use Rattle.sl_lexer.proofs.CommentLaws.{counts-more}
use Rattle.sl_lexer.proofs.comment.comment_end.Goals as goal
use Rattle.sl_lexer.proofs.comment.comment_end.Goals.{else-byte-eq42-via-then-byte-eq42+else-begins, else-byte-eq42-via-else-byte-eq42}

passed : (b : ℕ) (bs : List ℕ) → ((b == 42) && begins (λ c. c == 47) bs) ≡ false → comment_end (b ∷ bs) ≡ option_map (λ k. k + 1) (comment_end bs)
passed b bs e = rw e refl

step : (rest : List ℕ) (i : ℕ) → i < length rest → ((get_or rest i 0 == 42) && begins (λ c. c == 47) (drop (i + 1) rest)) ≡ false
    → comment_end (drop i rest) ≡ option_map (λ k. k + 1) (comment_end (drop (i + 1) rest))
step rest i within e = ap comment_end (drop_more rest i 0 within) ∙ passed (get_or rest i 0) (drop (i + 1) rest) e

pub loop-i-preserved : goal.loop-i-preserved
loop-i-preserved c =
    let rest = c.args.rest.now in
    let i = c.loop-i.i in
    let no : ((get_or rest i 0 == 42) && begins (λ c. c == 47) (drop (i + 1) rest)) ≡ false =
    elim c.else-byte-eq42.branch [
      | else-byte-eq42-via-then-byte-eq42+else-begins w ↦ and_right _ _
          (ap (begins (λ c. c == 47)) (sym (take_rest rest (i + 1))) ∙ sym w.begins.ensures ∙ w.if-begins.false)
      | else-byte-eq42-via-else-byte-eq42 w ↦ and_left _ _ (ne_eqb _ _ w.if-byte-eq42.false)
    ] in
    counts-more (comment_end (drop (i + 1) rest)) i ∙ ap (option_map (λ k. k + i)) (sym (step rest i (omega arith) no)) ∙ c.loop-i.invariant
