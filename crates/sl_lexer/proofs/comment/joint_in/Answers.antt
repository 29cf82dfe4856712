-- One byte more that no line's end directly follows.
use Rattle.std.proofs.Common.{◌≡◌, ℕ, zero, suc, ◌+◌, ◌-◌, ◌<◌, ◌≤◌, false, List, [], ◌∷◌, length, drop, get_or, None, option_map, refl, sym, ap, ◌∙◌}
use Rattle.std.proofs.Common.{subst, arith}
use Rattle.std.proofs.lemmas.List.{drop_more, take_rest}
use Rattle.sl_base.specs.Bytes.{begins_joint}
use Rattle.sl_lexer.specs.Means.Front.{joint_in}
use Rattle.sl_lexer.proofs.CommentLaws.{counts-more}
use Rattle.sl_lexer.proofs.comment.joint_in.Goals as goal

passed : (n : ℕ) (b : ℕ) (bs : List ℕ) → begins_joint (b ∷ bs) ≡ false → joint_in (suc n) (b ∷ bs) ≡ option_map (λ k. k + 1) (joint_in n bs)
passed n b bs e = rw e refl

step : (n : ℕ) (rest : List ℕ) (i : ℕ) → i < n → n ≤ length rest → begins_joint (drop i rest) ≡ false → joint_in (n - i) (drop i rest) ≡ option_map
    (λ k. k + 1) (joint_in (n - (i + 1)) (drop (i + 1) rest))
step n rest i below within e =
    let more = drop_more rest i 0 (omega arith) in
    let less : n - i ≡ suc (n - (i + 1)) = omega arith in
    ap (λ m. joint_in m (drop i rest)) less
    ∙ ap (joint_in (suc (n - (i + 1)))) more
    ∙ passed (n - (i + 1)) (get_or rest i 0) (drop (i + 1) rest) (subst (λ r. begins_joint r ≡ false) more e)

pub loop-i-preserved : goal.loop-i-preserved
loop-i-preserved c =
    let n = c.args.len in
    let rest = c.args.rest.now in
    let i = c.loop-i.i in
    let no : begins_joint (drop i rest) ≡ false = ap begins_joint (sym (take_rest rest i)) ∙ sym c.begins_joint.ensures ∙ c.if-begins_joint.false in
    counts-more (joint_in (n - (i + 1)) (drop (i + 1) rest)) i ∙ ap (option_map (λ k. k + i)) (sym (step n rest i c.loop-i-test.true c.requires no))
    ∙ c.loop-i.invariant

none-in : (n : ℕ) (rest : List ℕ) → n ≡ 0 → joint_in n rest ≡ None
none-in n [] e = refl
none-in zero (b ∷ bs) e = refl
none-in (suc n) (b ∷ bs) e = absurd (omega arith)

pub returns-clause-count : goal.returns-clause-count
returns-clause-count c = ap (option_map (λ k. k + c.loop-i.i))
    (sym (none-in (c.args.len - c.loop-i.i) (drop c.loop-i.i c.args.rest.now) (omega arith))) ∙ c.loop-i.invariant
