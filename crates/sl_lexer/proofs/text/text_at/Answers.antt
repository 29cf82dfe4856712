-- The text and what its bytes write, or the wrong escape.
use Rattle.std.proofs.Common.{◌≡◌, ◌≤◌, ◌-◌, false, length, drop, take, Ok, Err, subst}
use Rattle.std.proofs.lemmas.Result.{err_from_is_err_and}
use Rattle.sl_base.specs.Quoted.{unescaped, between}
use Rattle.sl_lexer.specs.Means.Answers.{IsUnescaped}
use Rattle.sl_lexer.proofs.TextLaws.{between-slice, text-ok, text-err}
use Rattle.sl_lexer.proofs.text.text_at.Goals as goal
use Rattle.sl_lexer.proofs.text.text_at.Goals.{In-Some}

-- what the code asked about are the bytes between the quotes
asked : (c : In-Some) → take (c.in-Some.len - 1 - 1) (drop 1 c.args.rest.now) ≡ between (take c.in-Some.len c.args.rest.now)
asked c =
    let sizes : (2 ≤ c.in-Some.len) × (c.in-Some.len ≤ length c.args.rest.now) = rw c.in-Some.is at c.requires.within in
    between-slice c.args.rest.now c.in-Some.len sizes.0 sizes.1

pub returns-in_err-bytes : goal.returns-in_err-bytes
returns-in_err-bytes c =
    let p = err_from_is_err_and c.from_residual.result c.from_residual.ensures.1 in
    let e = c.in_err-bytes.field-0.0 in
    let rest = c.args.rest.now in
    let told = subst (λ bytes. IsUnescaped c.args.from (unescaped false bytes) (Err e)) (asked (goal.at.returns-in_err-bytes c).In-Some)
    c.in_err-bytes.ensures in
    rw (c.in-Some.is, p.1, p.2) (text-err c.args.from rest c.in-Some.len e told)

pub returns : goal.returns
returns c =
    let told = subst (λ bytes. IsUnescaped c.args.from (unescaped false bytes) (Ok c.in_ok-bytes.bytes)) (asked (goal.at.returns c).In-Some)
    c.in_ok-bytes.ensures in
    rw c.in-Some.is (text-ok c.args.from c.args.rest.now c.in-Some.len c.in_ok-bytes.bytes told)
