-- A statement is read by its first word.
use Rattle.std.proofs.Common.{◌≡◌, refl, ℕ, zero, suc, ◌-◌, ◌<◌, List, Err, arith}
use Rattle.sl_base.specs.declared.token.Token.{Token}
use Rattle.sl_grammar.specs.Means.Statements.{stmt, stmt_by}
use Rattle.sl_grammar.specs.Means.Steps.{kind_at, refusal}

pub stmt-none : (depth_left : ℕ) (ts : List Token) → depth_left ≡ 0 → stmt depth_left ts ≡ Err (refusal ts)
unfolding stmt
stmt-none zero ts h = refl
stmt-none (suc depth_left) ts h = absurd (omega arith)

pub stmt-first : (depth_left : ℕ) (ts : List Token) → 0 < depth_left
    → stmt depth_left ts ≡ stmt_by (stmt (depth_left - 1)) (depth_left - 1) (kind_at ts) ts
unfolding stmt
stmt-first zero ts h = absurd (omega arith)
stmt-first (suc depth_left) ts h = let e : suc depth_left - 1 ≡ depth_left = omega arith in rw e refl
