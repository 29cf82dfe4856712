-- An expression is read from its operand, by readers that are one node and two nodes deeper.
use Rattle.std.proofs.Common.{◌≡◌, refl, ℕ, zero, suc, ◌-◌, ◌<◌, List, arith}
use Rattle.sl_base.specs.declared.token.Token.{Token}
use Rattle.sl_grammar.specs.Means.Expressions.{expr, from_operand}

behind : (depth_left least : ℕ) (ts : List Token)
    → expr (suc depth_left) least ts ≡ from_operand (expr depth_left) (expr (depth_left - 1)) depth_left least ts
unfolding expr
behind zero least ts = refl
behind (suc depth_left) least ts = let e : suc depth_left - 1 ≡ depth_left = omega arith in rw e refl

pub expr-from_operand : (depth least : ℕ) (ts : List Token) → 0 < depth
    → expr depth least ts ≡ from_operand (expr (depth - 1)) (expr (depth - 1 - 1)) (depth - 1) least ts
expr-from_operand zero least ts h = absurd (omega arith)
expr-from_operand (suc depth_left) least ts h =
    let e : suc depth_left - 1 ≡ depth_left = omega arith in
    rw e (behind depth_left least ts)
