-- A list that is read with its first before the others.
use Rattle.std.proofs.Common.{◌≡◌, sym, ap, ◌∙◌, ℕ, ◌+◌, max, nat_lt, true, List, [], ◌∷◌, length, Result, Ok, Err}
use Rattle.sl_base.specs.declared.mark.Mark.TheVariants as m
use Rattle.sl_base.specs.declared.token.Token.{Token}
use Rattle.sl_syntax.specs.Tree as t
use Rattle.sl_syntax.specs.Tree.{Expr, Exprs, exprs_from}
use Rattle.sl_grammar.specs.declared.fault.Fault.{Fault}
use Rattle.sl_grammar.specs.Means.Expressions.{list_behind, comma_expr}
use Rattle.sl_grammar.specs.Means.Steps.{Outcome, Reader, Tall, and_then, pure, kind_at, is_mark, repeat}
use Rattle.sl_expressions.proofs.RepeatLaws.{repeat-front}

one_ok : {A E : Type 0} {a b : A} → ◌≡◌ {A = Result A E} (Ok a) (Ok b) → a ≡ b
one_ok h = cc

abbrev as_list : Tall Expr → Tall (List Expr) → Tall Exprs
as_list x ys = (t.with x.0 (exprs_from ys.0), max x.1 ys.1 + 1)

abbrev with_first : Expr → Tall (List Expr) → Reader (Tall (List Expr))
with_first x ys us = Ok ((x ∷ ys.0, ys.1), us)

behind_ok : (x : Tall Expr) (o : Outcome (Tall (List Expr))) (xs : Tall (List Expr)) (us : List Token) → and_then o (with_first x.0) ≡ Ok (xs, us)
    → and_then o (λ ys. pure (as_list x ys)) ≡ Ok ((exprs_from xs.0, max x.1 xs.1 + 1), us)
behind_ok x (Ok (ys, vs)) xs us h = ap (λ (p : Tall (List Expr) × List Token). Ok ((exprs_from p.0.0, max x.1 p.0.1 + 1), p.1)) (one_ok h)
behind_ok x (Err e) xs us h = absurd cc

behind_err : (x : Tall Expr) (o : Outcome (Tall (List Expr))) (e : Fault) → and_then o (with_first x.0) ≡ Err e
    → and_then o (λ ys. pure (as_list x ys)) ≡ Err e
behind_err x (Ok (ys, vs)) e h = absurd cc
behind_err x (Err f) e h = cc

module _ (one more : Reader (Tall Expr)) (depth_left : ℕ) (x : Tall Expr) (ts : List Token) where
  pub list_behind-ok : (xs : Tall (List Expr)) (us : List Token) → is_mark m.Comma (kind_at ts) ≡ true → nat_lt x.1 depth_left ≡ true
      → repeat (is_mark m.Comma) (comma_expr one more depth_left) (length ts) (x.0 ∷ [], 0) ts ≡ Ok (xs, us)
      → list_behind one more depth_left x ts ≡ Ok ((exprs_from xs.0, max x.1 xs.1 + 1), us)
  unfolding list_behind
  list_behind-ok xs us h lt e =
      rw (h, lt) (behind_ok x _ xs us (sym (repeat-front (is_mark m.Comma) (comma_expr one more depth_left) (x.0 ∷ []) (length ts) ([], 0) ts) ∙ e))

  pub list_behind-err : (e : Fault) → is_mark m.Comma (kind_at ts) ≡ true → nat_lt x.1 depth_left ≡ true
      → repeat (is_mark m.Comma) (comma_expr one more depth_left) (length ts) (x.0 ∷ [], 0) ts ≡ Err e → list_behind one more depth_left x ts ≡ Err e
  unfolding list_behind
  list_behind-err e h lt f =
      rw (h, lt) (behind_err x _ e (sym (repeat-front (is_mark m.Comma) (comma_expr one more depth_left) (x.0 ∷ []) (length ts) ([], 0) ts) ∙ f))
