-- Heights that the code leaves out: each is that of the tree.
use Rattle.std.proofs.Common.{◌≡◌, ℕ, ◌+◌, ◌-◌, ◌<◌, ◌≤◌, max, List, [], ◌∷◌, ◌++◌, map, Result, Ok, Err, refl, ap, ◌∙◌, arith}
use Rattle.std.specs.Prelude.{IfOk}
use Rattle.std.proofs.lemmas.List.{map-append}
use Rattle.sl_base.specs.declared.mark.Mark.{Mark}
use Rattle.sl_base.specs.declared.token.Token.{Token}
use Rattle.sl_syntax.specs.declared.tree.expr.Expr.{Expr as ExprCode}
use Rattle.sl_syntax.specs.Depth.{height, list_height, highest}
use Rattle.sl_syntax.specs.Shaped.{IsExpr}
use Rattle.sl_syntax.specs.Tree.{Expr, Exprs}
use Rattle.sl_syntax.specs.TreeView.{expr_of}
use Rattle.sl_syntax.specs.Written.{written}
use Rattle.sl_grammar.specs.declared.fault.Fault.{Fault}
use Rattle.sl_grammar.specs.Means.Expressions.{expr, list, list_before}
use Rattle.sl_grammar.specs.Means.Steps.{Outcome, Reads, Tall}
use Rattle.sl_grammar.proofs.SoundExpressions.{sound, whole-part}
use Rattle.sl_grammar.proofs.SoundLists.{list-part, list-before-part}
use Rattle.sl_grammar.proofs.SoundSteps.{Took, Part}
use Rattle.sl_expressions.specs.Means.Nests.{measured, tall_expr}

-- the highest of one
pub one_alone : (n : ℕ) → max n 0 ≡ n
one_alone n = omega arith

-- the highest, with one more at the end
pub highest_behind : {A : Type 0} (h : A → ℕ) (xs : List A) (x : A) → highest h (xs ++ x ∷ []) ≡ max (highest h xs) (h x)
highest_behind h [] x = omega arith
highest_behind h (y ∷ xs) x = omega (arith, highest_behind h xs x)

pub pushed : {A B : Type 0} (f : A → B) (h : B → ℕ) (xs : List A) (x : A)
    → measured (highest h) (map f (xs ++ x ∷ [])) ≡ (map f xs ++ f x ∷ [], max (highest h (map f xs)) (h (f x)))
pushed f h xs x =
    let e : map f (xs ++ x ∷ []) ≡ map f xs ++ f x ∷ [] = map-append f xs (x ∷ []) in
    rw (e, highest_behind h (map f xs) (f x)) refl

pub expr_size : (depth least : ℕ) (ts : List Token) (y : Took Expr) → 1 ≤ least → least ≤ 7 → expr depth least ts ≡ Ok y → y.0.1 ≡ height y.0.0
expr_size depth least ts y some small h = (sound depth least ts y some small h).1.part.size

-- what the code has read, if anything, is as high as it says
pub sized : (depth least : ℕ) (ts new : List Token) (r : Result (ExprCode × ℕ) Fault) → 1 ≤ least → least ≤ 7
    → Reads tall_expr (expr depth least ts) r new → IfOk r (λ x. x.1 ≡ height (expr_of x.0))
sized depth least ts new (Ok x) some small h = expr_size depth least ts (tall_expr x, new) some small h
sized depth least ts new (Err e) some small h = tt

-- the same, told by another number
pub resized : {A : Type 0} {o : Outcome (Tall A)} {x : A} {n m : ℕ} {us : List Token} → o ≡ Ok ((x, n), us) → n ≡ m → o ≡ Ok ((x, m), us)
resized {x = x} {us = us} e h = e ∙ ap (λ k. Ok ((x, k), us)) h

-- an expression that is less high than the number
below : (n : ℕ) (ts : List Token) (y : Took Expr) → expr n 1 ts ≡ Ok y → (0 < n) × Part written IsExpr height (n - 1) ts y.0 y.1
below n ts y h = let found = sound n 1 ts y (omega arith) (omega arith) h in (found.0, found.1.part)

pub list_size : (n : ℕ) (ts : List Token) (y : Took Exprs) → list (expr (n + 1) 1) (expr n 1) n ts ≡ Ok y → y.0.1 ≡ list_height y.0.0
list_size n ts y h = (list-part (expr (n + 1) 1) (expr n 1) n (whole-part n) (below n) ts y h).size

pub list_before_size : (n : ℕ) (close : Mark) (ts : List Token) (y : Took Exprs) → list_before (expr (n + 1) 1) (expr n 1) n close ts ≡ Ok y
    → y.0.1 ≡ list_height y.0.0
list_before_size n close ts y h = (list-before-part (expr (n + 1) 1) (expr n 1) n (whole-part n) (below n) close ts y h).size
