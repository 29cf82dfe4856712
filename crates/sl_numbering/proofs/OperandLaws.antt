-- Arguments that are handed over one by one, from the first.
use Rattle.std.proofs.Common.{◌≡◌, ℕ, ◌+◌, ◌<◌, ◌≤◌, List, [], ◌∷◌, ◌++◌, length, get_or, drop, refl, ap, ◌∙◌, sym, arith, length-append, drop-cons, add-one}
use Rattle.sl_base.specs.declared.limits.TheConstants.{SITES}
use Rattle.sl_syntax.specs.declared.tree.expr.Expr.{Expr as ExprCode}
use Rattle.sl_syntax.specs.declared.typed.expr.Expr.{Expr as TypedCode}
use Rattle.sl_syntax.specs.Tree as s
use Rattle.sl_syntax.specs.TreeView.{expr_of, exprs_of}
use Rattle.sl_syntax.specs.Typed as t
use Rattle.sl_syntax.specs.Typed.{Operands}
use Rattle.sl_syntax.specs.TypedView as view
use Rattle.sl_typing.specs.declared.scope.Scope.{Scope}
use Rattle.sl_typing.specs.Numbering.{Way, typed, operands, handed, first_way, other_ways}
use Rattle.sl_typing.specs.Sites.{sites_in, sites_in_all, site_count}
use Rattle.sl_typing.specs.TypeOf.{type_of}
use Rattle.sl_numbering.proofs.SiteLaws.{count_all}

-- operands before others
abbrev pub before_others : Operands → Operands → Operands
before_others t.none es = es
before_others (t.with d ds) es = t.with d (before_others ds es)

pub before_none : (es : Operands) → before_others es t.none ≡ es
before_none t.none = refl
before_none (t.with e es) = ap (t.with e) (before_none es)

pub before_pushed : (xs : List TypedCode) (x : TypedCode) (es : Operands)
    → before_others (view.operands_of (xs ++ x ∷ [])) es ≡ before_others (view.operands_of xs) (t.with (view.expr_of x) es)
before_pushed [] x es = refl
before_pushed (y ∷ ys) x es = ap (t.with (view.expr_of y)) (before_pushed ys x es)

-- the arguments from a place on
abbrev pub from_place : ℕ → List ExprCode → s.Exprs
from_place i xs = exprs_of (drop i xs)

next_argument : (xs : List ExprCode) (i : ℕ) (d : ExprCode) → i < length xs
    → from_place i xs ≡ s.with (expr_of (get_or xs i d)) (from_place (i + 1) xs)
next_argument xs i d within = rw (add-one, drop-cons xs i d within) refl

operands_step : (g : Scope) (n : ℕ) (ws : List Way) (x : s.Expr) (xs : s.Exprs)
    → operands g n ws (s.with x xs) ≡ t.with (handed (first_way ws) (type_of g x) (typed g n x)) (operands g (n + site_count g x) (other_ways ws) xs)
unfolding operands
operands_step g n ws x xs = refl

operands_end : (g : Scope) (n : ℕ) (ws : List Way) → operands g n ws s.none ≡ t.none
unfolding operands
operands_end g n ws = refl

count_step : (g : Scope) (x : s.Expr) (xs : s.Exprs) → count_all g (s.with x xs) ≡ site_count g x + count_all g xs
unfolding sites_in_all site_count
count_step g x xs = length-append (sites_in g x) (sites_in_all g xs)

-- the sites in arguments from a place on
pub count_from : (g : Scope) (xs : List ExprCode) (i : ℕ) (d : ExprCode) → i < length xs
    → count_all g (from_place i xs) ≡ site_count g (expr_of (get_or xs i d)) + count_all g (from_place (i + 1) xs)
count_from g xs i d within = ap (count_all g) (next_argument xs i d within) ∙ count_step g (expr_of (get_or xs i d)) (from_place (i + 1) xs)

-- what is handed over when one more argument is
pub more_operands : (g : Scope) (n m : ℕ) (ws vs : List Way) (xs : List ExprCode) (i : ℕ) (d : ExprCode) (done : List TypedCode) (e : TypedCode)
    (whole : Operands) → i < length xs → m ≡ n + site_count g (expr_of (get_or xs i d)) → vs ≡ other_ways ws
    → view.expr_of e ≡ handed (first_way ws) (type_of g (expr_of (get_or xs i d))) (typed g n (expr_of (get_or xs i d)))
    → before_others (view.operands_of done) (operands g n ws (from_place i xs)) ≡ whole
    → before_others (view.operands_of (done ++ e ∷ [])) (operands g m vs (from_place (i + 1) xs)) ≡ whole
more_operands g n m ws vs xs i d done e whole within m_is vs_is e_is h =
    before_pushed done e (operands g m vs (from_place (i + 1) xs))
    ∙ rw (e_is, m_is, vs_is) (sym (ap (before_others (view.operands_of done))
    (ap (operands g n ws) (next_argument xs i d within) ∙ operands_step g n ws (expr_of (get_or xs i d)) (from_place (i + 1) xs)))
    ∙ h)

-- what is handed over when none is left
pub all_operands : (g : Scope) (n : ℕ) (ws : List Way) (xs : List ExprCode) (i : ℕ) (done : List TypedCode) (whole : Operands)
    → drop i xs ≡ [] → before_others (view.operands_of done) (operands g n ws (from_place i xs)) ≡ whole → view.operands_of done ≡ whole
all_operands g n ws xs i done whole none_left h =
    sym (ap (before_others (view.operands_of done)) (ap (λ (ys : List ExprCode). operands g n ws (exprs_of ys)) none_left ∙ operands_end g n ws)
    ∙ before_none (view.operands_of done))
    ∙ h

-- the sites in the argument at a place fit, and so do those behind it
pub argument_fits : (g : Scope) (n : ℕ) (xs : List ExprCode) (i : ℕ) (x : ExprCode) → i < length xs → x ≡ get_or xs i x
    → n + count_all g (from_place i xs) ≤ SITES → n + site_count g (expr_of x) ≤ SITES
argument_fits g n xs i x within is h = omega (arith, h, count_from g xs i x within, ap (λ (y : ExprCode). site_count g (expr_of y)) is)

pub rest_fits : (g : Scope) (n m : ℕ) (xs : List ExprCode) (i : ℕ) (x : ExprCode) → i < length xs → x ≡ get_or xs i x
    → m ≡ site_count g (expr_of x) → n + count_all g (from_place i xs) ≤ SITES → n + m + count_all g (from_place (i + 1) xs) ≤ SITES
rest_fits g n m xs i x within is m_is h = omega (arith, h, m_is, count_from g xs i x within, ap (λ (y : ExprCode). site_count g (expr_of y)) is)
