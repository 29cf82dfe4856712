-- Sites of expressions, variant by variant.
use Rattle.std.proofs.Common.{◌≡◌, ℕ, ◌<◌, ◌≤◌, ◌+◌, ◌==◌, min, Bool, false, ◌&&◌, List, length, Box, Vec, sym, ap, ◌∙◌, arith, inl, inr}
use Rattle.std.proofs.lemmas.Bool.{cases_lt}
use Rattle.std.proofs.lemmas.Grind.{common_steps}
use Rattle.std.specs.declared.alloc.Global.{Global}
use Rattle.sl_base.specs.declared.limits.TheConstants.{SITES}
use Rattle.sl_base.specs.declared.place.Place.{Place}
use Rattle.sl_syntax.specs.declared.tree.expr.Expr.{Expr as ExprCode}
use Rattle.sl_syntax.specs.declared.tree.expr.Expr.TheVariants as e
use Rattle.sl_syntax.specs.declared.tree.identifier.Identifier.{Identifier}
use Rattle.sl_syntax.specs.Tree.{Expr}
use Rattle.sl_syntax.specs.TreeView.{expr_of, exprs_of}
use Rattle.sl_typing.specs.declared.expr_type.ExprType.{ExprType}
use Rattle.sl_typing.specs.declared.scope.Scope.{Scope}
use Rattle.sl_typing.specs.Looks.{is_plain}
use Rattle.sl_typing.specs.TypeOf.{type_of, appends}
use Rattle.sl_typing.specs.Sites.{is_site, is_member_site, is_subscript_site}
use Rattle.sl_expr_types.specs.Capped.{capped}
use Rattle.sl_expr_types.proofs.LastLaws.{size-exprs_of}
use Rattle.sl_expr_types.proofs.Views.{expr_of-Call, expr_of-LibraryCall, expr_of-Parentheses, expr_of-Prefix, expr_of-Binary, expr_of-Postfix}
use Rattle.sl_expr_types.proofs.Views.{expr_of-Index, expr_of-MemberCall, expr_of-Member}

-- how far the parts pass the number of sites changes nothing
pub capped-+ : (m n : ℕ) → capped (m + n) ≡ capped (capped m + capped n)
unfolding capped
capped-+ m n = omega arith

pub capped-left : (m n : ℕ) → capped (capped m + n) ≡ capped (m + n)
unfolding capped
capped-left m n = omega arith

pub capped-right : (m n : ℕ) → capped (m + capped n) ≡ capped (m + n)
unfolding capped
capped-right m n = omega arith

pub capped-small : (n : ℕ) → n ≤ SITES → capped n ≡ n
unfolding capped
capped-small n h = omega arith

-- a number as far as it counts is the last one that a text may have only if it is so itself
pub capped-SITES : (n : ℕ) → (capped n == SITES) ≡ (n == SITES)
unfolding capped
capped-SITES n = elim (cases_lt SITES n) as (λ _. (min n (SITES + 1) == SITES) ≡ (n == SITES)) [
  | inl h ↦ not_it (min n (SITES + 1)) (omega arith) ∙ sym (not_it n h)
  | inr h ↦ let e : min n (SITES + 1) ≡ n = omega arith in ap (λ (k : ℕ). k == SITES) e
]
  where
    not_it : (k : ℕ) → SITES < k → (k == SITES) ≡ false
    not_it k h = grind (arith, common_steps)

is_site-as : (g : Scope) (x : ExprCode) (y : Expr) → expr_of x ≡ y → is_site g (expr_of x) ≡ is_site g y
is_site-as g x y k = ap (is_site g) k

pub site-MemberCall : (g : Scope) (x : Box ExprCode Global) (f : Identifier) (v : Vec ExprCode Global) → is_site g (expr_of (e.MemberCall x f v))
    ≡ (is_plain (expr_of x.value) && is_member_site (type_of g (expr_of x.value)) f.name (length v.items))
unfolding is_site
site-MemberCall g x f v =
    is_site-as g (e.MemberCall x f v) _ (expr_of-MemberCall x f v)
    ∙ ap (λ (n : ℕ). is_plain (expr_of x.value) && is_member_site (type_of g (expr_of x.value)) f.name n) (size-exprs_of v.items)

pub site-Index : (g : Scope) (x : Box ExprCode Global) (p : Place) (y : Box ExprCode Global)
    → is_site g (expr_of (e.Index x p y)) ≡ is_subscript_site (type_of g (expr_of x.value))
unfolding is_site
site-Index g x p y = is_site-as g (e.Index x p y) _ (expr_of-Index x p y)

pub site-LibraryCall : (g : Scope) (f : Identifier) (v : Vec ExprCode Global)
    → is_site g (expr_of (e.LibraryCall f v)) ≡ appends f.name (exprs_of v.items)
unfolding is_site
site-LibraryCall g f v = is_site-as g (e.LibraryCall f v) _ (expr_of-LibraryCall f v)

pub ruleset is_site_laws = (
  site-MemberCall,
  site-Index,
  site-LibraryCall,
  expr_of-Call,
  expr_of-Parentheses,
  expr_of-Prefix,
  expr_of-Binary,
  expr_of-Postfix,
  expr_of-Member,
)

-- an expression of the code is a site
abbrev pub site_at : Scope → ExprCode → Bool
site_at g x = is_site g (expr_of x)

-- whether a member call is a site, from what is found of its parts
pub member-site : (g : Scope) (x : Box ExprCode Global) (f : Identifier) (v : Vec ExprCode Global) (b c : Bool) (u : ExprType) (name : List ℕ) (n : ℕ)
    → b ≡ is_plain (expr_of x.value) → c ≡ is_member_site u name n → u ≡ type_of g (expr_of x.value) → name ≡ f.name → n ≡ length v.items
    → (b && c) ≡ is_site g (expr_of (e.MemberCall x f v))
member-site g x f v b c u name n is_b is_c is_u is_name is_n =
    ap (λ (d : Bool). d && c) is_b
    ∙ ap (λ (d : Bool). is_plain (expr_of x.value) && d) is_c
    ∙ ap (λ (w : ExprType). is_plain (expr_of x.value) && is_member_site w name n) is_u
    ∙ ap (λ (w : List ℕ). is_plain (expr_of x.value) && is_member_site (type_of g (expr_of x.value)) w n) is_name
    ∙ ap (λ (w : ℕ). is_plain (expr_of x.value) && is_member_site (type_of g (expr_of x.value)) f.name w) is_n
    ∙ sym (site-MemberCall g x f v)

-- whether a call of an algorithm is
pub library-site : (g : Scope) (f : Identifier) (v : Vec ExprCode Global) (b : Bool) (name : List ℕ) (xs : List ExprCode)
    → b ≡ appends name (exprs_of xs) → name ≡ f.name → xs ≡ v.items → b ≡ is_site g (expr_of (e.LibraryCall f v))
library-site g f v b name xs is_b is_name is_xs =
    is_b
    ∙ ap (λ (w : List ℕ). appends w (exprs_of xs)) is_name
    ∙ ap (λ (ys : List ExprCode). appends f.name (exprs_of ys)) is_xs
    ∙ sym (site-LibraryCall g f v)
