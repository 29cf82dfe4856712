-- What is known behind an expression, variant by variant: its sites behind those of its parts.
use Rattle.std.proofs.Common.{◌≡◌, refl, List, [], ◌∷◌, ◌++◌, ap, sym, ◌∙◌, append_assoc, append-nil, map, ℕ, ◌+◌, ◌<◌, drop, get_or, length}
use Rattle.std.specs.declared.alloc.Global.{Global}
use Rattle.std.specs.declared.alloc.AllocError.{AllocError}
use Rattle.std.proofs.Common.{Box, Vec, Result, OnOk}
use Rattle.std.proofs.lemmas.List.{at_drop_more}
use Rattle.std.proofs.lemmas.Result.{IfOk-equal}
use Rattle.sl_base.specs.declared.place.Place.{Place}
use Rattle.sl_syntax.specs.declared.operator.BinaryOperator.{BinaryOperator}
use Rattle.sl_syntax.specs.declared.operator.PostfixOperator.{PostfixOperator}
use Rattle.sl_syntax.specs.declared.operator.PrefixOperator.{PrefixOperator}
use Rattle.sl_syntax.specs.declared.operator.Selector.{Selector}
use Rattle.sl_syntax.specs.declared.tree.expr.Expr.{Expr as ExprCode}
use Rattle.sl_syntax.specs.declared.tree.expr.Expr.TheVariants as e
use Rattle.sl_syntax.specs.declared.tree.identifier.Identifier.{Identifier}
use Rattle.sl_syntax.specs.Tree as s
use Rattle.sl_syntax.specs.Tree.{Expr, Exprs}
use Rattle.sl_syntax.specs.TreeView.{expr_of, exprs_of}
use Rattle.sl_syntax.proofs.TreeViews.{expr_of-Call, expr_of-LibraryCall, expr_of-Parentheses, expr_of-Prefix, expr_of-Binary, expr_of-Postfix}
use Rattle.sl_syntax.proofs.TreeViews.{expr_of-Index, expr_of-MemberCall, expr_of-Member}
use Rattle.sl_typing.specs.Contexts.{Context, with_sites}
use Rattle.sl_typing.specs.Sites.{own_site, sites_in, sites_in_all, behind, behind_all}

-- the last call of a walk
pub passed : {A : Type 0} (r : Result A AllocError) (new mid behind_it : Context) → OnOk r (new ≡ mid) → behind_it ≡ mid → OnOk r (new ≡ behind_it)
passed r new mid behind_it h e = IfOk-equal r new mid behind_it h (sym e)

-- no sites
pub no_sites : (g : Context) → with_sites [] g ≡ g
no_sites g = ap (λ (l : List Place). record g { sites = l }) (append-nil g.sites)

-- sites behind sites
more_sites : (g : Context) (xs ys : List Place) → with_sites ys (with_sites xs g) ≡ with_sites (xs ++ ys) g
more_sites g xs ys = ap (λ (l : List Place). record g { sites = l }) (append_assoc g.sites xs ys)

-- behind a node that is known as data
as_data : (g : Context) (x : ExprCode) (y : Expr) → expr_of x ≡ y → behind g (expr_of x) ≡ behind g y
as_data g x y e = ap (behind g) e

-- what is known at the word of a node
abbrev pub at_own : Context → ExprCode → Context
at_own g x = with_sites (own_site g.scope (expr_of x)) g

pub behind-Number : (g : Context) (p : Place) (v : _) → behind g (expr_of (e.Number p v)) ≡ g
unfolding sites_in
behind-Number g p v = no_sites g

pub behind-Truth : (g : Context) (p : Place) (v : _) → behind g (expr_of (e.Truth p v)) ≡ g
unfolding sites_in
behind-Truth g p v = no_sites g

pub behind-Name : (g : Context) (x : Identifier) → behind g (expr_of (e.Name x)) ≡ g
unfolding sites_in
behind-Name g x = no_sites g

pub behind-Call : (g : Context) (f : Identifier) (xs : Vec ExprCode Global) → behind g (expr_of (e.Call f xs)) ≡ behind_all g (exprs_of xs.items)
unfolding sites_in
behind-Call g f xs = as_data g (e.Call f xs) _ (expr_of-Call f xs)

pub behind-LibraryCall : (g : Context) (f : Identifier) (xs : Vec ExprCode Global)
    → behind g (expr_of (e.LibraryCall f xs)) ≡ behind_all (at_own g (e.LibraryCall f xs)) (exprs_of xs.items)
unfolding sites_in
behind-LibraryCall g f xs =
    let w = e.LibraryCall f xs in let d = s.library_call f (exprs_of xs.items) in
    as_data g w d (expr_of-LibraryCall f xs)
    ∙ sym (more_sites g (own_site g.scope d) (sites_in_all g.scope (exprs_of xs.items)))
    ∙ ap (λ (x : Expr). behind_all (with_sites (own_site g.scope x) g) (exprs_of xs.items)) (sym (expr_of-LibraryCall f xs))

pub behind-Parentheses : (g : Context) (p : Place) (x : Box ExprCode Global) → behind g (expr_of (e.Parentheses p x)) ≡ behind g (expr_of x.value)
unfolding sites_in
behind-Parentheses g p x = as_data g (e.Parentheses p x) _ (expr_of-Parentheses p x)

pub behind-Prefix : (g : Context) (op : PrefixOperator) (p : Place) (x : Box ExprCode Global)
    → behind g (expr_of (e.Prefix op p x)) ≡ behind g (expr_of x.value)
unfolding sites_in
behind-Prefix g op p x = as_data g (e.Prefix op p x) _ (expr_of-Prefix op p x)

pub behind-Binary : (g : Context) (x : Box ExprCode Global) (op : BinaryOperator) (p : Place) (y : Box ExprCode Global)
    → behind g (expr_of (e.Binary x op p y)) ≡ behind (behind g (expr_of x.value)) (expr_of y.value)
unfolding sites_in
behind-Binary g x op p y =
    as_data g (e.Binary x op p y) _ (expr_of-Binary x op p y)
    ∙ sym (more_sites g (sites_in g.scope (expr_of x.value)) (sites_in g.scope (expr_of y.value)))

pub behind-Postfix : (g : Context) (x : Box ExprCode Global) (op : PostfixOperator) (p : Place)
    → behind g (expr_of (e.Postfix x op p)) ≡ behind g (expr_of x.value)
unfolding sites_in
behind-Postfix g x op p = as_data g (e.Postfix x op p) _ (expr_of-Postfix x op p)

pub behind-Index : (g : Context) (x : Box ExprCode Global) (p : Place) (y : Box ExprCode Global)
    → behind g (expr_of (e.Index x p y)) ≡ behind (at_own (behind g (expr_of x.value)) (e.Index x p y)) (expr_of y.value)
unfolding sites_in
behind-Index g x p y =
    let d = s.index (expr_of x.value) p (expr_of y.value) in
    let left = sites_in g.scope (expr_of x.value) in
    as_data g (e.Index x p y) d (expr_of-Index x p y)
    ∙ sym (more_sites g (left ++ own_site g.scope d) (sites_in g.scope (expr_of y.value)))
    ∙ ap (λ (h : Context). behind h (expr_of y.value)) (sym (more_sites g left (own_site g.scope d)))
    ∙ ap (λ (z : Expr). behind (with_sites (own_site g.scope z) (behind g (expr_of x.value))) (expr_of y.value)) (sym (expr_of-Index x p y))

pub behind-MemberCall : (g : Context) (x : Box ExprCode Global) (f : Identifier) (xs : Vec ExprCode Global)
    → behind g (expr_of (e.MemberCall x f xs)) ≡ behind_all (at_own (behind g (expr_of x.value)) (e.MemberCall x f xs)) (exprs_of xs.items)
unfolding sites_in
behind-MemberCall g x f xs =
    let d = s.member_call (expr_of x.value) f (exprs_of xs.items) in
    let left = sites_in g.scope (expr_of x.value) in
    as_data g (e.MemberCall x f xs) d (expr_of-MemberCall x f xs)
    ∙ sym (more_sites g (left ++ own_site g.scope d) (sites_in_all g.scope (exprs_of xs.items)))
    ∙ ap (λ (h : Context). behind_all h (exprs_of xs.items)) (sym (more_sites g left (own_site g.scope d)))
    ∙ ap (λ (z : Expr). behind_all (with_sites (own_site g.scope z) (behind g (expr_of x.value))) (exprs_of xs.items)) (sym (expr_of-MemberCall x f xs))

pub behind-Member : (g : Context) (x : Box ExprCode Global) (l : Selector) (p : Place) (f : Identifier)
    → behind g (expr_of (e.Member x l p f)) ≡ behind g (expr_of x.value)
unfolding sites_in
behind-Member g x l p f = as_data g (e.Member x l p f) _ (expr_of-Member x l p f)

-- behind no expressions, and behind one and more
pub behind_all-nil : (g : Context) → behind_all g (exprs_of []) ≡ g
unfolding sites_in_all
behind_all-nil g = no_sites g

pub behind_all-cons : (g : Context) (x : ExprCode) (xs : List ExprCode)
    → behind_all g (exprs_of (x ∷ xs)) ≡ behind_all (behind g (expr_of x)) (exprs_of xs)
unfolding sites_in_all
behind_all-cons g x xs = sym (more_sites g (sites_in g.scope (expr_of x)) (sites_in_all g.scope (exprs_of xs)))

-- a turn of the walk over expressions
pub behind_all-turn : (h new target : Context) (x : ExprCode) (xs : List ExprCode) (i : ℕ) → i < length xs → x ≡ get_or xs i x
    → behind_all h (exprs_of (drop i xs)) ≡ target → new ≡ behind h (expr_of x) → behind_all new (exprs_of (drop (i + 1) xs)) ≡ target
behind_all-turn h new target x xs i lt at left passed_one =
    let rest = drop (i + 1) xs in
    ap (λ (k : Context). behind_all k (exprs_of rest)) passed_one
    ∙ sym (behind_all-cons h x rest)
    ∙ ap (λ (y : ExprCode). behind_all h (exprs_of (y ∷ rest))) at
    ∙ sym (at_drop_more (λ (l : List ExprCode). behind_all h (exprs_of l)) xs i x lt)
    ∙ left
