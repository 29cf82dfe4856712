-- The numbers of sites in the nodes of a tree of the code.
use Rattle.std.proofs.Common.{◌≡◌, ℕ, ◌+◌, ◌<◌, ◌≤◌, true, length, Box, Vec, refl, ap, ◌∙◌, arith, length-append}
use Rattle.std.specs.declared.alloc.Global.{Global}
use Rattle.sl_base.specs.declared.limits.TheConstants.{SITES}
use Rattle.sl_base.specs.declared.place.Place.{Place}
use Rattle.sl_syntax.specs.declared.operator.BinaryOperator.{BinaryOperator}
use Rattle.sl_syntax.specs.declared.operator.PostfixOperator.{PostfixOperator}
use Rattle.sl_syntax.specs.declared.operator.PrefixOperator.{PrefixOperator}
use Rattle.sl_syntax.specs.declared.operator.Selector.{Selector}
use Rattle.sl_syntax.specs.declared.tree.expr.Expr.{Expr as ExprCode}
use Rattle.sl_syntax.specs.declared.tree.expr.Expr.TheVariants as e
use Rattle.sl_syntax.specs.declared.tree.identifier.Identifier.{Identifier}
use Rattle.sl_syntax.specs.Tree as s
use Rattle.sl_syntax.specs.Tree.{Expr, Exprs}
use Rattle.sl_syntax.specs.TreeView.{expr_of, exprs_of}
use Rattle.sl_syntax.proofs.TreeViews.{expr_of-Call, expr_of-LibraryCall, expr_of-Parentheses, expr_of-Prefix, expr_of-Binary, expr_of-Postfix}
use Rattle.sl_syntax.proofs.TreeViews.{expr_of-Index, expr_of-MemberCall, expr_of-Member}
use Rattle.sl_typing.specs.declared.scope.Scope.{Scope}
use Rattle.sl_expr_types.specs.Capped.{capped}
use Rattle.sl_typing.specs.Sites.{sites_in, sites_in_all, site_count, own_site, is_site, at_word, inside}

-- a number of sites that are few enough counts as itself
pub capped-few : (n : ℕ) → n ≤ SITES → capped n ≡ n
unfolding capped
capped-few n h = omega arith

-- how many sites expressions have
abbrev pub count_all : Scope → Exprs → ℕ
count_all g xs = length (sites_in_all g xs)

binary_count : (g : Scope) (x y : Expr) (op : BinaryOperator) (p : Place)
    → site_count g (s.binary x op p y) ≡ site_count g x + site_count g y
unfolding site_count sites_in
binary_count g x y op p = length-append (sites_in g x) (sites_in g y)

index_count : (g : Scope) (n : ℕ) (x y : Expr) (p : Place) → inside g n (s.index x p y) + site_count g y ≡ n + site_count g (s.index x p y)
unfolding site_count sites_in inside at_word
index_count g n x y p = simp length-append (omega arith)

library_count : (g : Scope) (n : ℕ) (f : Identifier) (xs : Exprs)
    → inside g n (s.library_call f xs) + count_all g xs ≡ n + site_count g (s.library_call f xs)
unfolding site_count sites_in inside at_word
library_count g n f xs = simp length-append (omega arith)

member_count : (g : Scope) (n : ℕ) (x : Expr) (f : Identifier) (xs : Exprs)
    → inside g n (s.member_call x f xs) + count_all g xs ≡ n + site_count g (s.member_call x f xs)
unfolding site_count sites_in inside at_word
member_count g n x f xs = simp length-append (omega arith)

index_object : (g : Scope) (x y : Expr) (p : Place) → site_count g x ≤ site_count g (s.index x p y)
unfolding site_count sites_in
index_object g x y p = simp length-append (omega arith)

member_object : (g : Scope) (x : Expr) (f : Identifier) (xs : Exprs) → site_count g x ≤ site_count g (s.member_call x f xs)
unfolding site_count sites_in
member_object g x f xs = simp length-append (omega arith)

pub sites-Call : (g : Scope) (f : Identifier) (v : Vec ExprCode Global) → site_count g (expr_of (e.Call f v)) ≡ count_all g (exprs_of v.items)
unfolding site_count sites_in
sites-Call g f v = ap (site_count g) (expr_of-Call f v)

pub sites-LibraryCall : (g : Scope) (n : ℕ) (f : Identifier) (v : Vec ExprCode Global)
    → inside g n (expr_of (e.LibraryCall f v)) + count_all g (exprs_of v.items) ≡ n + site_count g (expr_of (e.LibraryCall f v))
sites-LibraryCall g n f v = rw (expr_of-LibraryCall f v) (library_count g n f (exprs_of v.items))

pub sites-Parentheses : (g : Scope) (p : Place) (x : Box ExprCode Global)
    → site_count g (expr_of (e.Parentheses p x)) ≡ site_count g (expr_of x.value)
unfolding site_count sites_in
sites-Parentheses g p x = ap (site_count g) (expr_of-Parentheses p x)

pub sites-Prefix : (g : Scope) (op : PrefixOperator) (p : Place) (x : Box ExprCode Global)
    → site_count g (expr_of (e.Prefix op p x)) ≡ site_count g (expr_of x.value)
unfolding site_count sites_in
sites-Prefix g op p x = ap (site_count g) (expr_of-Prefix op p x)

pub sites-Binary : (g : Scope) (x : Box ExprCode Global) (op : BinaryOperator) (p : Place) (y : Box ExprCode Global)
    → site_count g (expr_of (e.Binary x op p y)) ≡ site_count g (expr_of x.value) + site_count g (expr_of y.value)
sites-Binary g x op p y = ap (site_count g) (expr_of-Binary x op p y) ∙ binary_count g (expr_of x.value) (expr_of y.value) op p

pub sites-Postfix : (g : Scope) (x : Box ExprCode Global) (op : PostfixOperator) (p : Place)
    → site_count g (expr_of (e.Postfix x op p)) ≡ site_count g (expr_of x.value)
unfolding site_count sites_in
sites-Postfix g x op p = ap (site_count g) (expr_of-Postfix x op p)

pub sites-Index : (g : Scope) (n : ℕ) (x : Box ExprCode Global) (p : Place) (y : Box ExprCode Global)
    → inside g n (expr_of (e.Index x p y)) + site_count g (expr_of y.value) ≡ n + site_count g (expr_of (e.Index x p y))
sites-Index g n x p y = rw (expr_of-Index x p y) (index_count g n (expr_of x.value) (expr_of y.value) p)

pub object-Index : (g : Scope) (x : Box ExprCode Global) (p : Place) (y : Box ExprCode Global)
    → site_count g (expr_of x.value) ≤ site_count g (expr_of (e.Index x p y))
object-Index g x p y = rw (expr_of-Index x p y) (index_object g (expr_of x.value) (expr_of y.value) p)

pub sites-MemberCall : (g : Scope) (n : ℕ) (x : Box ExprCode Global) (f : Identifier) (v : Vec ExprCode Global)
    → inside g n (expr_of (e.MemberCall x f v)) + count_all g (exprs_of v.items) ≡ n + site_count g (expr_of (e.MemberCall x f v))
sites-MemberCall g n x f v = rw (expr_of-MemberCall x f v) (member_count g n (expr_of x.value) f (exprs_of v.items))

pub object-MemberCall : (g : Scope) (x : Box ExprCode Global) (f : Identifier) (v : Vec ExprCode Global)
    → site_count g (expr_of x.value) ≤ site_count g (expr_of (e.MemberCall x f v))
object-MemberCall g x f v = rw (expr_of-MemberCall x f v) (member_object g (expr_of x.value) f (exprs_of v.items))

pub sites-Member : (g : Scope) (x : Box ExprCode Global) (k : Selector) (p : Place) (f : Identifier)
    → site_count g (expr_of (e.Member x k p f)) ≡ site_count g (expr_of x.value)
unfolding site_count sites_in
sites-Member g x k p f = ap (site_count g) (expr_of-Member x k p f)

index_within : (g : Scope) (n : ℕ) (x y : Expr) (p : Place) → inside g n (s.index x p y) ≤ n + site_count g (s.index x p y)
index_within g n x y p = omega (arith, index_count g n x y p)

library_within : (g : Scope) (n : ℕ) (f : Identifier) (xs : Exprs) → inside g n (s.library_call f xs) ≤ n + site_count g (s.library_call f xs)
library_within g n f xs = omega (arith, library_count g n f xs)

member_within : (g : Scope) (n : ℕ) (x : Expr) (f : Identifier) (xs : Exprs)
    → inside g n (s.member_call x f xs) ≤ n + site_count g (s.member_call x f xs)
member_within g n x f xs = omega (arith, member_count g n x f xs)

-- a node's own site counts among those of the node
pub inside_within : (g : Scope) (n : ℕ) (x : Expr) → inside g n x ≤ n + site_count g x
unfolding inside at_word own_site is_site
inside_within g n (s.index x p y) = index_within g n x y p
inside_within g n (s.library_call f xs) = library_within g n f xs
inside_within g n (s.member_call x f xs) = member_within g n x f xs
inside_within g n x = omega arith

inside_sum : (g : Scope) (n : ℕ) (x : Expr) → inside g n x ≡ at_word g n x + length (own_site g x)
unfolding inside
inside_sum g n x = refl

own_one : (g : Scope) (x : Expr) → is_site g x ≡ true → length (own_site g x) ≡ 1
unfolding own_site
own_one g x h = rw h refl

pub word_within : (g : Scope) (n : ℕ) (x : Expr) → at_word g n x ≤ n + site_count g x
word_within g n x = omega (arith, inside_within g n x, inside_sum g n x)

-- the number of a site is less than how many there are
pub site_within : (g : Scope) (n : ℕ) (x : Expr) → is_site g x ≡ true → at_word g n x < n + site_count g x
site_within g n x h = omega (arith, inside_within g n x, inside_sum g n x, own_one g x h)

pub ruleset site_laws = (
  sites-Call,
  sites-LibraryCall,
  sites-Parentheses,
  sites-Prefix,
  sites-Binary,
  sites-Postfix,
  sites-Index,
  object-Index,
  sites-MemberCall,
  object-MemberCall,
  sites-Member,
)
