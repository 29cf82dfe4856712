-- The rule, variant by variant, and pairs of arguments.
use Rattle.std.proofs.Common.{◌≡◌, ℕ, ◌+◌, ◌<◌, ◌≤◌, Box, Vec, get_or, length, take, drop, ◌-◌, refl, sym, ap, ◌∙◌, arith, length-drop}
use Rattle.std.proofs.lemmas.List.{at_drop_more, at_drop_all, take_all}
use Rattle.std.specs.Prelude.{Bool, true, false, not, ◌&&◌, ◌||◌, List, [], ◌∷◌}
use Rattle.std.specs.List.{list_any, list_all}
use Rattle.std.specs.declared.alloc.Global.{Global}
use Rattle.sl_base.specs.declared.place.Place.{Place}
use Rattle.sl_syntax.specs.declared.operator.BinaryOperator.{BinaryOperator}
use Rattle.sl_syntax.specs.declared.operator.PostfixOperator.{PostfixOperator}
use Rattle.sl_syntax.specs.declared.operator.PrefixOperator.{PrefixOperator}
use Rattle.sl_syntax.specs.declared.operator.Selector.{Selector}
use Rattle.sl_syntax.specs.declared.tree.expr.Expr.{Expr as ExprCode}
use Rattle.sl_syntax.specs.declared.tree.expr.Expr.TheVariants as e
use Rattle.sl_syntax.specs.declared.tree.identifier.Identifier.{Identifier}
use Rattle.sl_syntax.specs.Tree.{Expr}
use Rattle.sl_syntax.specs.TreeView.{expr_of, exprs_of}
use Rattle.sl_syntax.proofs.TreeViews.{expr_of-Call, expr_of-LibraryCall, expr_of-Parentheses, expr_of-Prefix, expr_of-Binary, expr_of-Postfix}
use Rattle.sl_syntax.proofs.TreeViews.{expr_of-Index, expr_of-MemberCall, expr_of-Member}
use Rattle.sl_typing.specs.declared.scope.Scope.{Scope}
use Rattle.sl_typing.specs.Order.{order_matters, is_ordered, clash, clashes, some_clash, deeds, is_still}
use Rattle.sl_effect_order.specs.declared.seen_deeds.SeenDeeds.{SeenDeeds}
use Rattle.sl_effect_order.specs.Means.Seen.{seen, spares, clash_of, stands_beside_changes, stands_beside_writes}
use Rattle.sl_effect_order.proofs.StillLaws.{one_by_one}

rule-as : (g : Scope) (x : ExprCode) (y : Expr) → expr_of x ≡ y → order_matters g (expr_of x) ≡ order_matters g y
rule-as g x y k = ap (order_matters g) k

pub rule-Number : (g : Scope) (p : Place) (n : ℕ) → order_matters g (expr_of (e.Number p n)) ≡ false
unfolding order_matters
rule-Number g p n = refl

pub rule-Truth : (g : Scope) (p : Place) (b : Bool) → order_matters g (expr_of (e.Truth p b)) ≡ false
unfolding order_matters
rule-Truth g p b = refl

pub rule-Name : (g : Scope) (x : Identifier) → order_matters g (expr_of (e.Name x)) ≡ false
unfolding order_matters
rule-Name g x = refl

pub rule-Call : (g : Scope) (f : Identifier) (v : Vec ExprCode Global) → order_matters g (expr_of (e.Call f v)) ≡ some_clash g (exprs_of v.items)
unfolding order_matters
rule-Call g f v = rule-as g (e.Call f v) _ (expr_of-Call f v)

pub rule-LibraryCall : (g : Scope) (f : Identifier) (v : Vec ExprCode Global) → order_matters g (expr_of (e.LibraryCall f v)) ≡ some_clash g (exprs_of v.items)
unfolding order_matters
rule-LibraryCall g f v = rule-as g (e.LibraryCall f v) _ (expr_of-LibraryCall f v)

pub rule-Parentheses : (g : Scope) (p : Place) (x : Box ExprCode Global) → order_matters g (expr_of (e.Parentheses p x)) ≡ false
unfolding order_matters
rule-Parentheses g p x = rule-as g (e.Parentheses p x) _ (expr_of-Parentheses p x)

pub rule-Prefix : (g : Scope) (op : PrefixOperator) (p : Place) (x : Box ExprCode Global) → order_matters g (expr_of (e.Prefix op p x)) ≡ false
unfolding order_matters
rule-Prefix g op p x = rule-as g (e.Prefix op p x) _ (expr_of-Prefix op p x)

pub rule-Binary : (g : Scope) (x : Box ExprCode Global) (op : BinaryOperator) (p : Place) (y : Box ExprCode Global) → order_matters g (expr_of (e.Binary x op p y)) ≡ (not (is_ordered op) && clash g (expr_of x.value) (expr_of y.value))
unfolding order_matters
rule-Binary g x op p y = rule-as g (e.Binary x op p y) _ (expr_of-Binary x op p y)

pub rule-Postfix : (g : Scope) (x : Box ExprCode Global) (op : PostfixOperator) (p : Place) → order_matters g (expr_of (e.Postfix x op p)) ≡ false
unfolding order_matters
rule-Postfix g x op p = rule-as g (e.Postfix x op p) _ (expr_of-Postfix x op p)

pub rule-Index : (g : Scope) (x : Box ExprCode Global) (p : Place) (y : Box ExprCode Global) → order_matters g (expr_of (e.Index x p y)) ≡ false
unfolding order_matters
rule-Index g x p y = rule-as g (e.Index x p y) _ (expr_of-Index x p y)

pub rule-MemberCall : (g : Scope) (x : Box ExprCode Global) (f : Identifier) (v : Vec ExprCode Global) → order_matters g (expr_of (e.MemberCall x f v)) ≡ some_clash g (exprs_of v.items)
unfolding order_matters
rule-MemberCall g x f v = rule-as g (e.MemberCall x f v) _ (expr_of-MemberCall x f v)

pub rule-Member : (g : Scope) (x : Box ExprCode Global) (s : Selector) (p : Place) (f : Identifier) → order_matters g (expr_of (e.Member x s p f)) ≡ false
unfolding order_matters
rule-Member g x s p f = rule-as g (e.Member x s p f) _ (expr_of-Member x s p f)

pub ruleset rule_laws = (
  rule-Number,
  rule-Truth,
  rule-Name,
  rule-Call,
  rule-LibraryCall,
  rule-Parentheses,
  rule-Prefix,
  rule-Binary,
  rule-Postfix,
  rule-Index,
  rule-MemberCall,
  rule-Member,
)

-- a part and each of the arguments
pub clashes-any : (g : Scope) (x : Expr) (ys : List ExprCode) → list_any (λ (y : ExprCode). clash_of g x (expr_of y)) ys ≡ clashes g x (exprs_of ys)
unfolding clash_of
clashes-any g x [] = refl
clashes-any g x (y ∷ ys) = ap (λ (b : Bool). clash g x (expr_of y) || b) (clashes-any g x ys)

or_assoc : (a b c : Bool) → ((a || b) || c) ≡ (a || (b || c))
or_assoc true b c = refl
or_assoc false b c = refl

or_false : (b : Bool) → b ≡ (b || false)
or_false true = refl
or_false false = refl

-- the order of two of these could matter
abbrev pub rest_clash : Scope → List ExprCode → Bool
rest_clash g xs = some_clash g (exprs_of xs)

-- those so far and those that are left, with one more
pub clash-more : (g : Scope) (xs : List ExprCode) (i : ℕ) (x : ExprCode) (found : Bool) → i < length xs → x ≡ get_or xs i x
    → ((found || list_any (λ (y : ExprCode). clash_of g (expr_of x) (expr_of y)) (drop (i + 1) xs)) || rest_clash g (drop (i + 1) xs))
    ≡ (found || rest_clash g (drop i xs))
clash-more g xs i x found within is =
    ap (λ (b : Bool). (found || b) || rest_clash g (drop (i + 1) xs)) (clashes-any g (expr_of x) (drop (i + 1) xs))
    ∙ or_assoc found (clashes g (expr_of x) (exprs_of (drop (i + 1) xs))) (rest_clash g (drop (i + 1) xs))
    ∙ ap (λ (b : Bool). found || b) (sym (at_drop_more (rest_clash g) xs i x within
    ∙ ap (λ (y : ExprCode). rest_clash g (y ∷ drop (i + 1) xs)) (sym is)))

-- those of all
pub clash-all : (g : Scope) (xs : List ExprCode) (i : ℕ) (found : Bool) → length xs ≤ i → found ≡ (found || rest_clash g (drop i xs))
clash-all g xs i found past = or_false found ∙ ap (λ (b : Bool). found || b) (sym (at_drop_all (rest_clash g) xs i past))

-- a part beside another one, by what is seen of that one
pub beside-changes : (g : Scope) (x y : Expr) (d : SeenDeeds) (b : Bool) → d ≡ seen (spares g false y) (deeds g x) → b ≡ is_still g [] false y
    → (not d.changes || (b && d.spares)) ≡ stands_beside_changes g x y
unfolding seen stands_beside_changes
beside-changes g x y d b is_d is_b =
    ap (λ (e : SeenDeeds). not e.changes || (b && e.spares)) is_d
    ∙ ap (λ (c : Bool). not (deeds g x).changes || (c && list_all (spares g false y) (deeds g x).changed)) is_b
    ∙ ap (λ (c : Bool). not (deeds g x).changes || c) (sym (one_by_one g (deeds g x).changed false y))

pub beside-writes : (g : Scope) (x y : Expr) (d : SeenDeeds) (b : Bool) → d ≡ seen (spares g true y) (deeds g x) → b ≡ is_still g [] true y
    → (not d.writes || (b && d.spares)) ≡ stands_beside_writes g x y
unfolding seen stands_beside_writes
beside-writes g x y d b is_d is_b =
    ap (λ (e : SeenDeeds). not e.writes || (b && e.spares)) is_d
    ∙ ap (λ (c : Bool). not (deeds g x).writes || (c && list_all (spares g true y) (deeds g x).changed)) is_b
    ∙ ap (λ (c : Bool). not (deeds g x).writes || c) (sym (one_by_one g (deeds g x).changed true y))

-- the rest of a slice
pub whole_rest : (g : Scope) (x : Expr) (xs : List ExprCode) (i : ℕ)
    → list_any (λ (y : ExprCode). clash_of g x (expr_of y)) (take (length xs - i) (drop i xs)) ≡ list_any (λ (y : ExprCode). clash_of g x (expr_of y)) (drop i xs)
whole_rest g x xs i =
    ap (list_any (λ (y : ExprCode). clash_of g x (expr_of y))) (take_all (length xs - i) (drop i xs) (omega (arith, length-drop i xs)))

-- one more of these
pub clash-next : (g : Scope) (xs : List ExprCode) (i : ℕ) (x : ExprCode) (found here : Bool) → i < length xs → x ≡ get_or xs i x
    → here ≡ list_any (λ (y : ExprCode). clash_of g (expr_of x) (expr_of y)) (take (length xs - (i + 1)) (drop (i + 1) xs))
    → ((found || here) || rest_clash g (drop (i + 1) xs)) ≡ (found || rest_clash g (drop i xs))
clash-next g xs i x found here within is is_here =
    ap (λ (b : Bool). (found || b) || rest_clash g (drop (i + 1) xs)) (is_here ∙ whole_rest g (expr_of x) xs (i + 1))
    ∙ clash-more g xs i x found within is

-- a call, from the order of its arguments
pub arguments-clash : (g : Scope) (xs ys : List ExprCode) (b : Bool) → b ≡ some_clash g (exprs_of xs) → xs ≡ ys → b ≡ some_clash g (exprs_of ys)
arguments-clash g xs ys b k l = k ∙ ap (λ (zs : List ExprCode). some_clash g (exprs_of zs)) l

-- a node that is a variant
pub node-is : (g : Scope) (x y : ExprCode) → y ≡ x → order_matters g (expr_of x) ≡ order_matters g (expr_of y)
node-is g x y k = ap (λ (z : ExprCode). order_matters g (expr_of z)) (sym k)
