-- Which expressions are still, variant by variant, and for the variables one by one.
use Rattle.std.proofs.Common.{◌≡◌, ℕ, Box, Vec, refl, ap, ◌∙◌}
use Rattle.std.specs.Prelude.{Bool, true, false, not, ◌&&◌, ◌||◌, List, [], ◌∷◌}
use Rattle.std.specs.List.{list_all}
use Rattle.std.specs.Str.{bytes_eq}
use Rattle.std.specs.declared.alloc.Global.{Global}
use Rattle.sl_base.specs.declared.place.Place.{Place}
use Rattle.sl_syntax.specs.declared.operator.BinaryOperator.{BinaryOperator}
use Rattle.sl_syntax.specs.declared.operator.PostfixOperator.{PostfixOperator}
use Rattle.sl_syntax.specs.declared.operator.PrefixOperator.{PrefixOperator}
use Rattle.sl_syntax.specs.declared.operator.Selector.{Selector}
use Rattle.sl_syntax.specs.declared.tree.expr.Expr.{Expr as ExprCode}
use Rattle.sl_syntax.specs.declared.tree.expr.Expr.TheVariants as e
use Rattle.sl_syntax.specs.declared.tree.identifier.Identifier.{Identifier}
use Rattle.sl_syntax.specs.Tree as s
use Rattle.sl_syntax.specs.Tree.{Expr, Exprs}
use Rattle.sl_syntax.specs.TreeView.{expr_of}
use Rattle.sl_syntax.proofs.TreeViews.{expr_of-Call, expr_of-LibraryCall, expr_of-Parentheses, expr_of-Prefix, expr_of-Binary, expr_of-Postfix}
use Rattle.sl_syntax.proofs.TreeViews.{expr_of-Index, expr_of-MemberCall, expr_of-Member}
use Rattle.sl_typing.specs.declared.scope.Scope.{Scope}
use Rattle.sl_typing.specs.Types.{is_number}
use Rattle.sl_typing.specs.TypeOf.{type_of}
use Rattle.sl_typing.specs.Scopes.{type_of_name, is_among}
use Rattle.sl_typing.specs.WrongType.{is_int_reference}
use Rattle.sl_typing.specs.Order.{is_still, is_quiet}
use Rattle.sl_effect_order.specs.Means.Seen.{spares}

still-as : (g : Scope) (names : List (List ℕ)) (calls : Bool) (x : ExprCode) (y : Expr) → expr_of x ≡ y
    → is_still g names calls (expr_of x) ≡ is_still g names calls y
still-as g names calls x y k = ap (is_still g names calls) k

pub still-Number : (g : Scope) (names : List (List ℕ)) (calls : Bool) (p : Place) (n : ℕ) → is_still g names calls (expr_of (e.Number p n)) ≡ true
unfolding is_still
still-Number g names calls p n = refl

pub still-Truth : (g : Scope) (names : List (List ℕ)) (calls : Bool) (p : Place) (b : Bool) → is_still g names calls (expr_of (e.Truth p b)) ≡ true
unfolding is_still
still-Truth g names calls p b = refl

pub still-Name : (g : Scope) (names : List (List ℕ)) (calls : Bool) (x : Identifier) → is_still g names calls (expr_of (e.Name x)) ≡ (not (is_among x.name names) && not (is_int_reference (type_of_name g x.name)))
unfolding is_still
still-Name g names calls x = refl

pub still-Call : (g : Scope) (names : List (List ℕ)) (calls : Bool) (f : Identifier) (v : Vec ExprCode Global) → is_still g names calls (expr_of (e.Call f v)) ≡ false
unfolding is_still
still-Call g names calls f v = still-as g names calls (e.Call f v) _ (expr_of-Call f v)

pub still-LibraryCall : (g : Scope) (names : List (List ℕ)) (calls : Bool) (f : Identifier) (v : Vec ExprCode Global) → is_still g names calls (expr_of (e.LibraryCall f v)) ≡ false
unfolding is_still
still-LibraryCall g names calls f v = still-as g names calls (e.LibraryCall f v) _ (expr_of-LibraryCall f v)

pub still-Parentheses : (g : Scope) (names : List (List ℕ)) (calls : Bool) (p : Place) (x : Box ExprCode Global) → is_still g names calls (expr_of (e.Parentheses p x)) ≡ is_still g names calls (expr_of x.value)
unfolding is_still
still-Parentheses g names calls p x = still-as g names calls (e.Parentheses p x) _ (expr_of-Parentheses p x)

pub still-Prefix : (g : Scope) (names : List (List ℕ)) (calls : Bool) (op : PrefixOperator) (p : Place) (x : Box ExprCode Global) → is_still g names calls (expr_of (e.Prefix op p x)) ≡ (is_number (type_of g (expr_of x.value)) && is_still g names calls (expr_of x.value))
unfolding is_still
still-Prefix g names calls op p x = still-as g names calls (e.Prefix op p x) _ (expr_of-Prefix op p x)

pub still-Binary : (g : Scope) (names : List (List ℕ)) (calls : Bool) (x : Box ExprCode Global) (op : BinaryOperator) (p : Place) (y : Box ExprCode Global) → is_still g names calls (expr_of (e.Binary x op p y)) ≡ (is_number (type_of g (expr_of x.value)) && is_number (type_of g (expr_of y.value)) && is_still g names calls (expr_of x.value) && is_still g names calls (expr_of y.value))
unfolding is_still
still-Binary g names calls x op p y = still-as g names calls (e.Binary x op p y) _ (expr_of-Binary x op p y)

pub still-Postfix : (g : Scope) (names : List (List ℕ)) (calls : Bool) (x : Box ExprCode Global) (op : PostfixOperator) (p : Place) → is_still g names calls (expr_of (e.Postfix x op p)) ≡ (is_number (type_of g (expr_of x.value)) && is_still g names calls (expr_of x.value))
unfolding is_still
still-Postfix g names calls x op p = still-as g names calls (e.Postfix x op p) _ (expr_of-Postfix x op p)

pub still-Index : (g : Scope) (names : List (List ℕ)) (calls : Bool) (x : Box ExprCode Global) (p : Place) (y : Box ExprCode Global) → is_still g names calls (expr_of (e.Index x p y)) ≡ false
unfolding is_still
still-Index g names calls x p y = still-as g names calls (e.Index x p y) _ (expr_of-Index x p y)

pub still-MemberCall : (g : Scope) (names : List (List ℕ)) (calls : Bool) (x : Box ExprCode Global) (f : Identifier) (v : Vec ExprCode Global) → is_still g names calls (expr_of (e.MemberCall x f v)) ≡ (calls && is_quiet f.name)
unfolding is_still
still-MemberCall g names calls x f v = still-as g names calls (e.MemberCall x f v) _ (expr_of-MemberCall x f v)

pub still-Member : (g : Scope) (names : List (List ℕ)) (calls : Bool) (x : Box ExprCode Global) (s : Selector) (p : Place) (f : Identifier) → is_still g names calls (expr_of (e.Member x s p f)) ≡ false
unfolding is_still
still-Member g names calls x s p f = still-as g names calls (e.Member x s p f) _ (expr_of-Member x s p f)

pub ruleset still_laws = (
  still-Number,
  still-Truth,
  still-Name,
  still-Call,
  still-LibraryCall,
  still-Parentheses,
  still-Prefix,
  still-Binary,
  still-Postfix,
  still-Index,
  still-MemberCall,
  still-Member,
)

-- laws of tests
name_apart : (a b r : Bool) → (not (a || b) && not r) ≡ ((not (a || false) && not r) && (not b && not r))
name_apart true b true = refl
name_apart true b false = refl
name_apart false true true = refl
name_apart false true false = refl
name_apart false false true = refl
name_apart false false false = refl

and_apart : (t x a b : Bool) → x ≡ (a && b) → (t && x) ≡ ((t && a) && (t && b))
and_apart true x a b k = k
and_apart false x a b k = refl

and_cross : (a b c d : Bool) → ((a && b) && (c && d)) ≡ ((a && c) && (b && d))
and_cross true true c d = refl
and_cross true false true d = refl
and_cross true false false d = refl
and_cross false b c d = refl

two_apart : (t x y a b c d : Bool) → x ≡ (a && b) → y ≡ (c && d) → ((t && x) && y) ≡ (((t && a) && c) && ((t && b) && d))
two_apart true x y a b c d k l = ap (λ (z : Bool). z && y) k ∙ ap (λ (z : Bool). (a && b) && z) l ∙ and_cross a b c d
two_apart false x y a b c d k l = refl

and_same : (b : Bool) → b ≡ (b && b)
and_same true = refl
and_same false = refl

-- for one variable and for the others
apart : (g : Scope) (n : List ℕ) (ns : List (List ℕ)) (calls : Bool) (e : Expr)
    → is_still g (n ∷ ns) calls e ≡ (is_still g (n ∷ []) calls e && is_still g ns calls e)
unfolding is_still
apart g n ns calls (s.number at k) = refl
apart g n ns calls (s.truth at x) = refl
apart g n ns calls (s.name x) = name_apart (bytes_eq n x.name) (is_among x.name ns) (is_int_reference (type_of_name g x.name))
apart g n ns calls (s.call f xs) = refl
apart g n ns calls (s.library_call f xs) = refl
apart g n ns calls (s.parentheses at x) = apart g n ns calls x
apart g n ns calls (s.prefix op at x) = and_apart (is_number (type_of g x)) _ _ _ (apart g n ns calls x)
apart g n ns calls (s.binary x op at y) =
    two_apart (is_number (type_of g x) && is_number (type_of g y)) _ _ _ _ _ _ (apart g n ns calls x) (apart g n ns calls y)
apart g n ns calls (s.postfix x op at) = and_apart (is_number (type_of g x)) _ _ _ (apart g n ns calls x)
apart g n ns calls (s.index x at y) = refl
apart g n ns calls (s.member_call x f xs) = and_same (calls && is_quiet f.name)
apart g n ns calls (s.member x selector at f) = refl

joined : (z a b c : Bool) → a ≡ (a && z) → b ≡ (z && c) → (a && b) ≡ (z && (a && c))
joined true a b c k l = ap (λ (w : Bool). a && w) l
joined false true b c k l = absurd cc
joined false false b c k l = refl

and_true : (b : Bool) → b ≡ (b && true)
and_true true = refl
and_true false = refl

-- for each variable by itself
pub one_by_one : (g : Scope) (names : List (List ℕ)) (calls : Bool) (e : Expr)
    → is_still g names calls e ≡ (is_still g [] calls e && list_all (spares g calls e) names)
unfolding spares
one_by_one g [] calls e = and_true (is_still g [] calls e)
one_by_one g (n ∷ ns) calls e =
    apart g n ns calls e
    ∙ joined (is_still g [] calls e) (is_still g (n ∷ []) calls e) (is_still g ns calls e) (list_all (spares g calls e) ns) (apart g n [] calls e)
    (one_by_one g ns calls e)

-- for one variable
pub spares_one : (g : Scope) (n : List ℕ) (calls : Bool) (e : Expr) → is_still g (n ∷ []) calls e ≡ list_all (spares g calls e) (n ∷ [])
unfolding spares
spares_one g n calls e = and_true (is_still g (n ∷ []) calls e)
