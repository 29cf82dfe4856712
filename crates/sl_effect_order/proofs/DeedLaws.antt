-- What an expression does as another part sees it, variant by variant.
use Rattle.std.proofs.Common.{◌≡◌, ℕ, ◌+◌, ◌<◌, ◌≤◌, Box, Vec, get_or, length, drop, refl, sym, ap, ◌∙◌}
use Rattle.std.proofs.lemmas.List.{at_drop_more, at_drop_all}
use Rattle.std.specs.Prelude.{Bool, List, [], ◌∷◌}
use Rattle.std.specs.declared.alloc.Global.{Global}
use Rattle.sl_base.specs.declared.place.Place.{Place}
use Rattle.sl_syntax.specs.declared.operator.BinaryOperator.{BinaryOperator}
use Rattle.sl_syntax.specs.declared.operator.PostfixOperator.{PostfixOperator}
use Rattle.sl_syntax.specs.declared.operator.PrefixOperator.{PrefixOperator}
use Rattle.sl_syntax.specs.declared.operator.Selector.{Selector}
use Rattle.sl_syntax.specs.declared.tree.expr.Expr.{Expr as ExprCode}
use Rattle.sl_syntax.specs.declared.tree.expr.Expr.TheVariants as e
use Rattle.sl_syntax.specs.declared.tree.identifier.Identifier.{Identifier}
use Rattle.sl_syntax.specs.Tree.{Expr}
use Rattle.sl_syntax.specs.TreeView.{expr_of, exprs_of}
use Rattle.sl_syntax.proofs.TreeViews.{expr_of-Call, expr_of-LibraryCall, expr_of-Parentheses, expr_of-Prefix, expr_of-Binary, expr_of-Postfix}
use Rattle.sl_syntax.proofs.TreeViews.{expr_of-Index, expr_of-MemberCall, expr_of-Member}
use Rattle.sl_typing.specs.declared.scope.Scope.{Scope}
use Rattle.sl_typing.specs.Scopes.{function_named}
use Rattle.sl_typing.specs.Order.{Deeds, deeds, deeds_of_all, both, nothing_done, changing, handed_names, parameters_of, algorithm_deeds, prefix_deeds}
use Rattle.sl_typing.specs.Order.{moved_names, subscript_deeds, member_deeds}
use Rattle.sl_effect_order.specs.declared.seen_deeds.SeenDeeds.{SeenDeeds}
use Rattle.sl_effect_order.specs.Means.Seen.{seen, both_seen}
use Rattle.sl_effect_order.proofs.SeenLaws.{seen-both, both_assoc, both_none}

deed-as : (test : List ℕ → Bool) (g : Scope) (x : ExprCode) (y : Expr) → expr_of x ≡ y → seen test (deeds g (expr_of x)) ≡ seen test (deeds g y)
deed-as test g x y k = ap (λ (z : Expr). seen test (deeds g z)) k

three : (test : List ℕ → Bool) (x y z : Deeds) → seen test (both x (both y z)) ≡ both_seen (seen test x) (both_seen (seen test y) (seen test z))
three test x y z = seen-both test x (both y z) ∙ ap (both_seen (seen test x)) (seen-both test y z)

pub deed-Number : (test : List ℕ → Bool) (g : Scope) (p : Place) (n : ℕ)
    → seen test (deeds g (expr_of (e.Number p n))) ≡ seen test nothing_done
unfolding deeds
deed-Number test g p n = refl

pub deed-Truth : (test : List ℕ → Bool) (g : Scope) (p : Place) (b : Bool)
    → seen test (deeds g (expr_of (e.Truth p b))) ≡ seen test nothing_done
unfolding deeds
deed-Truth test g p b = refl

pub deed-Name : (test : List ℕ → Bool) (g : Scope) (x : Identifier)
    → seen test (deeds g (expr_of (e.Name x))) ≡ seen test nothing_done
unfolding deeds
deed-Name test g x = refl

pub deed-Call : (test : List ℕ → Bool) (g : Scope) (f : Identifier) (v : Vec ExprCode Global)
    → seen test (deeds g (expr_of (e.Call f v))) ≡ both_seen (seen test (changing (handed_names (parameters_of (function_named g f.name)) (exprs_of v.items)))) (seen test (deeds_of_all g (exprs_of v.items)))
unfolding deeds
deed-Call test g f v = deed-as test g (e.Call f v) _ (expr_of-Call f v)
    ∙ seen-both test (changing (handed_names (parameters_of (function_named g f.name)) (exprs_of v.items))) (deeds_of_all g (exprs_of v.items))

pub deed-LibraryCall : (test : List ℕ → Bool) (g : Scope) (f : Identifier) (v : Vec ExprCode Global)
    → seen test (deeds g (expr_of (e.LibraryCall f v))) ≡ both_seen (seen test (algorithm_deeds f.name (exprs_of v.items))) (seen test (deeds_of_all g (exprs_of v.items)))
unfolding deeds
deed-LibraryCall test g f v = deed-as test g (e.LibraryCall f v) _ (expr_of-LibraryCall f v)
    ∙ seen-both test (algorithm_deeds f.name (exprs_of v.items)) (deeds_of_all g (exprs_of v.items))

pub deed-Parentheses : (test : List ℕ → Bool) (g : Scope) (p : Place) (x : Box ExprCode Global)
    → seen test (deeds g (expr_of (e.Parentheses p x))) ≡ seen test (deeds g (expr_of x.value))
unfolding deeds
deed-Parentheses test g p x = deed-as test g (e.Parentheses p x) _ (expr_of-Parentheses p x)

pub deed-Prefix : (test : List ℕ → Bool) (g : Scope) (op : PrefixOperator) (p : Place) (x : Box ExprCode Global)
    → seen test (deeds g (expr_of (e.Prefix op p x))) ≡ both_seen (seen test (prefix_deeds op (expr_of x.value))) (seen test (deeds g (expr_of x.value)))
unfolding deeds
deed-Prefix test g op p x = deed-as test g (e.Prefix op p x) _ (expr_of-Prefix op p x)
    ∙ seen-both test (prefix_deeds op (expr_of x.value)) (deeds g (expr_of x.value))

pub deed-Binary : (test : List ℕ → Bool) (g : Scope) (x : Box ExprCode Global) (op : BinaryOperator) (p : Place) (y : Box ExprCode Global)
    → seen test (deeds g (expr_of (e.Binary x op p y))) ≡ both_seen (seen test (deeds g (expr_of x.value))) (seen test (deeds g (expr_of y.value)))
unfolding deeds
deed-Binary test g x op p y = deed-as test g (e.Binary x op p y) _ (expr_of-Binary x op p y)
    ∙ seen-both test (deeds g (expr_of x.value)) (deeds g (expr_of y.value))

pub deed-Postfix : (test : List ℕ → Bool) (g : Scope) (x : Box ExprCode Global) (op : PostfixOperator) (p : Place)
    → seen test (deeds g (expr_of (e.Postfix x op p))) ≡ both_seen (seen test (changing (moved_names (expr_of x.value)))) (seen test (deeds g (expr_of x.value)))
unfolding deeds
deed-Postfix test g x op p = deed-as test g (e.Postfix x op p) _ (expr_of-Postfix x op p)
    ∙ seen-both test (changing (moved_names (expr_of x.value))) (deeds g (expr_of x.value))

pub deed-Index : (test : List ℕ → Bool) (g : Scope) (x : Box ExprCode Global) (p : Place) (y : Box ExprCode Global)
    → seen test (deeds g (expr_of (e.Index x p y))) ≡ both_seen (seen test (subscript_deeds g (expr_of x.value))) (both_seen (seen test (deeds g (expr_of x.value))) (seen test (deeds g (expr_of y.value))))
unfolding deeds
deed-Index test g x p y = deed-as test g (e.Index x p y) _ (expr_of-Index x p y)
    ∙ three test (subscript_deeds g (expr_of x.value)) (deeds g (expr_of x.value)) (deeds g (expr_of y.value))

pub deed-MemberCall : (test : List ℕ → Bool) (g : Scope) (x : Box ExprCode Global) (f : Identifier) (v : Vec ExprCode Global)
    → seen test (deeds g (expr_of (e.MemberCall x f v))) ≡ both_seen (seen test (member_deeds g (expr_of x.value) f.name (exprs_of v.items))) (both_seen (seen test (deeds g (expr_of x.value))) (seen test (deeds_of_all g (exprs_of v.items))))
unfolding deeds
deed-MemberCall test g x f v = deed-as test g (e.MemberCall x f v) _ (expr_of-MemberCall x f v)
    ∙ three test (member_deeds g (expr_of x.value) f.name (exprs_of v.items)) (deeds g (expr_of x.value)) (deeds_of_all g (exprs_of v.items))

pub deed-Member : (test : List ℕ → Bool) (g : Scope) (x : Box ExprCode Global) (s : Selector) (p : Place) (f : Identifier)
    → seen test (deeds g (expr_of (e.Member x s p f))) ≡ seen test (deeds g (expr_of x.value))
unfolding deeds
deed-Member test g x s p f = deed-as test g (e.Member x s p f) _ (expr_of-Member x s p f)

pub ruleset deed_laws = (
  deed-Number,
  deed-Truth,
  deed-Name,
  deed-Call,
  deed-LibraryCall,
  deed-Parentheses,
  deed-Prefix,
  deed-Binary,
  deed-Postfix,
  deed-Index,
  deed-MemberCall,
  deed-Member,
)

-- the deeds of arguments, of which some are left
abbrev pub rest_seen : (List ℕ → Bool) → Scope → List ExprCode → SeenDeeds
rest_seen test g xs = seen test (deeds_of_all g (exprs_of xs))

rest-more : (test : List ℕ → Bool) (g : Scope) (x : ExprCode) (xs : List ExprCode)
    → rest_seen test g (x ∷ xs) ≡ both_seen (seen test (deeds g (expr_of x))) (rest_seen test g xs)
unfolding deeds_of_all
rest-more test g x xs = seen-both test (deeds g (expr_of x)) (deeds_of_all g (exprs_of xs))

rest-none : (test : List ℕ → Bool) (g : Scope) → rest_seen test g [] ≡ seen test nothing_done
unfolding deeds_of_all
rest-none test g = refl

-- those so far and those that are left, with one more
pub deeds-more : (test : List ℕ → Bool) (g : Scope) (xs : List ExprCode) (i : ℕ) (x : ExprCode) (done : SeenDeeds) → i < length xs → x ≡ get_or xs i x
    → both_seen (both_seen done (seen test (deeds g (expr_of x)))) (rest_seen test g (drop (i + 1) xs))
    ≡ both_seen done (rest_seen test g (drop i xs))
deeds-more test g xs i x done within is =
    both_assoc done (seen test (deeds g (expr_of x))) (rest_seen test g (drop (i + 1) xs))
    ∙ ap (both_seen done) (sym (at_drop_more (rest_seen test g) xs i x within
    ∙ ap (λ (y : ExprCode). rest_seen test g (y ∷ drop (i + 1) xs)) (sym is)
    ∙ rest-more test g x (drop (i + 1) xs)))

-- those of all
pub deeds-all : (test : List ℕ → Bool) (g : Scope) (xs : List ExprCode) (i : ℕ) (done : SeenDeeds) → length xs ≤ i
    → done ≡ both_seen done (rest_seen test g (drop i xs))
deeds-all test g xs i done past =
    sym (both_none test done) ∙ ap (both_seen done) (sym (at_drop_all (rest_seen test g) xs i past ∙ rest-none test g))

-- a call of the program's own, from what is found of its parts
pub call-found : (test : List ℕ → Bool) (g : Scope) (f : Identifier) (v : Vec ExprCode Global) (name : List ℕ) (xs ys : List ExprCode) (d own all : SeenDeeds)
    → d ≡ both_seen own all → own ≡ seen test (changing (handed_names (parameters_of (function_named g name)) (exprs_of xs)))
    → name ≡ f.name → xs ≡ v.items → all ≡ seen test (deeds_of_all g (exprs_of ys)) → ys ≡ v.items
    → d ≡ seen test (deeds g (expr_of (e.Call f v)))
call-found test g f v name xs ys d own all is_d is_own is_name is_xs is_all is_ys =
    is_d
    ∙ ap (λ (o : SeenDeeds). both_seen o all)
    (is_own ∙ ap (λ (n : List ℕ). seen test (changing (handed_names (parameters_of (function_named g n)) (exprs_of xs)))) is_name
    ∙ ap (λ (zs : List ExprCode). seen test (changing (handed_names (parameters_of (function_named g f.name)) (exprs_of zs)))) is_xs)
    ∙ ap (both_seen (seen test (changing (handed_names (parameters_of (function_named g f.name)) (exprs_of v.items)))))
    (is_all ∙ ap (λ (zs : List ExprCode). seen test (deeds_of_all g (exprs_of zs))) is_ys)
    ∙ sym (deed-Call test g f v)

-- a call of an algorithm
pub library-found : (test : List ℕ → Bool) (g : Scope) (f : Identifier) (v : Vec ExprCode Global) (name : List ℕ) (xs ys : List ExprCode)
    (d own all : SeenDeeds) → d ≡ both_seen own all → own ≡ seen test (algorithm_deeds name (exprs_of xs)) → name ≡ f.name → xs ≡ v.items
    → all ≡ seen test (deeds_of_all g (exprs_of ys)) → ys ≡ v.items → d ≡ seen test (deeds g (expr_of (e.LibraryCall f v)))
library-found test g f v name xs ys d own all is_d is_own is_name is_xs is_all is_ys =
    is_d
    ∙ ap (λ (o : SeenDeeds). both_seen o all)
    (is_own ∙ ap (λ (n : List ℕ). seen test (algorithm_deeds n (exprs_of xs))) is_name
    ∙ ap (λ (zs : List ExprCode). seen test (algorithm_deeds f.name (exprs_of zs))) is_xs)
    ∙ ap (both_seen (seen test (algorithm_deeds f.name (exprs_of v.items))))
    (is_all ∙ ap (λ (zs : List ExprCode). seen test (deeds_of_all g (exprs_of zs))) is_ys)
    ∙ sym (deed-LibraryCall test g f v)

-- a member call
pub member-found : (test : List ℕ → Bool) (g : Scope) (x : Box ExprCode Global) (f : Identifier) (v : Vec ExprCode Global) (y z : ExprCode) (name : List ℕ)
    (xs ys : List ExprCode) (d own rest object all : SeenDeeds) → d ≡ both_seen own rest → rest ≡ both_seen object all
    → own ≡ seen test (member_deeds g (expr_of y) name (exprs_of xs)) → y ≡ x.value → name ≡ f.name → xs ≡ v.items
    → object ≡ seen test (deeds g (expr_of z)) → z ≡ x.value → all ≡ seen test (deeds_of_all g (exprs_of ys)) → ys ≡ v.items
    → d ≡ seen test (deeds g (expr_of (e.MemberCall x f v)))
member-found test g x f v y z name xs ys d own rest object all is_d is_rest is_own is_y is_name is_xs is_object is_z is_all is_ys =
    is_d
    ∙ ap (λ (o : SeenDeeds). both_seen o rest)
    (is_own ∙ ap (λ (w : ExprCode). seen test (member_deeds g (expr_of w) name (exprs_of xs))) is_y
    ∙ ap (λ (n : List ℕ). seen test (member_deeds g (expr_of x.value) n (exprs_of xs))) is_name
    ∙ ap (λ (zs : List ExprCode). seen test (member_deeds g (expr_of x.value) f.name (exprs_of zs))) is_xs)
    ∙ ap (both_seen (seen test (member_deeds g (expr_of x.value) f.name (exprs_of v.items))))
    (is_rest
    ∙ ap (λ (o : SeenDeeds). both_seen o all) (is_object ∙ ap (λ (w : ExprCode). seen test (deeds g (expr_of w))) is_z)
    ∙ ap (both_seen (seen test (deeds g (expr_of x.value)))) (is_all ∙ ap (λ (zs : List ExprCode). seen test (deeds_of_all g (exprs_of zs))) is_ys))
    ∙ sym (deed-MemberCall test g x f v)

-- a part that is a variant
pub part-is : (test : List ℕ → Bool) (g : Scope) (x y : ExprCode) → y ≡ x → seen test (deeds g (expr_of x)) ≡ seen test (deeds g (expr_of y))
part-is test g x y k = ap (λ (z : ExprCode). seen test (deeds g (expr_of z))) (sym k)
