-- Numbers of sites in expressions, variant by variant.
use Rattle.std.proofs.Common.{◌≡◌, ℕ, ◌<◌, ◌≤◌, ◌+◌, Bool, true, false, List, [], ◌∷◌, ◌++◌, length, take, get_or, Box, Vec, flat_map, if◌then◌else◌, refl, sym, ap, ◌∙◌, subst}
use Rattle.std.proofs.lemmas.List.{append-nil, take_all, take_more, length-append}
use Rattle.std.proofs.lemmas.List.Concat.{flat_map-append}
use Rattle.std.specs.declared.alloc.Global.{Global}
use Rattle.sl_base.specs.declared.place.Place.{Place}
use Rattle.sl_syntax.specs.declared.operator.BinaryOperator.{BinaryOperator}
use Rattle.sl_syntax.specs.declared.operator.PostfixOperator.{PostfixOperator}
use Rattle.sl_syntax.specs.declared.operator.PrefixOperator.{PrefixOperator}
use Rattle.sl_syntax.specs.declared.operator.Selector.{Selector}
use Rattle.sl_syntax.specs.declared.tree.expr.Expr.{Expr as ExprCode}
use Rattle.sl_syntax.specs.declared.tree.expr.Expr.TheVariants as e
use Rattle.sl_syntax.specs.declared.tree.identifier.Identifier.{Identifier}
use Rattle.sl_syntax.specs.Tree as s
use Rattle.sl_syntax.specs.Tree.{Expr, Exprs}
use Rattle.sl_syntax.specs.TreeView.{expr_of, exprs_of}
use Rattle.sl_typing.specs.declared.scope.Scope.{Scope}
use Rattle.sl_typing.specs.Looks.{place_of}
use Rattle.sl_typing.specs.Sites.{is_site, own_site, sites_in, sites_in_all, site_count}
use Rattle.sl_expr_types.specs.Capped.{capped}
use Rattle.sl_expr_types.specs.Means.Counts.{one_if}
use Rattle.sl_expr_types.proofs.SiteLaws.{capped-+, capped-left, capped-right}
use Rattle.sl_expr_types.proofs.Views.{expr_of-Call, expr_of-LibraryCall, expr_of-Parentheses, expr_of-Prefix, expr_of-Binary, expr_of-Postfix}
use Rattle.sl_expr_types.proofs.Views.{expr_of-Index, expr_of-MemberCall, expr_of-Member}

-- how many sites expressions have
abbrev pub count_all : Scope → Exprs → ℕ
count_all g xs = length (sites_in_all g xs)

own-length : (b : Bool) (p : Place) → length (if b then p ∷ [] else []) ≡ one_if b
own-length true p = refl
own-length false p = refl

-- how many a node is by itself
pub length-own_site : (g : Scope) (x : Expr) → length (own_site g x) ≡ one_if (is_site g x)
unfolding own_site
length-own_site g x = own-length (is_site g x) (place_of x)

count-append : (xs ys : List Place) → capped (length (xs ++ ys)) ≡ capped (capped (length xs) + capped (length ys))
count-append xs ys = ap capped (length-append xs ys) ∙ capped-+ (length xs) (length ys)

count-middle : (g : Scope) (x : Expr) (xs ys : List Place)
    → capped (length (xs ++ own_site g x ++ ys)) ≡ capped (capped (capped (length xs) + one_if (is_site g x)) + capped (length ys))
count-middle g x xs ys =
    count-append (xs ++ own_site g x) ys
    ∙ ap (λ (n : ℕ). capped (n + capped (length ys)))
    (ap capped (length-append xs (own_site g x) ∙ ap (λ (n : ℕ). length xs + n) (length-own_site g x)) ∙ sym (capped-left (length xs) (one_if (is_site g x))))

count-before : (g : Scope) (x : Expr) (ys : List Place) → capped (length (own_site g x ++ ys)) ≡ capped (one_if (is_site g x) + capped (length ys))
count-before g x ys =
    ap capped (length-append (own_site g x) ys ∙ ap (λ (n : ℕ). n + length ys) (length-own_site g x)) ∙ sym (capped-right (one_if (is_site g x)) (length ys))

count-index : (g : Scope) (x y : Expr) (p : Place)
    → capped (site_count g (s.index x p y)) ≡ capped (capped (capped (site_count g x) + one_if (is_site g (s.index x p y))) + capped (site_count g y))
unfolding site_count sites_in
count-index g x y p = count-middle g (s.index x p y) (sites_in g x) (sites_in g y)

count-member_call : (g : Scope) (x : Expr) (f : Identifier) (xs : Exprs)
    → capped (site_count g (s.member_call x f xs)) ≡ capped (capped (capped (site_count g x) + one_if (is_site g (s.member_call x f xs))) + capped (count_all g xs))
unfolding site_count sites_in
count-member_call g x f xs = count-middle g (s.member_call x f xs) (sites_in g x) (sites_in_all g xs)

count-library_call : (g : Scope) (f : Identifier) (xs : Exprs)
    → capped (site_count g (s.library_call f xs)) ≡ capped (one_if (is_site g (s.library_call f xs)) + capped (count_all g xs))
unfolding site_count sites_in
count-library_call g f xs = count-before g (s.library_call f xs) (sites_in_all g xs)

pub count-none : capped 0 ≡ 0
unfolding capped
count-none = refl

count-as : (g : Scope) (x : ExprCode) (y : Expr) → expr_of x ≡ y → capped (site_count g (expr_of x)) ≡ capped (site_count g y)
count-as g x y k = ap (λ (z : Expr). capped (site_count g z)) k

pub count-Number : (g : Scope) (p : Place) (n : ℕ) → capped (site_count g (expr_of (e.Number p n))) ≡ 0
unfolding site_count sites_in
count-Number g p n = count-none

pub count-Truth : (g : Scope) (p : Place) (b : Bool) → capped (site_count g (expr_of (e.Truth p b))) ≡ 0
unfolding site_count sites_in
count-Truth g p b = count-none

pub count-Name : (g : Scope) (x : Identifier) → capped (site_count g (expr_of (e.Name x))) ≡ 0
unfolding site_count sites_in
count-Name g x = count-none

pub count-Call : (g : Scope) (f : Identifier) (v : Vec ExprCode Global)
    → capped (site_count g (expr_of (e.Call f v))) ≡ capped (count_all g (exprs_of v.items))
unfolding site_count sites_in
count-Call g f v = count-as g (e.Call f v) _ (expr_of-Call f v)

pub count-LibraryCall : (g : Scope) (f : Identifier) (v : Vec ExprCode Global) → capped (site_count g (expr_of (e.LibraryCall f v)))
    ≡ capped (one_if (is_site g (expr_of (e.LibraryCall f v))) + capped (count_all g (exprs_of v.items)))
count-LibraryCall g f v =
    let P : Expr → Type 0 = λ z. capped (site_count g z) ≡ capped (one_if (is_site g z) + capped (count_all g (exprs_of v.items))) in
    subst P (sym (expr_of-LibraryCall f v)) (count-library_call g f (exprs_of v.items))

pub count-Parentheses : (g : Scope) (p : Place) (x : Box ExprCode Global)
    → capped (site_count g (expr_of (e.Parentheses p x))) ≡ capped (site_count g (expr_of x.value))
unfolding site_count sites_in
count-Parentheses g p x = count-as g (e.Parentheses p x) _ (expr_of-Parentheses p x)

pub count-Prefix : (g : Scope) (op : PrefixOperator) (p : Place) (x : Box ExprCode Global)
    → capped (site_count g (expr_of (e.Prefix op p x))) ≡ capped (site_count g (expr_of x.value))
unfolding site_count sites_in
count-Prefix g op p x = count-as g (e.Prefix op p x) _ (expr_of-Prefix op p x)

pub count-Binary : (g : Scope) (x : Box ExprCode Global) (op : BinaryOperator) (p : Place) (y : Box ExprCode Global)
    → capped (site_count g (expr_of (e.Binary x op p y))) ≡ capped (capped (site_count g (expr_of x.value)) + capped (site_count g (expr_of y.value)))
unfolding site_count sites_in
count-Binary g x op p y =
    count-as g (e.Binary x op p y) _ (expr_of-Binary x op p y) ∙ count-append (sites_in g (expr_of x.value)) (sites_in g (expr_of y.value))

pub count-Postfix : (g : Scope) (x : Box ExprCode Global) (op : PostfixOperator) (p : Place)
    → capped (site_count g (expr_of (e.Postfix x op p))) ≡ capped (site_count g (expr_of x.value))
unfolding site_count sites_in
count-Postfix g x op p = count-as g (e.Postfix x op p) _ (expr_of-Postfix x op p)

pub count-Index : (g : Scope) (x : Box ExprCode Global) (p : Place) (y : Box ExprCode Global) → capped (site_count g (expr_of (e.Index x p y)))
    ≡ capped (capped (capped (site_count g (expr_of x.value)) + one_if (is_site g (expr_of (e.Index x p y)))) + capped (site_count g (expr_of y.value)))
count-Index g x p y =
    let P : Expr → Type 0 = λ z. capped (site_count g z)
    ≡ capped (capped (capped (site_count g (expr_of x.value)) + one_if (is_site g z)) + capped (site_count g (expr_of y.value))) in
    subst P (sym (expr_of-Index x p y)) (count-index g (expr_of x.value) (expr_of y.value) p)

pub count-MemberCall : (g : Scope) (x : Box ExprCode Global) (f : Identifier) (v : Vec ExprCode Global) → capped (site_count g (expr_of (e.MemberCall x f v)))
    ≡ capped (capped (capped (site_count g (expr_of x.value)) + one_if (is_site g (expr_of (e.MemberCall x f v)))) + capped (count_all g (exprs_of v.items)))
count-MemberCall g x f v =
    let P : Expr → Type 0 = λ z. capped (site_count g z)
    ≡ capped (capped (capped (site_count g (expr_of x.value)) + one_if (is_site g z)) + capped (count_all g (exprs_of v.items))) in
    subst P (sym (expr_of-MemberCall x f v)) (count-member_call g (expr_of x.value) f (exprs_of v.items))

pub count-Member : (g : Scope) (x : Box ExprCode Global) (s : Selector) (p : Place) (f : Identifier)
    → capped (site_count g (expr_of (e.Member x s p f))) ≡ capped (site_count g (expr_of x.value))
unfolding site_count sites_in
count-Member g x s p f = count-as g (e.Member x s p f) _ (expr_of-Member x s p f)

pub ruleset count_laws = (
  count-Number,
  count-Truth,
  count-Name,
  count-Call,
  count-LibraryCall,
  count-Parentheses,
  count-Prefix,
  count-Binary,
  count-Postfix,
  count-Index,
  count-MemberCall,
  count-Member,
)

-- how many sites an expression of the code has
abbrev pub count_at : Scope → ExprCode → ℕ
count_at g x = capped (site_count g (expr_of x))

-- the number of sites of a call from what is found of its parts
pub call-count : (g : Scope) (f : Identifier) (v : Vec ExprCode Global) (xs : List ExprCode) → xs ≡ v.items
    → capped (count_all g (exprs_of xs)) ≡ count_at g (e.Call f v)
call-count g f v xs is_xs = ap (λ (ys : List ExprCode). capped (count_all g (exprs_of ys))) is_xs ∙ sym (count-Call g f v)

-- a sum of equals
pub two : (m n k l : ℕ) → m ≡ n → k ≡ l → capped (m + k) ≡ capped (n + l)
two m n k l p q = ap (λ (i : ℕ). capped (i + k)) p ∙ ap (λ (i : ℕ). capped (n + i)) q

-- of a call of an algorithm
pub library-count : (g : Scope) (f : Identifier) (v : Vec ExprCode Global) (m n : ℕ) (xs : List ExprCode)
    → m ≡ one_if (is_site g (expr_of (e.LibraryCall f v))) → n ≡ capped (count_all g (exprs_of xs)) → xs ≡ v.items
    → capped (m + n) ≡ count_at g (e.LibraryCall f v)
library-count g f v m n xs is_m is_n is_xs =
    two m _ n _ is_m (is_n ∙ ap (λ (ys : List ExprCode). capped (count_all g (exprs_of ys))) is_xs) ∙ sym (count-LibraryCall g f v)

-- of a subscript
pub index-count : (g : Scope) (x : Box ExprCode Global) (p : Place) (y : Box ExprCode Global) (k m n : ℕ) (z w : ExprCode)
    → k ≡ count_at g z → z ≡ x.value → m ≡ one_if (is_site g (expr_of (e.Index x p y))) → n ≡ count_at g w → w ≡ y.value
    → capped (capped (k + m) + n) ≡ count_at g (e.Index x p y)
index-count g x p y k m n z w is_k is_z is_m is_n is_w =
    two _ _ n _ (two k _ m _ (is_k ∙ ap (count_at g) is_z) is_m) (is_n ∙ ap (count_at g) is_w) ∙ sym (count-Index g x p y)

-- of a member call
pub member-count : (g : Scope) (x : Box ExprCode Global) (f : Identifier) (v : Vec ExprCode Global) (k m n : ℕ) (z : ExprCode) (ys : List ExprCode)
    → k ≡ count_at g z → z ≡ x.value → m ≡ one_if (is_site g (expr_of (e.MemberCall x f v))) → n ≡ capped (count_all g (exprs_of ys)) → ys ≡ v.items
    → capped (capped (k + m) + n) ≡ count_at g (e.MemberCall x f v)
member-count g x f v k m n z ys is_k is_z is_m is_n is_ys =
    two _ _ n _ (two k _ m _ (is_k ∙ ap (count_at g) is_z) is_m) (is_n ∙ ap (λ (zs : List ExprCode). capped (count_all g (exprs_of zs))) is_ys)
    ∙ sym (count-MemberCall g x f v)

-- the sites of an expression of the code
abbrev pub sites_at : Scope → ExprCode → List Place
sites_at g x = sites_in g (expr_of x)

-- those of expressions, one by one
pub sites_in_all-flat_map : (g : Scope) (xs : List ExprCode) → sites_in_all g (exprs_of xs) ≡ flat_map (sites_at g) xs
unfolding sites_in_all
sites_in_all-flat_map g [] = refl
sites_in_all-flat_map g (x ∷ xs) = ap (λ (ps : List Place). sites_at g x ++ ps) (sites_in_all-flat_map g xs)

flat_map-one : (g : Scope) (x : ExprCode) → flat_map (sites_at g) (x ∷ []) ≡ sites_at g x
flat_map-one g x = append-nil (sites_at g x)

-- how many the first ones have, and one more
pub count-more : (g : Scope) (xs : List ExprCode) (i : ℕ) (x : ExprCode) → i < length xs → x ≡ get_or xs i x
    → capped (capped (length (flat_map (sites_at g) (take i xs))) + capped (site_count g (expr_of x)))
    ≡ capped (length (flat_map (sites_at g) (take (i + 1) xs)))
unfolding site_count
count-more g xs i x h k =
    sym (count-append (flat_map (sites_at g) (take i xs)) (sites_at g x))
    ∙ ap (λ (ps : List Place). capped (length (flat_map (sites_at g) (take i xs) ++ ps))) (sym (flat_map-one g x))
    ∙ ap (λ (y : ExprCode). capped (length (flat_map (sites_at g) (take i xs) ++ flat_map (sites_at g) (y ∷ [])))) k
    ∙ ap (λ (ps : List Place). capped (length ps)) (sym (flat_map-append (sites_at g) (take i xs) (get_or xs i x ∷ [])))
    ∙ ap (λ (ys : List ExprCode). capped (length (flat_map (sites_at g) ys))) (sym (take_more xs i x h))

-- how many all have
pub count-all : (g : Scope) (xs : List ExprCode) (i : ℕ) → length xs ≤ i
    → capped (length (flat_map (sites_at g) (take i xs))) ≡ capped (count_all g (exprs_of xs))
count-all g xs i h =
    ap (λ (ys : List ExprCode). capped (length (flat_map (sites_at g) ys))) (take_all i xs h)
    ∙ ap (λ (ps : List Place). capped (length ps)) (sym (sites_in_all-flat_map g xs))
