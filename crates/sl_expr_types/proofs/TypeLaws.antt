-- The types of expressions, variant by variant.
use Rattle.std.proofs.Common.{◌≡◌, ℕ, ◌<◌, ◌≤◌, ◌+◌, Bool, List, [], ◌∷◌, ◌++◌, length, map, take, get_or, Option, Some, None, Box, Vec, refl, sym, ap, ◌∙◌, inl, inr}
use Rattle.std.proofs.lemmas.Bool.{cases_lt}
use Rattle.std.proofs.lemmas.List.{take_all, take_more, map-append}
use Rattle.std.specs.declared.alloc.Global.{Global}
use Rattle.sl_base.specs.declared.place.Place.{Place}
use Rattle.sl_base.specs.declared.scalar.Scalar.TheVariants as c
use Rattle.sl_syntax.specs.declared.operator.BinaryOperator.{BinaryOperator}
use Rattle.sl_syntax.specs.declared.operator.PostfixOperator.{PostfixOperator}
use Rattle.sl_syntax.specs.declared.operator.PrefixOperator.{PrefixOperator}
use Rattle.sl_syntax.specs.declared.operator.Selector.{Selector}
use Rattle.sl_syntax.specs.declared.tree.expr.Expr.{Expr as ExprCode}
use Rattle.sl_syntax.specs.declared.tree.expr.Expr.TheVariants as e
use Rattle.sl_syntax.specs.declared.tree.identifier.Identifier.{Identifier}
use Rattle.sl_syntax.specs.Tree.{Expr}
use Rattle.sl_syntax.specs.TreeView.{expr_of, exprs_of}
use Rattle.sl_typing.specs.declared.expr_type.ExprType.{ExprType}
use Rattle.sl_typing.specs.declared.expr_type.ExprType.TheVariants as types
use Rattle.sl_typing.specs.declared.scope.Scope.{Scope}
use Rattle.sl_typing.specs.Candidates.{Found, algorithm_row}
use Rattle.sl_typing.specs.Numbering.{row_of_member}
use Rattle.sl_typing.specs.Scopes.{type_of_name, function_named}
use Rattle.sl_typing.specs.Types.{value_type, is_const}
use Rattle.sl_typing.specs.TypeOf.{type_of, types_of, type_of_use, own_type, appends, algorithm_type, member_type, prefix_type, binary_type, subscript_type}
use Rattle.sl_typing.specs.TypeOf.{selected_type, is_first, algorithm_gives}
use Rattle.sl_typing.specs.Signatures.{result_type}
use Rattle.sl_expr_types.specs.Few.{few, pushed_to, listed}
use Rattle.sl_expr_types.proofs.FewLaws.{listed-few, listed-many, pushed_to-few}
use Rattle.sl_candidates.proofs.FewArguments.{no_member_row, no_algorithm_row}
use Rattle.sl_expr_types.proofs.Views.{expr_of-Call, expr_of-LibraryCall, expr_of-Parentheses, expr_of-Prefix, expr_of-Binary, expr_of-Postfix}
use Rattle.sl_expr_types.proofs.Views.{expr_of-Index, expr_of-MemberCall, expr_of-Member}

no_row : (form : _) (access : _) (name : List ℕ) (us : List ExprType) → 8 < length us → member_type (types.Container access form) name us ≡ types.Wrong
no_row form access name us h =
    ap (λ (o : Option Found). elim o as (λ _. ExprType) [ None ↦ types.Wrong | Some x ↦ result_type x.row.gives (is_const access) form us ])
    (no_member_row form name us h)

wrong-many : (u : ExprType) (name : List ℕ) (us vs : List ExprType) → 8 < length us → 8 < length vs → member_type u name vs ≡ member_type u name us
wrong-many (types.Container access form) name us vs h k = no_row form access name vs k ∙ sym (no_row form access name us h)
wrong-many u name us vs h k = refl

-- the type of a member call from the types that are kept of its arguments
pub member_type-few : (u : ExprType) (name : List ℕ) (us : List ExprType) → member_type u name (listed (few us)) ≡ member_type u name us
member_type-few u name us = elim (cases_lt 8 (length us)) as (λ _. member_type u name (listed (few us)) ≡ member_type u name us) [
  | inl h ↦ wrong-many u name us (listed (few us)) h (listed-many us h)
  | inr h ↦ ap (member_type u name) (listed-few us h)
]

no_algorithm : (b : Bool) (name : List ℕ) (us : List ExprType) → 8 < length us → algorithm_type b name us ≡ types.Wrong
no_algorithm b name us h =
    ap (λ (o : Option Found). elim o as (λ _. ExprType) [ None ↦ types.Wrong | Some x ↦ algorithm_gives b x.row.gives us ])
    (no_algorithm_row b name us h)

-- and that of a call of an algorithm
pub algorithm_type-few : (b : Bool) (name : List ℕ) (us : List ExprType) → algorithm_type b name (listed (few us)) ≡ algorithm_type b name us
algorithm_type-few b name us = elim (cases_lt 8 (length us)) as (λ _. algorithm_type b name (listed (few us)) ≡ algorithm_type b name us) [
  | inl h ↦ no_algorithm b name (listed (few us)) (listed-many us h) ∙ sym (no_algorithm b name us h)
  | inr h ↦ ap (algorithm_type b name) (listed-few us h)
]

as_data : (g : Scope) (x : ExprCode) (y : Expr) → expr_of x ≡ y → type_of g (expr_of x) ≡ type_of g y
as_data g x y k = ap (type_of g) k

pub type-Number : (g : Scope) (p : Place) (n : ℕ) → type_of g (expr_of (e.Number p n)) ≡ types.Scalar c.Int
unfolding type_of
type-Number g p n = refl

pub type-Truth : (g : Scope) (p : Place) (b : Bool) → type_of g (expr_of (e.Truth p b)) ≡ types.Scalar c.Bool
unfolding type_of
type-Truth g p b = refl

pub type-Name : (g : Scope) (x : Identifier) → type_of g (expr_of (e.Name x)) ≡ type_of_use (type_of_name g x.name)
unfolding type_of
type-Name g x = refl

pub type-Call : (g : Scope) (f : Identifier) (v : Vec ExprCode Global) → type_of g (expr_of (e.Call f v)) ≡ own_type (function_named g f.name)
unfolding type_of
type-Call g f v = as_data g (e.Call f v) _ (expr_of-Call f v)

pub type-LibraryCall : (g : Scope) (f : Identifier) (v : Vec ExprCode Global) → type_of g (expr_of (e.LibraryCall f v))
    ≡ algorithm_type (appends f.name (exprs_of v.items)) f.name (listed (few (types_of g (exprs_of v.items))))
unfolding type_of
type-LibraryCall g f v =
    as_data g (e.LibraryCall f v) _ (expr_of-LibraryCall f v)
    ∙ sym (algorithm_type-few (appends f.name (exprs_of v.items)) f.name (types_of g (exprs_of v.items)))

pub type-Parentheses : (g : Scope) (p : Place) (x : Box ExprCode Global) → type_of g (expr_of (e.Parentheses p x)) ≡ type_of g (expr_of x.value)
unfolding type_of
type-Parentheses g p x = as_data g (e.Parentheses p x) _ (expr_of-Parentheses p x)

pub type-Prefix : (g : Scope) (op : PrefixOperator) (p : Place) (x : Box ExprCode Global)
    → type_of g (expr_of (e.Prefix op p x)) ≡ prefix_type op (type_of g (expr_of x.value))
unfolding type_of
type-Prefix g op p x = as_data g (e.Prefix op p x) _ (expr_of-Prefix op p x)

pub type-Binary : (g : Scope) (x : Box ExprCode Global) (op : BinaryOperator) (p : Place) (y : Box ExprCode Global)
    → type_of g (expr_of (e.Binary x op p y)) ≡ binary_type op (type_of g (expr_of x.value)) (type_of g (expr_of y.value))
unfolding type_of
type-Binary g x op p y = as_data g (e.Binary x op p y) _ (expr_of-Binary x op p y)

pub type-Postfix : (g : Scope) (x : Box ExprCode Global) (op : PostfixOperator) (p : Place)
    → type_of g (expr_of (e.Postfix x op p)) ≡ value_type (type_of g (expr_of x.value))
unfolding type_of
type-Postfix g x op p = as_data g (e.Postfix x op p) _ (expr_of-Postfix x op p)

pub type-Index : (g : Scope) (x : Box ExprCode Global) (p : Place) (y : Box ExprCode Global)
    → type_of g (expr_of (e.Index x p y)) ≡ subscript_type (type_of g (expr_of x.value))
unfolding type_of
type-Index g x p y = as_data g (e.Index x p y) _ (expr_of-Index x p y)

pub type-MemberCall : (g : Scope) (x : Box ExprCode Global) (f : Identifier) (v : Vec ExprCode Global) → type_of g (expr_of (e.MemberCall x f v))
    ≡ member_type (type_of g (expr_of x.value)) f.name (listed (few (types_of g (exprs_of v.items))))
unfolding type_of
type-MemberCall g x f v =
    as_data g (e.MemberCall x f v) _ (expr_of-MemberCall x f v)
    ∙ sym (member_type-few (type_of g (expr_of x.value)) f.name (types_of g (exprs_of v.items)))

pub type-Member : (g : Scope) (x : Box ExprCode Global) (s : Selector) (p : Place) (f : Identifier)
    → type_of g (expr_of (e.Member x s p f)) ≡ selected_type s (type_of g (expr_of x.value)) (is_first f.name)
unfolding type_of
type-Member g x s p f = as_data g (e.Member x s p f) _ (expr_of-Member x s p f)

pub ruleset type_laws = (
  type-Number,
  type-Truth,
  type-Name,
  type-Call,
  type-LibraryCall,
  type-Parentheses,
  type-Prefix,
  type-Binary,
  type-Postfix,
  type-Index,
  type-MemberCall,
  type-Member,
)

-- the type of an expression of the code
abbrev pub type_at : Scope → ExprCode → ExprType
type_at g x = type_of g (expr_of x)

-- the types of expressions, one by one
pub types_of-map : (g : Scope) (xs : List ExprCode) → types_of g (exprs_of xs) ≡ map (type_at g) xs
unfolding types_of
types_of-map g [] = refl
types_of-map g (x ∷ xs) = ap (λ (us : List ExprType). type_at g x ∷ us) (types_of-map g xs)

-- those of the first ones, and of one more
pub types-more : (g : Scope) (xs : List ExprCode) (i : ℕ) (x : ExprCode) → i < length xs → x ≡ get_or xs i x
    → pushed_to (few (map (type_at g) (take i xs))) (type_at g x) ≡ few (map (type_at g) (take (i + 1) xs))
types-more g xs i x h k =
    pushed_to-few (map (type_at g) (take i xs)) (type_at g x)
    ∙ ap few (sym (ap (map (type_at g)) (take_more xs i x h) ∙ map-append (type_at g) (take i xs) (get_or xs i x ∷ [])
    ∙ ap (λ (y : ExprCode). map (type_at g) (take i xs) ++ type_at g y ∷ []) (sym k)))

-- those of all
pub types-all : (g : Scope) (xs : List ExprCode) (i : ℕ) → length xs ≤ i → few (map (type_at g) (take i xs)) ≡ few (types_of g (exprs_of xs))
types-all g xs i h = ap few (ap (map (type_at g)) (take_all i xs h) ∙ sym (types_of-map g xs))

-- the type of a call of an algorithm from what is found of its parts
pub library-type : (g : Scope) (f : Identifier) (v : Vec ExprCode Global) (name : List ℕ) (b : Bool) (us : Option (List ExprType)) (xs ys : List ExprCode)
    → name ≡ f.name → xs ≡ v.items → ys ≡ v.items → b ≡ appends name (exprs_of xs) → us ≡ few (types_of g (exprs_of ys))
    → algorithm_type b name (listed us) ≡ type_of g (expr_of (e.LibraryCall f v))
library-type g f v name b us xs ys is_name is_xs is_ys is_b is_us =
    ap (λ (d : Bool). algorithm_type d name (listed us)) is_b
    ∙ ap (λ (o : Option (List ExprType)). algorithm_type (appends name (exprs_of xs)) name (listed o)) is_us
    ∙ ap (λ (n : List ℕ). algorithm_type (appends n (exprs_of xs)) n (listed (few (types_of g (exprs_of ys))))) is_name
    ∙ ap (λ (zs : List ExprCode). algorithm_type (appends f.name (exprs_of zs)) f.name (listed (few (types_of g (exprs_of ys))))) is_xs
    ∙ ap (λ (zs : List ExprCode). algorithm_type (appends f.name (exprs_of v.items)) f.name (listed (few (types_of g (exprs_of zs))))) is_ys
    ∙ sym (type-LibraryCall g f v)

-- the type of a member call from that of its object and what is found of its arguments
pub member-type : (g : Scope) (x : Box ExprCode Global) (f : Identifier) (v : Vec ExprCode Global) (u : ExprType) (name : List ℕ)
    (us : Option (List ExprType)) (ys : List ExprCode)
    → u ≡ type_of g (expr_of x.value) → name ≡ f.name → ys ≡ v.items → us ≡ few (types_of g (exprs_of ys))
    → member_type u name (listed us) ≡ type_of g (expr_of (e.MemberCall x f v))
member-type g x f v u name us ys is_u is_name is_ys is_us =
    ap (λ (w : ExprType). member_type w name (listed us)) is_u
    ∙ ap (λ (o : Option (List ExprType)). member_type (type_of g (expr_of x.value)) name (listed o)) is_us
    ∙ ap (λ (n : List ℕ). member_type (type_of g (expr_of x.value)) n (listed (few (types_of g (exprs_of ys))))) is_name
    ∙ ap (λ (zs : List ExprCode). member_type (type_of g (expr_of x.value)) f.name (listed (few (types_of g (exprs_of zs))))) is_ys
    ∙ sym (type-MemberCall g x f v)

wrong_row-many : (u : ExprType) (name : List ℕ) (us vs : List ExprType) → 8 < length us → 8 < length vs → row_of_member u name vs ≡ row_of_member u name us
wrong_row-many (types.Container access form) name us vs h k = no_member_row form name vs k ∙ sym (no_member_row form name us h)
wrong_row-many u name us vs h k = refl

-- the row of a member call from the types that are kept of its arguments
pub row_of_member-few : (u : ExprType) (name : List ℕ) (us : List ExprType) → row_of_member u name (listed (few us)) ≡ row_of_member u name us
row_of_member-few u name us = elim (cases_lt 8 (length us)) as (λ _. row_of_member u name (listed (few us)) ≡ row_of_member u name us) [
  | inl h ↦ wrong_row-many u name us (listed (few us)) h (listed-many us h)
  | inr h ↦ ap (row_of_member u name) (listed-few us h)
]

-- and that of a call of an algorithm
pub algorithm_row-few : (b : Bool) (name : List ℕ) (us : List ExprType) → algorithm_row b name (listed (few us)) ≡ algorithm_row b name us
algorithm_row-few b name us = elim (cases_lt 8 (length us)) as (λ _. algorithm_row b name (listed (few us)) ≡ algorithm_row b name us) [
  | inl h ↦ no_algorithm_row b name (listed (few us)) (listed-many us h) ∙ sym (no_algorithm_row b name us h)
  | inr h ↦ ap (algorithm_row b name) (listed-few us h)
]
