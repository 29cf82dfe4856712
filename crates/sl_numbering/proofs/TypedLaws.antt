-- Typed expressions, node by node of a tree of the code.
use Rattle.std.proofs.Common.{◌≡◌, ℕ, ◌+◌, Bool, List, [], ◌∷◌, map, pos, Option, None, Box, Vec, Result, IfOk, refl, ap, sym, subst, ◌∙◌}
use Rattle.std.specs.declared.alloc.Global.{Global}
use Rattle.sl_base.specs.declared.place.Place.{Place}
use Rattle.sl_base.specs.declared.scalar.Scalar.TheVariants as c
use Rattle.sl_syntax.specs.declared.operator.BinaryOperator.{BinaryOperator}
use Rattle.sl_syntax.specs.declared.operator.PostfixOperator.{PostfixOperator}
use Rattle.sl_syntax.specs.declared.operator.PrefixOperator.{PrefixOperator}
use Rattle.sl_syntax.specs.declared.operator.Selector.{Selector}
use Rattle.sl_syntax.specs.declared.tree.expr.Expr.{Expr as ExprCode}
use Rattle.sl_syntax.specs.declared.tree.expr.Expr.TheVariants as e
use Rattle.sl_syntax.specs.declared.tree.identifier.Identifier.{Identifier}
use Rattle.sl_syntax.specs.declared.typed.expr.Expr.{Expr as TypedCode}
use Rattle.sl_syntax.specs.declared.typed.parameter.ParameterKind.{ParameterKind}
use Rattle.sl_syntax.specs.Tree as s
use Rattle.sl_syntax.specs.Tree.{Expr, Exprs}
use Rattle.sl_syntax.specs.Typed as t
use Rattle.sl_syntax.specs.Typed.{Operands}
use Rattle.sl_syntax.specs.TypedView as view
use Rattle.sl_syntax.specs.TreeView.{expr_of, exprs_of}
use Rattle.sl_syntax.proofs.TreeViews.{expr_of-Call, expr_of-LibraryCall, expr_of-Parentheses, expr_of-Prefix, expr_of-Binary, expr_of-Postfix}
use Rattle.sl_syntax.proofs.TreeViews.{expr_of-Index, expr_of-MemberCall, expr_of-Member}
use Rattle.sl_typing.specs.declared.scope.Scope.{Scope}
use Rattle.sl_typing.specs.declared.expr_type.ExprType.{ExprType}
use Rattle.sl_typing.specs.Candidates.{Found, algorithm_row}
use Rattle.sl_typing.specs.Numbering.{typed, operands, truth_number, variable, label_in, number_of_function, parameter_way, called_algorithm, called_row}
use Rattle.sl_typing.specs.Numbering.{letters_of, ways, told, told_all, prefixed, postfixed, joined, selected, row_of_subscript, row_of_member}
use Rattle.sl_typing.specs.Numbering.{handed, first_way, number_in, one}
use Rattle.sl_typing.specs.Order.{parameters_of}
use Rattle.sl_typing.specs.Scopes.{type_of_name, number_of_name, label_of_name, function_named}
use Rattle.sl_typing.specs.Sites.{inside, site_number, site_count}
use Rattle.sl_typing.specs.TypeOf.{type_of, types_of, appends, is_first}

pub typed-Number : (g : Scope) (n : ℕ) (p : Place) (v : ℕ) → typed g n (expr_of (e.Number p v)) ≡ t.literal c.Int (pos v)
unfolding typed
typed-Number g n p v = refl

pub typed-Truth : (g : Scope) (n : ℕ) (p : Place) (v : Bool) → typed g n (expr_of (e.Truth p v)) ≡ t.literal c.Bool (truth_number v)
unfolding typed
typed-Truth g n p v = refl

pub typed-Name : (g : Scope) (n : ℕ) (x : Identifier)
    → typed g n (expr_of (e.Name x))
    ≡ variable (type_of_name g x.name) (number_of_name g x.name) x.place (label_in (label_of_name g x.name))
unfolding typed
typed-Name g n x = refl

pub typed-Call : (g : Scope) (n : ℕ) (f : Identifier) (v : Vec ExprCode Global)
    → typed g n (expr_of (e.Call f v))
    ≡ t.own_call (number_of_function (function_named g f.name)) f.place
    (operands g n (map parameter_way (parameters_of (function_named g f.name))) (exprs_of v.items))
unfolding typed
typed-Call g n f v = ap (typed g n) (expr_of-Call f v)

library_node : (g : Scope) (n : ℕ) (f : Identifier) (xs : Exprs)
    → typed g n (s.library_call f xs)
    ≡ (let x = s.library_call f xs in let row = algorithm_row (appends f.name xs) f.name (types_of g xs) in
    called_algorithm row (appends f.name xs) f.name f.place (site_number g n x) (None ∷ told_all g xs)
    (operands g (inside g n x) (ways (letters_of row)) xs))
unfolding typed
library_node g n f xs = refl

-- a call of an algorithm by its parts
library_parts : (g : Scope) (n : ℕ) (f : Identifier) (xs : Exprs) (x : Expr) (name : List ℕ) (b : Bool) (row : Option Found) (site : Option ℕ)
    (names : List (Option ℕ)) (m : ℕ) (es : Operands)
    → x ≡ s.library_call f xs → name ≡ f.name → b ≡ appends name xs → row ≡ algorithm_row b name (types_of g xs) → site ≡ site_number g n x
    → names ≡ None ∷ told_all g xs → m ≡ inside g n x → es ≡ operands g m (ways (letters_of row)) xs
    → called_algorithm row b f.name f.place site names es ≡ typed g n x
library_parts g n f xs x name b row site names m es is is_name is_b is_row is_site is_names is_m is_es =
    rw (is_es, is_m, is_names, is_site, is_row, is_b, is_name, is) (sym (library_node g n f xs))

pub library_answer : (g : Scope) (n : ℕ) (f : Identifier) (v : Vec ExprCode Global) (y : ExprCode) (name : List ℕ) (given : List ExprCode) (b : Bool)
    (row : Option Found) (site : Option ℕ) (names : List (Option ℕ)) (m : ℕ) (es : Operands)
    → y ≡ e.LibraryCall f v → name ≡ f.name → given ≡ v.items → b ≡ appends name (exprs_of given)
    → row ≡ algorithm_row b name (types_of g (exprs_of given)) → site ≡ site_number g n (expr_of y) → names ≡ None ∷ told_all g (exprs_of given)
    → m ≡ inside g n (expr_of y) → es ≡ operands g m (ways (letters_of row)) (exprs_of given)
    → called_algorithm row b f.name f.place site names es ≡ typed g n (expr_of y)
library_answer g n f v y name given b row site names m es is is_name is_given is_b is_row is_site is_names is_m is_es =
    library_parts g n f (exprs_of given) (expr_of y) name b row site names m es
    (ap expr_of is ∙ expr_of-LibraryCall f v ∙ ap (λ (xs : List ExprCode). s.library_call f (exprs_of xs)) (sym is_given)) is_name is_b is_row is_site
    is_names is_m is_es

pub typed-Parentheses : (g : Scope) (n : ℕ) (p : Place) (x : Box ExprCode Global)
    → typed g n (expr_of (e.Parentheses p x)) ≡ typed g n (expr_of x.value)
unfolding typed
typed-Parentheses g n p x = ap (typed g n) (expr_of-Parentheses p x)

pub typed-Prefix : (g : Scope) (n : ℕ) (op : PrefixOperator) (p : Place) (x : Box ExprCode Global)
    → typed g n (expr_of (e.Prefix op p x))
    ≡ prefixed op p (type_of g (expr_of x.value)) (None ∷ told g (expr_of x.value) ∷ []) (typed g n (expr_of x.value))
unfolding typed
typed-Prefix g n op p x = ap (typed g n) (expr_of-Prefix op p x)

pub typed-Binary : (g : Scope) (n : ℕ) (x : Box ExprCode Global) (op : BinaryOperator) (p : Place) (y : Box ExprCode Global)
    → typed g n (expr_of (e.Binary x op p y))
    ≡ joined op p (type_of g (expr_of x.value)) (type_of g (expr_of y.value))
    (None ∷ told g (expr_of x.value) ∷ told g (expr_of y.value) ∷ []) (typed g n (expr_of x.value))
    (typed g (n + site_count g (expr_of x.value)) (expr_of y.value))
unfolding typed
typed-Binary g n x op p y = ap (typed g n) (expr_of-Binary x op p y)

pub typed-Postfix : (g : Scope) (n : ℕ) (x : Box ExprCode Global) (op : PostfixOperator) (p : Place)
    → typed g n (expr_of (e.Postfix x op p))
    ≡ postfixed op p (type_of g (expr_of x.value)) (None ∷ told g (expr_of x.value) ∷ []) (typed g n (expr_of x.value))
unfolding typed
typed-Postfix g n x op p = ap (typed g n) (expr_of-Postfix x op p)

pub typed-Index : (g : Scope) (n : ℕ) (x : Box ExprCode Global) (p : Place) (y : Box ExprCode Global)
    → typed g n (expr_of (e.Index x p y))
    ≡ (let z = expr_of (e.Index x p y) in let row = row_of_subscript (type_of g (expr_of x.value)) in
    called_row row p (site_number g n z) (number_in (typed g n (expr_of x.value))) (told g (expr_of x.value) ∷ told g (expr_of y.value) ∷ [])
    (one (handed (first_way (ways (letters_of row))) (type_of g (expr_of y.value)) (typed g (inside g n z) (expr_of y.value)))))
unfolding typed
typed-Index g n x p y = rw (expr_of-Index x p y) refl

member_node : (g : Scope) (n : ℕ) (x : Expr) (f : Identifier) (xs : Exprs)
    → typed g n (s.member_call x f xs)
    ≡ (let z = s.member_call x f xs in let row = row_of_member (type_of g x) f.name (types_of g xs) in
    called_row row f.place (site_number g n z) (number_in (typed g n x)) (told g x ∷ told_all g xs)
    (operands g (inside g n z) (ways (letters_of row)) xs))
unfolding typed
member_node g n x f xs = refl

-- a member call by its parts
member_parts : (g : Scope) (n : ℕ) (x : Expr) (f : Identifier) (xs : Exprs) (z : Expr) (u : ExprType) (d : t.Expr) (name : List ℕ)
    (row : Option Found) (site : Option ℕ) (k : ℕ) (first : Option ℕ) (names : List (Option ℕ)) (m : ℕ) (es : Operands)
    → z ≡ s.member_call x f xs → u ≡ type_of g x → d ≡ typed g n x → name ≡ f.name → row ≡ row_of_member u name (types_of g xs)
    → site ≡ site_number g n z → k ≡ number_in d → first ≡ told g x → names ≡ first ∷ told_all g xs → m ≡ inside g n z
    → es ≡ operands g m (ways (letters_of row)) xs
    → called_row row f.place site k names es ≡ typed g n z
member_parts g n x f xs z u d name row site k first names m es is is_u is_d is_name is_row is_site is_k is_first is_names is_m is_es =
    rw (is_es, is_m, is_names, is_first, is_k, is_site, is_row, is_name, is_d, is_u, is) (sym (member_node g n x f xs))

pub member_answer : (g : Scope) (n : ℕ) (x : Box ExprCode Global) (f : Identifier) (v : Vec ExprCode Global) (y : ExprCode) (u : ExprType)
    (d : t.Expr) (name : List ℕ) (given : List ExprCode) (row : Option Found) (site : Option ℕ) (k : ℕ) (first : Option ℕ)
    (names : List (Option ℕ)) (m : ℕ) (es : Operands)
    → y ≡ e.MemberCall x f v → u ≡ type_of g (expr_of x.value) → d ≡ typed g n (expr_of x.value) → name ≡ f.name → given ≡ v.items
    → row ≡ row_of_member u name (types_of g (exprs_of given)) → site ≡ site_number g n (expr_of y) → k ≡ number_in d
    → first ≡ told g (expr_of x.value) → names ≡ first ∷ told_all g (exprs_of given) → m ≡ inside g n (expr_of y)
    → es ≡ operands g m (ways (letters_of row)) (exprs_of given)
    → called_row row f.place site k names es ≡ typed g n (expr_of y)
member_answer g n x f v y u d name given row site k first names m es is is_u is_d is_name is_given is_row is_site is_k is_first is_names is_m is_es =
    member_parts g n (expr_of x.value) f (exprs_of given) (expr_of y) u d name row site k first names m es
    (ap expr_of is ∙ expr_of-MemberCall x f v ∙ ap (λ (xs : List ExprCode). s.member_call (expr_of x.value) f (exprs_of xs)) (sym is_given)) is_u is_d
    is_name is_row is_site is_k is_first is_names is_m is_es

pub typed-Member : (g : Scope) (n : ℕ) (x : Box ExprCode Global) (k : Selector) (p : Place) (f : Identifier)
    → typed g n (expr_of (e.Member x k p f))
    ≡ selected k p (is_first f.name) (None ∷ told g (expr_of x.value) ∷ []) (typed g n (expr_of x.value))
unfolding typed
typed-Member g n x k p f = ap (typed g n) (expr_of-Member x k p f)

-- ## Answers: a node by what the code finds of its parts

-- what a value is seen as
pub seen_as : {E : Type 0} (r : Result TypedCode E) (a b : t.Expr) → IfOk r (λ e. view.expr_of e ≡ a) → a ≡ b → IfOk r (λ e. view.expr_of e ≡ b)
seen_as r a b h is = subst (λ (y : t.Expr). IfOk r (λ (z : TypedCode). view.expr_of z ≡ y)) is h

pub call_answer : (g : Scope) (n : ℕ) (f : Identifier) (v : Vec ExprCode Global) (y : ExprCode) (name : List ℕ) (k : ℕ) (ps : List ParameterKind)
    (given : List ExprCode) (es : Operands)
    → y ≡ e.Call f v → name ≡ f.name → k ≡ number_of_function (function_named g name) → ps ≡ parameters_of (function_named g name)
    → given ≡ v.items → es ≡ operands g n (map parameter_way ps) (exprs_of given) → t.own_call k f.place es ≡ typed g n (expr_of y)
call_answer g n f v y name k ps given es is is_name is_k is_ps is_given is_es =
    rw (is_es, is_given, is_ps, is_k, is_name, is) (sym (typed-Call g n f v))

pub prefix_answer : (g : Scope) (n : ℕ) (op : PrefixOperator) (p : Place) (x : Box ExprCode Global) (y : ExprCode) (u : ExprType) (name : Option ℕ)
    (d : t.Expr)
    → y ≡ e.Prefix op p x → u ≡ type_of g (expr_of x.value) → name ≡ told g (expr_of x.value) → d ≡ typed g n (expr_of x.value)
    → prefixed op p u (None ∷ name ∷ []) d ≡ typed g n (expr_of y)
prefix_answer g n op p x y u name d is is_u is_name is_d = rw (is_u, is_name, is_d, is) (sym (typed-Prefix g n op p x))

pub postfix_answer : (g : Scope) (n : ℕ) (x : Box ExprCode Global) (op : PostfixOperator) (p : Place) (y : ExprCode) (u : ExprType) (name : Option ℕ)
    (d : t.Expr)
    → y ≡ e.Postfix x op p → u ≡ type_of g (expr_of x.value) → name ≡ told g (expr_of x.value) → d ≡ typed g n (expr_of x.value)
    → postfixed op p u (None ∷ name ∷ []) d ≡ typed g n (expr_of y)
postfix_answer g n x op p y u name d is is_u is_name is_d = rw (is_u, is_name, is_d, is) (sym (typed-Postfix g n x op p))

pub binary_answer : (g : Scope) (n : ℕ) (x : Box ExprCode Global) (op : BinaryOperator) (p : Place) (z : Box ExprCode Global) (y : ExprCode)
    (u v : ExprType) (name other : Option ℕ) (c : ℕ) (d e' : t.Expr)
    → y ≡ e.Binary x op p z → u ≡ type_of g (expr_of x.value) → v ≡ type_of g (expr_of z.value) → name ≡ told g (expr_of x.value)
    → other ≡ told g (expr_of z.value) → c ≡ site_count g (expr_of x.value) → d ≡ typed g n (expr_of x.value)
    → e' ≡ typed g (n + c) (expr_of z.value)
    → joined op p u v (None ∷ name ∷ other ∷ []) d e' ≡ typed g n (expr_of y)
binary_answer g n x op p z y u v name other c d e' is is_u is_v is_name is_other is_c is_d is_e =
    rw (is_u, is_v, is_name, is_other, is_d, is_e, is_c, is) (sym (typed-Binary g n x op p z))

pub index_answer : (g : Scope) (n : ℕ) (x : Box ExprCode Global) (p : Place) (z : Box ExprCode Global) (y : ExprCode)
    (u v : ExprType) (name other : Option ℕ) (site : Option ℕ) (m : ℕ) (d e' : t.Expr)
    → y ≡ e.Index x p z → u ≡ type_of g (expr_of x.value) → v ≡ type_of g (expr_of z.value) → name ≡ told g (expr_of x.value)
    → other ≡ told g (expr_of z.value) → site ≡ site_number g n (expr_of y) → m ≡ inside g n (expr_of y) → d ≡ typed g n (expr_of x.value)
    → e' ≡ typed g m (expr_of z.value)
    → (let row = row_of_subscript u in called_row row p site (number_in d) (name ∷ other ∷ [])
    (one (handed (first_way (ways (letters_of row))) v e'))) ≡ typed g n (expr_of y)
index_answer g n x p z y u v name other site m d e' is is_u is_v is_name is_other is_site is_m is_d is_e =
    rw (is_u, is_v, is_name, is_other, is_d, is_e, is_site, is_m, is) (sym (typed-Index g n x p z))

pub member_part_answer : (g : Scope) (n : ℕ) (x : Box ExprCode Global) (k : Selector) (p : Place) (f : Identifier) (y : ExprCode) (first : Bool)
    (name : Option ℕ) (d : t.Expr)
    → y ≡ e.Member x k p f → first ≡ is_first f.name → name ≡ told g (expr_of x.value) → d ≡ typed g n (expr_of x.value)
    → selected k p first (None ∷ name ∷ []) d ≡ typed g n (expr_of y)
member_part_answer g n x k p f y first name d is is_part is_name is_d = rw (is_part, is_name, is_d, is) (sym (typed-Member g n x k p f))
