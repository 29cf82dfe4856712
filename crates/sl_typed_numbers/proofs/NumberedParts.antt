-- The sites of the parts of a statement that break no rule are numbered in the order of the text: of effects, conditions, declarations and values.
use Rattle.std.proofs.Common.{◌≡◌, ℕ, ◌+◌, Bool, true, false, List, [], ◌∷◌, ◌++◌, length, length-append, Option, Some, None}
use Rattle.std.proofs.Common.{refl, sym, ◌∙◌, ap, subst, arith}
use Rattle.std.specs.Prelude.{◌&&◌, flat_map, is_none, if◌then◌else◌}
use Rattle.std.specs.List.{list_all}
use Rattle.std.proofs.lemmas.Bool.{and_parts}
use Rattle.sl_base.specs.declared.place.Place.{Place}
use Rattle.sl_base.specs.declared.scalar.Scalar.{Scalar}
use Rattle.sl_base.specs.declared.scalar.Scalar.TheVariants as c
use Rattle.sl_syntax.specs.declared.operator.Arithmetic.{Arithmetic}
use Rattle.sl_syntax.specs.declared.operator.Assignment.{Assignment}
use Rattle.sl_syntax.specs.declared.operator.Assignment.TheVariants as assignments
use Rattle.sl_syntax.specs.declared.typed.callee.Callee.TheVariants as callees
use Rattle.sl_syntax.specs.declared.typed.step.Fix.TheVariants as fixes
use Rattle.sl_syntax.specs.Tree as s
use Rattle.sl_syntax.specs.Tree.{Expr, Exprs, Initializer, Declaration, Out, Effect, Cond}
use Rattle.sl_syntax.specs.Typed as t
use Rattle.sl_typing.specs.declared.expr_type.ExprType.{ExprType}
use Rattle.sl_typing.specs.declared.expr_type.ExprType.TheVariants as types
use Rattle.sl_typing.specs.declared.rules.TheConstants as rule
use Rattle.sl_typing.specs.declared.standing.Standing.TheVariants as standing
use Rattle.sl_typing.specs.Types.{is_element, is_number, is_iterator, is_container, scalar_of, common}
use Rattle.sl_typing.specs.Candidates.{Found, assignment_row}
use Rattle.sl_typing.specs.Contexts.{Context}
use Rattle.sl_typing.specs.TypeOf.{type_of}
use Rattle.sl_typing.specs.Looks.{is_plain, is_left_side}
use Rattle.sl_typing.specs.Sites.{site_count, sites_in, sites_in_all, behind, is_assignment_site}
use Rattle.sl_typing.specs.WrongType.{takes_value, wrong_assignment}
use Rattle.sl_typing.specs.Faults.{broken, faults_of_all}
use Rattle.sl_typing.specs.Flow.{behind_outs, behind_left, behind_effect, behind_cond}
use Rattle.sl_typing.specs.StatementFaults.{expr_faults, outs_faults, effect_faults, cond_faults}
use Rattle.sl_typing.specs.Numbering.{Way, told, left_of, number_in, converted, head, operator_head, one, operands}
use Rattle.sl_typing.specs.StatementNumbering.{typed_expr, typed_outs, set, move_operator, updated, assigned_container}
use Rattle.sl_typing.specs.StatementNumbering.{typed_effect, typed_cond}
use Rattle.sl_model.specs.Typing.WellTypedNodes.{Node, a_call, nodes_in, nodes_in_left, nodes_in_operands}
use Rattle.sl_model.specs.Typing.WellTypedNodes.{nodes_in_printed, nodes_in_effect, nodes_in_cond}
use Rattle.sl_number_limits.proofs.Lists.{parts, not_broken}
use Rattle.sl_number_limits.proofs.ValueFaults as value
use Rattle.sl_well_typed.proofs.Bound.{is_held}
use Rattle.sl_well_typed.proofs.Making.{is_assigned}
use Rattle.sl_typed_numbers.proofs.Counting.{not_not}
use Rattle.sl_typed_numbers.proofs.LeftSides.{left_is_name, left_is_held}
use Rattle.sl_typed_numbers.proofs.NumberedArguments.{is_value, values_keep}
use Rattle.sl_typed_numbers.proofs.NumberedNodes.{Numbers, both_number, up_to, from_same, none_number, chosen_numbers, first_unnumbered, one_numbers}
use Rattle.sl_typed_numbers.proofs.NumberedNodes.{converted_numbers, left_nodes}
use Rattle.sl_typed_numbers.proofs.NumberedSites.{expression_numbers, arguments_number}
use Rattle.sl_typed_numbers.proofs.Objects.{ArePlain}

-- nodes number the sites between two places
abbrev pub Between : Context → Context → List Node → Type 0
Between g h nodes = Numbers (length g.sites) (length h.sites) nodes

-- how many sites stand behind an expression
pub sites_behind : (g : Context) (e : Expr) → length (behind g e).sites ≡ length g.sites + site_count g.scope e
unfolding site_count
sites_behind g e = length-append g.sites (sites_in g.scope e)

-- an expression
pub expr_numbers : (g : Context) → ArePlain g.scope.functions → (e : Expr) → expr_faults g e ≡ [] → Between g (behind g e) (nodes_in (typed_expr g e))
expr_numbers g plain e none =
    up_to (length g.sites) (length g.sites + site_count g.scope e) (length (behind g e).sites) (nodes_in (typed_expr g e)) (sites_behind g e)
    (expression_numbers g.scope plain (length g.sites) standing.Plain e none)

-- arguments
pub args_number : (g : Context) → ArePlain g.scope.functions → (ws : List Way) (xs : Exprs) → list_all is_value ws ≡ true
    → faults_of_all g.scope (length g.sites) standing.Plain xs ≡ []
    → Numbers (length g.sites) (length (g.sites ++ sites_in_all g.scope xs)) (nodes_in_operands (operands g.scope (length g.sites) ws xs))
args_number g plain ws xs values none =
    up_to (length g.sites) (length g.sites + length (sites_in_all g.scope xs)) (length (g.sites ++ sites_in_all g.scope xs))
    (nodes_in_operands (operands g.scope (length g.sites) ws xs))
    (length-append g.sites (sites_in_all g.scope xs))
    (arguments_number g.scope plain (length g.sites) standing.Plain ws xs (values_keep ws xs values) none)

-- a condition
pub cond_numbers : (g : Context) → ArePlain g.scope.functions → (k : Cond) → cond_faults g k ≡ []
    → Between g (behind_cond g k) (nodes_in_cond (typed_cond g k))
cond_numbers g plain (s.tests_read r) none = none_number (length g.sites) (length g.sites) [] refl refl
cond_numbers g plain (s.tests_no_read at r) none = none_number (length g.sites) (length g.sites) [] refl refl
cond_numbers g plain (s.tests e) none = expr_numbers g plain e none

-- the items of a print
outs_number : (g : Context) → ArePlain g.scope.functions → (xs : List Out) → outs_faults g xs ≡ []
    → Between g (behind_outs g xs) (flat_map nodes_in_printed (typed_outs g xs))
outs_number g plain [] none = none_number (length g.sites) (length g.sites) [] refl refl
outs_number g plain (s.text at bytes ∷ xs) none = outs_number g plain xs none
outs_number g plain (s.end_line at ∷ xs) none = outs_number g plain xs none
outs_number g plain (s.value e ∷ xs) none =
    let h = behind g e in
    both_number (length g.sites) (length h.sites) (length (behind_outs h xs).sites) (nodes_in (typed_expr g e))
    (flat_map nodes_in_printed (typed_outs h xs))
    (expr_numbers g plain e (value.first_out g (s.value e) xs none)) (outs_number h plain xs (value.other_outs g (s.value e) xs none))

-- what is known of the left side of an assignment that breaks no rule, where so many sites stand before it and behind it
record IsLeft (u : ExprType) (d : t.Expr) (n m : ℕ) : Type 0 where
  named : is_element u ≡ false → is_number u ≡ false → n ≡ m
  held : is_number u ≡ true → is_held d ≡ true

-- `=` between containers
container_numbers : (n m : ℕ) (is : Bool) (o : Option Found) (at : Place) (k : ℕ) (names : List (Option ℕ)) (e : t.Expr) → is_none o ≡ false
    → Numbers (n + length (if is then at ∷ [] else [])) m (nodes_in e)
    → Numbers n m (nodes_in (assigned_container o at (if is then Some n else None) k names (one e)))
unfolding nodes_in nodes_in_left nodes_in_operands
container_numbers n m is None at k names e there h = absurd cc
container_numbers n m is (Some f) at k names e there h =
    let site = if is then Some n else None in
    chosen_numbers is n m at (a_call (head (callees.Row f.number) at site (Some k) names) (one e)) (nodes_in_operands (one e)) refl
    (one_numbers (n + length (if is then at ∷ [] else [])) m e h)

-- without a site of its own
none_chosen : (n : ℕ) (is : Bool) (at : Place) → is ≡ false → n ≡ n + length (if is then at ∷ [] else [])
none_chosen n false at h = omega arith
none_chosen n true at h = absurd cc

-- a number is assigned
number_numbers : (n m k : ℕ) (type : Scalar) (v : ExprType) (d e : t.Expr) → is_held d ≡ true → Numbers n m (nodes_in d) → Numbers m k (nodes_in e)
    → Numbers n k (nodes_in_left (left_of d) ++ nodes_in (converted type v e))
number_numbers n m k type v d e held h j =
    both_number n m k (nodes_in_left (left_of d)) (nodes_in (converted type v e))
    (subst (λ (l : List Node). Numbers n m l) (sym (left_nodes d held)) h) (converted_numbers m k type v e j)

-- what is assigned to is an iterator, a container or a number
number_taken : (op : Assignment) (u v : ExprType) → takes_value op u v ≡ true → is_iterator u ≡ false → is_container u ≡ false → is_number u ≡ true
number_taken op (types.Scalar type) v h i k = refl
number_taken op (types.Element w) v h i k = refl
number_taken op (types.Iterator b form) v h i k = absurd cc
number_taken op (types.Container access form) v h i k = absurd cc
number_taken assignments.Set u v h i k = absurd cc
number_taken (assignments.Update op) u v h i k = absurd cc

-- `=`, where so many sites stand before it
set_numbers : (n m k : ℕ) (is : Bool) (at : Place) (u v : ExprType) (names : List (Option ℕ)) (d e : t.Expr) → IsLeft u d n m
    → takes_value assignments.Set u v ≡ true → (is_container u ≡ false → is ≡ false) → Numbers n m (nodes_in d)
    → Numbers (m + length (if is then at ∷ [] else [])) k (nodes_in e)
    → Numbers n k (nodes_in_effect (set at (if is then Some m else None) u v names d e))
set_numbers n m k is at (types.Container access form) v names d e left takes other h j =
    let site = if is then Some m else None in
    from_same n m k (nodes_in (assigned_container (assignment_row form) at site (number_in d) names (one e))) (left.named refl refl)
    (container_numbers m k is (assignment_row form) at (number_in d) names e (is_assigned form) j)
set_numbers n m k is at (types.Iterator b form) v names d e left takes other h j =
    from_same n (m + length (if is then at ∷ [] else [])) k (nodes_in e) (left.named refl refl ∙ none_chosen m is at (other refl)) j
set_numbers n m k is at u v names d e left takes other h j =
    number_numbers n m k (scalar_of u) v d e (left.held (number_taken assignments.Set u v takes refl refl)) h
    (from_same m (m + length (if is then at ∷ [] else [])) k (nodes_in e) (none_chosen m is at (other refl)) j)

-- `+=` and its like
updated_numbers : (n m k : ℕ) (op : Arithmetic) (at : Place) (u v : ExprType) (names : List (Option ℕ)) (d e : t.Expr) → IsLeft u d n m
    → takes_value (assignments.Update op) u v ≡ true → Numbers n m (nodes_in d) → Numbers m k (nodes_in e)
    → Numbers n k (nodes_in_effect (updated op at u v names d e))
unfolding nodes_in nodes_in_left nodes_in_operands
updated_numbers n m k op at (types.Iterator b form) v names d e left takes h j =
    let es = one (converted c.Diff v e) in
    from_same n m k (nodes_in (t.move fixes.Prefix (number_in d) (operator_head (move_operator op) at (None ∷ names)) es)) (left.named refl refl)
    (first_unnumbered m k (a_call (operator_head (move_operator op) at (None ∷ names)) (t.with (t.iterator (number_in d)) es))
    (nodes_in_operands es) refl
    (one_numbers m k (converted c.Diff v e) (converted_numbers m k c.Diff v e j)))
updated_numbers n m k op at (types.Container access form) v names d e left takes h j = absurd cc
updated_numbers n m k op at u v names d e left takes h j =
    number_numbers n m k (common (scalar_of u) (scalar_of v)) v d e (left.held (number_taken (assignments.Update op) u v takes refl refl)) h j

-- where nothing is added
none_added : (xs ys : List Place) → ys ≡ [] → length xs ≡ length (xs ++ ys)
none_added xs ys h = let l : length ys ≡ 0 = ap (λ (l : List Place). length l) h in omega (arith, length-append xs ys)

and_false : (x y : Bool) → y ≡ false → (x && y) ≡ false
and_false true y h = h
and_false false y h = refl

-- an assignment that fits
assignment_fits : (g : Context) (x : Expr) (op : Assignment) (at : Place) (y : Expr) → effect_faults g (s.assigns x op at y) ≡ []
    → (is_left_side g.scope x ≡ true) × (takes_value op (type_of g.scope x) (type_of g.scope y) ≡ true)
unfolding wrong_assignment
assignment_fits g x op at y none =
    let wrong : broken (wrong_assignment g.scope x op y) at rule.WRONG_TYPE ≡ [] = search parts in
    let u = type_of g.scope x in
    let v = type_of g.scope y in
    and_parts (is_left_side g.scope x) (takes_value op u v)
    (not_not (is_left_side g.scope x && takes_value op u v) (not_broken (wrong_assignment g.scope x op y) at rule.WRONG_TYPE wrong))

left_stands : (g : Context) (x : Expr) (op : Assignment) (at : Place) (y : Expr) → effect_faults g (s.assigns x op at y) ≡ []
    → IsLeft (type_of g.scope x) (typed_expr g x) (length g.sites) (length (behind g x).sites)
left_stands g x op at y none =
    let fits = assignment_fits g x op at y none in record {
      named = λ other number. none_added g.sites (sites_in g.scope x) (left_is_name g.scope x fits.0 other);
      held = λ number. left_is_held g.scope (length g.sites) standing.Plain x (value.left_side g x op at y none) fits.0 number;
    }

assigned_numbers : (g : Context) → ArePlain g.scope.functions → (x : Expr) (op : Assignment) (at : Place) (y : Expr)
    → effect_faults g (s.assigns x op at y) ≡ []
    → Between g (behind_effect g (s.assigns x op at y)) (nodes_in_effect (typed_effect g (s.assigns x op at y)))
assigned_numbers g plain x assignments.Set at y none =
    let h = behind_left g (s.assigns x assignments.Set at y) in
    let n = length g.sites in
    let m = length (behind g x).sites in
    let k = length (behind h y).sites in
    let is = is_assignment_site g.scope x assignments.Set in
    let site = if is then at ∷ [] else [] in
    let names = told g.scope x ∷ told g.scope y ∷ [] in
    set_numbers n m k is at (type_of g.scope x) (type_of g.scope y) names (typed_expr g x) (typed_expr h y)
    (left_stands g x assignments.Set at y none) (assignment_fits g x assignments.Set at y none).1
    (λ other. and_false (is_plain x) (is_container (type_of g.scope x)) other)
    (expr_numbers g plain x (value.left_side g x assignments.Set at y none))
    (from_same (m + length site) (length h.sites) k (nodes_in (typed_expr h y)) (sym (length-append (behind g x).sites site))
    (expr_numbers h plain y (value.right_side g x assignments.Set at y none)))
assigned_numbers g plain x (assignments.Update op) at y none =
    let h = behind_left g (s.assigns x (assignments.Update op) at y) in
    let n = length g.sites in
    let m = length (behind g x).sites in
    let k = length (behind h y).sites in
    let names = told g.scope x ∷ told g.scope y ∷ [] in
    updated_numbers n m k op at (type_of g.scope x) (type_of g.scope y) names (typed_expr g x) (typed_expr h y)
    (left_stands g x (assignments.Update op) at y none) (assignment_fits g x (assignments.Update op) at y none).1
    (expr_numbers g plain x (value.left_side g x (assignments.Update op) at y none))
    (from_same m (length h.sites) k (nodes_in (typed_expr h y)) (none_added (behind g x).sites [] refl)
    (expr_numbers h plain y (value.right_side g x (assignments.Update op) at y none)))

-- an effect
pub effect_numbers : (g : Context) → ArePlain g.scope.functions → (w : Effect) → effect_faults g w ≡ []
    → Between g (behind_effect g w) (nodes_in_effect (typed_effect g w))
effect_numbers g plain (s.reads r) none = none_number (length g.sites) (length g.sites) [] refl refl
effect_numbers g plain (s.prints at xs) none = outs_number g plain xs (value.printed g at xs none)
effect_numbers g plain (s.evaluates e) none = expr_numbers g plain e none
effect_numbers g plain (s.assigns x op at y) none = assigned_numbers g plain x op at y none
