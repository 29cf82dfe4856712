-- What each node of an expression that breaks no rule passes: by induction over expressions.
use Rattle.std.proofs.Common.{◌≡◌, ℕ, ◌+◌, Bool, true, false, List, [], ◌∷◌, ◌++◌, Option, Some, None, refl, sym, subst, ◌∙◌}
use Rattle.std.specs.Prelude.{if◌then◌else◌, codes, pos}
use Rattle.std.specs.List.{list_all}
use Rattle.std.specs.Str.{bytes_eq}
use Rattle.std.proofs.lemmas.Bool.{and_from, and_parts}
use Rattle.std.proofs.lemmas.List.Folds.{list_all-append}
use Rattle.sl_base.specs.declared.place.Place.{Place}
use Rattle.sl_base.specs.declared.scalar.Scalar.{Scalar}
use Rattle.sl_base.specs.declared.scalar.Scalar.TheVariants as c
use Rattle.sl_specs.specs.declared.return_type.ReturnType.{ReturnType}
use Rattle.sl_specs.specs.declared.return_type.ReturnType.TheVariants as r
use Rattle.sl_syntax.specs.declared.operator.Arithmetic.{Arithmetic}
use Rattle.sl_syntax.specs.declared.operator.BinaryOperator.{BinaryOperator}
use Rattle.sl_syntax.specs.declared.operator.BinaryOperator.TheVariants as b
use Rattle.sl_syntax.specs.declared.operator.PostfixOperator.{PostfixOperator}
use Rattle.sl_syntax.specs.declared.operator.PostfixOperator.TheVariants as q
use Rattle.sl_syntax.specs.declared.operator.PrefixOperator.{PrefixOperator}
use Rattle.sl_syntax.specs.declared.operator.PrefixOperator.TheVariants as p
use Rattle.sl_syntax.specs.declared.operator.Selector.{Selector}
use Rattle.sl_syntax.specs.declared.operator.Selector.TheVariants as l
use Rattle.sl_syntax.specs.declared.tree.identifier.Identifier.{Identifier}
use Rattle.sl_syntax.specs.declared.typed.callee.Callee.TheVariants as callees
use Rattle.sl_syntax.specs.declared.typed.head.Head.{Head}
use Rattle.sl_syntax.specs.declared.typed.operator.Operator.{Operator}
use Rattle.sl_syntax.specs.declared.typed.operator.Operator.TheVariants as operators
use Rattle.sl_syntax.specs.declared.typed.step.Fix.{Fix}
use Rattle.sl_syntax.specs.declared.typed.step.Fix.TheVariants as fixes
use Rattle.sl_syntax.specs.declared.typed.step.Step.{Step}
use Rattle.sl_syntax.specs.Tree as s
use Rattle.sl_syntax.specs.Tree.{Expr, Exprs}
use Rattle.sl_syntax.specs.Typed as t
use Rattle.sl_syntax.specs.Typed.{Function, Left, Operands}
use Rattle.sl_typing.specs.declared.expr_type.ExprType.{ExprType}
use Rattle.sl_typing.specs.declared.expr_type.ExprType.TheVariants as types
use Rattle.sl_typing.specs.declared.scope.Scope.{Scope}
use Rattle.sl_typing.specs.declared.standing.Standing.{Standing}
use Rattle.sl_typing.specs.declared.standing.Standing.TheVariants as standing
use Rattle.sl_typing.specs.Types.{same_scalar, scalar_of, common, is_iterator}
use Rattle.sl_typing.specs.Candidates.{Found, algorithm_row}
use Rattle.sl_typing.specs.Scopes.{type_of_name, number_of_name}
use Rattle.sl_typing.specs.TypeOf.{appends, is_first, type_of, types_of}
use Rattle.sl_typing.specs.Sites.{site_count, site_number, inside}
use Rattle.sl_typing.specs.Faults.{part_standing, last_standing, standing_before, faults, faults_of_all}
use Rattle.sl_typing.specs.Numbering.{Way, as_it_is, as_number, as_variable, number_in, left_of, converted, handed, first_way, other_ways, ways}
use Rattle.sl_typing.specs.Numbering.{told, told_all, head, operator_head, one, two, first_operand, other_operands, step_operator, stepped, prefixed}
use Rattle.sl_typing.specs.Numbering.{postfixed, sum_operator, calculated, joined, part_of, arrow_operator, selected, row_call, called_row, called_algorithm}
use Rattle.sl_typing.specs.Numbering.{letters_of, row_of_subscript, row_of_member, truth_number, variable, typed, operands}
use Rattle.sl_model.specs.Typing.WellTypedNodes.{Node, a_call, nodes_in, nodes_in_left, nodes_in_operands}
use Rattle.sl_well_typed.proofs.Parts.{call_kept, library_call_kept, parentheses_kept, prefix_kept, binary_kept, postfix_kept, index_kept}
use Rattle.sl_well_typed.proofs.Parts.{member_call_kept, member_kept, arguments_kept}
use Rattle.sl_typed_order.proofs.Sound.{Sound}
use Rattle.sl_typed_order.proofs.Kept.{algorithm_node, IsKept}

-- all of two lists
pub all_both : (P : Node → Bool) (xs ys : List Node) → list_all P xs ≡ true → list_all P ys ≡ true → list_all P (xs ++ ys) ≡ true
all_both P xs ys h k = list_all-append P xs ys ∙ and_from (list_all P xs) (list_all P ys) h k

pub all_parts : (P : Node → Bool) (xs ys : List Node) → list_all P (xs ++ ys) ≡ true → (list_all P xs ≡ true) × (list_all P ys ≡ true)
all_parts P xs ys h = and_parts (list_all P xs) (list_all P ys) (sym (list_all-append P xs ys) ∙ h)

-- one node before others
pub all_behind : (P : Node → Bool) (x : Node) (xs : List Node) → P x ≡ true → list_all P xs ≡ true → list_all P (x ∷ xs) ≡ true
all_behind P x xs h k = and_from (P x) (list_all P xs) h k

-- all nodes of an expression
abbrev pub Holds : (Node → Bool) → t.Expr → Type 0
Holds P e = list_all P (nodes_in e) ≡ true

-- those of one of two
either_holds : (P : Node → Bool) (test : Bool) (d e : t.Expr) → Holds P d → Holds P e → Holds P (if test then d else e)
either_holds P true d e h k = h
either_holds P false d e h k = k

-- those of a value that is converted, and handed over
pub converted_holds : (P : Node → Bool) (k : Scalar) (u : ExprType) (e : t.Expr) → Holds P e → Holds P (converted k u e)
unfolding nodes_in
converted_holds P k u e h = either_holds P (same_scalar k (scalar_of u)) e (t.convert k e) h h

pub handed_holds : (P : Node → Bool) (w : Way) (u : ExprType) (e : t.Expr) → Holds P e → Holds P (handed w u e)
unfolding nodes_in
handed_holds P as_it_is u e h = h
handed_holds P (as_number k) u e h = converted_holds P k u e h
handed_holds P as_variable u e h = refl

-- those of a left side
pub left_holds : (P : Node → Bool) (e : t.Expr) → Holds P e → list_all P (nodes_in_left (left_of e)) ≡ true
unfolding nodes_in nodes_in_left
left_holds P (t.held x) h = h
left_holds P e h = refl

-- those of one operand
pub one_holds : (P : Node → Bool) (e : t.Expr) → Holds P e → list_all P (nodes_in_operands (one e)) ≡ true
unfolding nodes_in_operands
one_holds P e h = all_both P (nodes_in e) [] h refl

two_hold : (P : Node → Bool) (d e : t.Expr) → Holds P d → Holds P e → list_all P (nodes_in_operands (two d e)) ≡ true
unfolding nodes_in_operands
two_hold P d e h k = all_both P (nodes_in d) (nodes_in_operands (one e)) h (one_holds P e k)

-- a name
variable_holds : (fs : List Function) (P : Node → Bool) → IsKept fs P → (u : ExprType) (n : ℕ) (at : Place) (label : ℕ)
    → Holds P (variable u n at label)
unfolding nodes_in nodes_in_left
variable_holds fs P kept (types.Iterator k form) n at label = refl
variable_holds fs P kept (types.Container access form) n at label = refl
variable_holds fs P kept (types.IntReference w) n at label = all_behind P _ [] (kept.uses at label) refl
variable_holds fs P kept (types.EntryReference w) n at label = all_behind P _ [] (kept.uses at label) refl
variable_holds fs P kept u n at label = refl

-- an operator with one operand
lone_holds : (fs : List Function) (P : Node → Bool) → IsKept fs P → (o : Operator) (at : Place) (names : List (Option ℕ)) (e : t.Expr) → Holds P e
    → list_all P (a_call (operator_head o at names) (one e) ∷ nodes_in_operands (one e)) ≡ true
lone_holds fs P kept o at names e h = all_behind P _ (nodes_in_operands (one e)) (kept.lone_operators o at names e) (one_holds P e h)

stepped_holds : (fs : List Function) (P : Node → Bool) → IsKept fs P → (step : Step) (fix : Fix) (at : Place) (u : ExprType) (names : List (Option ℕ))
    (e : t.Expr) → Holds P e → Holds P (stepped step fix at u names e)
unfolding nodes_in nodes_in_left nodes_in_operands
stepped_holds fs P kept step fix at (types.Iterator k form) names e h =
    all_behind P _ [] (kept.lone_operators (step_operator step) at names (t.iterator (number_in e))) refl
stepped_holds fs P kept step fix at u names e h =
    all_behind P _ (nodes_in_left (left_of e)) (kept.steps (left_of e)) (left_holds P e h)

prefixed_holds : (fs : List Function) (P : Node → Bool) → IsKept fs P → (op : PrefixOperator) (at : Place) (u : ExprType) (names : List (Option ℕ))
    (e : t.Expr) → Holds P e → Holds P (prefixed op at u names e)
unfolding nodes_in nodes_in_left nodes_in_operands
prefixed_holds fs P kept p.Not at u names e h = h
prefixed_holds fs P kept p.Negate at u names e h = converted_holds P (common (scalar_of u) c.Int) u e h
prefixed_holds fs P kept p.Dereference at u names e h = lone_holds fs P kept operators.Dereference at names e h
prefixed_holds fs P kept p.Increment at u names e h = stepped_holds fs P kept _ _ at u names e h
prefixed_holds fs P kept p.Decrement at u names e h = stepped_holds fs P kept _ _ at u names e h

postfixed_holds : (fs : List Function) (P : Node → Bool) → IsKept fs P → (op : PostfixOperator) (at : Place) (u : ExprType)
    (names : List (Option ℕ)) (e : t.Expr) → Holds P e → Holds P (postfixed op at u names e)
postfixed_holds fs P kept q.Increment at u names e h = stepped_holds fs P kept _ _ at u names e h
postfixed_holds fs P kept q.Decrement at u names e h = stepped_holds fs P kept _ _ at u names e h

-- a piece
part_holds : (fs : List Function) (P : Node → Bool) → IsKept fs P → (at : Place) (first : Bool) (e : t.Expr) → Holds P e → Holds P (part_of at first e)
unfolding nodes_in nodes_in_left
part_holds fs P kept at first (t.held (t.reference x named name old)) h = all_behind P _ [] (kept.uses named name) refl
part_holds fs P kept at true e h = h
part_holds fs P kept at false e h = h

selected_holds : (fs : List Function) (P : Node → Bool) → IsKept fs P → (selector : Selector) (at : Place) (first : Bool) (names : List (Option ℕ))
    (e : t.Expr) → Holds P e → Holds P (selected selector at first names e)
unfolding nodes_in nodes_in_left nodes_in_operands
selected_holds fs P kept l.Dot at first names e h = part_holds fs P kept at first e h
selected_holds fs P kept l.Arrow at first names e h = lone_holds fs P kept (arrow_operator first) at names e h

-- calls of a row
row_holds : (P : Node → Bool) (gives : ReturnType) (h : Head) (es : Operands) → P (a_call h es) ≡ true → list_all P (nodes_in_operands es) ≡ true
    → Holds P (row_call gives h es)
unfolding nodes_in nodes_in_left
row_holds P r.Element h es first rest = all_behind P (a_call h es) (nodes_in_operands es) first rest
row_holds P gives h es first rest = all_behind P (a_call h es) (nodes_in_operands es) first rest

-- `[ ]`
subscript_holds : (fs : List Function) (P : Node → Bool) → IsKept fs P → (o : Option Found) (at : Place) (site : Option ℕ) (object : ℕ)
    (names : List (Option ℕ)) (e : t.Expr) → Holds P e → Holds P (called_row o at site object names (one e))
unfolding nodes_in nodes_in_left
subscript_holds fs P kept None at site object names e h = refl
subscript_holds fs P kept (Some x) at site object names e h =
    row_holds P x.row.gives _ (one e) (kept.lone_rows x.number at site (Some object) names e) (one_holds P e h)

-- a member call
member_holds : (fs : List Function) (P : Node → Bool) → IsKept fs P → (g : Scope) (n : ℕ) (how : Standing) (x : Expr) (f : Identifier) (xs : Exprs)
    → Sound fs g → faults g n how (s.member_call x f xs) ≡ []
    → ((ws : List Way) → list_all P (nodes_in_operands (operands g (inside g n (s.member_call x f xs)) ws xs)) ≡ true)
    → (o : Option Found) → row_of_member (type_of g x) f.name (types_of g xs) ≡ o
    → Holds P (called_row o f.place (site_number g n (s.member_call x f xs)) (number_in (typed g n x)) (told g x ∷ told_all g xs)
    (operands g (inside g n (s.member_call x f xs)) (ways (letters_of o)) xs))
unfolding nodes_in nodes_in_left
member_holds fs P kept g n how x f xs sound none all None e = refl
member_holds fs P kept g n how x f xs sound none all (Some found) e =
    row_holds P found.row.gives _ _ (kept.members g n how x f xs sound none found e) (all (ways found.row.letters))

-- the first operand, and the others
first_holds : (P : Node → Bool) (es : Operands) → list_all P (nodes_in_operands es) ≡ true → Holds P (first_operand es)
unfolding nodes_in nodes_in_left nodes_in_operands
first_holds P t.none h = refl
first_holds P (t.with e es) h = (all_parts P (nodes_in e) (nodes_in_operands es) h).0

others_hold : (P : Node → Bool) (es : Operands) → list_all P (nodes_in_operands es) ≡ true → list_all P (nodes_in_operands (other_operands es)) ≡ true
unfolding nodes_in nodes_in_left nodes_in_operands
others_hold P t.none h = h
others_hold P (t.with e es) h = (all_parts P (nodes_in e) (nodes_in_operands es) h).1

-- a call of an algorithm
found_holds : (P : Node → Bool) (x : Found) (append : Bool) (name : List ℕ) (at : Place) (site : Option ℕ) (names : List (Option ℕ)) (es : Operands)
    → list_all P (algorithm_node x append name at site names es) ≡ true → list_all P (nodes_in_operands es) ≡ true
    → Holds P (called_algorithm (Some x) append name at site names es)
unfolding nodes_in
found_holds P x append name at site names es =
    by_names (bytes_eq name (codes "back_inserter")) (bytes_eq name (codes "advance")) append
  where
    first_of_one : (y : Node) → list_all P (y ∷ []) ≡ true → P y ≡ true
    first_of_one y h = (and_parts (P y) true h).0

    by_names : (inserts advances adds : Bool)
        → list_all P (if inserts then [] else if advances
        then a_call (head (callees.Row x.number) at site None names) (t.with (t.iterator (number_in (first_operand es))) (other_operands es)) ∷ []
        else if adds then a_call (head (callees.Appends x.number) at site None names) es ∷ []
        else a_call (head (callees.Row x.number) at site None names) es ∷ []) ≡ true
        → list_all P (nodes_in_operands es) ≡ true
        → Holds P (if inserts then first_operand es else if advances
        then t.move fixes.Prefix (number_in (first_operand es)) (head (callees.Row x.number) at site None names) (other_operands es)
        else if adds then t.call (head (callees.Appends x.number) at site None names) es
        else t.call (head (callees.Row x.number) at site None names) es)
    by_names true advances adds own all = first_holds P es all
    by_names false true adds own all = all_behind P _ (nodes_in_operands (other_operands es)) (first_of_one _ own) (others_hold P es all)
    by_names false false true own all = all_behind P _ (nodes_in_operands es) (first_of_one _ own) all
    by_names false false false own all = all_behind P _ (nodes_in_operands es) (first_of_one _ own) all

algorithm_holds : (fs : List Function) (P : Node → Bool) → IsKept fs P → (g : Scope) (n : ℕ) (how : Standing) (f : Identifier) (xs : Exprs)
    → Sound fs g → faults g n how (s.library_call f xs) ≡ []
    → ((ws : List Way) → list_all P (nodes_in_operands (operands g (inside g n (s.library_call f xs)) ws xs)) ≡ true)
    → (o : Option Found) → algorithm_row (appends f.name xs) f.name (types_of g xs) ≡ o
    → Holds P (called_algorithm o (appends f.name xs) f.name f.place (site_number g n (s.library_call f xs)) (None ∷ told_all g xs)
    (operands g (inside g n (s.library_call f xs)) (ways (letters_of o)) xs))
unfolding nodes_in nodes_in_left
algorithm_holds fs P kept g n how f xs sound none all None e = refl
algorithm_holds fs P kept g n how f xs sound none all (Some x) e =
    found_holds P x (appends f.name xs) f.name f.place (site_number g n (s.library_call f xs)) (None ∷ told_all g xs)
    (operands g (inside g n (s.library_call f xs)) (ways x.row.letters) xs) (kept.algorithms g n how f xs sound none x e) (all (ways x.row.letters))

-- `-`, `+` and their like
calculated_holds : (fs : List Function) (P : Node → Bool) → IsKept fs P → (g : Scope) (n : ℕ) (how : Standing) (x : Expr) (op : Arithmetic) (at : Place)
    (y : Expr) → Sound fs g → faults g n how (s.binary x (b.Arithmetic op) at y) ≡ [] → Holds P (typed g n x)
    → Holds P (typed g (n + site_count g x) y) → (names : List (Option ℕ)) (u v : ExprType) → type_of g x ≡ u → type_of g y ≡ v
    → Holds P (calculated op at u v names (typed g n x) (typed g (n + site_count g x) y))
unfolding nodes_in
calculated_holds fs P kept g n how x op at y sound none h k names (types.Iterator c1 f1) (types.Iterator c2 f2) eu ev =
    all_behind P _ _ (kept.pairs g n how x (b.Arithmetic op) at y sound none refl operators.Difference names as_it_is refl)
    (two_hold P (typed g n x) (typed g (n + site_count g x) y) h k)
calculated_holds fs P kept g n how x op at y sound none h k names (types.Iterator c1 f1) v eu ev =
    subst (λ (w : ExprType). Holds P (t.call (operator_head (sum_operator op) at names)
    (two (typed g n x) (converted c.Diff w (typed g (n + site_count g x) y))))) ev
    (
    all_behind P _ _ (kept.pairs g n how x (b.Arithmetic op) at y sound none refl (sum_operator op) names (as_number c.Diff) refl)
    (two_hold P (typed g n x) (converted c.Diff (type_of g y) (typed g (n + site_count g x) y)) h
    (converted_holds P c.Diff (type_of g y) (typed g (n + site_count g x) y) k))
    )
calculated_holds fs P kept g n how x op at y sound none h k names u v eu ev =
    let type = common (scalar_of u) (scalar_of v) in
    let d = typed g n x in
    let e = typed g (n + site_count g x) y in
    subst (λ (w : ExprType). Holds P (t.arithmetic op type at (converted type w d) (converted type v e))) eu
    (
    subst (λ (w : ExprType). Holds P (t.arithmetic op type at (converted type (type_of g x) d) (converted type w e))) ev
    (
    all_behind P _ _ (kept.operators g n how x (b.Arithmetic op) at y sound none refl type)
    (all_both P (nodes_in (converted type (type_of g x) d)) (nodes_in (converted type (type_of g y) e)) (converted_holds P type (type_of g x) d h)
    (converted_holds P type (type_of g y) e k))
    )
    )

-- an operator between two operands
joined_holds : (fs : List Function) (P : Node → Bool) → IsKept fs P → (g : Scope) (n : ℕ) (how : Standing) (x : Expr) (op : BinaryOperator) (at : Place)
    (y : Expr) → Sound fs g → faults g n how (s.binary x op at y) ≡ [] → Holds P (typed g n x) → Holds P (typed g (n + site_count g x) y)
    → (names : List (Option ℕ)) → Holds P (joined op at (type_of g x) (type_of g y) names (typed g n x) (typed g (n + site_count g x) y))
unfolding nodes_in
joined_holds fs P kept g n how x b.Or at y sound none h k names = all_both P (nodes_in (typed g n x)) (nodes_in (typed g (n + site_count g x) y)) h k
joined_holds fs P kept g n how x b.And at y sound none h k names = all_both P (nodes_in (typed g n x)) (nodes_in (typed g (n + site_count g x) y)) h k
joined_holds fs P kept g n how x (b.Comparison op) at y sound none h k names =
    let type = common (scalar_of (type_of g x)) (scalar_of (type_of g y)) in
    let d = typed g n x in
    let e = typed g (n + site_count g x) y in
    either_holds P (is_iterator (type_of g x)) _ _
    (
    all_behind P _ _ (kept.pairs g n how x (b.Comparison op) at y sound none refl (operators.Compare op) names as_it_is refl) (two_hold P d e h k)
    )
    (
    all_behind P _ _ (kept.operators g n how x (b.Comparison op) at y sound none refl type)
    (all_both P (nodes_in (converted type (type_of g x) d)) (nodes_in (converted type (type_of g y) e)) (converted_holds P type (type_of g x) d h)
    (converted_holds P type (type_of g y) e k))
    )
joined_holds fs P kept g n how x (b.Arithmetic op) at y sound none h k names =
    calculated_holds fs P kept g n how x op at y sound none h k names (type_of g x) (type_of g y) refl refl

mutual
  unfolding nodes_in nodes_in_left nodes_in_operands typed operands

  -- each node of an expression
  pub nodes_hold : (fs : List Function) (P : Node → Bool) → IsKept fs P → (g : Scope) → Sound fs g → (n : ℕ) (how : Standing) (e : Expr)
      → faults g n how e ≡ [] → list_all P (nodes_in (typed g n e)) ≡ true
  nodes_hold fs P kept g sound n how (s.number at m) none = all_behind P _ [] (kept.literals (pos m)) refl
  nodes_hold fs P kept g sound n how (s.truth at x) none = all_behind P _ [] (kept.literals (truth_number x)) refl
  nodes_hold fs P kept g sound n how (s.name x) none = variable_holds fs P kept (type_of_name g x.name) (number_of_name g x.name) x.place _
  nodes_hold fs P kept g sound n how (s.call f xs) none =
      all_behind P _ _ (kept.own_calls g n how f xs sound none)
      (all_nodes_hold fs P kept g sound n standing.Plain _ xs (call_kept g n how f xs none).1)
  nodes_hold fs P kept g sound n how (s.library_call f xs) none =
      algorithm_holds fs P kept g n how f xs sound none
      (λ ws. all_nodes_hold fs P kept g sound (inside g n (s.library_call f xs)) (last_standing f.name xs) ws xs (library_call_kept g n how f xs none).0)
      (algorithm_row (appends f.name xs) f.name (types_of g xs)) refl
  nodes_hold fs P kept g sound n how (s.parentheses at x) none =
      nodes_hold fs P kept g sound n standing.Plain x (parentheses_kept g n how at x none)
  nodes_hold fs P kept g sound n how (s.prefix op at x) none =
      prefixed_holds fs P kept op at (type_of g x) (None ∷ told g x ∷ []) (typed g n x)
      (nodes_hold fs P kept g sound n standing.Plain x (prefix_kept g n how op at x none).0)
  nodes_hold fs P kept g sound n how (s.binary x op at y) none =
      joined_holds fs P kept g n how x op at y sound none
      (nodes_hold fs P kept g sound n standing.Plain x (binary_kept g n how x op at y none).0)
      (nodes_hold fs P kept g sound (n + site_count g x) standing.Plain y (binary_kept g n how x op at y none).1)
      (None ∷ told g x ∷ told g y ∷ [])
  nodes_hold fs P kept g sound n how (s.postfix x op at) none =
      postfixed_holds fs P kept op at (type_of g x) (None ∷ told g x ∷ []) (typed g n x)
      (nodes_hold fs P kept g sound n standing.Plain x (postfix_kept g n how x op at none).0)
  nodes_hold fs P kept g sound n how (s.index x at y) none =
      subscript_holds fs P kept (row_of_subscript (type_of g x)) at _ (number_in (typed g n x)) _ _
      (handed_holds P _ (type_of g y) (typed g (inside g n (s.index x at y)) y)
      (nodes_hold fs P kept g sound (inside g n (s.index x at y)) standing.Plain y (index_kept g n how x at y none).1))
  nodes_hold fs P kept g sound n how (s.member_call x f xs) none =
      member_holds fs P kept g n how x f xs sound none
      (λ ws. all_nodes_hold fs P kept g sound (inside g n (s.member_call x f xs)) standing.Plain ws xs (member_call_kept g n how x f xs none).1)
      (row_of_member (type_of g x) f.name (types_of g xs)) refl
  nodes_hold fs P kept g sound n how (s.member x selector at f) none =
      selected_holds fs P kept selector at (is_first f.name) (None ∷ told g x ∷ []) (typed g n x)
      (nodes_hold fs P kept g sound n (part_standing selector f.name) x (member_kept g n how x selector at f none).0)

  -- each node of arguments
  pub all_nodes_hold : (fs : List Function) (P : Node → Bool) → IsKept fs P → (g : Scope) → Sound fs g → (n : ℕ) (last : Standing) (ws : List Way)
      (xs : Exprs) → faults_of_all g n last xs ≡ [] → list_all P (nodes_in_operands (operands g n ws xs)) ≡ true
  all_nodes_hold fs P kept g sound n last ws s.none none = refl
  all_nodes_hold fs P kept g sound n last ws (s.with x xs) none =
      let both = arguments_kept g n last x xs none in
      all_both P (nodes_in (handed (first_way ws) (type_of g x) (typed g n x))) (nodes_in_operands (operands g (n + site_count g x) (other_ways ws) xs))
      (handed_holds P (first_way ws) (type_of g x) (typed g n x) (nodes_hold fs P kept g sound n (standing_before xs last) x both.0))
      (all_nodes_hold fs P kept g sound (n + site_count g x) last (other_ways ws) xs both.1)
