-- What the nodes of each sort pass, the nodes of each typed expression pass that breaks no rule.
use Rattle.std.proofs.Common.{◌≡◌, ℕ, ℤ, ◌+◌, Bool, true, false, List, [], ◌∷◌, ◌++◌, map, Option, Some, None, refl, sym, ◌∙◌}
use Rattle.std.specs.Prelude.{codes}
use Rattle.std.specs.List.{list_all}
use Rattle.std.specs.Str.{bytes_eq}
use Rattle.std.proofs.lemmas.Bool.{and_from, and_parts, cond_both}
use Rattle.std.proofs.lemmas.List.Folds.{list_all-append}
use Rattle.sl_base.specs.declared.place.Place.{Place}
use Rattle.sl_base.specs.declared.scalar.Scalar.{Scalar}
use Rattle.sl_base.specs.declared.scalar.Scalar.TheVariants as c
use Rattle.sl_specs.specs.declared.return_type.ReturnType.{ReturnType}
use Rattle.sl_specs.specs.declared.return_type.ReturnType.TheVariants as r
use Rattle.sl_syntax.specs.declared.operator.Arithmetic.{Arithmetic}
use Rattle.sl_syntax.specs.declared.operator.BinaryOperator.{BinaryOperator}
use Rattle.sl_syntax.specs.declared.operator.BinaryOperator.TheVariants as b
use Rattle.sl_syntax.specs.declared.operator.PostfixOperator.{PostfixOperator}
use Rattle.sl_syntax.specs.declared.operator.PostfixOperator.TheVariants as q
use Rattle.sl_syntax.specs.declared.operator.PrefixOperator.{PrefixOperator}
use Rattle.sl_syntax.specs.declared.operator.PrefixOperator.TheVariants as p
use Rattle.sl_syntax.specs.declared.operator.Selector.{Selector}
use Rattle.sl_syntax.specs.declared.operator.Selector.TheVariants as l
use Rattle.sl_syntax.specs.declared.tree.identifier.Identifier.{Identifier}
use Rattle.sl_syntax.specs.declared.typed.callee.Callee.TheVariants as callees
use Rattle.sl_syntax.specs.declared.typed.head.Head.{Head}
use Rattle.sl_syntax.specs.declared.typed.operator.Operator.{Operator}
use Rattle.sl_syntax.specs.declared.typed.step.Fix.{Fix}
use Rattle.sl_syntax.specs.declared.typed.step.Step.{Step}
use Rattle.sl_syntax.specs.Tree as s
use Rattle.sl_syntax.specs.Tree.{Expr, Exprs}
use Rattle.sl_syntax.specs.Typed as t
use Rattle.sl_syntax.specs.Typed.{Operands, Left}
use Rattle.sl_typing.specs.declared.expr_type.ExprType.{ExprType}
use Rattle.sl_typing.specs.declared.expr_type.ExprType.TheVariants as types
use Rattle.sl_typing.specs.declared.rules.TheConstants as rule
use Rattle.sl_typing.specs.declared.scope.Scope.{Scope}
use Rattle.sl_typing.specs.declared.standing.Standing.{Standing}
use Rattle.sl_typing.specs.declared.standing.Standing.TheVariants as standing
use Rattle.sl_typing.specs.Types.{scalar_of, common}
use Rattle.sl_typing.specs.Candidates.{Found, algorithm_row}
use Rattle.sl_typing.specs.Scopes.{type_of_name, number_of_name, label_of_name, function_named}
use Rattle.sl_typing.specs.TypeOf.{appends, is_first, type_of, types_of}
use Rattle.sl_typing.specs.Sites.{site_count, site_number, inside}
use Rattle.sl_typing.specs.Rules.{is_unknown_variable}
use Rattle.sl_typing.specs.Faults.{broken, own_faults, faults, faults_of_all, standing_before, last_standing, part_standing}
use Rattle.sl_typing.specs.Numbering.{Way, as_it_is, as_number, as_variable, variable, label_in, left_of, converted, handed, stepped, prefixed}
use Rattle.sl_typing.specs.Numbering.{postfixed, calculated, joined, part_of, selected, one, head, operator_head, first_operand, other_operands}
use Rattle.sl_typing.specs.Numbering.{row_call, called_row, called_algorithm, first_way, other_ways, told, told_all, number_in, ways, letters_of}
use Rattle.sl_typing.specs.Numbering.{parameter_way, row_of_subscript, row_of_member, typed, operands}
use Rattle.sl_typing.specs.Order.{parameters_of}
use Rattle.sl_model.specs.Typing.WellTypedNodes.{Node, a_literal, a_call, an_own_call, an_operator, a_step, a_use}
use Rattle.sl_model.specs.Typing.WellTypedNodes.{nodes_in, nodes_in_left, nodes_in_operands}
use Rattle.sl_model.specs.Typing.WellTypedNumbers.{is_name}
use Rattle.sl_number_limits.specs.Fits.{FitsScope}
use Rattle.sl_number_limits.proofs.Lists.{parts, not_broken}

-- names that are told are among those that there are
abbrev pub AreTold : Scope → List (Option ℕ) → Type 0
AreTold g names = (n : ℕ) → FitsScope n g → list_all (is_name n) names ≡ true

-- a test that the nodes of expressions pass, by their sorts
pub record Passes (ok : Node → Bool) (g : Scope) : Type 0 where
  pub literals : (z : ℤ) → ok (a_literal z) ≡ true
  pub own_calls : (k : ℕ) (es : Operands) → ok (an_own_call k es) ≡ true
  pub operators : (d e : t.Expr) → ok (an_operator d e) ≡ true
  pub steps : (x : Left) → ok (a_step x) ≡ true
  pub uses : (at : Place) (name : List ℕ) → is_unknown_variable g name ≡ false → ok (a_use at (label_in (label_of_name g name))) ≡ true
  pub iterators : (op : Operator) (at : Place) (names : List (Option ℕ)) (es : Operands) → AreTold g names
      → ok (a_call (operator_head op at names) es) ≡ true
  pub subscripts : (n : ℕ) (how : Standing) (x : Expr) (at : Place) (y : Expr) (f : Found) (k : ℕ) (es : Operands)
      → own_faults g n how (s.index x at y) ≡ [] → row_of_subscript (type_of g x) ≡ Some f
      → ok (a_call (head (callees.Row f.number) at (site_number g n (s.index x at y)) (Some k) (told g x ∷ told g y ∷ [])) es) ≡ true
  pub members : (n : ℕ) (how : Standing) (x : Expr) (w : Identifier) (xs : Exprs) (f : Found) (k : ℕ) (es : Operands)
      → own_faults g n how (s.member_call x w xs) ≡ [] → row_of_member (type_of g x) w.name (types_of g xs) ≡ Some f
      → ok (a_call (head (callees.Row f.number) w.place (site_number g n (s.member_call x w xs)) (Some k) (told g x ∷ told_all g xs)) es) ≡ true
  pub algorithms : (n : ℕ) (how : Standing) (w : Identifier) (xs : Exprs) (f : Found) (es : Operands)
      → own_faults g n how (s.library_call w xs) ≡ [] → algorithm_row (appends w.name xs) w.name (types_of g xs) ≡ Some f
      → appends w.name xs ≡ false
      → ok (a_call (head (callees.Row f.number) w.place (site_number g n (s.library_call w xs)) None (None ∷ told_all g xs)) es) ≡ true
  pub advances : (n : ℕ) (how : Standing) (w : Identifier) (xs : Exprs) (f : Found) (es : Operands)
      → own_faults g n how (s.library_call w xs) ≡ [] → algorithm_row (appends w.name xs) w.name (types_of g xs) ≡ Some f
      → bytes_eq w.name (codes "advance") ≡ true
      → ok (a_call (head (callees.Row f.number) w.place (site_number g n (s.library_call w xs)) None (None ∷ told_all g xs)) es) ≡ true
  pub appenders : (n : ℕ) (how : Standing) (w : Identifier) (xs : Exprs) (f : Found) (es : Operands)
      → own_faults g n how (s.library_call w xs) ≡ [] → algorithm_row (appends w.name xs) w.name (types_of g xs) ≡ Some f
      → appends w.name xs ≡ true
      → ok (a_call (head (callees.Appends f.number) w.place (site_number g n (s.library_call w xs)) None (None ∷ told_all g xs)) es) ≡ true

-- each name that is told is among those that there are
pub record Tells (g : Scope) : Type 0 where
  pub one : (x : Expr) → AreTold g (None ∷ told g x ∷ [])
  pub two : (x y : Expr) → AreTold g (None ∷ told g x ∷ told g y ∷ [])

-- nodes pass a test
abbrev pub AllPass : (Node → Bool) → List Node → Type 0
AllPass ok nodes = list_all ok nodes ≡ true

-- of one node more, and of two lists of nodes
pub first_passes : (ok : Node → Bool) (x : Node) (xs : List Node) → ok x ≡ true → AllPass ok xs → AllPass ok (x ∷ xs)
first_passes ok x xs h k = and_from (ok x) (list_all ok xs) h k

pub both_pass : (ok : Node → Bool) (xs ys : List Node) → AllPass ok xs → AllPass ok ys → AllPass ok (xs ++ ys)
both_pass ok xs ys h k = list_all-append ok xs ys ∙ and_from (list_all ok xs) (list_all ok ys) h k

parts_pass : (ok : Node → Bool) (xs ys : List Node) → AllPass ok (xs ++ ys) → AllPass ok xs × AllPass ok ys
parts_pass ok xs ys h = and_parts (list_all ok xs) (list_all ok ys) (sym (list_all-append ok xs ys) ∙ h)

-- the nodes of an expression, and of operands
abbrev pub Pass : (Node → Bool) → t.Expr → Type 0
Pass ok e = AllPass ok (nodes_in e)

abbrev pub OperandsPass : (Node → Bool) → Operands → Type 0
OperandsPass ok es = AllPass ok (nodes_in_operands es)

-- one operand, and two
pub one_passes : (ok : Node → Bool) (e : t.Expr) → Pass ok e → OperandsPass ok (one e)
unfolding nodes_in nodes_in_left nodes_in_operands
one_passes ok e h = both_pass ok (nodes_in e) [] h refl

two_pass : (ok : Node → Bool) (d e : t.Expr) → Pass ok d → Pass ok e → OperandsPass ok (t.with d (one e))
unfolding nodes_in nodes_in_left nodes_in_operands
two_pass ok d e h k = both_pass ok (nodes_in d) (nodes_in_operands (one e)) h (one_passes ok e k)

-- a conversion, and what is handed over
pub converted_passes : (ok : Node → Bool) (type : Scalar) (u : ExprType) (e : t.Expr) → Pass ok e → Pass ok (converted type u e)
unfolding nodes_in nodes_in_left nodes_in_operands
converted_passes ok type u e h = cond_both _ e (t.convert type e) (λ (d : t.Expr). Pass ok d) (λ k. h) (λ k. h)

pub handed_passes : (ok : Node → Bool) (w : Way) (u : ExprType) (e : t.Expr) → Pass ok e → Pass ok (handed w u e)
unfolding nodes_in nodes_in_left nodes_in_operands
handed_passes ok as_it_is u e h = h
handed_passes ok (as_number type) u e h = converted_passes ok type u e h
handed_passes ok as_variable u e h = refl

-- a left side
pub left_passes : (ok : Node → Bool) (e : t.Expr) → Pass ok e → AllPass ok (nodes_in_left (left_of e))
unfolding nodes_in nodes_in_left nodes_in_operands
left_passes ok (t.held x) h = h
left_passes ok e h = refl

-- a variable
variable_passes : (ok : Node → Bool) (g : Scope) → Passes ok g → (u : ExprType) (n : ℕ) (at : Place) (name : List ℕ)
    → is_unknown_variable g name ≡ false → Pass ok (variable u n at (label_in (label_of_name g name)))
unfolding nodes_in nodes_in_left nodes_in_operands
variable_passes ok g a (types.Iterator b form) n at name known = refl
variable_passes ok g a (types.Container access form) n at name known = refl
variable_passes ok g a (types.IntReference w) n at name known = first_passes ok _ [] (a.uses at name known) refl
variable_passes ok g a (types.EntryReference w) n at name known = first_passes ok _ [] (a.uses at name known) refl
variable_passes ok g a u n at name known = refl

-- an operator on an iterator
called_passes : (ok : Node → Bool) (g : Scope) → Passes ok g → (op : Operator) (at : Place) (names : List (Option ℕ)) (es : Operands)
    → AreTold g names → OperandsPass ok es → AllPass ok (a_call (operator_head op at names) es ∷ nodes_in_operands es)
called_passes ok g a op at names es k h = first_passes ok _ (nodes_in_operands es) (a.iterators op at names es k) h

-- operators
stepped_passes : (ok : Node → Bool) (g : Scope) → Passes ok g → (step : Step) (fix : Fix) (at : Place) (u : ExprType) (names : List (Option ℕ))
    (e : t.Expr) → AreTold g names → Pass ok e → Pass ok (stepped step fix at u names e)
unfolding nodes_in nodes_in_left nodes_in_operands
stepped_passes ok g a step fix at (types.Iterator b form) names e k h = first_passes ok _ [] (a.iterators _ at names _ k) refl
stepped_passes ok g a step fix at u names e k h = first_passes ok _ (nodes_in_left (left_of e)) (a.steps (left_of e)) (left_passes ok e h)

prefixed_passes : (ok : Node → Bool) (g : Scope) → Passes ok g → (op : PrefixOperator) (at : Place) (u : ExprType) (names : List (Option ℕ))
    (e : t.Expr) → AreTold g names → Pass ok e → Pass ok (prefixed op at u names e)
unfolding nodes_in nodes_in_left nodes_in_operands
prefixed_passes ok g a p.Not at u names e k h = h
prefixed_passes ok g a p.Negate at u names e k h = converted_passes ok (common (scalar_of u) c.Int) u e h
prefixed_passes ok g a p.Dereference at u names e k h = called_passes ok g a _ at names (one e) k (one_passes ok e h)
prefixed_passes ok g a p.Increment at u names e k h = stepped_passes ok g a _ _ at u names e k h
prefixed_passes ok g a p.Decrement at u names e k h = stepped_passes ok g a _ _ at u names e k h

postfixed_passes : (ok : Node → Bool) (g : Scope) → Passes ok g → (op : PostfixOperator) (at : Place) (u : ExprType) (names : List (Option ℕ))
    (e : t.Expr) → AreTold g names → Pass ok e → Pass ok (postfixed op at u names e)
postfixed_passes ok g a q.Increment at u names e k h = stepped_passes ok g a _ _ at u names e k h
postfixed_passes ok g a q.Decrement at u names e k h = stepped_passes ok g a _ _ at u names e k h

-- two numbers that meet
meeting_pass : (ok : Node → Bool) (g : Scope) → Passes ok g → (type : Scalar) (u v : ExprType) (d e : t.Expr) → Pass ok d → Pass ok e
    → AllPass ok (an_operator (converted type u d) (converted type v e) ∷ (nodes_in (converted type u d) ++ nodes_in (converted type v e)))
meeting_pass ok g a type u v d e h j =
    first_passes ok _ (nodes_in (converted type u d) ++ nodes_in (converted type v e)) (a.operators (converted type u d) (converted type v e))
    (both_pass ok (nodes_in (converted type u d)) (nodes_in (converted type v e)) (converted_passes ok type u d h) (converted_passes ok type v e j))

calculated_passes : (ok : Node → Bool) (g : Scope) → Passes ok g → (op : Arithmetic) (at : Place) (u v : ExprType) (names : List (Option ℕ))
    (d e : t.Expr) → AreTold g names → Pass ok d → Pass ok e → Pass ok (calculated op at u v names d e)
unfolding nodes_in nodes_in_left nodes_in_operands
calculated_passes ok g a op at (types.Iterator b x) (types.Iterator k y) names d e told h j =
    called_passes ok g a _ at names (t.with d (one e)) told (two_pass ok d e h j)
calculated_passes ok g a op at (types.Iterator b x) v names d e told h j =
    called_passes ok g a _ at names (t.with d (one (converted c.Diff v e))) told
    (two_pass ok d (converted c.Diff v e) h (converted_passes ok c.Diff v e j))
calculated_passes ok g a op at u v names d e told h j = meeting_pass ok g a (common (scalar_of u) (scalar_of v)) u v d e h j

joined_passes : (ok : Node → Bool) (g : Scope) → Passes ok g → (op : BinaryOperator) (at : Place) (u v : ExprType) (names : List (Option ℕ))
    (d e : t.Expr) → AreTold g names → Pass ok d → Pass ok e → Pass ok (joined op at u v names d e)
unfolding nodes_in nodes_in_left nodes_in_operands
joined_passes ok g a b.Or at u v names d e told h j = both_pass ok (nodes_in d) (nodes_in e) h j
joined_passes ok g a b.And at u v names d e told h j = both_pass ok (nodes_in d) (nodes_in e) h j
joined_passes ok g a (b.Comparison op) at (types.Iterator k x) v names d e told h j =
    called_passes ok g a _ at names (t.with d (one e)) told (two_pass ok d e h j)
joined_passes ok g a (b.Comparison op) at u v names d e told h j = meeting_pass ok g a (common (scalar_of u) (scalar_of v)) u v d e h j
joined_passes ok g a (b.Arithmetic op) at u v names d e told h j = calculated_passes ok g a op at u v names d e told h j

-- pieces
part_passes : (ok : Node → Bool) (at : Place) (first : Bool) (e : t.Expr) → Pass ok e → Pass ok (part_of at first e)
unfolding nodes_in nodes_in_left nodes_in_operands
part_passes ok at first (t.held (t.reference x named name k)) h = h
part_passes ok at true e h = h
part_passes ok at false e h = h

selected_passes : (ok : Node → Bool) (g : Scope) → Passes ok g → (selector : Selector) (at : Place) (first : Bool) (names : List (Option ℕ))
    (e : t.Expr) → AreTold g names → Pass ok e → Pass ok (selected selector at first names e)
unfolding nodes_in nodes_in_left nodes_in_operands
selected_passes ok g a l.Dot at first names e told h = part_passes ok at first e h
selected_passes ok g a l.Arrow at first names e told h = called_passes ok g a _ at names (one e) told (one_passes ok e h)

-- calls of rows
row_call_passes : (ok : Node → Bool) (gives : ReturnType) (h : Head) (es : Operands) → ok (a_call h es) ≡ true → OperandsPass ok es
    → Pass ok (row_call gives h es)
unfolding nodes_in nodes_in_left nodes_in_operands
row_call_passes ok r.Element h es j k = first_passes ok _ (nodes_in_operands es) j k
row_call_passes ok gives h es j k = first_passes ok _ (nodes_in_operands es) j k

row_passes : (ok : Node → Bool) (o : Option Found) (at : Place) (site : Option ℕ) (k : ℕ) (names : List (Option ℕ)) (es : Operands)
    → ((f : Found) → o ≡ Some f → ok (a_call (head (callees.Row f.number) at site (Some k) names) es) ≡ true) → OperandsPass ok es
    → Pass ok (called_row o at site k names es)
unfolding nodes_in nodes_in_left nodes_in_operands
row_passes ok None at site k names es j h = refl
row_passes ok (Some f) at site k names es j h = row_call_passes ok f.row.gives _ es (j f refl) h

first_operand_passes : (ok : Node → Bool) (es : Operands) → OperandsPass ok es → Pass ok (first_operand es)
unfolding nodes_in nodes_in_left nodes_in_operands
first_operand_passes ok t.none h = refl
first_operand_passes ok (t.with e es) h = (parts_pass ok (nodes_in e) (nodes_in_operands es) h).0

others_pass : (ok : Node → Bool) (es : Operands) → OperandsPass ok es → OperandsPass ok (other_operands es)
unfolding nodes_in nodes_in_left nodes_in_operands
others_pass ok t.none h = refl
others_pass ok (t.with e es) h = (parts_pass ok (nodes_in e) (nodes_in_operands es) h).1

-- of algorithms
algorithm_passes : (ok : Node → Bool) (o : Option Found) (appending : Bool) (name : List ℕ) (at : Place) (site : Option ℕ)
    (names : List (Option ℕ)) (es : Operands)
    → ((f : Found) (es : Operands) → o ≡ Some f → bytes_eq name (codes "advance") ≡ true
    → ok (a_call (head (callees.Row f.number) at site None names) es) ≡ true)
    → ((f : Found) (es : Operands) → o ≡ Some f → appending ≡ false → ok (a_call (head (callees.Row f.number) at site None names) es) ≡ true)
    → ((f : Found) (es : Operands) → o ≡ Some f → appending ≡ true → ok (a_call (head (callees.Appends f.number) at site None names) es) ≡ true)
    → OperandsPass ok es → Pass ok (called_algorithm o appending name at site names es)
unfolding nodes_in nodes_in_left nodes_in_operands
algorithm_passes ok None appending name at site names es moves calls appends h = refl
algorithm_passes ok (Some f) appending name at site names es moves calls appends h =
    cond_both (bytes_eq name (codes "back_inserter")) _ _ (λ (d : t.Expr). Pass ok d) (λ k. first_operand_passes ok es h)
    (λ k. cond_both (bytes_eq name (codes "advance")) _ _ (λ (d : t.Expr). Pass ok d)
    (λ j. first_passes ok _ (nodes_in_operands (other_operands es)) (moves f _ refl j) (others_pass ok es h))
    (λ j. cond_both appending _ _ (λ (d : t.Expr). Pass ok d) (λ i. first_passes ok _ (nodes_in_operands es) (appends f es refl i) h)
    (λ i. first_passes ok _ (nodes_in_operands es) (calls f es refl i) h)))

mutual
  unfolding typed operands type_of types_of faults faults_of_all nodes_in nodes_in_left nodes_in_operands

  -- an expression
  pub expression_passes : (ok : Node → Bool) (g : Scope) → Passes ok g → Tells g → (n : ℕ) (how : Standing) (e : Expr)
      → faults g n how e ≡ [] → Pass ok (typed g n e)
  expression_passes ok g a tell n how (s.number at k) none = first_passes ok _ [] (a.literals _) refl
  expression_passes ok g a tell n how (s.truth at x) none = first_passes ok _ [] (a.literals _) refl
  expression_passes ok g a tell n how (s.name x) none =
      let unknown : broken (is_unknown_variable g x.name) x.place rule.UNKNOWN_NAME ≡ [] = search parts in
      variable_passes ok g a (type_of_name g x.name) (number_of_name g x.name) x.place x.name
      (not_broken (is_unknown_variable g x.name) x.place rule.UNKNOWN_NAME unknown)
  expression_passes ok g a tell n how (s.call f xs) none =
      let i : faults_of_all g n standing.Plain xs ≡ [] = search parts in
      first_passes ok _ _ (a.own_calls _ _)
      (arguments_pass ok g a tell n standing.Plain (map parameter_way (parameters_of (function_named g f.name))) xs i)
  expression_passes ok g a tell n how (s.library_call f xs) none =
      let e = s.library_call f xs in
      let i : faults_of_all g (inside g n (s.library_call f xs)) (last_standing f.name xs) xs ≡ [] = search parts in
      let j : own_faults g n how (s.library_call f xs) ≡ [] = search parts in
      let row = algorithm_row (appends f.name xs) f.name (types_of g xs) in
      let ws = ways (letters_of row) in
      algorithm_passes ok row (appends f.name xs) f.name f.place (site_number g n e) (None ∷ told_all g xs) (operands g (inside g n e) ws xs)
      (λ x es. a.advances n how f xs x es j) (λ x es. a.algorithms n how f xs x es j) (λ x es. a.appenders n how f xs x es j)
      (arguments_pass ok g a tell (inside g n e) (last_standing f.name xs) ws xs i)
  expression_passes ok g a tell n how (s.parentheses at x) none = expression_passes ok g a tell n standing.Plain x none
  expression_passes ok g a tell n how (s.prefix op at x) none =
      let i : faults g n standing.Plain x ≡ [] = search parts in
      prefixed_passes ok g a op at (type_of g x) (None ∷ told g x ∷ []) (typed g n x) (tell.one x)
      (expression_passes ok g a tell n standing.Plain x i)
  expression_passes ok g a tell n how (s.binary x op at y) none =
      let i : faults g n standing.Plain x ≡ [] = search parts in
      let j : faults g (n + site_count g x) standing.Plain y ≡ [] = search parts in
      joined_passes ok g a op at (type_of g x) (type_of g y) (None ∷ told g x ∷ told g y ∷ []) (typed g n x) (typed g (n + site_count g x) y)
      (tell.two x y) (expression_passes ok g a tell n standing.Plain x i) (expression_passes ok g a tell (n + site_count g x) standing.Plain y j)
  expression_passes ok g a tell n how (s.postfix x op at) none =
      let i : faults g n standing.Plain x ≡ [] = search parts in
      postfixed_passes ok g a op at (type_of g x) (None ∷ told g x ∷ []) (typed g n x) (tell.one x)
      (expression_passes ok g a tell n standing.Plain x i)
  expression_passes ok g a tell n how (s.index x at y) none =
      let e = s.index x at y in
      let i : faults g (inside g n (s.index x at y)) standing.Plain y ≡ [] = search parts in
      let j : own_faults g n how (s.index x at y) ≡ [] = search parts in
      let row = row_of_subscript (type_of g x) in
      let w = first_way (ways (letters_of row)) in
      let last = typed g (inside g n e) y in
      row_passes ok row at (site_number g n e) (number_in (typed g n x)) (told g x ∷ told g y ∷ []) (one (handed w (type_of g y) last))
      (λ f. a.subscripts n how x at y f _ _ j)
      (one_passes ok (handed w (type_of g y) last)
      (handed_passes ok w (type_of g y) last (expression_passes ok g a tell (inside g n e) standing.Plain y i)))
  expression_passes ok g a tell n how (s.member_call x f xs) none =
      let e = s.member_call x f xs in
      let i : faults_of_all g (inside g n (s.member_call x f xs)) standing.Plain xs ≡ [] = search parts in
      let j : own_faults g n how (s.member_call x f xs) ≡ [] = search parts in
      let row = row_of_member (type_of g x) f.name (types_of g xs) in
      let ws = ways (letters_of row) in
      row_passes ok row f.place (site_number g n e) (number_in (typed g n x)) (told g x ∷ told_all g xs) (operands g (inside g n e) ws xs)
      (λ w. a.members n how x f xs w _ _ j) (arguments_pass ok g a tell (inside g n e) standing.Plain ws xs i)
  expression_passes ok g a tell n how (s.member x selector at f) none =
      let i : faults g n (part_standing selector f.name) x ≡ [] = search parts in
      selected_passes ok g a selector at (is_first f.name) (None ∷ told g x ∷ []) (typed g n x) (tell.one x)
      (expression_passes ok g a tell n (part_standing selector f.name) x i)

  -- arguments
  pub arguments_pass : (ok : Node → Bool) (g : Scope) → Passes ok g → Tells g → (n : ℕ) (last : Standing) (ws : List Way) (xs : Exprs)
      → faults_of_all g n last xs ≡ [] → OperandsPass ok (operands g n ws xs)
  arguments_pass ok g a tell n last ws s.none none = refl
  arguments_pass ok g a tell n last ws (s.with x xs) none =
      let i : faults g n (standing_before xs last) x ≡ [] = search parts in
      let j : faults_of_all g (n + site_count g x) last xs ≡ [] = search parts in
      both_pass ok (nodes_in (handed (first_way ws) (type_of g x) (typed g n x)))
      (nodes_in_operands (operands g (n + site_count g x) (other_ways ws) xs))
      (handed_passes ok (first_way ws) (type_of g x) (typed g n x) (expression_passes ok g a tell n (standing_before xs last) x i))
      (arguments_pass ok g a tell (n + site_count g x) last (other_ways ws) xs j)
