-- The literals of a typed expression are those of the expression, or fewer.
use Rattle.std.proofs.Common.{◌≡◌, ℕ, ℤ, ◌+◌, Bool, true, false, List, [], ◌∷◌, ◌++◌, map, Option, Some, None, refl, sym, ◌∙◌}
use Rattle.std.specs.Prelude.{codes}
use Rattle.std.specs.List.{list_all}
use Rattle.std.specs.Str.{bytes_eq}
use Rattle.std.proofs.lemmas.Bool.{and_from, and_parts, cond_both}
use Rattle.std.proofs.lemmas.List.Folds.{list_all-append}
use Rattle.sl_base.specs.declared.place.Place.{Place}
use Rattle.sl_base.specs.declared.scalar.Scalar.{Scalar}
use Rattle.sl_base.specs.declared.scalar.Scalar.TheVariants as c
use Rattle.sl_specs.specs.declared.return_type.ReturnType.{ReturnType}
use Rattle.sl_specs.specs.declared.return_type.ReturnType.TheVariants as r
use Rattle.sl_syntax.specs.declared.operator.Arithmetic.{Arithmetic}
use Rattle.sl_syntax.specs.declared.operator.BinaryOperator.{BinaryOperator}
use Rattle.sl_syntax.specs.declared.operator.BinaryOperator.TheVariants as b
use Rattle.sl_syntax.specs.declared.operator.PostfixOperator.{PostfixOperator}
use Rattle.sl_syntax.specs.declared.operator.PostfixOperator.TheVariants as q
use Rattle.sl_syntax.specs.declared.operator.PrefixOperator.{PrefixOperator}
use Rattle.sl_syntax.specs.declared.operator.PrefixOperator.TheVariants as p
use Rattle.sl_syntax.specs.declared.operator.Selector.{Selector}
use Rattle.sl_syntax.specs.declared.operator.Selector.TheVariants as l
use Rattle.sl_syntax.specs.declared.typed.head.Head.{Head}
use Rattle.sl_syntax.specs.declared.typed.step.Fix.{Fix}
use Rattle.sl_syntax.specs.declared.typed.step.Step.{Step}
use Rattle.sl_syntax.specs.Tree as s
use Rattle.sl_syntax.specs.Tree.{Expr, Exprs}
use Rattle.sl_syntax.specs.Typed as t
use Rattle.sl_syntax.specs.Typed.{Operands}
use Rattle.sl_typing.specs.declared.expr_type.ExprType.{ExprType}
use Rattle.sl_typing.specs.declared.expr_type.ExprType.TheVariants as types
use Rattle.sl_typing.specs.declared.scope.Scope.{Scope}
use Rattle.sl_typing.specs.Types.{scalar_of, common}
use Rattle.sl_typing.specs.Candidates.{Found, algorithm_row}
use Rattle.sl_typing.specs.Scopes.{type_of_name, number_of_name, label_of_name, function_named}
use Rattle.sl_typing.specs.TypeOf.{appends, is_first, type_of, types_of}
use Rattle.sl_typing.specs.Sites.{site_count, site_number, inside}
use Rattle.sl_typing.specs.Literals.{literals, literals_of_all}
use Rattle.sl_typing.specs.Numbering.{Way, as_it_is, as_number, as_variable, variable, label_in, left_of, converted, handed, stepped, prefixed, postfixed, calculated, joined}
use Rattle.sl_typing.specs.Numbering.{part_of, selected, one, first_operand, other_operands, row_call, called_row, called_algorithm, first_way, other_ways, told, told_all, number_in, ways, letters_of, typed, operands}
use Rattle.sl_typing.specs.Numbering.{parameter_way, row_of_subscript, row_of_member}
use Rattle.sl_typing.specs.Order.{parameters_of}
use Rattle.sl_model.specs.Typing.WellTypedNodes.{nodes_in, nodes_in_left, nodes_in_operands, Node}
use Rattle.sl_model.specs.Typing.WellTypedNumbers.{holds_around, literal_is_held}

-- the literals of a typed expression are held
abbrev pub Held : List ℤ → t.Expr → Type 0
Held zs e = list_all (literal_is_held zs) (nodes_in e) ≡ true

-- those of operands
abbrev pub AllHeld : List ℤ → Operands → Type 0
AllHeld zs es = list_all (literal_is_held zs) (nodes_in_operands es) ≡ true

-- of two lists of nodes
pub both_held : (zs : List ℤ) (xs ys : List Node) → list_all (literal_is_held zs) xs ≡ true → list_all (literal_is_held zs) ys ≡ true
    → list_all (literal_is_held zs) (xs ++ ys) ≡ true
both_held zs xs ys h k =
    list_all-append (literal_is_held zs) xs ys ∙ and_from (list_all (literal_is_held zs) xs) (list_all (literal_is_held zs) ys) h k

pub held_parts : (zs xs ys : List ℤ) → list_all (holds_around zs) (xs ++ ys) ≡ true
    → (list_all (holds_around zs) xs ≡ true) × (list_all (holds_around zs) ys ≡ true)
held_parts zs xs ys h = and_parts (list_all (holds_around zs) xs) (list_all (holds_around zs) ys) (sym (list_all-append (holds_around zs) xs ys) ∙ h)

-- one operand, and two
pub one_held : (zs : List ℤ) (e : t.Expr) → Held zs e → AllHeld zs (one e)
unfolding nodes_in nodes_in_left nodes_in_operands
one_held zs e h = both_held zs (nodes_in e) [] h refl

two_held : (zs : List ℤ) (d e : t.Expr) → Held zs d → Held zs e → AllHeld zs (t.with d (one e))
unfolding nodes_in nodes_in_left nodes_in_operands
two_held zs d e h k = both_held zs (nodes_in d) (nodes_in_operands (one e)) h (one_held zs e k)

-- a conversion, and what is handed over
pub converted_held : (zs : List ℤ) (q : Scalar) (u : ExprType) (e : t.Expr) → Held zs e → Held zs (converted q u e)
unfolding nodes_in nodes_in_left nodes_in_operands
converted_held zs q u e h = cond_both _ e (t.convert q e) (λ (d : t.Expr). Held zs d) (λ k. h) (λ k. h)

handed_held : (zs : List ℤ) (w : Way) (u : ExprType) (e : t.Expr) → Held zs e → Held zs (handed w u e)
unfolding nodes_in nodes_in_left nodes_in_operands
handed_held zs as_it_is u e h = h
handed_held zs (as_number q) u e h = converted_held zs q u e h
handed_held zs as_variable u e h = refl

-- a left side
pub left_held : (zs : List ℤ) (e : t.Expr) → Held zs e → list_all (literal_is_held zs) (nodes_in_left (left_of e)) ≡ true
unfolding nodes_in nodes_in_left nodes_in_operands
left_held zs (t.held x) h = h
left_held zs e h = refl

-- a variable
variable_held : (zs : List ℤ) (u : ExprType) (n : ℕ) (at : Place) (label : ℕ) → Held zs (variable u n at label)
unfolding nodes_in nodes_in_left nodes_in_operands
variable_held zs (types.Iterator b form) n at label = refl
variable_held zs (types.Container access form) n at label = refl
variable_held zs (types.IntReference w) n at label = refl
variable_held zs (types.EntryReference w) n at label = refl
variable_held zs u n at label = refl

-- operators
stepped_held : (zs : List ℤ) (step : Step) (fix : Fix) (at : Place) (u : ExprType) (names : List (Option ℕ)) (e : t.Expr) → Held zs e
    → Held zs (stepped step fix at u names e)
unfolding nodes_in nodes_in_left nodes_in_operands
stepped_held zs step fix at (types.Iterator b form) names e h = refl
stepped_held zs step fix at u names e h = left_held zs e h

prefixed_held : (zs : List ℤ) (op : PrefixOperator) (at : Place) (u : ExprType) (names : List (Option ℕ)) (e : t.Expr) → Held zs e
    → Held zs (prefixed op at u names e)
unfolding nodes_in nodes_in_left nodes_in_operands
prefixed_held zs p.Not at u names e h = h
prefixed_held zs p.Negate at u names e h = converted_held zs (common (scalar_of u) c.Int) u e h
prefixed_held zs p.Dereference at u names e h = one_held zs e h
prefixed_held zs p.Increment at u names e h = stepped_held zs _ _ at u names e h
prefixed_held zs p.Decrement at u names e h = stepped_held zs _ _ at u names e h

postfixed_held : (zs : List ℤ) (op : PostfixOperator) (at : Place) (u : ExprType) (names : List (Option ℕ)) (e : t.Expr) → Held zs e
    → Held zs (postfixed op at u names e)
postfixed_held zs q.Increment at u names e h = stepped_held zs _ _ at u names e h
postfixed_held zs q.Decrement at u names e h = stepped_held zs _ _ at u names e h

calculated_held : (zs : List ℤ) (op : Arithmetic) (at : Place) (u v : ExprType) (names : List (Option ℕ)) (d e : t.Expr) → Held zs d → Held zs e
    → Held zs (calculated op at u v names d e)
unfolding nodes_in nodes_in_left nodes_in_operands
calculated_held zs op at (types.Iterator b x) (types.Iterator k y) names d e h j = two_held zs d e h j
calculated_held zs op at (types.Iterator b x) v names d e h j = two_held zs d (converted c.Diff v e) h (converted_held zs c.Diff v e j)
calculated_held zs op at u v names d e h j =
    let type = common (scalar_of u) (scalar_of v) in
    both_held zs (nodes_in (converted type u d)) (nodes_in (converted type v e)) (converted_held zs type u d h) (converted_held zs type v e j)

joined_held : (zs : List ℤ) (op : BinaryOperator) (at : Place) (u v : ExprType) (names : List (Option ℕ)) (d e : t.Expr) → Held zs d → Held zs e
    → Held zs (joined op at u v names d e)
unfolding nodes_in nodes_in_left nodes_in_operands
joined_held zs b.Or at u v names d e h j = both_held zs (nodes_in d) (nodes_in e) h j
joined_held zs b.And at u v names d e h j = both_held zs (nodes_in d) (nodes_in e) h j
joined_held zs (b.Comparison op) at (types.Iterator k x) v names d e h j = two_held zs d e h j
joined_held zs (b.Comparison op) at u v names d e h j =
    let type = common (scalar_of u) (scalar_of v) in
    both_held zs (nodes_in (converted type u d)) (nodes_in (converted type v e)) (converted_held zs type u d h) (converted_held zs type v e j)
joined_held zs (b.Arithmetic op) at u v names d e h j = calculated_held zs op at u v names d e h j

-- pieces
part_held : (zs : List ℤ) (at : Place) (first : Bool) (e : t.Expr) → Held zs e → Held zs (part_of at first e)
unfolding nodes_in nodes_in_left nodes_in_operands
part_held zs at first (t.held (t.reference x named name k)) h = refl
part_held zs at true e h = h
part_held zs at false e h = h

selected_held : (zs : List ℤ) (selector : Selector) (at : Place) (first : Bool) (names : List (Option ℕ)) (e : t.Expr) → Held zs e
    → Held zs (selected selector at first names e)
unfolding nodes_in nodes_in_left nodes_in_operands
selected_held zs l.Dot at first names e h = part_held zs at first e h
selected_held zs l.Arrow at first names e h = one_held zs e h

-- calls
row_call_held : (zs : List ℤ) (gives : ReturnType) (h : Head) (es : Operands) → AllHeld zs es → Held zs (row_call gives h es)
unfolding nodes_in nodes_in_left nodes_in_operands
row_call_held zs r.Element h es k = k
row_call_held zs gives h es k = k

called_held : (zs : List ℤ) (o : Option Found) (at : Place) (site : Option ℕ) (k : ℕ) (names : List (Option ℕ)) (es : Operands) → AllHeld zs es
    → Held zs (called_row o at site k names es)
unfolding nodes_in nodes_in_left nodes_in_operands
called_held zs None at site k names es h = refl
called_held zs (Some x) at site k names es h = row_call_held zs x.row.gives _ es h

first_held : (zs : List ℤ) (es : Operands) → AllHeld zs es → Held zs (first_operand es)
unfolding nodes_in nodes_in_left nodes_in_operands
first_held zs t.none h = refl
first_held zs (t.with e es) h = (and_parts (list_all (literal_is_held zs) (nodes_in e)) (list_all (literal_is_held zs) (nodes_in_operands es))
    (sym (list_all-append (literal_is_held zs) (nodes_in e) (nodes_in_operands es)) ∙ h)).0

others_held : (zs : List ℤ) (es : Operands) → AllHeld zs es → AllHeld zs (other_operands es)
unfolding nodes_in nodes_in_left nodes_in_operands
others_held zs t.none h = refl
others_held zs (t.with e es) h = (and_parts (list_all (literal_is_held zs) (nodes_in e)) (list_all (literal_is_held zs) (nodes_in_operands es))
    (sym (list_all-append (literal_is_held zs) (nodes_in e) (nodes_in_operands es)) ∙ h)).1

algorithm_held : (zs : List ℤ) (o : Option Found) (appends : Bool) (name : List ℕ) (at : Place) (site : Option ℕ) (names : List (Option ℕ))
    (es : Operands) → AllHeld zs es → Held zs (called_algorithm o appends name at site names es)
unfolding nodes_in nodes_in_left nodes_in_operands
algorithm_held zs None appends name at site names es h = refl
algorithm_held zs (Some x) appends name at site names es h =
    cond_both (bytes_eq name (codes "back_inserter")) _ _ (λ (d : t.Expr). Held zs d) (λ k. first_held zs es h)
    (λ k. cond_both (bytes_eq name (codes "advance")) _ _ (λ (d : t.Expr). Held zs d) (λ j. others_held zs es h)
    (λ j. cond_both appends _ _ (λ (d : t.Expr). Held zs d) (λ i. h) (λ i. h)))

mutual
  unfolding typed operands type_of types_of literals literals_of_all nodes_in nodes_in_left nodes_in_operands

  -- an expression
  pub expression_held : (zs : List ℤ) (g : Scope) (n : ℕ) (e : Expr) → list_all (holds_around zs) (literals e) ≡ true → Held zs (typed g n e)
  expression_held zs g n (s.number at k) h = h
  expression_held zs g n (s.truth at x) h = h
  expression_held zs g n (s.name x) h =
      variable_held zs (type_of_name g x.name) (number_of_name g x.name) x.place (label_in (label_of_name g x.name))
  expression_held zs g n (s.call f xs) h =
      arguments_held zs g n (map parameter_way (parameters_of (function_named g f.name))) xs h
  expression_held zs g n (s.library_call f xs) h =
      let e = s.library_call f xs in
      let row = algorithm_row (appends f.name xs) f.name (types_of g xs) in
      let ws = ways (letters_of row) in
      algorithm_held zs row (appends f.name xs) f.name f.place (site_number g n e) (None ∷ told_all g xs) (operands g (inside g n e) ws xs)
      (arguments_held zs g (inside g n e) ws xs h)
  expression_held zs g n (s.parentheses at x) h = expression_held zs g n x h
  expression_held zs g n (s.prefix op at x) h =
      prefixed_held zs op at (type_of g x) (None ∷ told g x ∷ []) (typed g n x) (expression_held zs g n x h)
  expression_held zs g n (s.binary x op at y) h =
      let two = held_parts zs (literals x) (literals y) h in
      joined_held zs op at (type_of g x) (type_of g y) (None ∷ told g x ∷ told g y ∷ []) (typed g n x) (typed g (n + site_count g x) y)
      (expression_held zs g n x two.0) (expression_held zs g (n + site_count g x) y two.1)
  expression_held zs g n (s.postfix x op at) h =
      postfixed_held zs op at (type_of g x) (None ∷ told g x ∷ []) (typed g n x) (expression_held zs g n x h)
  expression_held zs g n (s.index x at y) h =
      let two = held_parts zs (literals x) (literals y) h in
      let e = s.index x at y in
      let row = row_of_subscript (type_of g x) in
      let w = first_way (ways (letters_of row)) in
      let last = typed g (inside g n e) y in
      called_held zs row at (site_number g n e) (number_in (typed g n x)) (told g x ∷ told g y ∷ []) (one (handed w (type_of g y) last))
      (one_held zs (handed w (type_of g y) last) (handed_held zs w (type_of g y) last (expression_held zs g (inside g n e) y two.1)))
  expression_held zs g n (s.member_call x f xs) h =
      let two = held_parts zs (literals x) (literals_of_all xs) h in
      let e = s.member_call x f xs in
      let row = row_of_member (type_of g x) f.name (types_of g xs) in
      let ws = ways (letters_of row) in
      called_held zs row f.place (site_number g n e) (number_in (typed g n x)) (told g x ∷ told_all g xs) (operands g (inside g n e) ws xs)
      (arguments_held zs g (inside g n e) ws xs two.1)
  expression_held zs g n (s.member x selector at f) h =
      selected_held zs selector at (is_first f.name) (None ∷ told g x ∷ []) (typed g n x) (expression_held zs g n x h)

  -- arguments
  pub arguments_held : (zs : List ℤ) (g : Scope) (n : ℕ) (ws : List Way) (xs : Exprs) → list_all (holds_around zs) (literals_of_all xs) ≡ true
      → AllHeld zs (operands g n ws xs)
  arguments_held zs g n ws s.none h = refl
  arguments_held zs g n ws (s.with x xs) h =
      let two = held_parts zs (literals x) (literals_of_all xs) h in
      both_held zs (nodes_in (handed (first_way ws) (type_of g x) (typed g n x)))
      (nodes_in_operands (operands g (n + site_count g x) (other_ways ws) xs))
      (handed_held zs (first_way ws) (type_of g x) (typed g n x) (expression_held zs g n x two.0))
      (arguments_held zs g (n + site_count g x) (other_ways ws) xs two.1)
