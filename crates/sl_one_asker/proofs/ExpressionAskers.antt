-- No more nodes of a typed expression may ask at a place than words of the expression tell it.
use Rattle.std.proofs.Common.{arith, ◌≡◌, ℕ, ◌+◌, ◌≤◌, Bool, true, false, List, [], ◌∷◌, ◌++◌, map, Option, Some, None, refl}
use Rattle.std.specs.Prelude.{codes}
use Rattle.std.specs.Str.{bytes_eq}
use Rattle.std.proofs.Math.Nat.{le_refl}
use Rattle.std.proofs.lemmas.Bool.{cond_both}
use Rattle.sl_base.specs.declared.mark.Mark.TheVariants as m
use Rattle.sl_base.specs.declared.place.Place.{Place}
use Rattle.sl_base.specs.declared.scalar.Scalar.{Scalar}
use Rattle.sl_base.specs.declared.scalar.Scalar.TheVariants as c
use Rattle.sl_base.specs.declared.word.Word.TheVariants as w
use Rattle.sl_specs.specs.declared.return_type.ReturnType.{ReturnType}
use Rattle.sl_specs.specs.declared.return_type.ReturnType.TheVariants as r
use Rattle.sl_syntax.specs.declared.operator.Arithmetic.{Arithmetic}
use Rattle.sl_syntax.specs.declared.operator.BinaryOperator.{BinaryOperator}
use Rattle.sl_syntax.specs.declared.operator.BinaryOperator.TheVariants as b
use Rattle.sl_syntax.specs.declared.operator.PostfixOperator.{PostfixOperator}
use Rattle.sl_syntax.specs.declared.operator.PostfixOperator.TheVariants as postfix
use Rattle.sl_syntax.specs.declared.operator.PrefixOperator.{PrefixOperator}
use Rattle.sl_syntax.specs.declared.operator.PrefixOperator.TheVariants as p
use Rattle.sl_syntax.specs.declared.operator.Selector.{Selector}
use Rattle.sl_syntax.specs.declared.operator.Selector.TheVariants as l
use Rattle.sl_syntax.specs.declared.typed.head.Head.{Head}
use Rattle.sl_syntax.specs.declared.typed.step.Fix.{Fix}
use Rattle.sl_syntax.specs.declared.typed.step.Step.{Step}
use Rattle.sl_syntax.specs.Tree as s
use Rattle.sl_syntax.specs.Tree.{Expr, Exprs}
use Rattle.sl_syntax.specs.Typed as t
use Rattle.sl_syntax.specs.Typed.{Operands}
use Rattle.sl_syntax.specs.Written.{mark, named, at, binary_mark, selector_mark, postfix_mark, written, list_written, rest_written}
use Rattle.sl_typing.specs.declared.expr_type.ExprType.{ExprType}
use Rattle.sl_typing.specs.declared.expr_type.ExprType.TheVariants as types
use Rattle.sl_typing.specs.declared.scope.Scope.{Scope}
use Rattle.sl_typing.specs.Types.{scalar_of, common}
use Rattle.sl_typing.specs.Candidates.{Found, algorithm_row}
use Rattle.sl_typing.specs.Scopes.{type_of_name, number_of_name, label_of_name, function_named}
use Rattle.sl_typing.specs.TypeOf.{appends, is_first, type_of, types_of}
use Rattle.sl_typing.specs.Sites.{site_count, site_number, inside}
use Rattle.sl_typing.specs.Numbering.{Way, as_it_is, as_number, as_variable, variable, label_in, left_of, converted, handed, stepped, prefixed}
use Rattle.sl_typing.specs.Numbering.{postfixed, calculated, joined}
use Rattle.sl_typing.specs.Numbering.{part_of, selected, one, first_operand, other_operands, row_call, called_row, called_algorithm, first_way}
use Rattle.sl_typing.specs.Numbering.{other_ways, told, told_all, number_in, ways, letters_of, typed, operands}
use Rattle.sl_typing.specs.Numbering.{parameter_way, row_of_subscript, row_of_member}
use Rattle.sl_typing.specs.Order.{parameters_of}
use Rattle.sl_model.specs.Typing.WellTypedNodes.{nodes_in, nodes_in_left, nodes_in_operands}
use Rattle.sl_one_asker.proofs.Totals.{total-append, total_rest}
use Rattle.sl_one_asker.proofs.Askers.{here, asks_at, askers}
use Rattle.sl_one_asker.proofs.WordsAt.{tells, words_at, skips_marks}

-- how many nodes of an expression may ask at a place, and of operands
abbrev pub asking : Place → t.Expr → ℕ
asking q e = askers q (nodes_in e)

abbrev pub all_asking : Place → Operands → ℕ
all_asking q es = askers q (nodes_in_operands es)

-- one operand, and two
pub one_asking : (q : Place) (e : t.Expr) → all_asking q (one e) ≡ asking q e
unfolding nodes_in nodes_in_left nodes_in_operands
one_asking q e = let both = total-append (asks_at q) (nodes_in e) [] in omega arith

two_asking : (q : Place) (d e : t.Expr) → all_asking q (t.with d (one e)) ≡ asking q d + asking q e
unfolding nodes_in nodes_in_left nodes_in_operands
two_asking q d e = let both = total-append (asks_at q) (nodes_in d) (nodes_in_operands (one e)) in let last = one_asking q e in omega arith

-- a conversion, and what is handed over
pub converted_asking : (q : Place) (k : Scalar) (u : ExprType) (e : t.Expr) → asking q (converted k u e) ≡ asking q e
unfolding nodes_in nodes_in_left nodes_in_operands
converted_asking q k u e = cond_both _ e (t.convert k e) (λ (d : t.Expr). asking q d ≡ asking q e) (λ h. refl) (λ h. refl)

handed_asking : (q : Place) (w : Way) (u : ExprType) (e : t.Expr) → asking q (handed w u e) ≤ asking q e
unfolding nodes_in nodes_in_left nodes_in_operands
handed_asking q as_it_is u e = le_refl (asking q e)
handed_asking q (as_number k) u e = let same = converted_asking q k u e in omega arith
handed_asking q as_variable u e = omega arith

-- a left side
pub left_asking : (q : Place) (e : t.Expr) → askers q (nodes_in_left (left_of e)) ≤ asking q e
unfolding nodes_in nodes_in_left nodes_in_operands
left_asking q (t.held x) = le_refl (askers q (nodes_in_left x))
left_asking q e = omega arith

-- a variable
variable_asking : (q : Place) (u : ExprType) (n : ℕ) (at : Place) (label : ℕ) → asking q (variable u n at label) ≤ here q at
unfolding nodes_in nodes_in_left nodes_in_operands
variable_asking q (types.Iterator b form) n at label = omega arith
variable_asking q (types.Container access form) n at label = omega arith
variable_asking q (types.IntReference w) n at label = omega arith
variable_asking q (types.EntryReference w) n at label = omega arith
variable_asking q u n at label = omega arith

-- operators
stepped_asking : (q : Place) (step : Step) (fix : Fix) (at : Place) (u : ExprType) (names : List (Option ℕ)) (e : t.Expr)
    → asking q (stepped step fix at u names e) ≤ here q at + asking q e
unfolding nodes_in nodes_in_left nodes_in_operands
stepped_asking q step fix at (types.Iterator b form) names e = omega arith
stepped_asking q step fix at u names e = let left = left_asking q e in omega arith

prefixed_asking : (q : Place) (op : PrefixOperator) (at : Place) (u : ExprType) (names : List (Option ℕ)) (e : t.Expr)
    → asking q (prefixed op at u names e) ≤ here q at + asking q e
unfolding nodes_in nodes_in_left nodes_in_operands
prefixed_asking q p.Not at u names e = omega arith
prefixed_asking q p.Negate at u names e = let same = converted_asking q (common (scalar_of u) c.Int) u e in omega arith
prefixed_asking q p.Dereference at u names e = let same = one_asking q e in omega arith
prefixed_asking q p.Increment at u names e = stepped_asking q _ _ at u names e
prefixed_asking q p.Decrement at u names e = stepped_asking q _ _ at u names e

postfixed_asking : (q : Place) (op : PostfixOperator) (at : Place) (u : ExprType) (names : List (Option ℕ)) (e : t.Expr)
    → asking q (postfixed op at u names e) ≤ here q at + asking q e
postfixed_asking q postfix.Increment at u names e = stepped_asking q _ _ at u names e
postfixed_asking q postfix.Decrement at u names e = stepped_asking q _ _ at u names e

-- two operands that meet as numbers of a type
meeting_asking : (q : Place) (type : Scalar) (u v : ExprType) (d e : t.Expr)
    → askers q (nodes_in (converted type u d) ++ nodes_in (converted type v e)) ≡ asking q d + asking q e
meeting_asking q type u v d e =
    let both = total-append (asks_at q) (nodes_in (converted type u d)) (nodes_in (converted type v e)) in
    let first = converted_asking q type u d in
    let last = converted_asking q type v e in
    omega arith

calculated_asking : (q : Place) (op : Arithmetic) (at : Place) (u v : ExprType) (names : List (Option ℕ)) (d e : t.Expr)
    → asking q (calculated op at u v names d e) ≤ here q at + (asking q d + asking q e)
unfolding nodes_in nodes_in_left nodes_in_operands
calculated_asking q op at (types.Iterator b x) (types.Iterator k y) names d e = let both = two_asking q d e in omega arith
calculated_asking q op at (types.Iterator b x) v names d e =
    let both = two_asking q d (converted c.Diff v e) in let last = converted_asking q c.Diff v e in omega arith
calculated_asking q op at u v names d e = let both = meeting_asking q (common (scalar_of u) (scalar_of v)) u v d e in omega arith

joined_asking : (q : Place) (op : BinaryOperator) (at : Place) (u v : ExprType) (names : List (Option ℕ)) (d e : t.Expr)
    → asking q (joined op at u v names d e) ≤ here q at + (asking q d + asking q e)
unfolding nodes_in nodes_in_left nodes_in_operands
joined_asking q b.Or at u v names d e = let both = total-append (asks_at q) (nodes_in d) (nodes_in e) in omega arith
joined_asking q b.And at u v names d e = let both = total-append (asks_at q) (nodes_in d) (nodes_in e) in omega arith
joined_asking q (b.Comparison op) at (types.Iterator k x) v names d e = let both = two_asking q d e in omega arith
joined_asking q (b.Comparison op) at u v names d e =
    let both = meeting_asking q (common (scalar_of u) (scalar_of v)) u v d e in omega arith
joined_asking q (b.Arithmetic op) at u v names d e = calculated_asking q op at u v names d e

-- pieces
part_asking : (q : Place) (at : Place) (first : Bool) (e : t.Expr) → asking q (part_of at first e) ≤ asking q e
unfolding nodes_in nodes_in_left nodes_in_operands
part_asking q at first (t.held (t.reference x named name k)) = omega arith
part_asking q at true e = omega arith
part_asking q at false e = omega arith

selected_asking : (q : Place) (selector : Selector) (at : Place) (first : Bool) (names : List (Option ℕ)) (e : t.Expr)
    → asking q (selected selector at first names e) ≤ here q at + asking q e
unfolding nodes_in nodes_in_left nodes_in_operands
selected_asking q l.Dot at first names e = let part = part_asking q at first e in omega arith
selected_asking q l.Arrow at first names e = let same = one_asking q e in omega arith

-- calls
row_call_asking : (q : Place) (gives : ReturnType) (h : Head) (es : Operands) → asking q (row_call gives h es) ≤ here q h.place + all_asking q es
unfolding nodes_in nodes_in_left nodes_in_operands
row_call_asking q r.Element h es = omega arith
row_call_asking q gives h es = omega arith

called_asking : (q : Place) (o : Option Found) (at : Place) (site : Option ℕ) (k : ℕ) (names : List (Option ℕ)) (es : Operands)
    → asking q (called_row o at site k names es) ≤ here q at + all_asking q es
unfolding nodes_in nodes_in_left nodes_in_operands
called_asking q None at site k names es = omega arith
called_asking q (Some x) at site k names es = row_call_asking q x.row.gives _ es

first_asking : (q : Place) (es : Operands) → asking q (first_operand es) ≤ all_asking q es
unfolding nodes_in nodes_in_left nodes_in_operands
first_asking q t.none = omega arith
first_asking q (t.with e es) = let both = total-append (asks_at q) (nodes_in e) (nodes_in_operands es) in omega arith

others_asking : (q : Place) (es : Operands) → all_asking q (other_operands es) ≤ all_asking q es
unfolding nodes_in nodes_in_left nodes_in_operands
others_asking q t.none = omega arith
others_asking q (t.with e es) = let both = total-append (asks_at q) (nodes_in e) (nodes_in_operands es) in omega arith

algorithm_asking : (q : Place) (o : Option Found) (appends : Bool) (name : List ℕ) (at : Place) (site : Option ℕ) (names : List (Option ℕ))
    (es : Operands) → asking q (called_algorithm o appends name at site names es) ≤ here q at + all_asking q es
unfolding nodes_in nodes_in_left nodes_in_operands
algorithm_asking q None appends name at site names es = omega arith
algorithm_asking q (Some x) appends name at site names es =
    let most = λ (d : t.Expr). asking q d ≤ here q at + all_asking q es in
    let first = first_asking q es in
    let others = others_asking q es in
    cond_both (bytes_eq name (codes "back_inserter")) _ _ most (λ k. omega arith)
    (λ k. cond_both (bytes_eq name (codes "advance")) _ _ most (λ j. omega arith)
    (λ j. cond_both appends _ _ most (λ i. omega arith) (λ i. omega arith)))

mutual
  unfolding typed operands type_of types_of nodes_in nodes_in_left nodes_in_operands

  -- an expression
  pub expression_asking : (q : Place) (g : Scope) (n : ℕ) (e : Expr) → asking q (typed g n e) ≤ words_at q (written e)
  expression_asking q g n (s.number at k) = omega arith
  expression_asking q g n (s.truth at x) = omega arith
  expression_asking q g n (s.name x) =
      let most = variable_asking q (type_of_name g x.name) (number_of_name g x.name) x.place (label_in (label_of_name g x.name)) in omega arith
  expression_asking q g n (s.call f xs) =
      let most = arguments_asking q g n (map parameter_way (parameters_of (function_named g f.name))) xs in
      let all = total-append (tells q) (list_written xs) (mark m.RightParenthesis ∷ []) in
      omega arith
  expression_asking q g n (s.library_call f xs) =
      let e = s.library_call f xs in
      let row = algorithm_row (appends f.name xs) f.name (types_of g xs) in
      let ws = ways (letters_of row) in
      let most = algorithm_asking q row (appends f.name xs) f.name f.place (site_number g n e) (None ∷ told_all g xs)
      (operands g (inside g n e) ws xs) in
      let given = arguments_asking q g (inside g n e) ws xs in
      let all = total-append (tells q) (list_written xs) (mark m.RightParenthesis ∷ []) in
      omega arith
  expression_asking q g n (s.parentheses at x) =
      let most = expression_asking q g n x in
      let all = total-append (tells q) (written x) (mark m.RightParenthesis ∷ []) in
      omega arith
  expression_asking q g n (s.prefix op at x) =
      let most = prefixed_asking q op at (type_of g x) (None ∷ told g x ∷ []) (typed g n x) in
      let operand = expression_asking q g n x in
      omega arith
  expression_asking q g n (s.binary x op place y) =
      let most = joined_asking q op place (type_of g x) (type_of g y) (None ∷ told g x ∷ told g y ∷ []) (typed g n x)
      (typed g (n + site_count g x) y) in
      let left = expression_asking q g n x in
      let right = expression_asking q g (n + site_count g x) y in
      let all = total-append (tells q) (written x) (at place (w.Mark (binary_mark op)) ∷ written y) in
      omega arith
  expression_asking q g n (s.postfix x op place) =
      let most = postfixed_asking q op place (type_of g x) (None ∷ told g x ∷ []) (typed g n x) in
      let operand = expression_asking q g n x in
      let all = total-append (tells q) (written x) (at place (w.Mark (postfix_mark op)) ∷ []) in
      omega arith
  expression_asking q g n (s.index x place y) =
      let e = s.index x place y in
      let row = row_of_subscript (type_of g x) in
      let way = first_way (ways (letters_of row)) in
      let last = typed g (inside g n e) y in
      let most = called_asking q row place (site_number g n e) (number_in (typed g n x)) (told g x ∷ told g y ∷ [])
      (one (handed way (type_of g y) last)) in
      let same = one_asking q (handed way (type_of g y) last) in
      let given = handed_asking q way (type_of g y) last in
      let right = expression_asking q g (inside g n e) y in
      let inner = total-append (tells q) (written y) (mark m.RightBracket ∷ []) in
      let all = total-append (tells q) (written x) (at place (w.Mark m.LeftBracket) ∷ (written y ++ mark m.RightBracket ∷ [])) in
      omega arith
  expression_asking q g n (s.member_call x f xs) =
      let e = s.member_call x f xs in
      let row = row_of_member (type_of g x) f.name (types_of g xs) in
      let ws = ways (letters_of row) in
      let most = called_asking q row f.place (site_number g n e) (number_in (typed g n x)) (told g x ∷ told_all g xs)
      (operands g (inside g n e) ws xs) in
      let given = arguments_asking q g (inside g n e) ws xs in
      let inner = total-append (tells q) (list_written xs) (mark m.RightParenthesis ∷ []) in
      let all = total-append (tells q) (written x)
      (mark m.Dot ∷ named f ∷ mark m.LeftParenthesis ∷ (list_written xs ++ mark m.RightParenthesis ∷ [])) in
      omega arith
  expression_asking q g n (s.member x selector place f) =
      let most = selected_asking q selector place (is_first f.name) (None ∷ told g x ∷ []) (typed g n x) in
      let operand = expression_asking q g n x in
      let all = total-append (tells q) (written x) (at place (w.Mark (selector_mark selector)) ∷ named f ∷ []) in
      omega arith

  -- arguments
  pub arguments_asking : (q : Place) (g : Scope) (n : ℕ) (ws : List Way) (xs : Exprs)
      → all_asking q (operands g n ws xs) ≤ words_at q (list_written xs)
  arguments_asking q g n ws s.none = omega arith
  arguments_asking q g n ws (s.with x xs) =
      let both = total-append (asks_at q) (nodes_in (handed (first_way ws) (type_of g x) (typed g n x)))
      (nodes_in_operands (operands g (n + site_count g x) (other_ways ws) xs)) in
      let given = handed_asking q (first_way ws) (type_of g x) (typed g n x) in
      let first = expression_asking q g n x in
      let others = arguments_asking q g (n + site_count g x) (other_ways ws) xs in
      let same = total_rest (tells q) (skips_marks q) xs in
      let all = total-append (tells q) (written x) (rest_written xs) in
      omega arith
