-- The sites of an expression that breaks no rule are numbered in the order of the text.
use Rattle.std.proofs.Common.{◌≡◌, ℕ, ◌+◌, Bool, true, false, List, [], ◌∷◌, ◌++◌, length, length-append, map, Option, Some, None}
use Rattle.std.proofs.Common.{refl, sym, arith}
use Rattle.std.specs.Prelude.{not, ◌&&◌, codes, is_none, if◌then◌else◌}
use Rattle.std.specs.Str.{bytes_eq}
use Rattle.std.proofs.lemmas.Bool.{and_parts, or_parts, not-true, cond_both}
use Rattle.sl_base.specs.declared.form.Form.TheVariants as f
use Rattle.sl_base.specs.declared.place.Place.{Place}
use Rattle.sl_base.specs.declared.scalar.Scalar.TheVariants as c
use Rattle.sl_syntax.specs.declared.operator.PostfixOperator.TheVariants as q
use Rattle.sl_syntax.specs.declared.operator.PrefixOperator.TheVariants as p
use Rattle.sl_syntax.specs.declared.tree.identifier.Identifier.{Identifier}
use Rattle.sl_syntax.specs.declared.typed.callee.Callee.TheVariants as callees
use Rattle.sl_syntax.specs.declared.typed.operator.Operator.TheVariants as operators
use Rattle.sl_syntax.specs.declared.typed.step.Fix.{Fix}
use Rattle.sl_syntax.specs.declared.typed.step.Fix.TheVariants as fixes
use Rattle.sl_syntax.specs.declared.typed.step.Step.{Step}
use Rattle.sl_syntax.specs.declared.typed.step.Step.TheVariants as steps
use Rattle.sl_syntax.specs.Tree as s
use Rattle.sl_syntax.specs.Tree.{Expr, Exprs}
use Rattle.sl_syntax.specs.Typed as t
use Rattle.sl_syntax.specs.Typed.{Operands}
use Rattle.sl_typing.specs.declared.expr_type.ExprType.{ExprType}
use Rattle.sl_typing.specs.declared.expr_type.ExprType.TheVariants as types
use Rattle.sl_typing.specs.declared.scope.Scope.{Scope}
use Rattle.sl_typing.specs.declared.standing.Standing.{Standing}
use Rattle.sl_typing.specs.declared.standing.Standing.TheVariants as standing
use Rattle.sl_typing.specs.Types.{is_container, is_number, scalar_of, common}
use Rattle.sl_typing.specs.Arguments.{letters_take, letters_seen}
use Rattle.sl_typing.specs.Candidates.{Found, is_candidate, member_row, algorithm_row}
use Rattle.sl_typing.specs.Scopes.{function_named, type_of_name}
use Rattle.sl_typing.specs.TypeOf.{appends, is_first, type_of, types_of}
use Rattle.sl_typing.specs.Looks.{is_plain, is_left_side, bare_name}
use Rattle.sl_typing.specs.Order.{parameters_of}
use Rattle.sl_typing.specs.Sites.{site_count, sites_in, sites_in_all, is_site, site_number, at_word, inside, own_site}
use Rattle.sl_typing.specs.WrongType.{wrong_type, can_step, fits_call, fits_algorithm, fits_member, first_is_plain, second_may_be_element}
use Rattle.sl_typing.specs.WrongType.{is_iterator_pair, is_before_part}
use Rattle.sl_typing.specs.Rules.{no_such_call, has_no_subscript}
use Rattle.sl_typing.specs.Faults.{faults, faults_of_all, standing_before, last_standing, part_standing}
use Rattle.sl_typing.specs.Numbering.{Way, stepped, told, told_all, head, number_in, first_operand, other_operands, called_algorithm, letters_of}
use Rattle.sl_typing.specs.Numbering.{ways}
use Rattle.sl_typing.specs.Numbering.{number_of_function, parameter_way, first_way, other_ways, handed, one, row_of_subscript, row_of_member, typed}
use Rattle.sl_typing.specs.Numbering.{operands}
use Rattle.sl_model.specs.Typing.WellTypedNodes.{a_call, an_own_call, nodes_in, nodes_in_left, nodes_in_operands}
use Rattle.sl_well_typed.proofs.Algorithms.{algorithm_row_is}
use Rattle.sl_well_typed.proofs.AlgorithmCalls.{candidate_is, fine_by_name}
use Rattle.sl_well_typed.proofs.Parts.{call_kept, library_call_kept, prefix_kept, binary_kept, postfix_kept, index_kept, member_call_kept}
use Rattle.sl_well_typed.proofs.Parts.{member_kept}
use Rattle.sl_well_typed.proofs.Parts.{parentheses_kept, arguments_kept}
use Rattle.sl_well_typed.proofs.Rows.{found_row}
use Rattle.sl_typed_numbers.proofs.Counting.{not_not}
use Rattle.sl_typed_numbers.proofs.LeftSides.{left_is_name, left_is_held, iterator_is_no_element, step_is_number}
use Rattle.sl_typed_numbers.proofs.NumberedArguments.{none_counted, plain_has_none, inside_is_word, ways_are_values, first_is_value, value_keeps}
use Rattle.sl_typed_numbers.proofs.NumberedArguments.{values_keep}
use Rattle.sl_typed_numbers.proofs.NumberedArguments.{all_keep, keeps, own_call_keeps, handed_numbers, others_number, single_numbers}
use Rattle.sl_typed_numbers.proofs.NumberedNodes.{Numbers, both_number, up_to, from_same, none_number, first_unnumbered, own_numbers, one_numbers}
use Rattle.sl_typed_numbers.proofs.NumberedNodes.{converted_numbers, variable_is_none, called_numbers, stepped_numbers, joined_numbers}
use Rattle.sl_typed_numbers.proofs.NumberedNodes.{selected_numbers}
use Rattle.sl_typed_numbers.proofs.NumberedNodes.{row_numbers}
use Rattle.sl_typed_numbers.proofs.Objects.{ArePlain, container_is_name}
use Rattle.sl_typed_numbers.proofs.Sites.{appends_none}

-- the nodes of an expression have the numbers of its sites
abbrev pub IsNumbered : Scope → ℕ → Expr → Type 0
IsNumbered g n e = Numbers n (n + site_count g e) (nodes_in (typed g n e))

-- and those of arguments
abbrev pub AreNumbered : Scope → ℕ → List Way → Exprs → Type 0
AreNumbered g n ws xs = Numbers n (n + length (sites_in_all g xs)) (nodes_in_operands (operands g n ws xs))

-- sites behind others
none_more : (n : ℕ) → n + 0 ≡ n
none_more n = omega arith

counted_both : (n : ℕ) (xs ys : List Place) → n + length (xs ++ ys) ≡ (n + length xs) + length ys
counted_both n xs ys = omega (arith, length-append xs ys)

counted_three : (n : ℕ) (xs ys zs : List Place) → n + length (xs ++ ys ++ zs) ≡ ((n + length xs) + length ys) + length zs
counted_three n xs ys zs = omega (arith, length-append (xs ++ ys) zs, length-append xs ys)

-- what steps
stepping_numbers : (g : Scope) (n : ℕ) (how : Standing) (step : Step) (fix : Fix) (at : Place) (x : Expr) → faults g n standing.Plain x ≡ []
    → not (is_left_side g x && can_step (type_of g x)) ≡ false → IsNumbered g n x
    → Numbers n (n + site_count g x) (nodes_in (stepped step fix at (type_of g x) (None ∷ told g x ∷ []) (typed g n x)))
stepping_numbers g n how step fix at x none fits h =
    let parts = and_parts (is_left_side g x) (can_step (type_of g x)) (not_not (is_left_side g x && can_step (type_of g x)) fits) in
    stepped_numbers n (n + site_count g x) step fix at (type_of g x) (None ∷ told g x ∷ []) (typed g n x)
    (λ is. none_counted g n x (left_is_name g x parts.0 (iterator_is_no_element (type_of g x) is)))
    (λ other. left_is_held g n standing.Plain x none parts.0 (step_is_number (type_of g x) parts.1 other)) h

-- what `[ ]` stands on has its row
subscript_there : (u : ExprType) → is_container u ≡ true → has_no_subscript u ≡ false → is_none (row_of_subscript u) ≡ false
subscript_there (types.Container access form) is there = there
subscript_there u is there = absurd cc

-- so has a member call
record IsMember (g : Scope) (u : ExprType) (x : Expr) (name : List ℕ) (xs : Exprs) : Type 0 where
  plain : is_plain x ≡ true
  there : is_none (row_of_member u name (types_of g xs)) ≡ false

member_there : (g : Scope) (u : ExprType) (x : Expr) (name : List ℕ) (xs : Exprs) → fits_member g u x name xs ≡ true → IsMember g u x name xs
member_there g (types.Container access form) x name xs h =
    let row = is_none (member_row form name (types_of g xs)) in
    let own = bytes_eq name (codes "assign") && second_may_be_element g (bare_name x) form xs in
    let two = and_parts (is_plain x) (not row) (and_parts (is_plain x && not row) (not own) h).0 in
    record { plain = two.0; there = not-true row two.1 }
member_there g u x name xs h = absurd cc

-- a call of an algorithm
appended_numbers : (g : Scope) (n m : ℕ) (e : Expr) (b : Bool) (k : ℕ) (at : Place) (names : List (Option ℕ)) (es : Operands)
    → Numbers (inside g n e) m (nodes_in_operands es)
    → Numbers (at_word g n e) m (nodes_in (
    if b then t.call (head (callees.Appends k) at (site_number g n e) None names) es
    else t.call (head (callees.Row k) at (site_number g n e) None names) es
    ))
unfolding nodes_in nodes_in_left nodes_in_operands
appended_numbers g n m e true k at names es h =
    own_numbers g n m e (a_call (head (callees.Appends k) at (site_number g n e) None names) es) (nodes_in_operands es) refl h
appended_numbers g n m e false k at names es h =
    own_numbers g n m e (a_call (head (callees.Row k) at (site_number g n e) None names) es) (nodes_in_operands es) refl h

moved_numbers : (g : Scope) (n m : ℕ) (e : Expr) (v k : ℕ) (at : Place) (names : List (Option ℕ)) (es : Operands)
    → Numbers (inside g n e) m (nodes_in_operands es)
    → Numbers (at_word g n e) m (nodes_in (t.move fixes.Prefix v (head (callees.Row k) at (site_number g n e) None names) es))
unfolding nodes_in nodes_in_left nodes_in_operands
moved_numbers g n m e v k at names es h =
    own_numbers g n m e (a_call (head (callees.Row k) at (site_number g n e) None names) (t.with (t.iterator v) es)) (nodes_in_operands es) refl h

found_numbers : (g : Scope) (n m : ℕ) (w : Identifier) (xs : Exprs) (x : Found) → algorithm_row (appends w.name xs) w.name (types_of g xs) ≡ Some x
    → (bytes_eq w.name (codes "advance") && not (first_is_plain xs)) ≡ false
    → let e = s.library_call w xs in
    let es = operands g (inside g n e) (ways x.row.letters) xs in
    Numbers (inside g n e) m (nodes_in_operands es)
    → Numbers (at_word g n e) m
    (nodes_in (called_algorithm (Some x) (appends w.name xs) w.name w.place (site_number g n e) (None ∷ told_all g xs) es))
unfolding is_site
found_numbers g n m w xs x meant plain h =
    let e = s.library_call w xs in
    let row = x.row in
    let us = types_of g xs in
    let b = appends w.name xs in
    let names = None ∷ told_all g xs in
    let site = site_number g n e in
    let es = operands g (inside g n e) (ways row.letters) xs in
    let found = found_row (λ r. is_candidate None w.name (length us) r && letters_take f.Vector (letters_seen b r.letters) us) x meant in
    let tests = and_parts (is_candidate None w.name (length us) row) (letters_take f.Vector (letters_seen b row.letters) us) found.passes in
    let called = candidate_is w.name (length us) row tests.0 in
    let fine = fine_by_name row w.name (algorithm_row_is row x.number found.there called.own) called.text in
    let moved = t.move fixes.Prefix (number_in (first_operand es)) (head (callees.Row x.number) w.place site None names) (other_operands es) in
    let ended = if b then t.call (head (callees.Appends x.number) w.place site None names) es
    else t.call (head (callees.Row x.number) w.place site None names) es in
    cond_both (bytes_eq w.name (codes "back_inserter")) (first_operand es) (if bytes_eq w.name (codes "advance") then moved else ended)
    (λ (d : t.Expr). Numbers (at_word g n e) m (nodes_in d))
    (λ j.
    let own = inside_is_word g n e (appends_none (codes "back_inserter") w.name xs refl j) in
    from_same (at_word g n e) (inside g n e) m (nodes_in (first_operand es)) (sym own)
    (single_numbers g (inside g n e) m (ways row.letters) xs b row.gives row.letters (rw j at fine) tests.1 h))
    (λ j. cond_both (bytes_eq w.name (codes "advance")) moved ended (λ (d : t.Expr). Numbers (at_word g n e) m (nodes_in d))
    (λ k.
    let first : not (first_is_plain xs) ≡ false = rw k at plain in
    moved_numbers g n m e (number_in (first_operand es)) x.number w.place names (other_operands es)
    (others_number g (inside g n e) m (ways row.letters) xs (not_not (first_is_plain xs) first) h))
    (λ k. appended_numbers g n m e b x.number w.place names es h))

algorithm_numbers : (g : Scope) (n m : ℕ) (w : Identifier) (xs : Exprs) (o : Option Found)
    → algorithm_row (appends w.name xs) w.name (types_of g xs) ≡ o
    → is_none o ≡ false → (bytes_eq w.name (codes "advance") && not (first_is_plain xs)) ≡ false
    → let e = s.library_call w xs in
    let es = operands g (inside g n e) (ways (letters_of o)) xs in
    Numbers (inside g n e) m (nodes_in_operands es)
    → Numbers (at_word g n e) m (nodes_in (called_algorithm o (appends w.name xs) w.name w.place (site_number g n e) (None ∷ told_all g xs) es))
algorithm_numbers g n m w xs None meant there plain h = absurd cc
algorithm_numbers g n m w xs (Some x) meant there plain h = found_numbers g n m w xs x meant plain h

mutual
  unfolding typed operands type_of types_of nodes_in nodes_in_left nodes_in_operands site_count sites_in sites_in_all at_word inside
      wrong_type no_such_call

  -- an expression
  pub expression_numbers : (g : Scope) → ArePlain g.functions → (n : ℕ) (how : Standing) (e : Expr) → faults g n how e ≡ [] → IsNumbered g n e
  expression_numbers g plain n how (s.number at k) none = none_number n (n + 0) (nodes_in (typed g n (s.number at k))) (none_more n) refl
  expression_numbers g plain n how (s.truth at x) none = none_number n (n + 0) (nodes_in (typed g n (s.truth at x))) (none_more n) refl
  expression_numbers g plain n how (s.name x) none =
      none_number n (n + 0) (nodes_in (typed g n (s.name x))) (none_more n) (variable_is_none (type_of_name g x.name) _ x.place _)
  expression_numbers g plain n how (s.call f xs) none =
      let kept = call_kept g n how f xs none in
      let h = function_named g f.name in
      let ws = map parameter_way (parameters_of h) in
      let fits = not_not (fits_call g h xs) kept.2.types in
      first_unnumbered n (n + length (sites_in_all g xs)) (an_own_call (number_of_function h) (operands g n ws xs))
      (nodes_in_operands (operands g n ws xs)) refl
      (arguments_number g plain n standing.Plain ws xs (own_call_keeps g h xs fits) kept.1)
  expression_numbers g plain n how (s.library_call f xs) none =
      let e = s.library_call f xs in
      let kept = library_call_kept g n how f xs none in
      let row = algorithm_row (appends f.name xs) f.name (types_of g xs) in
      let lost = bytes_eq f.name (codes "advance") && not (first_is_plain xs) in
      let parts = and_parts (not (is_none row)) (not lost) (not_not (fits_algorithm g f.name xs) kept.1.types) in
      let all = sites_in_all g xs in
      up_to n (inside g n e + length all) (n + site_count g e) (nodes_in (typed g n e)) (counted_both n (own_site g e) all)
      (algorithm_numbers g n (inside g n e + length all) f xs row refl (not-true (is_none row) parts.0) (not-true lost parts.1)
      (arguments_number g plain (inside g n e) (last_standing f.name xs) (ways (letters_of row)) xs
      (values_keep (ways (letters_of row)) xs (ways_are_values (letters_of row))) kept.0))
  expression_numbers g plain n how (s.parentheses at x) none =
      expression_numbers g plain n standing.Plain x (parentheses_kept g n how at x none)
  expression_numbers g plain n how (s.prefix p.Not at x) none =
      expression_numbers g plain n standing.Plain x (prefix_kept g n how p.Not at x none).0
  expression_numbers g plain n how (s.prefix p.Negate at x) none =
      converted_numbers n (n + site_count g x) (common (scalar_of (type_of g x)) c.Int) (type_of g x) (typed g n x)
      (expression_numbers g plain n standing.Plain x (prefix_kept g n how p.Negate at x none).0)
  expression_numbers g plain n how (s.prefix p.Dereference at x) none =
      called_numbers n (n + site_count g x) operators.Dereference at (None ∷ told g x ∷ []) (one (typed g n x))
      (one_numbers n (n + site_count g x) (typed g n x)
      (expression_numbers g plain n standing.Plain x (prefix_kept g n how p.Dereference at x none).0))
  expression_numbers g plain n how (s.prefix p.Increment at x) none =
      let kept = prefix_kept g n how p.Increment at x none in
      stepping_numbers g n how steps.Up fixes.Prefix at x kept.0 kept.1.types (expression_numbers g plain n standing.Plain x kept.0)
  expression_numbers g plain n how (s.prefix p.Decrement at x) none =
      let kept = prefix_kept g n how p.Decrement at x none in
      stepping_numbers g n how steps.Down fixes.Prefix at x kept.0 kept.1.types (expression_numbers g plain n standing.Plain x kept.0)
  expression_numbers g plain n how (s.binary x op at y) none =
      let kept = binary_kept g n how x op at y none in
      let k = n + site_count g x in
      let e = s.binary x op at y in
      up_to n (k + site_count g y) (n + site_count g e) (nodes_in (typed g n e)) (counted_both n (sites_in g x) (sites_in g y))
      (joined_numbers n k (k + site_count g y) op at (type_of g x) (type_of g y) (None ∷ told g x ∷ told g y ∷ []) (typed g n x) (typed g k y)
      (expression_numbers g plain n standing.Plain x kept.0) (expression_numbers g plain k standing.Plain y kept.1))
  expression_numbers g plain n how (s.postfix x q.Increment at) none =
      let kept = postfix_kept g n how x q.Increment at none in
      stepping_numbers g n how steps.Up fixes.Postfix at x kept.0 kept.1.types (expression_numbers g plain n standing.Plain x kept.0)
  expression_numbers g plain n how (s.postfix x q.Decrement at) none =
      let kept = postfix_kept g n how x q.Decrement at none in
      stepping_numbers g n how steps.Down fixes.Postfix at x kept.0 kept.1.types (expression_numbers g plain n standing.Plain x kept.0)
  expression_numbers g plain n how (s.index x at y) none =
      let e = s.index x at y in
      let kept = index_kept g n how x at y none in
      let is = and_parts (is_container (type_of g x)) (is_number (type_of g y))
      (not_not (is_container (type_of g x) && is_number (type_of g y)) kept.2.types) in
      let row = row_of_subscript (type_of g x) in
      let w = first_way (ways (letters_of row)) in
      let k = inside g n e in
      let last = handed w (type_of g y) (typed g k y) in
      up_to n (k + site_count g y) (n + site_count g e) (nodes_in (typed g n e)) (counted_three n (sites_in g x) (own_site g e) (sites_in g y))
      (from_same n (at_word g n e) (k + site_count g y) (nodes_in (typed g n e))
      (sym (none_counted g n x (container_is_name g plain n x kept.0 is.0)))
      (row_numbers g n (k + site_count g y) e row at (number_in (typed g n x)) (told g x ∷ told g y ∷ []) (one last)
      (subscript_there (type_of g x) is.0 kept.2.calls)
      (one_numbers k (k + site_count g y) last
      (handed_numbers g k w (type_of g y) y (typed g k y)
      (value_keeps w y (first_is_value (ways (letters_of row)) (ways_are_values (letters_of row))))
      (expression_numbers g plain k standing.Plain y kept.1)))))
  expression_numbers g plain n how (s.member_call x f xs) none =
      let e = s.member_call x f xs in
      let kept = member_call_kept g n how x f xs none in
      let pair = is_iterator_pair (type_of g e) && not (is_before_part how) in
      let fits = or_parts (not (fits_member g (type_of g x) x f.name xs)) pair kept.2.types in
      let is = member_there g (type_of g x) x f.name xs (not_not (fits_member g (type_of g x) x f.name xs) fits.0) in
      let row = row_of_member (type_of g x) f.name (types_of g xs) in
      let ws = ways (letters_of row) in
      let k = inside g n e in
      let all = sites_in_all g xs in
      up_to n (k + length all) (n + site_count g e) (nodes_in (typed g n e)) (counted_three n (sites_in g x) (own_site g e) all)
      (from_same n (at_word g n e) (k + length all) (nodes_in (typed g n e)) (sym (none_counted g n x (plain_has_none g x is.plain)))
      (row_numbers g n (k + length all) e row f.place (number_in (typed g n x)) (told g x ∷ told_all g xs) (operands g k ws xs) is.there
      (arguments_number g plain k standing.Plain ws xs (values_keep ws xs (ways_are_values (letters_of row))) kept.1)))
  expression_numbers g plain n how (s.member x selector at f) none =
      selected_numbers n (n + site_count g x) selector at (is_first f.name) (None ∷ told g x ∷ []) (typed g n x)
      (expression_numbers g plain n (part_standing selector f.name) x (member_kept g n how x selector at f none).0)

  -- arguments
  pub arguments_number : (g : Scope) → ArePlain g.functions → (n : ℕ) (last : Standing) (ws : List Way) (xs : Exprs) → all_keep ws xs ≡ true
      → faults_of_all g n last xs ≡ [] → AreNumbered g n ws xs
  arguments_number g plain n last ws s.none keep none = none_number n (n + 0) [] (none_more n) refl
  arguments_number g plain n last ws (s.with x xs) keep none =
      let kept = arguments_kept g n last x xs none in
      let w = first_way ws in
      let k = n + site_count g x in
      let all = sites_in_all g xs in
      let parts = and_parts (keeps w x) (all_keep (other_ways ws) xs) keep in
      up_to n (k + length all) (n + length (sites_in g x ++ all)) (nodes_in_operands (operands g n ws (s.with x xs)))
      (counted_both n (sites_in g x) all)
      (both_number n k (k + length all) (nodes_in (handed w (type_of g x) (typed g n x))) (nodes_in_operands (operands g k (other_ways ws) xs))
      (handed_numbers g n w (type_of g x) x (typed g n x) parts.0 (expression_numbers g plain n (standing_before xs last) x kept.0))
      (arguments_number g plain k last (other_ways ws) xs parts.1 kept.1))
