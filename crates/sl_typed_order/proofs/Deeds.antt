-- What an expression does by names is all that its nodes do to variables.
use Rattle.std.proofs.Common.{◌≡◌, ℕ, zero, suc, ◌+◌, Bool, true, false, ◌&&◌, ◌||◌, List, [], ◌∷◌, ◌++◌, length, map, Option, Some, None, refl, sym, subst, ◌∙◌}
use Rattle.std.specs.Prelude.{flat_map, codes, slice_get, if◌then◌else◌}
use Rattle.std.specs.List.{list_any}
use Rattle.std.specs.Str.{bytes_eq}
use Rattle.std.proofs.lemmas.Bool.{and_parts, and_from, not-false}
use Rattle.std.proofs.lemmas.List.Folds.{list_any-append}
use Rattle.sl_base.specs.declared.place.Place.{Place}
use Rattle.sl_base.specs.declared.scalar.Scalar.TheVariants as c
use Rattle.sl_specs.specs.declared.return_type.ReturnType.{ReturnType}
use Rattle.sl_specs.specs.declared.return_type.ReturnType.TheVariants as r
use Rattle.sl_specs.specs.Rows.{Row}
use Rattle.sl_specs.specs.Table.{table}
use Rattle.sl_syntax.specs.declared.operator.PostfixOperator.{PostfixOperator}
use Rattle.sl_syntax.specs.declared.operator.PostfixOperator.TheVariants as q
use Rattle.sl_syntax.specs.declared.operator.PrefixOperator.{PrefixOperator}
use Rattle.sl_syntax.specs.declared.operator.PrefixOperator.TheVariants as p
use Rattle.sl_syntax.specs.declared.typed.callee.Callee.TheVariants as callees
use Rattle.sl_syntax.specs.declared.typed.head.Head.{Head}
use Rattle.sl_syntax.specs.declared.typed.operator.Operator.TheVariants as operators
use Rattle.sl_syntax.specs.declared.typed.step.Fix.{Fix}
use Rattle.sl_syntax.specs.declared.typed.step.Step.{Step}
use Rattle.sl_syntax.specs.declared.typed.step.Fix.TheVariants as fixes
use Rattle.sl_syntax.specs.Tree as s
use Rattle.sl_syntax.specs.Tree.{Expr, Exprs}
use Rattle.sl_syntax.specs.Typed as t
use Rattle.sl_syntax.specs.Typed.{Function, Operands}
use Rattle.sl_typing.specs.declared.expr_type.ExprType.{ExprType}
use Rattle.sl_typing.specs.declared.expr_type.ExprType.TheVariants as types
use Rattle.sl_typing.specs.declared.scope.Scope.{Scope}
use Rattle.sl_typing.specs.declared.standing.Standing.{Standing}
use Rattle.sl_typing.specs.declared.standing.Standing.TheVariants as standing
use Rattle.sl_typing.specs.Types.{scalar_of, common, is_number, is_iterator, is_container, is_element}
use Rattle.sl_typing.specs.Signatures.{row_at}
use Rattle.sl_typing.specs.Arguments.{letters_take}
use Rattle.sl_typing.specs.Candidates.{Found, is_candidate, has_row, form_member_changes, algorithm_row, subscript_row}
use Rattle.sl_typing.specs.Scopes.{function_named, type_of_name, number_of_name}
use Rattle.sl_typing.specs.TypeOf.{size, appends, is_first, type_of, types_of}
use Rattle.sl_typing.specs.Looks.{is_left_side, bare_name}
use Rattle.sl_typing.specs.Sites.{site_count, inside}
use Rattle.sl_typing.specs.WrongType.{can_step, wrong_type, fits_algorithm}
use Rattle.sl_typing.specs.Faults.{part_standing, last_standing, standing_before, faults, faults_of_all}
use Rattle.sl_typing.specs.Order.{Deeds, nothing_done, changing, both, moved_names, container_names, handed_names, parameters_of, algorithm_deeds}
use Rattle.sl_typing.specs.Order.{prefix_deeds, subscript_changes, subscript_deeds, member_changes, member_deeds, deeds, deeds_of_all}
use Rattle.sl_typing.specs.Numbering.{Way, as_number, number_in, converted, handed, ways, parameter_way, head, operator_head, one}
use Rattle.sl_typing.specs.Numbering.{first_operand, other_operands, stepped, prefixed, postfixed, row_call, called_row, called_algorithm, letters_of}
use Rattle.sl_typing.specs.Numbering.{row_of_subscript, row_of_member, number_of_function, first_way, other_ways, typed, operands}
use Rattle.sl_model.specs.Typing.WellTypedNodes.{a_call, an_own_call, nodes_in, nodes_in_left, nodes_in_operands}
use Rattle.sl_model.specs.Typing.WellTypedOrder.{Variable, the_iterator, the_container, same_variable, container_in, listed}
use Rattle.sl_model.specs.Typing.WellTypedOrder.{is_among as is_variable_among}
use Rattle.sl_well_typed.proofs.Parts.{call_kept, library_call_kept, parentheses_kept, prefix_kept, binary_kept, postfix_kept, index_kept}
use Rattle.sl_well_typed.proofs.Parts.{member_call_kept, member_kept, arguments_kept}
use Rattle.sl_well_typed.proofs.Steps.{left_side_is_plain}
use Rattle.sl_well_typed.proofs.Rows.{found_row}
use Rattle.sl_well_typed.proofs.Arguments.{as_many_types}
use Rattle.sl_typed_order.proofs.Numbered.{variable_meant}
use Rattle.sl_typed_order.proofs.Sound.{Sound}
use Rattle.sl_typed_order.proofs.Kept.{algorithm_node}
use Rattle.sl_typed_order.proofs.Covers.{Covers, covers_none, covers_both, covers_left, neither}
use Rattle.sl_typed_order.proofs.Does.{Does, does_none, does_right, does_both, does_first, does_second, covers_alone}
use Rattle.sl_typed_order.proofs.QuietRows.{member_row_is}
use Rattle.sl_typed_order.proofs.FormRows.{form_row, subscript_row_is, form_call_does}
use Rattle.sl_typed_order.proofs.Containers.{operands_cover, handed_covers}
use Rattle.sl_typed_order.proofs.Moved.{iterator_covers, plain_moved, number_covers}
use Rattle.sl_typed_order.proofs.OwnChanges.{own_call_does}
use Rattle.sl_typed_order.proofs.Swap.{handed_does}
use Rattle.sl_typed_order.proofs.Operators.{variable_does, one_does, selected_does, joined_does, stepped_does}
use Rattle.sl_typed_order.proofs.Objects.{container_object}
use Rattle.sl_typed_order.proofs.AlgorithmRows.{none_gives}
use Rattle.sl_typed_order.proofs.Appending.{other_covers}
use Rattle.sl_typed_order.proofs.AlgorithmDeeds.{algorithm_does}

-- the container that an expression is
object_is : (fs : List Function) (g : Scope) → Sound fs g → (n : ℕ) (x : Expr) → faults g n standing.Plain x ≡ [] → is_container (type_of g x) ≡ true
    → Covers g (bare_name x) (the_container (number_in (typed g n x)) ∷ [])
object_is fs g sound n x none is = container_object fs g sound (none_gives g) n x none is

-- numbers are no containers
number_is_other : (u : ExprType) → is_number u ≡ true → is_container u ≡ false
number_is_other (types.Container access form) h = absurd cc
number_is_other u h = refl

-- `++` and `--`
iterator_is_no_element : (u : ExprType) → is_iterator u ≡ true → is_element u ≡ false
iterator_is_no_element (types.Element w) h = absurd cc
iterator_is_no_element u h = refl

stepped_number : (u : ExprType) → can_step u ≡ true → is_iterator u ≡ false → is_number u ≡ true
stepped_number (types.Scalar k) h other = refl
stepped_number (types.Element w) h other = refl
stepped_number (types.Iterator b form) h other = absurd cc
stepped_number u h other = absurd cc

step_does : (fs : List Function) (g : Scope) → Sound fs g → (n : ℕ) (x : Expr) → faults g n standing.Plain x ≡ []
    → (is_left_side g x && can_step (type_of g x)) ≡ true → Does fs g (deeds g x) (nodes_in (typed g n x))
    → (step : Step) (fix : Fix) (at : Place) (names : List (Option ℕ))
    → Does fs g (both (changing (moved_names x)) (deeds g x)) (nodes_in (stepped step fix at (type_of g x) names (typed g n x)))
step_does fs g sound n x none fits does step fix at names =
    let parts = and_parts (is_left_side g x) (can_step (type_of g x)) fits in
    stepped_does fs g step fix at (type_of g x) names (moved_names x) (deeds g x) (typed g n x)
    (λ is. let plain = left_side_is_plain g x parts.0 (iterator_is_no_element (type_of g x) is) in
    subst (λ (ns : List (List ℕ)). Covers g ns (the_iterator (number_in (typed g n x)) ∷ [])) (sym (plain_moved x plain))
    (iterator_covers g sound.numbered n standing.Plain x none plain is))
    (λ other. number_covers g sound.numbered (object_is fs g sound) n x none parts.0 (stepped_number (type_of g x) parts.1 other))
    does

-- an operator before its operand
prefix_does : (fs : List Function) (g : Scope) → Sound fs g → (n : ℕ) (how : Standing) (op : PrefixOperator) (at : Place) (x : Expr)
    → faults g n how (s.prefix op at x) ≡ [] → Does fs g (deeds g x) (nodes_in (typed g n x)) → (names : List (Option ℕ))
    → Does fs g (both (prefix_deeds op x) (deeds g x)) (nodes_in (prefixed op at (type_of g x) names (typed g n x)))
unfolding nodes_in nodes_in_left wrong_type
prefix_does fs g sound n how p.Not at x none does names = does_right fs g nothing_done (deeds g x) (nodes_in (typed g n x)) does
prefix_does fs g sound n how p.Negate at x none does names =
    let type = common (scalar_of (type_of g x)) c.Int in
    does_right fs g nothing_done (deeds g x) (nodes_in (converted type (type_of g x) (typed g n x)))
    (handed_does fs g (deeds g x) (as_number type) (type_of g x) (typed g n x) does)
prefix_does fs g sound n how p.Dereference at x none does names =
    let node = a_call (operator_head operators.Dereference at names) (one (typed g n x)) in
    does_both fs g nothing_done (deeds g x) (node ∷ []) (nodes_in_operands (one (typed g n x)))
    (record { changes = λ k. refl; changed = covers_none g []; writes = λ k. refl }) (one_does fs g (deeds g x) (typed g n x) does)
prefix_does fs g sound n how p.Increment at x none does names =
    let kept = prefix_kept g n how p.Increment at x none in
    step_does fs g sound n x kept.0 (not-false (is_left_side g x && can_step (type_of g x)) kept.1.types) does _ _ at names
prefix_does fs g sound n how p.Decrement at x none does names =
    let kept = prefix_kept g n how p.Decrement at x none in
    step_does fs g sound n x kept.0 (not-false (is_left_side g x && can_step (type_of g x)) kept.1.types) does _ _ at names

-- an operator behind its operand
postfix_does : (fs : List Function) (g : Scope) → Sound fs g → (n : ℕ) (how : Standing) (x : Expr) (op : PostfixOperator) (at : Place)
    → faults g n how (s.postfix x op at) ≡ [] → Does fs g (deeds g x) (nodes_in (typed g n x)) → (names : List (Option ℕ))
    → Does fs g (both (changing (moved_names x)) (deeds g x)) (nodes_in (postfixed op at (type_of g x) names (typed g n x)))
unfolding wrong_type
postfix_does fs g sound n how x q.Increment at none does names =
    let kept = postfix_kept g n how x q.Increment at none in
    step_does fs g sound n x kept.0 (not-false (is_left_side g x && can_step (type_of g x)) kept.1.types) does _ _ at names
postfix_does fs g sound n how x q.Decrement at none does names =
    let kept = postfix_kept g n how x q.Decrement at none in
    step_does fs g sound n x kept.0 (not-false (is_left_side g x && can_step (type_of g x)) kept.1.types) does _ _ at names

-- a call of a row of a form
row_does : (fs : List Function) (g : Scope) (d e : Deeds) (gives : ReturnType) (h : Head) (es : Operands) → Does fs g d (a_call h es ∷ [])
    → Does fs g e (nodes_in_operands es) → Does fs g (both d e) (nodes_in (row_call gives h es))
unfolding nodes_in nodes_in_left
row_does fs g d e r.Element h es own rest = does_both fs g d e (a_call h es ∷ []) (nodes_in_operands es) own rest
row_does fs g d e gives h es own rest = does_both fs g d e (a_call h es ∷ []) (nodes_in_operands es) own rest

-- what is no container needs no name
covers_more : (g : Scope) (names : List (List ℕ)) (vs ws : List Variable) → Covers g names vs → Covers g [] ws → Covers g names (vs ++ (ws ++ []))
covers_more g names vs ws h k = covers_both_in g names vs (ws ++ []) h (covers_alone g names ws (covers_left g [] names ws k))
  where
    covers_both_in : (g : Scope) (names : List (List ℕ)) (vs ws : List Variable) → Covers g names vs → Covers g names ws → Covers g names (vs ++ ws)
    covers_both_in g names vs ws h k x known apart other =
        list_any-append (same_variable (variable_meant g x)) vs ws
        ∙ neither (is_variable_among (variable_meant g x) vs) (is_variable_among (variable_meant g x) ws) (h x known apart other) (k x known apart other)

-- `[ ]`
subscript_does : (fs : List Function) (g : Scope) (x : Expr) (d : Deeds) (object : ℕ) (e : t.Expr) → Covers g (bare_name x) (the_container object ∷ [])
    → Covers g [] (container_in e) → Does fs g d (nodes_in e) → (u : ExprType) → type_of g x ≡ u → (at : Place) (site : Option ℕ) (names : List (Option ℕ))
    → Does fs g (both (subscript_deeds g x) d) (nodes_in (called_row (row_of_subscript u) at site object names (one e)))
unfolding nodes_in nodes_in_left
subscript_does fs g x d object e covers other does (types.Container access form) same at site names = by_row (subscript_row form) refl
  where
    by_row : (o : Option Found) → subscript_row form ≡ o
        → Does fs g (both (subscript_deeds g x) d) (nodes_in (called_row o at site object names (one e)))
    by_row None f = does_none fs g (both (subscript_deeds g x) d)
    by_row (Some found) f =
        let row = subscript_row_is form found f in
        let h = head (callees.Row found.number) at site (Some object) names in
        let changes : subscript_changes (type_of g x) ≡ found.row.changes =
        subst (λ (u : ExprType). subscript_changes u ≡ found.row.changes) (sym same)
        (subst (λ (o : Option Found). elim o as (λ _. Bool) [ None ↦ false | Some y ↦ y.row.changes ] ≡ found.row.changes) (sym f) refl) in
        let all : Covers g (bare_name x) ((the_container object ∷ []) ++ flat_map container_in (listed (one e))) =
        covers_more g (bare_name x) (the_container object ∷ []) (container_in e) covers other in
        let own = form_call_does fs g found row.form at site (Some object) names (one e) (subscript_changes (type_of g x)) (bare_name x)
        (λ k. changes ∙ k) all in
        row_does fs g (subscript_deeds g x) d found.row.gives h (one e) own (one_does fs g d e does)
subscript_does fs g x d object e covers other does u same at site names = does_none fs g (both (subscript_deeds g x) d)

-- a row that passes a test is some row
passes_some : (test : Row → Bool) (rows : List Row) (n : ℕ) (row : Row) → slice_get rows n ≡ Some row → test row ≡ true → list_any test rows ≡ true
passes_some test [] n row e h = absurd cc
passes_some test (y ∷ ys) zero row e h =
    let same : y ≡ row = cc in let yes : test y ≡ true = subst (λ (z : Row). test z ≡ true) (sym same) h in rw yes refl
passes_some test (y ∷ ys) (suc n) row e h = either_true (test y) (list_any test ys) (passes_some test ys n row e h)
  where
    either_true : (a b : Bool) → b ≡ true → (a || b) ≡ true
    either_true true b k = refl
    either_true false b k = k

row_passes : (test : Row → Bool) (n : ℕ) (row : Row) → row_at n ≡ Some row → test row ≡ true → has_row test ≡ true
unfolding has_row
row_passes test n row e h = passes_some test table n row e h

-- a member call
member_node_does : (fs : List Function) (g : Scope) → Sound fs g → (n k : ℕ) (ws : List Way) (x : Expr) (name : List ℕ) (xs : Exprs)
    → faults g n standing.Plain x ≡ [] → faults_of_all g k standing.Plain xs ≡ []
    → (u : ExprType) → type_of g x ≡ u → (r : Found) → row_of_member u name (types_of g xs) ≡ Some r
    → (at : Place) (site : Option ℕ) (names : List (Option ℕ))
    → Does fs g (member_deeds g x name xs) (a_call (head (callees.Row r.number) at site (Some (number_in (typed g n x))) names) (operands g k ws xs) ∷ [])
member_node_does fs g sound n k ws x name xs none all (types.Container access form) same found e at site names =
    let us = types_of g xs in
    let row = found.row in
    let is = member_row_is form name us found e in
    let object = number_in (typed g n x) in
    let es = operands g k ws xs in
    let container : is_container (type_of g x) ≡ true = rw same refl in
    let passes = (found_row (λ r. is_candidate (Some form) name (length us) r && letters_take form r.letters us) found e).passes in
    let candidate : is_candidate (Some form) name (size xs) row ≡ true =
    subst (λ (m : ℕ). is_candidate (Some form) name m row ≡ true) (as_many_types g xs)
    (and_parts (is_candidate (Some form) name (length us) row) (letters_take form row.letters us) passes).0 in
    let changes : row.changes ≡ true → member_changes (type_of g x) name (size xs) ≡ true =
    λ h. let some : form_member_changes form name (size xs) ≡ true =
    row_passes (λ r. is_candidate (Some form) name (size xs) r && r.changes) found.number row is.there
    (and_from (is_candidate (Some form) name (size xs) row) row.changes candidate h) in rw same some in
    form_call_does fs g found (form_row found is.there is.other) at site (Some object) names es (member_changes (type_of g x) name (size xs))
    (bare_name x ++ container_names g xs) changes
    (
    covers_both g (bare_name x) (container_names g xs) (the_container object ∷ []) (flat_map container_in (listed es))
    (object_is fs g sound n x none container) (operands_cover g sound.numbered k ws xs all)
    )
member_node_does fs g sound n k ws x name xs none all u same found e at site names = absurd cc

member_does : (fs : List Function) (g : Scope) → Sound fs g → (n k : ℕ) (x : Expr) (name : List ℕ) (xs : Exprs)
    → faults g n standing.Plain x ≡ [] → faults_of_all g k standing.Plain xs ≡ []
    → ((ws : List Way) → Does fs g (deeds_of_all g xs) (nodes_in_operands (operands g k ws xs)))
    → (o : Option Found) → row_of_member (type_of g x) name (types_of g xs) ≡ o → (at : Place) (site : Option ℕ) (names : List (Option ℕ))
    → Does fs g (both (member_deeds g x name xs) (both (deeds g x) (deeds_of_all g xs)))
    (nodes_in (called_row o at site (number_in (typed g n x)) names (operands g k (ways (letters_of o)) xs)))
unfolding nodes_in nodes_in_left
member_does fs g sound n k x name xs none all does None e at site names = does_none fs g _
member_does fs g sound n k x name xs none all does (Some found) e at site names =
    let ws = ways found.row.letters in
    let es = operands g k ws xs in
    row_does fs g (member_deeds g x name xs) (both (deeds g x) (deeds_of_all g xs)) found.row.gives
    (head (callees.Row found.number) at site (Some (number_in (typed g n x))) names) es
    (member_node_does fs g sound n k ws x name xs none all (type_of g x) refl found e at site names)
    (does_right fs g (deeds g x) (deeds_of_all g xs) (nodes_in_operands es) (does ws))

-- the operands of a call of an algorithm
first_does : (fs : List Function) (g : Scope) (d : Deeds) (es : Operands) → Does fs g d (nodes_in_operands es) → Does fs g d (nodes_in (first_operand es))
unfolding nodes_in nodes_in_left nodes_in_operands
first_does fs g d t.none h = does_none fs g d
first_does fs g d (t.with e es) h = does_first fs g d (nodes_in e) (nodes_in_operands es) h

others_do : (fs : List Function) (g : Scope) (d : Deeds) (es : Operands) → Does fs g d (nodes_in_operands es)
    → Does fs g d (nodes_in_operands (other_operands es))
unfolding nodes_in_operands
others_do fs g d t.none h = h
others_do fs g d (t.with e es) h = does_second fs g d (nodes_in e) (nodes_in_operands es) h

-- a call of an algorithm
found_does : (fs : List Function) (g : Scope) (d e : Deeds) (x : Found) (append : Bool) (name : List ℕ) (at : Place) (site : Option ℕ)
    (names : List (Option ℕ)) (es : Operands) → Does fs g d (algorithm_node x append name at site names es) → Does fs g e (nodes_in_operands es)
    → Does fs g (both d e) (nodes_in (called_algorithm (Some x) append name at site names es))
unfolding nodes_in
found_does fs g d e x append name at site names es = by_names (bytes_eq name (codes "back_inserter")) (bytes_eq name (codes "advance")) append
  where
    by_names : (inserts advances adds : Bool)
        → Does fs g d (if inserts then [] else if advances
        then a_call (head (callees.Row x.number) at site None names) (t.with (t.iterator (number_in (first_operand es))) (other_operands es)) ∷ []
        else if adds then a_call (head (callees.Appends x.number) at site None names) es ∷ []
        else a_call (head (callees.Row x.number) at site None names) es ∷ [])
        → Does fs g e (nodes_in_operands es)
        → Does fs g (both d e) (nodes_in (if inserts then first_operand es else if advances
        then t.move fixes.Prefix (number_in (first_operand es)) (head (callees.Row x.number) at site None names) (other_operands es)
        else if adds then t.call (head (callees.Appends x.number) at site None names) es
        else t.call (head (callees.Row x.number) at site None names) es))
    by_names true advances adds own all = does_right fs g d e (nodes_in (first_operand es)) (first_does fs g e es all)
    by_names false true adds own all =
        does_both fs g d e (a_call _ _ ∷ []) (nodes_in_operands (other_operands es)) own (others_do fs g e es all)
    by_names false false true own all = does_both fs g d e (a_call _ es ∷ []) (nodes_in_operands es) own all
    by_names false false false own all = does_both fs g d e (a_call _ es ∷ []) (nodes_in_operands es) own all

library_does : (fs : List Function) (g : Scope) → Sound fs g → (n : ℕ) (name : List ℕ) (xs : Exprs)
    → faults_of_all g n (last_standing name xs) xs ≡ [] → fits_algorithm g name xs ≡ true
    → ((ws : List Way) → Does fs g (deeds_of_all g xs) (nodes_in_operands (operands g n ws xs)))
    → (o : Option Found) → algorithm_row (appends name xs) name (types_of g xs) ≡ o → (at : Place) (site : Option ℕ) (names : List (Option ℕ))
    → Does fs g (both (algorithm_deeds name xs) (deeds_of_all g xs))
    (nodes_in (called_algorithm o (appends name xs) name at site names (operands g n (ways (letters_of o)) xs)))
unfolding nodes_in nodes_in_left
library_does fs g sound n name xs none fits does None e at site names = does_none fs g _
library_does fs g sound n name xs none fits does (Some x) e at site names =
    let es = operands g n (ways x.row.letters) xs in
    found_does fs g (algorithm_deeds name xs) (deeds_of_all g xs) x (appends name xs) name at site names es
    (algorithm_does fs g sound.numbered n name xs none fits x e at site names) (does (ways x.row.letters))

mutual
  unfolding nodes_in nodes_in_left nodes_in_operands typed operands deeds deeds_of_all wrong_type

  -- an expression
  pub expression_does : (fs : List Function) (g : Scope) → Sound fs g → (n : ℕ) (how : Standing) (e : Expr) → faults g n how e ≡ []
      → Does fs g (deeds g e) (nodes_in (typed g n e))
  expression_does fs g sound n how (s.number at m) none = record { changes = λ k. refl; changed = covers_none g []; writes = λ k. refl }
  expression_does fs g sound n how (s.truth at x) none = record { changes = λ k. refl; changed = covers_none g []; writes = λ k. refl }
  expression_does fs g sound n how (s.name x) none = variable_does fs g (type_of_name g x.name) (number_of_name g x.name) x.place _
  expression_does fs g sound n how (s.call f xs) none =
      let o = function_named g f.name in
      let es = operands g n (map parameter_way (parameters_of o)) xs in
      does_both fs g (changing (handed_names (parameters_of o) xs)) (deeds_of_all g xs) (an_own_call (number_of_function o) es ∷ [])
      (nodes_in_operands es) (own_call_does fs g sound n how f xs none)
      (arguments_do fs g sound n standing.Plain (map parameter_way (parameters_of o)) xs (call_kept g n how f xs none).1)
  expression_does fs g sound n how (s.library_call f xs) none =
      let kept = library_call_kept g n how f xs none in
      let at = inside g n (s.library_call f xs) in
      library_does fs g sound at f.name xs kept.0 (not-false (fits_algorithm g f.name xs) kept.1.types)
      (λ ws. arguments_do fs g sound at (last_standing f.name xs) ws xs kept.0)
      (algorithm_row (appends f.name xs) f.name (types_of g xs)) refl f.place _ _
  expression_does fs g sound n how (s.parentheses at x) none =
      expression_does fs g sound n standing.Plain x (parentheses_kept g n how at x none)
  expression_does fs g sound n how (s.prefix op at x) none =
      prefix_does fs g sound n how op at x none (expression_does fs g sound n standing.Plain x (prefix_kept g n how op at x none).0) _
  expression_does fs g sound n how (s.binary x op at y) none =
      let kept = binary_kept g n how x op at y none in
      joined_does fs g op at (type_of g x) (type_of g y) _ (deeds g x) (deeds g y) (typed g n x) (typed g (n + site_count g x) y)
      (expression_does fs g sound n standing.Plain x kept.0) (expression_does fs g sound (n + site_count g x) standing.Plain y kept.1)
  expression_does fs g sound n how (s.postfix x op at) none =
      postfix_does fs g sound n how x op at none (expression_does fs g sound n standing.Plain x (postfix_kept g n how x op at none).0) _
  expression_does fs g sound n how (s.index x at y) none =
      let kept = index_kept g n how x at y none in
      let k = inside g n (s.index x at y) in
      let fits = and_parts (is_container (type_of g x)) (is_number (type_of g y))
      (not-false (is_container (type_of g x) && is_number (type_of g y)) kept.2.types) in
      let w = first_way (ways (letters_of (row_of_subscript (type_of g x)))) in
      let e = handed w (type_of g y) (typed g k y) in
      let does = handed_does fs g (deeds g y) w (type_of g y) (typed g k y) (expression_does fs g sound k standing.Plain y kept.1) in
      let other = handed_covers g [] w (type_of g y) (typed g k y)
      (other_covers g sound.numbered k y kept.1 (number_is_other (type_of g y) fits.1)) in
      subscript_does fs g x (both (deeds g x) (deeds g y)) (number_in (typed g n x)) e (object_is fs g sound n x kept.0 fits.0) other
      (does_right fs g (deeds g x) (deeds g y) (nodes_in e) does) (type_of g x) refl at _ _
  expression_does fs g sound n how (s.member_call x f xs) none =
      let kept = member_call_kept g n how x f xs none in
      let k = inside g n (s.member_call x f xs) in
      member_does fs g sound n k x f.name xs kept.0 kept.1 (λ ws. arguments_do fs g sound k standing.Plain ws xs kept.1)
      (row_of_member (type_of g x) f.name (types_of g xs)) refl f.place _ _
  expression_does fs g sound n how (s.member x selector at f) none =
      selected_does fs g (deeds g x) selector at (is_first f.name) _ (typed g n x)
      (expression_does fs g sound n (part_standing selector f.name) x (member_kept g n how x selector at f none).0)

  -- arguments
  pub arguments_do : (fs : List Function) (g : Scope) → Sound fs g → (n : ℕ) (last : Standing) (ws : List Way) (xs : Exprs)
      → faults_of_all g n last xs ≡ [] → Does fs g (deeds_of_all g xs) (nodes_in_operands (operands g n ws xs))
  arguments_do fs g sound n last ws s.none none = does_none fs g (deeds_of_all g s.none)
  arguments_do fs g sound n last ws (s.with x xs) none =
      let kept = arguments_kept g n last x xs none in
      let d = handed (first_way ws) (type_of g x) (typed g n x) in
      does_both fs g (deeds g x) (deeds_of_all g xs) (nodes_in d) (nodes_in_operands (operands g (n + site_count g x) (other_ways ws) xs))
      (handed_does fs g (deeds g x) (first_way ws) (type_of g x) (typed g n x)
      (expression_does fs g sound n (standing_before xs last) x kept.0))
      (arguments_do fs g sound (n + site_count g x) last (other_ways ws) xs kept.1)
