-- In what is typed no order of effects matters.
use Rattle.std.proofs.Common.{◌≡◌, ℕ, ◌+◌, Bool, true, false, not, ◌&&◌, ◌||◌, List, [], ◌∷◌, ◌++◌, map, Option, Some, None, refl, sym, subst, ap}
use Rattle.std.specs.Prelude.{codes, is_none, length, if◌then◌else◌}
use Rattle.std.specs.List.{list_all, list_any}
use Rattle.std.specs.Str.{bytes_eq}
use Rattle.std.proofs.lemmas.Bool.{and_parts, and_from, or_left, or_right, not-false}
use Rattle.sl_base.specs.declared.form.Form.{Form}
use Rattle.sl_base.specs.declared.place.Place.{Place}
use Rattle.sl_specs.specs.declared.call.Call.TheVariants as calls
use Rattle.sl_specs.specs.declared.letter.Letter.{Letter}
use Rattle.sl_specs.specs.declared.letter.Letter.TheVariants as l
use Rattle.sl_specs.specs.Rows.{Row}
use Rattle.sl_syntax.specs.declared.operator.Arithmetic.{Arithmetic}
use Rattle.sl_syntax.specs.declared.operator.Arithmetic.TheVariants as o
use Rattle.sl_syntax.specs.declared.operator.BinaryOperator.{BinaryOperator}
use Rattle.sl_syntax.specs.declared.tree.declaration.ContainerType.{ContainerType}
use Rattle.sl_syntax.specs.declared.tree.identifier.Identifier.{Identifier}
use Rattle.sl_syntax.specs.declared.typed.callee.Callee.TheVariants as callees
use Rattle.sl_syntax.specs.Tree as s
use Rattle.sl_syntax.specs.Tree.{Expr, Exprs, Initializer, Program}
use Rattle.sl_syntax.specs.Typed as t
use Rattle.sl_syntax.specs.Typed.{Function, Operands, Typed}
use Rattle.sl_typing.specs.declared.expr_type.ExprType.{ExprType}
use Rattle.sl_typing.specs.declared.expr_type.ExprType.TheVariants as types
use Rattle.sl_typing.specs.declared.scope.FunctionHead.{FunctionHead}
use Rattle.sl_typing.specs.declared.scope.Scope.{Scope}
use Rattle.sl_typing.specs.declared.standing.Standing.{Standing}
use Rattle.sl_typing.specs.declared.standing.Standing.TheVariants as standing
use Rattle.sl_typing.specs.declared.rules.TheConstants as rule
use Rattle.sl_typing.specs.Types.{is_iterator, is_number}
use Rattle.sl_typing.specs.Signatures.{row_at}
use Rattle.sl_typing.specs.Candidates.{Found, algorithm_row, has_output, is_row_of, list_constructor}
use Rattle.sl_typing.specs.Arguments.{takes_list as letters_have_list}
use Rattle.sl_typing.specs.Contexts.{Context}
use Rattle.sl_typing.specs.Flow.{behind_declaration}
use Rattle.sl_typing.specs.Looks.{is_plain}
use Rattle.sl_typing.specs.Scopes.{function_named, type_of_name, number_of_name}
use Rattle.sl_typing.specs.TypeOf.{size, end_in_appender, appends, type_of_use, type_of, types_of}
use Rattle.sl_typing.specs.Sites.{site_count, site_number, inside}
use Rattle.sl_typing.specs.WrongType.{first_is_plain, fits_algorithm, fits_call, wrong_type}
use Rattle.sl_typing.specs.Faults.{broken, last_standing, faults, faults_of_all}
use Rattle.sl_typing.specs.StatementFaults.{twice_faults, limit_faults, initializer_faults, has_no_constructor, wrong_initializer, is_disordered, declaration_faults}
use Rattle.sl_typing.specs.Order.{clash, some_clash, order_matters, parameters_of}
use Rattle.sl_typing.specs.Order.{is_ordered as is_ordered_operator}
use Rattle.sl_typing.specs.Numbering.{Way, as_it_is, as_number, number_in, handed, ways, parameter_way, head, first_operand}
use Rattle.sl_typing.specs.Numbering.{other_operands, letters_of, number_of_function, variable, told_all, first_way, other_ways, typed, operands}
use Rattle.sl_typing.specs.StatementNumbering.{move_operator, making_row, operands_in, number_of_row}
use Rattle.sl_typing.specs.ProgramFaults.{start}
use Rattle.sl_typing.specs.Typing as typing
use Rattle.sl_typing.specs.Typing.{typed_program, typed_functions}
use Rattle.sl_model.specs.Typing.WellTyped.{has_order}
use Rattle.sl_model.specs.Typing.WellTypedNodes.{a_call, an_own_call}
use Rattle.sl_model.specs.Typing.WellTypedOrder.{listed, is_ordered, is_assignment, call_is_ordered, may_swap, may_all_swap, takes_list}
use Rattle.sl_model.specs.Typing.WellTypedOrder.{parameters_of as parameters_in}
use Rattle.sl_number_limits.proofs.ValueFaults.{container_value}
use Rattle.sl_well_typed.proofs.Parts.{none_in_both, unbroken, binary_kept, call_kept, library_call_kept, member_call_kept}
use Rattle.sl_well_typed.proofs.Rows.{found_row}
use Rattle.sl_well_typed.proofs.Functions.{program_kept}
use Rattle.sl_typed_order.proofs.Sound.{Sound}
use Rattle.sl_typed_order.proofs.Kept.{algorithm_node, is_plain_way, IsKept}
use Rattle.sl_typed_order.proofs.AlgorithmRows.{meant_is}
use Rattle.sl_typed_order.proofs.Appending.{all_plain}
use Rattle.sl_typed_order.proofs.AlgorithmDeeds.{are_moved, moves_is}
use Rattle.sl_typed_order.proofs.Orders.{plain_handed, all_plain_handed, letters_are_plain, arguments_handed, parts_swap, all_swap, but_swap}
use Rattle.sl_typed_order.proofs.BesideAppender.{is_idle, all_idle}
use Rattle.sl_typed_order.proofs.Programs.{program_holds}

-- one operand stands beside none
lone_swaps : (fs : List Function) (b : Bool) (e : t.Expr) → (b || may_all_swap fs (e ∷ [])) ≡ true
lone_swaps fs b e = or_right b true refl

-- `+=` and `-=` of an iterator
move_is_assignment : (op : Arithmetic) → is_assignment (move_operator op) ≡ true
move_is_assignment o.Subtract = refl
move_is_assignment op = refl

move_ordered : (fs : List Function) (op : Arithmetic) (es : List t.Expr) → (is_assignment (move_operator op) || may_all_swap fs es) ≡ true
move_ordered fs op es = or_left (is_assignment (move_operator op)) (may_all_swap fs es) (move_is_assignment op)

-- the two operands of an operator
operands_apart : (g : Scope) (x : Expr) (op : BinaryOperator) (at : Place) (y : Expr) → order_matters g (s.binary x op at y) ≡ false
    → is_ordered_operator op ≡ false → clash g x y ≡ false
unfolding order_matters
operands_apart g x op at y kept free = subst (λ (b : Bool). (not b && clash g x y) ≡ false) free kept

operands_swap : (fs : List Function) (g : Scope) → Sound fs g → (n : ℕ) (how : Standing) (x : Expr) (op : BinaryOperator) (at : Place) (y : Expr)
    → faults g n how (s.binary x op at y) ≡ [] → is_ordered_operator op ≡ false → (w v : Way) → is_plain_way w ≡ true → is_plain_way v ≡ true
    → may_swap fs (handed w (type_of g x) (typed g n x)) (handed v (type_of g y) (typed g (n + site_count g x) y)) ≡ true
operands_swap fs g sound n how x op at y none free w v first second =
    let kept = binary_kept g n how x op at y none in
    let k = n + site_count g x in
    parts_swap fs g sound n k x y kept.0 kept.1 w v (plain_handed g n w x first) (plain_handed g k v y second)
    (operands_apart g x op at y kept.2.order free)

pair_ordered : (fs : List Function) (b : Bool) (d e : t.Expr) → may_swap fs d e ≡ true → (b || may_all_swap fs (d ∷ e ∷ [])) ≡ true
pair_ordered fs b d e h = or_right b (may_all_swap fs (d ∷ e ∷ [])) (rw h refl)

-- a call of the text's own
own_swaps : (fs : List Function) (g : Scope) → Sound fs g → (n : ℕ) (xs : Exprs) (o : Option FunctionHead)
    → faults_of_all g n standing.Plain xs ≡ [] → fits_call g o xs ≡ true → some_clash g xs ≡ false
    → may_all_swap fs (listed (operands g n (map parameter_way (parameters_of o)) xs)) ≡ true
own_swaps fs g sound n xs None none fits apart =
    all_swap fs g sound n [] xs none (all_plain_handed g n [] xs refl) apart
own_swaps fs g sound n xs (Some h) none fits apart =
    all_swap fs g sound n (map parameter_way h.parameters) xs none (arguments_handed g n h.parameters xs fits) apart

own_call_ordered : (fs : List Function) (g : Scope) → Sound fs g → (n : ℕ) (how : Standing) (f : Identifier) (xs : Exprs)
    → faults g n how (s.call f xs) ≡ []
    → let o = function_named g f.name in
    is_ordered fs (an_own_call (number_of_function o) (operands g n (map parameter_way (parameters_of o)) xs)) ≡ true
unfolding wrong_type order_matters
own_call_ordered fs g sound n how f xs none =
    let kept = call_kept g n how f xs none in
    let o = function_named g f.name in
    let es = operands g n (map parameter_way (parameters_of o)) xs in
    but_swap fs (parameters_in fs (number_of_function o)) es
    (own_swaps fs g sound n xs o kept.1 (not-false (fits_call g o xs) kept.2.types) kept.2.order)

-- operands by the letters of a row
letters_swap : (fs : List Function) (g : Scope) → Sound fs g → (n : ℕ) (letters : List Letter) (xs : Exprs)
    → faults_of_all g n standing.Plain xs ≡ [] → some_clash g xs ≡ false → may_all_swap fs (listed (operands g n (ways letters) xs)) ≡ true
letters_swap fs g sound n letters xs none apart =
    all_swap fs g sound n (ways letters) xs none (all_plain_handed g n (ways letters) xs (letters_are_plain letters)) apart

row_ordered : (fs : List Function) (b : Bool) (es : List t.Expr) → may_all_swap fs es ≡ true → (b || may_all_swap fs es) ≡ true
row_ordered fs b es h = or_right b (may_all_swap fs es) h

-- a member call
member_ordered : (fs : List Function) (g : Scope) → Sound fs g → (n : ℕ) (how : Standing) (x : Expr) (f : Identifier) (xs : Exprs)
    → faults g n how (s.member_call x f xs) ≡ [] → (b : Bool) (letters : List Letter)
    → (b || may_all_swap fs (listed (operands g (inside g n (s.member_call x f xs)) (ways letters) xs))) ≡ true
unfolding order_matters
member_ordered fs g sound n how x f xs none b letters =
    let kept = member_call_kept g n how x f xs none in
    let k = inside g n (s.member_call x f xs) in
    row_ordered fs b (listed (operands g k (ways letters) xs)) (letters_swap fs g sound k letters xs kept.1 kept.2.order)

-- what `advance` moves is the variable by itself
iterator_is_itself : (u : ExprType) (n : ℕ) (at : Place) (label : ℕ) → is_iterator (type_of_use u) ≡ true
    → t.iterator (number_in (variable u n at label)) ≡ variable u n at label
iterator_is_itself (types.Iterator b form) n at label h = refl
iterator_is_itself u n at label h = absurd cc

name_is_itself : (g : Scope) (n : ℕ) (x : Expr) → is_plain x ≡ true → is_iterator (type_of g x) ≡ true
    → t.iterator (number_in (typed g n x)) ≡ typed g n x
unfolding typed operands type_of types_of
name_is_itself g n (s.name x) plain is = iterator_is_itself (type_of_name g x.name) (number_of_name g x.name) x.place _ is
name_is_itself g n x plain is = absurd cc

moved_same : (g : Scope) (n : ℕ) (ws : List Way) (xs : Exprs) → first_is_plain xs ≡ true → first_way ws ≡ as_it_is → are_moved (types_of g xs) ≡ true
    → let es = operands g n ws xs in t.with (t.iterator (number_in (first_operand es))) (other_operands es) ≡ es
unfolding operands types_of
moved_same g n ws s.none named way taken = absurd cc
moved_same g n ws (s.with x xs) named way taken =
    let parts = and_parts (is_iterator (type_of g x)) (list_all is_number (types_of g xs)) taken in
    subst (λ (w : Way). t.with (t.iterator (number_in (handed w (type_of g x) (typed g n x)))) (operands g (n + site_count g x) (other_ways ws) xs)
    ≡ t.with (handed w (type_of g x) (typed g n x)) (operands g (n + site_count g x) (other_ways ws) xs)) (sym way)
    (ap (λ (e : t.Expr). t.with e (operands g (n + site_count g x) (other_ways ws) xs)) (name_is_itself g n x named parts.0))

-- a call of an algorithm
plain_arguments : (g : Scope) (n : ℕ) (name : List ℕ) (xs : Exprs) → faults_of_all g n (last_standing name xs) xs ≡ []
    → appends name xs ≡ false → faults_of_all g n standing.Plain xs ≡ []
plain_arguments g n name xs none = by_end (has_output name (size xs)) (end_in_appender xs) refl none
  where
    by_end : (out end : Bool) → end_in_appender xs ≡ end → faults_of_all g n (if out then standing.Output else standing.Plain) xs ≡ []
        → (out && end) ≡ false → faults_of_all g n standing.Plain xs ≡ []
    by_end false end same h k = h
    by_end true false same h k = all_plain g true n xs same h
    by_end true true same h k = absurd cc

algorithm_ordered : (fs : List Function) (g : Scope) → Sound fs g → (n : ℕ) (name : List ℕ) (xs : Exprs)
    → faults_of_all g n (last_standing name xs) xs ≡ [] → fits_algorithm g name xs ≡ true → some_clash g xs ≡ false
    → (x : Found) → algorithm_row (appends name xs) name (types_of g xs) ≡ Some x → (at : Place) (site : Option ℕ) (names : List (Option ℕ))
    → list_all (is_ordered fs) (algorithm_node x (appends name xs) name at site names (operands g n (ways x.row.letters) xs)) ≡ true
algorithm_ordered fs g sound n name xs none fits apart x e at site names =
    by_names (bytes_eq name (codes "back_inserter")) (bytes_eq name (codes "advance")) (appends name xs) refl refl refl
  where
    es : Operands
    es = operands g n (ways x.row.letters) xs

    moved : bytes_eq name (codes "back_inserter") ≡ false → bytes_eq name (codes "advance") ≡ true
        → may_all_swap fs (listed (t.with (t.iterator (number_in (first_operand es))) (other_operands es))) ≡ true
    moved p q =
        let moves = moves_is g n name xs none fits x (meant_is (appends name xs) name (types_of g xs) x e) p q in
        let same = moved_same g n (ways x.row.letters) xs moves.named moves.way moves.taken in
        subst (λ (ds : Operands). may_all_swap fs (listed ds) ≡ true) (sym same) (letters_swap fs g sound n x.row.letters xs moves.plain apart)

    appended : appends name xs ≡ true → list_all is_idle (listed es) ≡ true
    appended a =
        all_idle fs g sound n (last_standing name xs) (ways x.row.letters) xs none (and_parts (has_output name (size xs)) (end_in_appender xs) a).1 apart

    other : appends name xs ≡ false → may_all_swap fs (listed es) ≡ true
    other a = letters_swap fs g sound n x.row.letters xs (plain_arguments g n name xs none a) apart

    by_names : (inserts advances adds : Bool) → bytes_eq name (codes "back_inserter") ≡ inserts → bytes_eq name (codes "advance") ≡ advances
        → appends name xs ≡ adds
        → list_all (is_ordered fs) (if inserts then [] else if advances
        then a_call (head (callees.Row x.number) at site None names) (t.with (t.iterator (number_in (first_operand es))) (other_operands es)) ∷ []
        else if adds then a_call (head (callees.Appends x.number) at site None names) es ∷ []
        else a_call (head (callees.Row x.number) at site None names) es ∷ []) ≡ true
    by_names true advances adds p q a = refl
    by_names false true adds p q a =
        let ds = listed (t.with (t.iterator (number_in (first_operand es))) (other_operands es)) in
        and_from (takes_list (row_at x.number) || may_all_swap fs ds) true (row_ordered fs (takes_list (row_at x.number)) ds (moved p q)) refl
    by_names false false true p q a = and_from (list_all is_idle (listed es)) true (appended a) refl
    by_names false false false p q a =
        and_from (takes_list (row_at x.number) || may_all_swap fs (listed es)) true
        (row_ordered fs (takes_list (row_at x.number)) (listed es) (other a)) refl

library_ordered : (fs : List Function) (g : Scope) → Sound fs g → (n : ℕ) (how : Standing) (f : Identifier) (xs : Exprs)
    → faults g n how (s.library_call f xs) ≡ [] → (x : Found) → algorithm_row (appends f.name xs) f.name (types_of g xs) ≡ Some x
    → let e = s.library_call f xs in
    list_all (is_ordered fs) (algorithm_node x (appends f.name xs) f.name f.place (site_number g n e) (None ∷ told_all g xs)
    (operands g (inside g n e) (ways x.row.letters) xs)) ≡ true
unfolding wrong_type order_matters
library_ordered fs g sound n how f xs none x e =
    let kept = library_call_kept g n how f xs none in
    algorithm_ordered fs g sound (inside g n (s.library_call f xs)) f.name xs kept.0 (not-false (fits_algorithm g f.name xs) kept.1.types)
    kept.1.order x e f.place (site_number g n (s.library_call f xs)) (None ∷ told_all g xs)

-- what makes a container: a list in braces, or arguments
list_is_taken : (letters : List Letter) → letters_have_list letters ≡ true
    → list_any (λ letter. elim letter as (λ _. Bool) [ l.InitializerList ↦ true | k ↦ false ]) letters ≡ true
list_is_taken letters h = h

braces_take : (form : Form) (row : Option Found) → list_constructor form ≡ row → is_none row ≡ false → takes_list (row_at (number_of_row row)) ≡ true
braces_take form None e there = absurd cc
braces_take form (Some x) e there =
    let found = found_row (λ r. is_row_of form calls.Constructor r && letters_have_list r.letters) x e in
    let takes = and_parts (is_row_of form calls.Constructor x.row) (letters_have_list x.row.letters) found.passes in
    subst (λ (row : Option Row). takes_list row ≡ true) (sym found.there) (list_is_taken x.row.letters takes.1)

declaration_rules : (g : Context) (ct : ContainerType) (x : Identifier) (value : Initializer)
    → declaration_faults g (s.declares_container ct x value) ≡ [] → (has_no_constructor ct.form value ≡ false) × (is_disordered g value ≡ false)
declaration_rules g ct x value none =
    let f1 = initializer_faults g value in
    let f2 = twice_faults g x in
    let f3 = broken (has_no_constructor ct.form value) ct.place rule.NO_SUCH_CALL in
    let f4 = broken (wrong_initializer g ct.form value) ct.place rule.WRONG_TYPE in
    let f5 = broken (is_disordered g value) ct.place rule.ORDER_OF_EFFECTS in
    let f6 = limit_faults g (behind_declaration g (s.declares_container ct x value)) x.place in
    let h6 = none_in_both (f1 ++ f2 ++ f3 ++ f4 ++ f5) f6 none in
    let h5 = none_in_both (f1 ++ f2 ++ f3 ++ f4) f5 h6.0 in
    let h4 = none_in_both (f1 ++ f2 ++ f3) f4 h5.0 in
    let h3 = none_in_both (f1 ++ f2) f3 h4.0 in (
      unbroken (has_no_constructor ct.form value) ct.place rule.NO_SUCH_CALL h3.1,
      unbroken (is_disordered g value) ct.place rule.ORDER_OF_EFFECTS h5.1,
    )

maker_ordered : (fs : List Function) (g : Context) (form : Form) (value : Initializer) → Sound fs g.scope → initializer_faults g value ≡ []
    → has_no_constructor form value ≡ false → is_disordered g value ≡ false
    → let row = making_row g form value in
    call_is_ordered fs (callees.Row (number_of_row row)) (listed (operands_in g row value)) ≡ true
unfolding operands
maker_ordered fs g form s.absent sound none some order = or_right (takes_list (row_at (number_of_row (making_row g form s.absent)))) true refl
maker_ordered fs g form (s.copies x) sound none some order =
    lone_swaps fs (takes_list (row_at (number_of_row (making_row g form (s.copies x))))) (t.container (number_of_name g.scope x.name))
maker_ordered fs g form (s.braces equal s.none) sound none some order =
    or_right (takes_list (row_at (number_of_row (making_row g form (s.braces equal s.none))))) true refl
maker_ordered fs g form (s.braces equal (s.with x xs)) sound none some order =
    or_left (takes_list (row_at (number_of_row (list_constructor form)))) _ (braces_take form (list_constructor form) refl some)
maker_ordered fs g form (s.arguments xs) sound none some order =
    row_ordered fs _ _ (letters_swap fs g.scope sound (length g.sites) (letters_of (making_row g form (s.arguments xs))) xs none order)

-- the test is passed by each node
order_kept : (fs : List Function) → IsKept fs (is_ordered fs)
order_kept fs = record {
  literals = λ z. refl;
  steps = λ l. refl;
  uses = λ at n. refl;
  loops = λ n. refl;
  ranges = λ at n. refl;
  variables = λ k. refl;
  braces = λ site b. refl;
  lone_rows = λ n at site object names e. lone_swaps fs (takes_list (row_at n)) e;
  lone_operators = λ o at names e. lone_swaps fs (is_assignment o) e;
  moves = λ op at names n e. move_ordered fs op (t.iterator n ∷ e ∷ []);
  operators = λ g n how x op at y sound none free c. operands_swap fs g sound n how x op at y none free (as_number c) (as_number c) refl refl;
  pairs = λ g n how x op at y sound none free o names w plain.
      pair_ordered fs (is_assignment o) _ _ (operands_swap fs g sound n how x op at y none free as_it_is w refl plain);
  own_calls = λ g n how f xs sound none. own_call_ordered fs g sound n how f xs none;
  algorithms = λ g n how f xs sound none x e. library_ordered fs g sound n how f xs none x e;
  members = λ g n how x f xs sound none r e. member_ordered fs g sound n how x f xs none (takes_list (row_at r.number)) r.row.letters;
  makers = λ g ct x value sound none.
      let rules = declaration_rules g ct x value none in
      maker_ordered fs g ct.form value sound (container_value g ct x value none) rules.0 rules.1;
}

-- in what is typed no order matters
pub typed_has_order : (p : Program) (u : Typed) → typing.Typed p u → has_order u ≡ true
unfolding has_order typed_program
typed_has_order p u h =
    subst (λ (v : Typed). has_order v ≡ true) (sym h.is_it)
    (program_holds p (is_ordered (typed_functions start p)) (order_kept (typed_functions start p)) (program_kept p h.breaks_none).0)
