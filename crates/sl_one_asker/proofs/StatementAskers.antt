-- No more nodes of a typed program may ask at a place than words of the program tell it.
use Rattle.std.proofs.Common.{arith, ◌≡◌, ℕ, ◌+◌, ◌≤◌, List, [], ◌∷◌, ◌++◌, length, Option, Some, None, refl, option_map, true, false}
use Rattle.std.specs.Prelude.{flat_map, replicate, codes}
use Rattle.sl_base.specs.declared.mark.Mark.{Mark}
use Rattle.sl_base.specs.declared.mark.Mark.TheVariants as m
use Rattle.sl_base.specs.declared.place.Place.{Place}
use Rattle.sl_base.specs.declared.scalar.Scalar.TheVariants as c
use Rattle.sl_base.specs.declared.word.Word.TheVariants as w
use Rattle.sl_syntax.specs.declared.operator.Arithmetic.{Arithmetic}
use Rattle.sl_syntax.specs.declared.operator.Assignment.{Assignment}
use Rattle.sl_syntax.specs.declared.operator.Assignment.TheVariants as assignments
use Rattle.sl_syntax.specs.declared.typed.parameter.ParameterKind.{ParameterKind}
use Rattle.sl_syntax.specs.declared.typed.parameter.ParameterKind.TheVariants as parameters
use Rattle.sl_syntax.specs.declared.typed.variable.VariableKind.{VariableKind}
use Rattle.sl_syntax.specs.declared.typed.variable.VariableKind.TheVariants as variables
use Rattle.sl_syntax.specs.Tree as s
use Rattle.sl_syntax.specs.Tree.{Expr, Exprs, Initializer, Declaration, Out, Effect, Cond, First, Stmt, Item, Items, Function, Program}
use Rattle.sl_syntax.specs.Typed as t
use Rattle.sl_syntax.specs.Written.{Written, mark, plain, named, at, written, list_written, initializer_written, value_written, out_written}
use Rattle.sl_syntax.specs.Written.{declaration_written, effect_written, cond_written, first_written, option_written, assignment_mark, stmt_written}
use Rattle.sl_syntax.specs.Written.{item_written, items_written, function_written, reference_written, container_written}
use Rattle.sl_syntax.specs.Written.{element_written}
use Rattle.sl_typing.specs.declared.expr_type.ExprType.{ExprType}
use Rattle.sl_typing.specs.declared.expr_type.ExprType.TheVariants as types
use Rattle.sl_typing.specs.Types.{scalar_of, common}
use Rattle.sl_typing.specs.Candidates.{Found, assignment_row}
use Rattle.sl_typing.specs.TypeOf.{size, type_of}
use Rattle.sl_typing.specs.Contexts.{Context, enter, started, started_loop}
use Rattle.sl_typing.specs.Sites.{behind}
use Rattle.sl_typing.specs.Flow.{behind_cond, behind_left, at_test, at_last, in_for, in_range, in_while, in_function, after_function, after}
use Rattle.sl_typing.specs.Flow.{after_item, after_items}
use Rattle.sl_typing.specs.Numbering.{as_number, number_in, ways, letters_of, converted, left_of, one, told}
use Rattle.sl_typing.specs.StatementNumbering.{typed_expr, typed_outs, assigned_container, set, updated, assigned, assignment_number, typed_effect}
use Rattle.sl_typing.specs.StatementNumbering.{typed_cond}
use Rattle.sl_typing.specs.StatementNumbering.{making_row, operands_in, declared_auto, bound, typed_declaration, typed_first, typed_test, returned}
use Rattle.sl_typing.specs.StatementNumbering.{typed_value}
use Rattle.sl_typing.specs.StatementNumbering.{typed_stmt, typed_item, typed_items, brace_number}
use Rattle.sl_typing.specs.Typing.{typed_function, typed_functions}
use Rattle.sl_model.specs.Typing.WellTypedNodes.{Node, a_variable, a_brace, has_container, nodes_in, nodes_in_left, nodes_in_operands}
use Rattle.sl_model.specs.Typing.WellTypedNodes.{nodes_in_value, nodes_in_cond}
use Rattle.sl_model.specs.Typing.WellTypedNodes.{nodes_in_printed, nodes_in_effect, nodes_in_last, nodes_in_declaration, nodes_in_first}
use Rattle.sl_model.specs.Typing.WellTypedNodes.{nodes_in_stmt, nodes_in_stmts}
use Rattle.sl_one_asker.proofs.Totals.{total-append, before, total_tested, total_for, total_items}
use Rattle.sl_one_asker.proofs.Askers.{here, asks_at, askers}
use Rattle.sl_one_asker.proofs.WordsAt.{tells, words_at, words_at-from_place, skips_marks}
use Rattle.sl_one_asker.proofs.ExpressionAskers.{asking, all_asking, one_asking, converted_asking, left_asking, expression_asking, arguments_asking}

-- an expression where this is known
expr_asking : (q : Place) (g : Context) (e : Expr) → asking q (typed_expr g e) ≤ words_at q (written e)
expr_asking q g e = expression_asking q g.scope (length g.sites) e

-- a condition
cond_asking : (q : Place) (g : Context) (k : Cond) → askers q (nodes_in_cond (typed_cond g k)) ≤ words_at q (cond_written k)
cond_asking q g (s.tests_read r) = omega arith
cond_asking q g (s.tests_no_read place r) = omega arith
cond_asking q g (s.tests e) = expr_asking q g e

-- the items of a print
abbrev outs_written : List Out → List Written
outs_written xs = flat_map (λ x. mark m.ShiftLeft ∷ out_written x) xs

outs_asking : (q : Place) (g : Context) (xs : List Out) → askers q (flat_map nodes_in_printed (typed_outs g xs)) ≤ words_at q (outs_written xs)
outs_asking q g [] = omega arith
outs_asking q g (s.text place bytes ∷ xs) = let rest = outs_asking q g xs in omega arith
outs_asking q g (s.end_line place ∷ xs) = let rest = outs_asking q g xs in omega arith
outs_asking q g (s.value e ∷ xs) =
    let first = expr_asking q g e in
    let rest = outs_asking q (behind g e) xs in
    let both = total-append (asks_at q) (nodes_in (typed_expr g e)) (flat_map nodes_in_printed (typed_outs (behind g e) xs)) in
    let all = total-append (tells q) (written e) (outs_written xs) in
    omega arith

-- assignments
container_asking : (q : Place) (o : Option Found) (place : Place) (site : Option ℕ) (k : ℕ) (names : List (Option ℕ)) (e : t.Expr)
    → asking q (assigned_container o place site k names (one e)) ≤ here q place + asking q e
unfolding nodes_in nodes_in_left nodes_in_operands
container_asking q None place site k names e = omega arith
container_asking q (Some x) place site k names e = let same = one_asking q e in omega arith

set_asking : (q : Place) (place : Place) (site : Option ℕ) (u v : ExprType) (names : List (Option ℕ)) (d e : t.Expr)
    → askers q (nodes_in_effect (set place site u v names d e)) ≤ here q place + (asking q d + asking q e)
set_asking q place site (types.Container access form) v names d e =
    let most = container_asking q (assignment_row form) place site (number_in d) names e in omega arith
set_asking q place site (types.Iterator b form) v names d e = omega arith
set_asking q place site u v names d e =
    let both = total-append (asks_at q) (nodes_in_left (left_of d)) (nodes_in (converted (scalar_of u) v e)) in
    let left = left_asking q d in
    let right = converted_asking q (scalar_of u) v e in
    omega arith

updated_asking : (q : Place) (op : Arithmetic) (place : Place) (u v : ExprType) (names : List (Option ℕ)) (d e : t.Expr)
    → askers q (nodes_in_effect (updated op place u v names d e)) ≤ here q place + (asking q d + asking q e)
unfolding nodes_in nodes_in_left nodes_in_operands
updated_asking q op place (types.Iterator b form) v names d e =
    let same = one_asking q (converted c.Diff v e) in let right = converted_asking q c.Diff v e in omega arith
updated_asking q op place u v names d e =
    let type = common (scalar_of u) (scalar_of v) in
    let both = total-append (asks_at q) (nodes_in_left (left_of d)) (nodes_in (converted type v e)) in
    let left = left_asking q d in
    let right = converted_asking q type v e in
    omega arith

assigned_asking : (q : Place) (op : Assignment) (place : Place) (site : Option ℕ) (u v : ExprType) (names : List (Option ℕ)) (d e : t.Expr)
    → askers q (nodes_in_effect (assigned op place site u v names d e)) ≤ here q place + (asking q d + asking q e)
assigned_asking q assignments.Set place site u v names d e = set_asking q place site u v names d e
assigned_asking q (assignments.Update op) place site u v names d e = updated_asking q op place u v names d e

-- an effect
effect_asking : (q : Place) (g : Context) (x : Effect) → askers q (nodes_in_effect (typed_effect g x)) ≤ words_at q (effect_written x)
effect_asking q g (s.reads r) = omega arith
effect_asking q g (s.prints place xs) = let most = outs_asking q g xs in omega arith
effect_asking q g (s.evaluates e) = expr_asking q g e
effect_asking q g (s.assigns x op place y) =
    let most = assigned_asking q op place (assignment_number (behind g x) x op) (type_of g.scope x) (type_of g.scope y)
    (told g.scope x ∷ told g.scope y ∷ []) (typed_expr g x) (typed_expr (behind_left g (s.assigns x op place y)) y) in
    let left = expr_asking q g x in
    let right = expr_asking q (behind_left g (s.assigns x op place y)) y in
    let all = total-append (tells q) (written x) (at place (w.Mark (assignment_mark op)) ∷ written y) in
    omega arith

-- a variable behind other nodes asks for nothing
variable_last : (q : Place) (xs : List Node) (kind : VariableKind) → askers q (xs ++ a_variable kind ∷ []) ≡ askers q xs
variable_last q xs kind = let both = total-append (asks_at q) xs (a_variable kind ∷ []) in omega arith

-- declarations
auto_asking : (q : Place) (u : ExprType) (e : t.Expr) → askers q (nodes_in_declaration (declared_auto u e)) ≤ asking q e
auto_asking q (types.Iterator b form) e = let same = variable_last q (nodes_in e) variables.Iterator in omega arith
auto_asking q u e = let same = variable_last q (nodes_in e) variables.Scalar in omega arith

bound_asking : (q : Place) (e : t.Expr) → askers q (nodes_in_declaration (bound e)) ≤ asking q e
unfolding nodes_in nodes_in_left nodes_in_operands
bound_asking q (t.held (t.element k es)) = let same = variable_last q (nodes_in_operands es) variables.Reference in omega arith
bound_asking q (t.held x) = let same = variable_last q (nodes_in_left x) variables.Iterator in omega arith
bound_asking q e = let same = variable_last q (nodes_in e) variables.Iterator in omega arith

-- expressions between two marks
between_marks : (q : Place) (xs : Exprs) (x y : Mark) → words_at q (mark x ∷ (list_written xs ++ mark y ∷ [])) ≡ words_at q (list_written xs)
between_marks q xs x y = let all = total-append (tells q) (list_written xs) (mark y ∷ []) in omega arith

operands_asking : (q : Place) (g : Context) (row : Option Found) (made : Initializer)
    → all_asking q (operands_in g row made) ≤ words_at q (initializer_written made)
unfolding nodes_in nodes_in_left nodes_in_operands
operands_asking q g row s.absent = omega arith
operands_asking q g row (s.copies x) = omega arith
operands_asking q g row (s.braces true xs) =
    let most = arguments_asking q g.scope (length g.sites) (replicate (size xs) (as_number c.Int)) xs in
    let same = between_marks q xs m.LeftBrace m.RightBrace in
    omega arith
operands_asking q g row (s.braces false xs) =
    let most = arguments_asking q g.scope (length g.sites) (replicate (size xs) (as_number c.Int)) xs in
    let same = between_marks q xs m.LeftBrace m.RightBrace in
    omega arith
operands_asking q g row (s.arguments xs) =
    let most = arguments_asking q g.scope (length g.sites) (ways (letters_of row)) xs in
    let same = between_marks q xs m.LeftParenthesis m.RightParenthesis in
    omega arith

declaration_asking : (q : Place) (g : Context) (d : Declaration)
    → askers q (nodes_in_declaration (typed_declaration g d)) ≤ words_at q (declaration_written d)
declaration_asking q g (s.declares_scalar place type x None) = omega arith
declaration_asking q g (s.declares_scalar place type x (Some e)) =
    let value = converted type (type_of g.scope e) (typed_expr g e) in
    let same = variable_last q (nodes_in value) variables.Scalar in
    let number = converted_asking q type (type_of g.scope e) (typed_expr g e) in
    let most = expr_asking q g e in
    omega arith
declaration_asking q g (s.declares_auto place x e) =
    let same = auto_asking q (type_of g.scope e) (typed_expr g e) in let most = expr_asking q g e in omega arith
declaration_asking q g (s.declares_reference head x e) =
    let same = bound_asking q (typed_expr g e) in
    let most = expr_asking q g e in
    let all = total-append (tells q) (reference_written head) (named x ∷ value_written e) in
    omega arith
declaration_asking q g (s.declares_container ct x made) =
    let row = making_row g ct.form made in
    let same = variable_last q (nodes_in_operands (operands_in g row made)) variables.Container in
    let most = operands_asking q g row made in
    let all = total-append (tells q) (container_written ct) (named x ∷ initializer_written made) in
    omega arith

-- the parts of a `for`
first_asking : (q : Place) (g : Context) (first : Option First)
    → askers q (nodes_in_first (typed_first g first)) ≤ words_at q (option_written first_written first)
first_asking q g None = omega arith
first_asking q g (Some (s.first_scalar place type x e)) = declaration_asking q g (s.declares_scalar place type x (Some e))
first_asking q g (Some (s.first_auto place x e)) = declaration_asking q g (s.declares_auto place x e)
first_asking q g (Some (s.first_effect x)) = effect_asking q g x

test_asking : (q : Place) (g : Context) (k : Option Cond) → askers q (nodes_in_cond (typed_test g k)) ≤ words_at q (option_written cond_written k)
test_asking q g None = omega arith
test_asking q g (Some k) = cond_asking q g k

last_asking : (q : Place) (g : Context) (x : Option Effect)
    → askers q (nodes_in_last (option_map (typed_effect g) x)) ≤ words_at q (option_written effect_written x)
last_asking q g None = omega arith
last_asking q g (Some x) = effect_asking q g x

-- a returned value
returned_asking : (q : Place) (k : Option ParameterKind) (u : ExprType) (e : t.Expr) → asking q (returned k u e) ≡ asking q e
returned_asking q (Some (parameters.Value type)) u e = converted_asking q type u e
returned_asking q None u e = refl
returned_asking q (Some k) u e = refl

value_asking : (q : Place) (g : Context) (value : Option Expr)
    → askers q (nodes_in_value (typed_value g value)) ≤ words_at q (option_written written value)
value_asking q g None = omega arith
value_asking q g (Some e) =
    let same = returned_asking q g.scope.result (type_of g.scope e) (typed_expr g e) in let most = expr_asking q g e in omega arith

mutual
  unfolding typed_stmt typed_item typed_items nodes_in_stmt nodes_in_stmts after after_item after_items

  -- a statement
  stmt_asking : (q : Place) (g : Context) (a : Stmt) → askers q (nodes_in_stmt (typed_stmt g a)) ≤ words_at q (stmt_written a)
  stmt_asking q g (s.block opens items closes) =
      let most = items_asking q (enter g) items in
      let both = total-append (asks_at q) (nodes_in_stmts (typed_items (enter g) items))
      (a_brace (brace_number (enter g) items) (has_container (typed_items (enter g) items)) ∷ []) in
      let all = before (tells q) (items_written items) (at closes (w.Mark m.RightBrace) ∷ []) in
      omega arith
  stmt_asking q g (s.choice place k a) =
      let then = behind_cond (started g) k in
      let both = total-append (asks_at q) (nodes_in_cond (typed_cond (started g) k)) (nodes_in_stmt (typed_stmt then a)) in
      let tests = cond_asking q (started g) k in
      let does = stmt_asking q then a in
      let all = total_tested (tells q) (skips_marks q) k (stmt_written a) in
      omega arith
  stmt_asking q g (s.choice_else place k a b) =
      let then = behind_cond (started g) k in
      let other = nodes_in_stmt (typed_stmt (after then a) b) in
      let both = total-append (asks_at q) (nodes_in_cond (typed_cond (started g) k)) (nodes_in_stmt (typed_stmt then a) ++ other) in
      let parts = total-append (asks_at q) (nodes_in_stmt (typed_stmt then a)) other in
      let tests = cond_asking q (started g) k in
      let does = stmt_asking q then a in
      let others = stmt_asking q (after then a) b in
      let all = total_tested (tells q) (skips_marks q) k (stmt_written a ++ plain (w.Key (codes "else")) ∷ stmt_written b) in
      let some = total-append (tells q) (stmt_written a) (plain (w.Key (codes "else")) ∷ stmt_written b) in
      omega arith
  stmt_asking q g (s.while place k a) =
      let both = total-append (asks_at q) (nodes_in_cond (typed_cond (started_loop place g) k)) (nodes_in_stmt (typed_stmt (in_while g place k) a)) in
      let tests = cond_asking q (started_loop place g) k in
      let does = stmt_asking q (in_while g place k) a in
      let all = total_tested (tells q) (skips_marks q) k (stmt_written a) in
      omega arith
  stmt_asking q g (s.for place first k last a) =
      let n1 = nodes_in_first (typed_first (enter (started_loop place g)) first) in
      let n2 = nodes_in_cond (typed_test (at_test g place first) k) in
      let n3 = nodes_in_last (option_map (typed_effect (at_last g place first k)) last) in
      let n4 = nodes_in_stmt (typed_stmt (in_for g place first k last) a) in
      let all = total-append (asks_at q) n1 (n2 ++ (n3 ++ n4)) in
      let some = total-append (asks_at q) n2 (n3 ++ n4) in
      let few = total-append (asks_at q) n3 n4 in
      let h1 = first_asking q (enter (started_loop place g)) first in
      let h2 = test_asking q (at_test g place first) k in
      let h3 = last_asking q (at_last g place first k) last in
      let h4 = stmt_asking q (in_for g place first k last) a in
      let same = total_for (tells q) (skips_marks q) first k last (stmt_written a) in
      omega arith
  stmt_asking q g (s.range_for place how x over a) =
      let most = stmt_asking q (in_range g place how x over) a in
      let all = total-append (tells q) (element_written how)
      (named x ∷ mark m.Colon ∷ named over ∷ mark m.RightParenthesis ∷ stmt_written a) in
      omega arith
  stmt_asking q g (s.break place) = omega arith
  stmt_asking q g (s.continue place) = omega arith
  stmt_asking q g (s.gives_back place value) =
      let most = value_asking q (started g) value in let all = before (tells q) (option_written written value) (mark m.Semicolon ∷ []) in omega arith
  stmt_asking q g (s.does place x) =
      let most = effect_asking q (started g) x in
      let all = before (tells q) (effect_written x) (mark m.Semicolon ∷ []) in
      let more = words_at-from_place q place (effect_written x ++ mark m.Semicolon ∷ []) in
      omega arith

  -- an item of a block
  item_asking : (q : Place) (g : Context) (i : Item) → askers q (nodes_in_stmt (typed_item g i)) ≤ words_at q (item_written i)
  item_asking q g (s.declares d) =
      let most = declaration_asking q (started g) d in let all = before (tells q) (declaration_written d) (mark m.Semicolon ∷ []) in omega arith
  item_asking q g (s.states a) = stmt_asking q g a

  -- items
  items_asking : (q : Place) (g : Context) (items : Items) → askers q (nodes_in_stmts (typed_items g items)) ≤ words_at q (items_written items)
  items_asking q g s.no_more = omega arith
  items_asking q g (s.followed i rest) =
      let both = total-append (asks_at q) (nodes_in_stmt (typed_item g i)) (nodes_in_stmts (typed_items (after_item g i) rest)) in
      let first = item_asking q g i in
      let others = items_asking q (after_item g i) rest in
      let all = total-append (tells q) (item_written i) (items_written rest) in
      omega arith

-- a function
function_asking : (q : Place) (g : Context) (f : Function) → askers q (nodes_in_stmt (typed_function g f).body) ≤ words_at q (function_written f)
unfolding nodes_in_stmt nodes_in_stmts
function_asking q g f =
    let h = in_function g f in
    let both = total-append (asks_at q) (nodes_in_stmts (typed_items h f.items))
    (a_brace (brace_number h f.items) (has_container (typed_items h f.items)) ∷ []) in
    let most = items_asking q h f.items in
    let all = total_items (tells q) f in
    omega arith

-- functions
pub functions_asking : (q : Place) (g : Context) (fs : List Function)
    → askers q (flat_map (λ (f : t.Function). nodes_in_stmt f.body) (typed_functions g fs)) ≤ words_at q (flat_map function_written fs)
functions_asking q g [] = omega arith
functions_asking q g (f ∷ fs) =
    let both = total-append (asks_at q) (nodes_in_stmt (typed_function g f).body)
    (flat_map (λ (k : t.Function). nodes_in_stmt k.body) (typed_functions (after_function g f) fs)) in
    let first = function_asking q g f in
    let others = functions_asking q (after_function g f) fs in
    let all = total-append (tells q) (function_written f) (flat_map function_written fs) in
    omega arith
