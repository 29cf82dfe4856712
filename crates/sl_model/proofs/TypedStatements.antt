-- In a well typed text each call is of a row or a function that is there, and has as many operands as that takes.
use Rattle.std.proofs.Common.{◌≡◌, ℕ, zero, suc, Bool, true, false, ◌&&◌, List, [], ◌∷◌, ◌++◌, Option, Some, None, refl, subst}
use Rattle.std.specs.Prelude.{slice_get, flat_map}
use Rattle.std.specs.List.{list_all}
use Rattle.sl_base.specs.declared.scalar.Scalar.TheVariants as t
use Rattle.sl_syntax.specs.declared.typed.element.Taken.{Taken}
use Rattle.sl_syntax.specs.declared.typed.element.Taken.TheVariants as taken
use Rattle.sl_syntax.specs.declared.typed.parameter.ParameterKind.{ParameterKind}
use Rattle.sl_syntax.specs.declared.typed.parameter.ParameterKind.TheVariants as parameters
use Rattle.sl_syntax.specs.Typed.{Expr, element, Cond, read, not_read, test, always, Printed, text, endline, number, Effect, reads}
use Rattle.sl_syntax.specs.Typed.{prints, evaluates, assigns, updates, moves_to, Declaration, unset_scalar, set_scalar, set_iterator, binds_reference}
use Rattle.sl_syntax.specs.Typed.{makes, First, no_first, declares_first, does_first, Stmt, block, declares, choice, choice_else, while, for}
use Rattle.sl_syntax.specs.Typed.{range_for, break, continue, gives_back, does, Stmts, no_more, followed, Function, Typed}
use Rattle.sl_typing.specs.declared.expr_type.ExprType.{ExprType}
use Rattle.sl_typing.specs.declared.expr_type.ExprType.TheVariants as types
use Rattle.sl_typing.specs.Types.{has_type, is_scalar, is_number, is_written, is_iterator}
use Rattle.sl_model.specs.Typing.WellTypedScopes.{Scope, is_within, variable_type, works_in}
use Rattle.sl_model.specs.Typing.WellTypedExpressions.{goes_to, type_given, type_of, type_of_left, types_of}
use Rattle.sl_model.specs.Typing.WellTypedNodes.{Node, nodes_in, nodes_in_left, nodes_in_operands, nodes_in_value, nodes_in_cond, nodes_in_printed}
use Rattle.sl_model.specs.Typing.WellTypedNodes.{nodes_in_effect, nodes_in_last, nodes_in_declaration, nodes_in_first, nodes_in_stmt, nodes_in_stmts}
use Rattle.sl_model.specs.Typing.WellTypedStatements.{assigns_others, may_stand_alone, is_written_left, takes, is_typed_cond, is_typed_item, is_typed_effect}
use Rattle.sl_model.specs.Typing.WellTypedStatements.{is_typed_last, is_typed_declaration, behind, is_typed_first, behind_first, may_go_over}
use Rattle.sl_model.specs.Typing.WellTypedStatements.{in_range, is_typed_return, is_typed_stmt, are_typed_stmts, with_parameter, with_parameters}
use Rattle.sl_model.specs.Typing.WellTypedStatements.{no_variables, is_block, is_typed_function, takes_nothing, is_main}
use Rattle.sl_model.specs.Typing.WellTyped.{has_types, WellTyped}
use Rattle.sl_model.proofs.Passing.{first_of_both, second_of_both, three_parts, five_parts, passes_at}
use Rattle.sl_model.proofs.TypedOperands.{typed_by, second_iterator_typed}
use Rattle.sl_model.proofs.TypedCalls.{making_known}
use Rattle.sl_model.proofs.TypedNumbers.{IsNode}
use Rattle.sl_model.proofs.TypedExpressions.{IsFine, AreFine, no_type_goes, and_false, both_fine, called_fine, expression_is_fine, left_is_fine}
use Rattle.sl_model.proofs.TypedExpressions.{passing_is_fine, operands_are_fine}

-- the nodes of a typed condition are fine
cond_is_fine : (g : Scope) (k : Cond) → is_typed_cond g k ≡ true → AreFine g.functions (nodes_in_cond k)
cond_is_fine g (read xs) h = tt
cond_is_fine g (not_read xs) h = tt
cond_is_fine g (test e) h = passing_is_fine g e is_number refl h
cond_is_fine g always h = tt

-- those of an item of a print are
item_is_fine : (g : Scope) (item : Printed) → is_typed_item g item ≡ true → AreFine g.functions (nodes_in_printed item)
item_is_fine g (text bytes) h = tt
item_is_fine g endline h = tt
item_is_fine g (number e) h = passing_is_fine g e is_number refl h

-- those of a print are
items_are_fine : (g : Scope) (items : List Printed) → list_all (is_typed_item g) items ≡ true → AreFine g.functions (flat_map nodes_in_printed items)
items_are_fine g [] h = tt
items_are_fine g (item ∷ items) h = both_fine g.functions (nodes_in_printed item) (flat_map nodes_in_printed items)
    (item_is_fine g item (first_of_both (is_typed_item g item) (list_all (is_typed_item g) items) h))
    (items_are_fine g items (second_of_both (is_typed_item g item) (list_all (is_typed_item g) items) h))

-- no left side takes what has no type
pub no_type_taken : (u : ExprType) → takes u types.Wrong ≡ false
no_type_taken (types.Scalar s) = refl
no_type_taken (types.Element w) = and_false w
no_type_taken u = refl

-- those of an effect are
effect_is_fine : (g : Scope) (w : Effect) → is_typed_effect g w ≡ true → AreFine g.functions (nodes_in_effect w)
effect_is_fine g (reads xs) h = tt
effect_is_fine g (prints items) h = items_are_fine g items h
effect_is_fine g (evaluates e) h = passing_is_fine g e may_stand_alone refl (first_of_both (may_stand_alone (type_of g e)) (assigns_others g e) h)
effect_is_fine g (assigns l e) h = both_fine g.functions (nodes_in_left l) (nodes_in e)
    (left_is_fine g l (typed_by (λ u. takes u (type_of g e)) refl (type_of_left g l) h))
    (passing_is_fine g e (takes (type_of_left g l)) (no_type_taken (type_of_left g l)) h)
effect_is_fine g (updates op s r at l e) h =
    let both = first_of_both (is_written_left g r l && works_in r s) (is_scalar s (type_of g e)) h in
    let left = first_of_both (is_written_left g r l) (works_in r s) both in
    let number = first_of_both (is_scalar r (type_of_left g l)) (is_written (type_of_left g l)) left in
    both_fine g.functions (nodes_in_left l) (nodes_in e) (left_is_fine g l (typed_by (is_scalar r) refl (type_of_left g l) number))
    (passing_is_fine g e (is_scalar s) refl (second_of_both (is_written_left g r l && works_in r s) (is_scalar s (type_of g e)) h))
effect_is_fine g (moves_to x e) h = expression_is_fine g e (second_iterator_typed (variable_type g.iterators x) (type_of g e) h)

-- those of the last part of a `for` are
last_is_fine : (g : Scope) (last : Option Effect) → is_typed_last g last ≡ true → AreFine g.functions (nodes_in_last last)
last_is_fine g None h = tt
last_is_fine g (Some w) h = effect_is_fine g w h

-- those of a declaration are
declaration_is_fine : (g : Scope) (d : Declaration) → is_typed_declaration g d ≡ true → AreFine g.functions (nodes_in_declaration d)
unfolding nodes_in_left
declaration_is_fine g (unset_scalar s) h = (tt, tt)
declaration_is_fine g (set_scalar s e) h = both_fine g.functions (nodes_in e) _ (passing_is_fine g e (is_scalar s) refl h) (tt, tt)
declaration_is_fine g (set_iterator e) h = both_fine g.functions (nodes_in e) _ (passing_is_fine g e is_iterator refl h) (tt, tt)
declaration_is_fine g (binds_reference c ops) h =
    let fine = left_is_fine g (element c ops) h in (fine.0, both_fine g.functions (nodes_in_operands ops) _ fine.1 (tt, tt))
declaration_is_fine g (makes form c ops) h =
    let known = making_known form c.callee c.object (types_of g ops) h in
    let fine = called_fine g c ops known (operands_are_fine g ops known.0) in
    (fine.0, both_fine g.functions (nodes_in_operands ops) _ fine.1 (tt, tt))

-- those of the first part of a `for` are
first_is_fine : (g : Scope) (head : First) → is_typed_first g head ≡ true → AreFine g.functions (nodes_in_first head)
first_is_fine g no_first h = tt
first_is_fine g (declares_first (set_scalar s e)) h = declaration_is_fine g (set_scalar s e) h
first_is_fine g (declares_first (set_iterator e)) h = declaration_is_fine g (set_iterator e) h
first_is_fine g (declares_first d) h = absurd cc
first_is_fine g (does_first w) h = effect_is_fine g w h

-- those of a returned value are
return_is_fine : (g : Scope) (k : Option ParameterKind) (value : Option Expr) → is_typed_return g k value ≡ true
    → AreFine g.functions (nodes_in_value value)
return_is_fine g k None h = tt
return_is_fine g None (Some e) h = absurd cc
return_is_fine g (Some k) (Some e) h = passing_is_fine g e (goes_to k) (no_type_goes k) h

-- the functions of a text stay known behind a declaration
pub functions_behind : (d : Declaration) (g : Scope) → (behind d g).functions ≡ g.functions
functions_behind (unset_scalar s) g = refl
functions_behind (set_scalar s e) g = refl
functions_behind (set_iterator e) g = refl
functions_behind (binds_reference c ops) g = refl
functions_behind (makes form c ops) g = refl

-- they do behind the first part of a `for`
pub functions_behind_first : (head : First) (g : Scope) → (behind_first head g).functions ≡ g.functions
functions_behind_first no_first g = refl
functions_behind_first (declares_first d) g = functions_behind d g
functions_behind_first (does_first w) g = refl

-- they do in a range-for
pub functions_in_range : (how : Taken) (u : ExprType) (g : Scope) → (in_range how u g).functions ≡ g.functions
functions_in_range taken.Value (types.Container access x) g = refl
functions_in_range taken.Reference (types.Container access x) g = refl
functions_in_range how u g = refl

-- they do where parameters come into scope
pub functions_with_parameters : (ks : List ParameterKind) (g : Scope) → (with_parameters ks g).functions ≡ g.functions
functions_with_parameters [] g = refl
functions_with_parameters (parameters.Value s ∷ ks) g = functions_with_parameters ks (with_parameter (parameters.Value s) g)
functions_with_parameters (parameters.Reference s ∷ ks) g = functions_with_parameters ks (with_parameter (parameters.Reference s) g)
functions_with_parameters (parameters.Container access x ∷ ks) g = functions_with_parameters ks (with_parameter (parameters.Container access x) g)
functions_with_parameters (parameters.Iterator b x ∷ ks) g = functions_with_parameters ks (with_parameter (parameters.Iterator b x) g)

-- what is fine in one scope is so in one that knows the same functions
fine_in : (g : Scope) (fs : List Function) (nodes : List Node) → g.functions ≡ fs → AreFine g.functions nodes → AreFine fs nodes
fine_in g fs nodes e h = subst (λ (gs : List Function). AreFine gs nodes) e h

mutual
  unfolding is_typed_stmt are_typed_stmts nodes_in_stmt nodes_in_stmts

  -- the nodes of a typed statement are fine
  statement_is_fine : (g : Scope) (k : Option ParameterKind) (inside : Bool) (b : Stmt) → is_typed_stmt g k inside b ≡ true
      → AreFine g.functions (nodes_in_stmt b)
  statement_is_fine g k inside (block site all) h =
      both_fine g.functions (nodes_in_stmts all) _ (statements_are_fine g k inside all h) (tt, tt)
  statement_is_fine g k inside (declares d) h = absurd cc
  statement_is_fine g k inside (choice condition b) h = both_fine g.functions (nodes_in_cond condition) (nodes_in_stmt b)
      (cond_is_fine g condition (first_of_both (is_typed_cond g condition) (is_typed_stmt g k inside b) h))
      (statement_is_fine g k inside b (second_of_both (is_typed_cond g condition) (is_typed_stmt g k inside b) h))
  statement_is_fine g k inside (choice_else condition b c) h =
      let before = first_of_both (is_typed_cond g condition && is_typed_stmt g k inside b) (is_typed_stmt g k inside c) h in
      both_fine g.functions (nodes_in_cond condition) (nodes_in_stmt b ++ nodes_in_stmt c)
      (cond_is_fine g condition (first_of_both (is_typed_cond g condition) (is_typed_stmt g k inside b) before))
      (both_fine g.functions (nodes_in_stmt b) (nodes_in_stmt c)
      (statement_is_fine g k inside b (second_of_both (is_typed_cond g condition) (is_typed_stmt g k inside b) before))
      (statement_is_fine g k inside c (second_of_both (is_typed_cond g condition && is_typed_stmt g k inside b) (is_typed_stmt g k inside c) h)))
  statement_is_fine g k inside (while n condition b) h = (
    tt,
    both_fine g.functions (nodes_in_cond condition) (nodes_in_stmt b)
        (cond_is_fine g condition (first_of_both (is_typed_cond g condition) (is_typed_stmt g k true b) h))
        (statement_is_fine g k true b (second_of_both (is_typed_cond g condition) (is_typed_stmt g k true b) h)),
  )
  statement_is_fine g k inside (for n head condition last b) h =
      let r = behind_first head g in let known = functions_behind_first head g in
      let parts = five_parts (is_typed_first g head) (is_within r) (is_typed_cond r condition) (is_typed_last r last)
      (is_typed_stmt r k true b) h in (
        tt,
        both_fine g.functions (nodes_in_first head) (nodes_in_cond condition ++ (nodes_in_last last ++ nodes_in_stmt b))
            (first_is_fine g head parts.0)
            (fine_in r g.functions (nodes_in_cond condition ++ (nodes_in_last last ++ nodes_in_stmt b)) known
            (both_fine r.functions (nodes_in_cond condition) (nodes_in_last last ++ nodes_in_stmt b) (cond_is_fine r condition parts.2)
            (both_fine r.functions (nodes_in_last last) (nodes_in_stmt b) (last_is_fine r last parts.3) (statement_is_fine r k true b parts.4)))),
      )
  statement_is_fine g k inside (range_for n how x at name b) h =
      let u = variable_type g.containers x in let r = in_range how u g in let known = functions_in_range how u g in
      let parts = three_parts (may_go_over how u) (is_within r) (is_typed_stmt r k true b) h in
      (tt, (tt, (tt, fine_in r g.functions (nodes_in_stmt b) known (statement_is_fine r k true b parts.2))))
  statement_is_fine g k inside break h = tt
  statement_is_fine g k inside continue h = tt
  statement_is_fine g k inside (gives_back value) h = return_is_fine g k value h
  statement_is_fine g k inside (does w) h = effect_is_fine g w h

  -- those of statements
  statements_are_fine : (g : Scope) (k : Option ParameterKind) (inside : Bool) (all : Stmts) → are_typed_stmts g k inside all ≡ true
      → AreFine g.functions (nodes_in_stmts all)
  statements_are_fine g k inside no_more h = tt
  statements_are_fine g k inside (followed (declares d) rest) h =
      let r = behind d g in let known = functions_behind d g in
      let parts = three_parts (is_typed_declaration g d) (is_within r) (are_typed_stmts r k inside rest) h in
      both_fine g.functions (nodes_in_declaration d) (nodes_in_stmts rest) (declaration_is_fine g d parts.0)
      (fine_in r g.functions (nodes_in_stmts rest) known (statements_are_fine r k inside rest parts.2))
  statements_are_fine g k inside (followed b rest) h = both_fine g.functions (nodes_in_stmt b) (nodes_in_stmts rest)
      (statement_is_fine g k inside b (first_of_both (is_typed_stmt g k inside b) (are_typed_stmts g k inside rest) h))
      (statements_are_fine g k inside rest (second_of_both (is_typed_stmt g k inside b) (are_typed_stmts g k inside rest) h))

-- what is among fine nodes is fine
fine_at : (fs : List Function) (nodes : List Node) (i : ℕ) (node : Node) → AreFine fs nodes → slice_get nodes i ≡ Some node → IsFine fs node
fine_at fs [] i node h e = absurd cc
fine_at fs (x ∷ xs) zero node h e = let same : x ≡ node = cc in subst (IsFine fs) same h.0
fine_at fs (x ∷ xs) (suc i) node h e = fine_at fs xs i node h.1 e

-- the nodes of a typed function are fine
function_is_fine : (p : Typed) (f : Function) → is_typed_function p f ≡ true → AreFine p.functions (nodes_in_stmt f.body)
function_is_fine p f h =
    let g = with_parameters f.parameters (no_variables p) in
    let typed = second_of_both (is_block f.body && has_type (type_given f.result) && is_within g) (is_typed_stmt g f.result false f.body) h in
    fine_in g p.functions (nodes_in_stmt f.body) (functions_with_parameters f.parameters (no_variables p))
    (statement_is_fine g f.result false f.body typed)

-- each function of a well typed text is typed
pub function_is_typed : (p : Typed) → WellTyped p → (n : ℕ) (f : Function) → slice_get p.functions n ≡ Some f → is_typed_function p f ≡ true
unfolding has_types
function_is_typed p w n f e = passes_at (is_typed_function p) p.functions n f w.types e

-- in a well typed text each call is of a row or a function that is there, and has as many operands as that takes
pub node_is_fine : (p : Typed) → WellTyped p → (node : Node) → IsNode p node → IsFine p.functions node
node_is_fine p w node at =
    let fine = function_is_fine p at.function (function_is_typed p w at.number at.function at.function_there) in
    fine_at p.functions (nodes_in_stmt at.function.body) at.place node fine at.there

-- `main` is there, has no parameters and gives an int
pub record HasMain (p : Typed) : Type 0 where
  pub function : Function
  pub there : slice_get p.functions p.main ≡ Some function
  pub parameters : function.parameters ≡ []
  pub result : is_scalar t.Int (type_given function.result) ≡ true

-- what takes nothing has no parameters
no_parameters : (ks : List ParameterKind) → takes_nothing ks ≡ true → ks ≡ []
no_parameters [] h = refl
no_parameters (k ∷ ks) h = absurd cc

-- what is found as `main` is there
found_main : (p : Typed) (found : Option Function) → slice_get p.functions p.main ≡ found → is_main found ≡ true → HasMain p
found_main p None e h = absurd cc
found_main p (Some f) e h = record {
  function = f;
  there = e;
  parameters = no_parameters f.parameters (first_of_both (takes_nothing f.parameters) (is_scalar t.Int (type_given f.result)) h);
  result = second_of_both (takes_nothing f.parameters) (is_scalar t.Int (type_given f.result)) h;
}

-- a well typed text has it
pub main_is_there : (p : Typed) → WellTyped p → HasMain p
main_is_there p w = found_main p (slice_get p.functions p.main) refl w.main
