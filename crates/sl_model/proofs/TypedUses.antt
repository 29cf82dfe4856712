-- In a well typed text each variable that is used has a number below the limit of its sort.
use Rattle.std.proofs.Common.{◌≡◌, ℕ, Bool, true, false, ◌&&◌, List, [], ◌∷◌, ◌++◌, Option, Some, None, refl}
use Rattle.std.specs.Prelude.{slice_get}
use Rattle.std.specs.List.{list_all}
use Rattle.sl_base.specs.declared.scalar.Scalar.TheVariants as t
use Rattle.sl_syntax.specs.declared.typed.element.Taken.{Taken}
use Rattle.sl_syntax.specs.declared.typed.element.Taken.TheVariants as taken
use Rattle.sl_syntax.specs.declared.typed.parameter.ParameterKind.{ParameterKind}
use Rattle.sl_syntax.specs.Typed.{Expr, element, Cond, read, not_read, test, always, Printed, number, Effect, reads}
use Rattle.sl_syntax.specs.Typed.{prints, evaluates, assigns, updates, moves_to, Declaration, unset_scalar, set_scalar, set_iterator, binds_reference}
use Rattle.sl_syntax.specs.Typed.{makes, First, no_first, declares_first, does_first, Stmt, block, declares, choice, choice_else, while, for}
use Rattle.sl_syntax.specs.Typed.{range_for, break, continue, gives_back, does, Stmts, no_more, followed, Function, Typed}
use Rattle.sl_typing.specs.declared.expr_type.ExprType.{ExprType}
use Rattle.sl_typing.specs.declared.expr_type.ExprType.TheVariants as types
use Rattle.sl_typing.specs.Types.{has_type, is_scalar, is_number, is_written, is_iterator}
use Rattle.sl_model.specs.Typing.WellTypedScopes.{Scope, is_within, variable_type, works_in}
use Rattle.sl_model.specs.Typing.WellTypedExpressions.{goes_to, type_given, type_of, type_of_left, types_of}
use Rattle.sl_model.specs.Typing.WellTypedOrder.{Variable, the_scalar, the_container, the_iterator}
use Rattle.sl_model.specs.Typing.WellTypedStatements.{assigns_others, may_stand_alone, is_written_left, takes, are_ints, is_typed_cond, is_typed_item}
use Rattle.sl_model.specs.Typing.WellTypedStatements.{is_typed_effect, is_typed_last, is_typed_declaration, behind, is_typed_first, behind_first}
use Rattle.sl_model.specs.Typing.WellTypedStatements.{may_go_over, in_range, is_typed_return, is_typed_stmt, are_typed_stmts, with_parameters, no_variables}
use Rattle.sl_model.specs.Typing.WellTypedStatements.{is_block}
use Rattle.sl_model.specs.Typing.WellTyped.{WellTyped}
use Rattle.sl_model.proofs.Passing.{first_of_both, second_of_both, three_parts, five_parts}
use Rattle.sl_model.proofs.TypedOperands.{typed_by, second_iterator_typed}
use Rattle.sl_model.proofs.TypedCalls.{making_known, first_iterator_typed}
use Rattle.sl_model.proofs.TypedNumbers.{scalar_is_below, container_is_below, iterator_is_below}
use Rattle.sl_model.proofs.TypedExpressions.{no_type_goes}
use Rattle.sl_model.proofs.TypedStatements.{no_type_taken, function_is_typed}
use Rattle.sl_model.proofs.TypedVariables.{uses_in, uses_in_left, uses_in_operands, AreBelow, both_below, expression_below, left_below}
use Rattle.sl_model.proofs.TypedVariables.{operands_below}

-- the scalars that a read takes
abbrev pub uses_in_read : List ℕ → List Variable
uses_in_read [] = []
uses_in_read (x ∷ xs) = the_scalar x ∷ uses_in_read xs

-- the variables that a condition uses
abbrev pub uses_in_cond : Cond → List Variable
uses_in_cond (read xs) = uses_in_read xs
uses_in_cond (not_read xs) = uses_in_read xs
uses_in_cond (test e) = uses_in e
uses_in_cond always = []

-- those that a print uses
abbrev pub uses_in_items : List Printed → List Variable
uses_in_items [] = []
uses_in_items (number e ∷ items) = uses_in e ++ uses_in_items items
uses_in_items (item ∷ items) = uses_in_items items

-- those that an effect uses
abbrev pub uses_in_effect : Effect → List Variable
uses_in_effect (reads xs) = uses_in_read xs
uses_in_effect (prints items) = uses_in_items items
uses_in_effect (evaluates e) = uses_in e
uses_in_effect (assigns l e) = uses_in_left l ++ uses_in e
uses_in_effect (updates op s r at l e) = uses_in_left l ++ uses_in e
uses_in_effect (moves_to x e) = the_iterator x ∷ uses_in e

-- those that the last part of a `for` uses
abbrev pub uses_in_last : Option Effect → List Variable
uses_in_last None = []
uses_in_last (Some w) = uses_in_effect w

-- those that a declaration uses
abbrev pub uses_in_declaration : Declaration → List Variable
uses_in_declaration (unset_scalar s) = []
uses_in_declaration (set_scalar s e) = uses_in e
uses_in_declaration (set_iterator e) = uses_in e
uses_in_declaration (binds_reference c ops) = uses_in_left (element c ops)
uses_in_declaration (makes form c ops) = uses_in_operands ops

-- those that the first part of a `for` uses
abbrev pub uses_in_first : First → List Variable
uses_in_first no_first = []
uses_in_first (declares_first d) = uses_in_declaration d
uses_in_first (does_first w) = uses_in_effect w

-- those that a returned value uses
abbrev pub uses_in_value : Option Expr → List Variable
uses_in_value None = []
uses_in_value (Some e) = uses_in e

abbrev mutual
  -- the variables that a statement uses
  pub uses_in_stmt : Stmt → List Variable
  uses_in_stmt (block site all) = uses_in_stmts all
  uses_in_stmt (declares d) = uses_in_declaration d
  uses_in_stmt (choice k b) = uses_in_cond k ++ uses_in_stmt b
  uses_in_stmt (choice_else k b c) = uses_in_cond k ++ (uses_in_stmt b ++ uses_in_stmt c)
  uses_in_stmt (while n k b) = uses_in_cond k ++ uses_in_stmt b
  uses_in_stmt (for n head k last b) = uses_in_first head ++ (uses_in_cond k ++ (uses_in_last last ++ uses_in_stmt b))
  uses_in_stmt (range_for n how x at name b) = the_container x ∷ uses_in_stmt b
  uses_in_stmt break = []
  uses_in_stmt continue = []
  uses_in_stmt (gives_back value) = uses_in_value value
  uses_in_stmt (does w) = uses_in_effect w

  -- those of statements
  pub uses_in_stmts : Stmts → List Variable
  uses_in_stmts no_more = []
  uses_in_stmts (followed b rest) = uses_in_stmt b ++ uses_in_stmts rest

-- an expression whose type passes a test uses variables below the limits
passing_below : (g : Scope) (e : Expr) (check : ExprType → Bool) → check types.Wrong ≡ false → is_within g ≡ true → check (type_of g e) ≡ true
    → AreBelow (uses_in e)
passing_below g e check n w h = expression_below g e w (typed_by check n (type_of g e) h)

-- the scalars of a read are below the limit
read_below : (g : Scope) (xs : List ℕ) → is_within g ≡ true → are_ints g xs ≡ true → AreBelow (uses_in_read xs)
read_below g [] w h = tt
read_below g (x ∷ xs) w h =
    let one = first_of_both (is_scalar t.Int (variable_type g.scalars x)) (are_ints g xs) h in (
      scalar_is_below g x w (typed_by (is_scalar t.Int) refl (variable_type g.scalars x) one),
      read_below g xs w (second_of_both (is_scalar t.Int (variable_type g.scalars x)) (are_ints g xs) h),
    )

-- the variables of a typed condition are below the limits
cond_below : (g : Scope) (k : Cond) → is_within g ≡ true → is_typed_cond g k ≡ true → AreBelow (uses_in_cond k)
cond_below g (read xs) w h = read_below g xs w h
cond_below g (not_read xs) w h = read_below g xs w h
cond_below g (test e) w h = passing_below g e is_number refl w h
cond_below g always w h = tt

-- those of a print are
items_below : (g : Scope) (items : List Printed) → is_within g ≡ true → list_all (is_typed_item g) items ≡ true → AreBelow (uses_in_items items)
items_below g [] w h = tt
items_below g (number e ∷ items) w h = both_below (uses_in e) (uses_in_items items)
    (passing_below g e is_number refl w (first_of_both (is_number (type_of g e)) (list_all (is_typed_item g) items) h))
    (items_below g items w (second_of_both (is_number (type_of g e)) (list_all (is_typed_item g) items) h))
items_below g (item ∷ items) w h = items_below g items w h

-- those of an effect are
effect_below : (g : Scope) (v : Effect) → is_within g ≡ true → is_typed_effect g v ≡ true → AreBelow (uses_in_effect v)
effect_below g (reads xs) w h = read_below g xs w h
effect_below g (prints items) w h = items_below g items w h
effect_below g (evaluates e) w h = passing_below g e may_stand_alone refl w (first_of_both (may_stand_alone (type_of g e)) (assigns_others g e) h)
effect_below g (assigns l e) w h = both_below (uses_in_left l) (uses_in e)
    (left_below g l w (typed_by (λ u. takes u (type_of g e)) refl (type_of_left g l) h))
    (passing_below g e (takes (type_of_left g l)) (no_type_taken (type_of_left g l)) w h)
effect_below g (updates op s r at l e) w h =
    let both = first_of_both (is_written_left g r l && works_in r s) (is_scalar s (type_of g e)) h in
    let left = first_of_both (is_written_left g r l) (works_in r s) both in
    let number = first_of_both (is_scalar r (type_of_left g l)) (is_written (type_of_left g l)) left in
    both_below (uses_in_left l) (uses_in e) (left_below g l w (typed_by (is_scalar r) refl (type_of_left g l) number))
    (passing_below g e (is_scalar s) refl w (second_of_both (is_written_left g r l && works_in r s) (is_scalar s (type_of g e)) h))
effect_below g (moves_to x e) w h = (
  iterator_is_below g x w (first_iterator_typed (variable_type g.iterators x) (type_of g e) h),
  expression_below g e w (second_iterator_typed (variable_type g.iterators x) (type_of g e) h),
)

-- those of the last part of a `for` are
last_below : (g : Scope) (last : Option Effect) → is_within g ≡ true → is_typed_last g last ≡ true → AreBelow (uses_in_last last)
last_below g None w h = tt
last_below g (Some v) w h = effect_below g v w h

-- those of a declaration are
declaration_below : (g : Scope) (d : Declaration) → is_within g ≡ true → is_typed_declaration g d ≡ true → AreBelow (uses_in_declaration d)
declaration_below g (unset_scalar s) w h = tt
declaration_below g (set_scalar s e) w h = passing_below g e (is_scalar s) refl w h
declaration_below g (set_iterator e) w h = passing_below g e is_iterator refl w h
declaration_below g (binds_reference c ops) w h = left_below g (element c ops) w h
declaration_below g (makes form c ops) w h =
    let known = making_known form c.callee c.object (types_of g ops) h in operands_below g ops w known.0

-- those of the first part of a `for` are
first_below : (g : Scope) (head : First) → is_within g ≡ true → is_typed_first g head ≡ true → AreBelow (uses_in_first head)
first_below g no_first w h = tt
first_below g (declares_first (set_scalar s e)) w h = declaration_below g (set_scalar s e) w h
first_below g (declares_first (set_iterator e)) w h = declaration_below g (set_iterator e) w h
first_below g (declares_first d) w h = absurd cc
first_below g (does_first v) w h = effect_below g v w h

-- those of a returned value are
return_below : (g : Scope) (k : Option ParameterKind) (value : Option Expr) → is_within g ≡ true → is_typed_return g k value ≡ true
    → AreBelow (uses_in_value value)
return_below g k None w h = tt
return_below g None (Some e) w h = absurd cc
return_below g (Some k) (Some e) w h = passing_below g e (goes_to k) (no_type_goes k) w h

-- no range-for goes over what isn't there
pub nothing_gone_over : (how : Taken) → may_go_over how types.Wrong ≡ false
nothing_gone_over taken.Value = refl
nothing_gone_over taken.Reference = refl

mutual
  unfolding is_typed_stmt are_typed_stmts

  -- the variables that a typed statement uses are below the limits
  statement_below : (g : Scope) (k : Option ParameterKind) (inside : Bool) (b : Stmt) → is_within g ≡ true → is_typed_stmt g k inside b ≡ true
      → AreBelow (uses_in_stmt b)
  statement_below g k inside (block site all) w h = statements_below g k inside all w h
  statement_below g k inside (declares d) w h = absurd cc
  statement_below g k inside (choice condition b) w h = both_below (uses_in_cond condition) (uses_in_stmt b)
      (cond_below g condition w (first_of_both (is_typed_cond g condition) (is_typed_stmt g k inside b) h))
      (statement_below g k inside b w (second_of_both (is_typed_cond g condition) (is_typed_stmt g k inside b) h))
  statement_below g k inside (choice_else condition b c) w h =
      let parts = three_parts (is_typed_cond g condition) (is_typed_stmt g k inside b) (is_typed_stmt g k inside c) h in
      both_below (uses_in_cond condition) (uses_in_stmt b ++ uses_in_stmt c) (cond_below g condition w parts.0)
      (both_below (uses_in_stmt b) (uses_in_stmt c) (statement_below g k inside b w parts.1) (statement_below g k inside c w parts.2))
  statement_below g k inside (while n condition b) w h = both_below (uses_in_cond condition) (uses_in_stmt b)
      (cond_below g condition w (first_of_both (is_typed_cond g condition) (is_typed_stmt g k true b) h))
      (statement_below g k true b w (second_of_both (is_typed_cond g condition) (is_typed_stmt g k true b) h))
  statement_below g k inside (for n head condition last b) w h =
      let r = behind_first head g in
      let parts = five_parts (is_typed_first g head) (is_within r) (is_typed_cond r condition) (is_typed_last r last) (is_typed_stmt r k true b) h in
      both_below (uses_in_first head) (uses_in_cond condition ++ (uses_in_last last ++ uses_in_stmt b)) (first_below g head w parts.0)
      (both_below (uses_in_cond condition) (uses_in_last last ++ uses_in_stmt b) (cond_below r condition parts.1 parts.2)
      (both_below (uses_in_last last) (uses_in_stmt b) (last_below r last parts.1 parts.3) (statement_below r k true b parts.1 parts.4)))
  statement_below g k inside (range_for n how x at name b) w h =
      let u = variable_type g.containers x in let r = in_range how u g in
      let parts = three_parts (may_go_over how u) (is_within r) (is_typed_stmt r k true b) h in (
        container_is_below g x w (typed_by (may_go_over how) (nothing_gone_over how) u parts.0),
        statement_below r k true b parts.1 parts.2,
      )
  statement_below g k inside break w h = tt
  statement_below g k inside continue w h = tt
  statement_below g k inside (gives_back value) w h = return_below g k value w h
  statement_below g k inside (does v) w h = effect_below g v w h

  -- those that statements use
  statements_below : (g : Scope) (k : Option ParameterKind) (inside : Bool) (all : Stmts) → is_within g ≡ true
      → are_typed_stmts g k inside all ≡ true → AreBelow (uses_in_stmts all)
  statements_below g k inside no_more w h = tt
  statements_below g k inside (followed (declares d) rest) w h =
      let r = behind d g in
      let parts = three_parts (is_typed_declaration g d) (is_within r) (are_typed_stmts r k inside rest) h in
      both_below (uses_in_declaration d) (uses_in_stmts rest) (declaration_below g d w parts.0) (statements_below r k inside rest parts.1 parts.2)
  statements_below g k inside (followed b rest) w h = both_below (uses_in_stmt b) (uses_in_stmts rest)
      (statement_below g k inside b w (first_of_both (is_typed_stmt g k inside b) (are_typed_stmts g k inside rest) h))
      (statements_below g k inside rest w (second_of_both (is_typed_stmt g k inside b) (are_typed_stmts g k inside rest) h))

-- in a well typed text each variable that is used has a number below the limit of its sort
pub variables_are_below : (p : Typed) → WellTyped p → (n : ℕ) (f : Function) → slice_get p.functions n ≡ Some f → AreBelow (uses_in_stmt f.body)
variables_are_below p w n f e =
    let g = with_parameters f.parameters (no_variables p) in
    let parts = three_parts (is_block f.body && has_type (type_given f.result)) (is_within g) (is_typed_stmt g f.result false f.body)
    (function_is_typed p w n f e) in
    statement_below g f.result false f.body parts.1 parts.2
