-- Statements and functions of a typed text in which everything has the type, the constness and the place that it needs.
--
-- Restates ISO/IEC 14882:2017, [basic.scope.block], [stmt.select], [stmt.iter], [stmt.ranged], [stmt.break] and [stmt.cont] (inside a loop alone),
-- [stmt.return] (a value exactly where the function gives one), [dcl.spec.auto], [dcl.init.ref], [expr.ass], [istream.formatted.arithmetic],
-- [basic.start.main] and [sequence.reqmts] (the value of `a.assign(n, t)` isn't in a).
-- Chosen here: which statements there are. A head declares a number with its value, or an iterator. A read takes ints. What a part of a statement
-- declares stands in a block. A container for elements alone is no statement and isn't gone over. What may be an element of the container that is
-- assigned to is told by its look, and each reference to an int may be one.
use Rattle.std.specs.Prelude.{ℕ, ◌==◌, Bool, true, false, not, ◌&&◌, List, [], ◌∷◌, Option, Some, None, if◌then◌else◌}
use Rattle.std.specs.List.{list_all}
use Rattle.sl_base.specs.declared.form.Form.{Form}
use Rattle.sl_base.specs.declared.scalar.Scalar.{Scalar}
use Rattle.sl_base.specs.declared.scalar.Scalar.TheVariants as t
use Rattle.sl_specs.specs.declared.call.Call.TheVariants as c
use Rattle.sl_specs.specs.Forms.{is_keyed}
use Rattle.sl_specs.specs.Rows.{Row}
use Rattle.sl_specs.specs.Table.{same_call}
use Rattle.sl_syntax.specs.declared.operator.Access.TheVariants as a
use Rattle.sl_syntax.specs.declared.typed.callee.Callee.{Callee}
use Rattle.sl_syntax.specs.declared.typed.callee.Callee.TheVariants as callees
use Rattle.sl_syntax.specs.declared.typed.element.ElementPart.TheVariants as parts
use Rattle.sl_syntax.specs.declared.typed.element.Taken.{Taken}
use Rattle.sl_syntax.specs.declared.typed.element.Taken.TheVariants as taken
use Rattle.sl_syntax.specs.declared.typed.operator.Operator.TheVariants as operators
use Rattle.sl_syntax.specs.declared.typed.parameter.ParameterKind.{ParameterKind}
use Rattle.sl_syntax.specs.declared.typed.parameter.ParameterKind.TheVariants as parameters
use Rattle.sl_syntax.specs.declared.typed.step.Fix.TheVariants as fixes
use Rattle.sl_syntax.specs.Typed.{Expr, held, increment, call, Left, scalar, reference, element, Operands, none, with, Cond, read, not_read, test}
use Rattle.sl_syntax.specs.Typed.{always}
use Rattle.sl_syntax.specs.Typed.{Printed, text, endline, number, Effect, reads, prints, evaluates, assigns, updates, moves_to, Declaration}
use Rattle.sl_syntax.specs.Typed.{unset_scalar, set_scalar, set_iterator, binds_reference, makes, First, no_first, declares_first, does_first, Stmt}
use Rattle.sl_syntax.specs.Typed.{block, declares, choice, choice_else, while, for, range_for, break, continue, gives_back, does, Stmts, no_more}
use Rattle.sl_syntax.specs.Typed.{followed, Function, Typed}
use Rattle.sl_syntax.specs.Written.{is_map}
use Rattle.sl_typing.specs.declared.expr_type.ExprType.{ExprType}
use Rattle.sl_typing.specs.declared.expr_type.ExprType.TheVariants as types
use Rattle.sl_typing.specs.Types.{is_const, has_type, is_scalar, is_number, is_written, is_iterator, is_iterator_of, same_iterators}
use Rattle.sl_typing.specs.Signatures.{row_at}
use Rattle.sl_model.specs.Typing.WellTypedScopes.{Scope, is_within, variable_type, with_scalar, with_container, with_iterator, works_in}
use Rattle.sl_model.specs.Typing.WellTypedCalls.{constructs}
use Rattle.sl_model.specs.Typing.WellTypedExpressions.{goes_to, type_given, type_of, type_of_left, types_of}

-- what a call gives may be an element of the container with this number and form: it is called on that, or is a `*` of an iterator of the form
abbrev pub gives_element : ℕ → Form → Callee → Option ℕ → List ExprType → Bool
gives_element x form callee (Some y) us = x == y
gives_element x form (callees.Operator operators.Dereference) None us = list_all (is_iterator_of form) us
gives_element x form callee None us = false

-- a left side may be such an element; each reference to an int may be one, and `.first` and `.second` are parts of an element of a map
abbrev pub may_be_element : Scope → ℕ → Form → Left → Bool
may_be_element g x form (scalar y at) = false
may_be_element g x form (reference y at name parts.Whole) = true
may_be_element g x form (reference y at name part) = false
may_be_element g x form (element h ops) = gives_element x form h.callee h.object (types_of g ops)

-- an expression is that left side, or has `++` or `--` before it
abbrev pub may_give_element : Scope → ℕ → Form → Expr → Bool
may_give_element g x form (held l) = may_be_element g x form l
may_give_element g x form (increment step fixes.Prefix s at l) = may_be_element g x form l
may_give_element g x form e = false

-- the second operand of a call on a container may be an element of it
abbrev pub is_given_element : Scope → Option ℕ → Operands → Bool
is_given_element g (Some x) (with n (with e none)) = elim (variable_type g.containers x) as (λ _. Bool) [
  | types.Container access form ↦ may_give_element g x form e
  | u ↦ false
]
is_given_element g object ops = false

-- a row, if it is there, is `assign`
abbrev pub is_assign : Option Row → Bool
is_assign None = false
is_assign (Some row) = same_call c.Assign row.call

-- a call of `assign`
abbrev pub calls_assign : Callee → Bool
calls_assign (callees.Row n) = is_assign (row_at n)
calls_assign callee = false

-- an expression doesn't assign to a container an element of its own
abbrev pub assigns_others : Scope → Expr → Bool
assigns_others g (call h ops) = not (calls_assign h.callee && is_given_element g h.object ops)
assigns_others g e = true

-- a value of this type may be discarded; both iterators of a pair are to be taken
abbrev pub may_stand_alone : ExprType → Bool
may_stand_alone types.Wrong = false
may_stand_alone (types.IteratorPair b x) = false
may_stand_alone (types.Handed s) = false
may_stand_alone (types.Container a.Elements x) = false
may_stand_alone u = true

-- a left side of a number of this type that may be written
abbrev pub is_written_left : Scope → Scalar → Left → Bool
is_written_left g s l = is_scalar s (type_of_left g l) && is_written (type_of_left g l)

-- a left side that may be written, and a number of its type
abbrev pub takes : ExprType → ExprType → Bool
takes (types.Scalar s) u = is_scalar s u
takes (types.Element w) u = w && is_scalar t.Int u
takes v u = false

-- variables of the type int
abbrev pub are_ints : Scope → List ℕ → Bool
are_ints g xs = list_all (λ x. is_scalar t.Int (variable_type g.scalars x)) xs

-- a condition
abbrev pub is_typed_cond : Scope → Cond → Bool
is_typed_cond g (read xs) = are_ints g xs
is_typed_cond g (not_read xs) = are_ints g xs
is_typed_cond g (test e) = is_number (type_of g e)
is_typed_cond g always = true

-- an item of a print
abbrev pub is_typed_item : Scope → Printed → Bool
is_typed_item g (text bytes) = true
is_typed_item g endline = true
is_typed_item g (number e) = is_number (type_of g e)

-- an effect
abbrev pub is_typed_effect : Scope → Effect → Bool
is_typed_effect g (reads xs) = are_ints g xs
is_typed_effect g (prints items) = list_all (is_typed_item g) items
is_typed_effect g (evaluates e) = may_stand_alone (type_of g e) && assigns_others g e
is_typed_effect g (assigns l e) = takes (type_of_left g l) (type_of g e)
is_typed_effect g (updates op s r at l e) = is_written_left g r l && works_in r s && is_scalar s (type_of g e)
is_typed_effect g (moves_to x e) = same_iterators (variable_type g.iterators x) (type_of g e)

-- an effect that may be missing
abbrev pub is_typed_last : Scope → Option Effect → Bool
is_typed_last g None = true
is_typed_last g (Some w) = is_typed_effect g w

-- a call that makes a container of a form
abbrev pub is_making : Form → Callee → Option ℕ → List ExprType → Bool
is_making form (callees.Row n) None us = constructs form (row_at n) us
is_making form callee object us = false

-- a declaration
abbrev pub is_typed_declaration : Scope → Declaration → Bool
is_typed_declaration g (unset_scalar s) = true
is_typed_declaration g (set_scalar s e) = is_scalar s (type_of g e)
is_typed_declaration g (set_iterator e) = is_iterator (type_of g e)
is_typed_declaration g (binds_reference h ops) = has_type (type_of_left g (element h ops))
is_typed_declaration g (makes form h ops) = is_making form h.callee h.object (types_of g ops)

-- the type of a reference to an element
abbrev pub reference_to : ExprType → ExprType
reference_to (types.Element w) = types.IntReference w
reference_to u = types.Wrong

-- what is in scope behind a declaration
abbrev pub behind : Declaration → Scope → Scope
behind (unset_scalar s) g = with_scalar (types.Scalar s) g
behind (set_scalar s e) g = with_scalar (types.Scalar s) g
behind (set_iterator e) g = with_iterator (type_of g e) g
behind (binds_reference h ops) g = with_iterator (reference_to (type_of_left g (element h ops))) g
behind (makes form h ops) g = with_container (types.Container a.Whole form) g

-- the first part of a `for`
abbrev pub is_typed_first : Scope → First → Bool
is_typed_first g no_first = true
is_typed_first g (declares_first (set_scalar s e)) = is_typed_declaration g (set_scalar s e)
is_typed_first g (declares_first (set_iterator e)) = is_typed_declaration g (set_iterator e)
is_typed_first g (declares_first d) = false
is_typed_first g (does_first w) = is_typed_effect g w

-- what is in scope behind it
abbrev pub behind_first : First → Scope → Scope
behind_first (declares_first d) g = behind d g
behind_first head g = g

-- a range-for goes over such a container; an element with a key and a value is taken by reference
abbrev pub may_go_over : Taken → ExprType → Bool
may_go_over how (types.Container a.Elements x) = false
may_go_over taken.Value (types.Container access x) = not (is_map x)
may_go_over taken.Reference (types.Container access x) = true
may_go_over how u = false

-- the variable of a range-for over a container of this access and form comes into scope
abbrev pub with_element : Taken → Bool → Form → Scope → Scope
with_element taken.Value b x g = with_scalar (types.Scalar t.Int) g
with_element taken.Reference b x g =
    with_iterator (if is_map x then types.EntryReference (not b) else types.IntReference (not b && not (is_keyed x))) g

-- what is in scope in the body of a range-for: two hidden iterators, and then its variable
abbrev pub in_range : Taken → ExprType → Scope → Scope
in_range how (types.Container access x) g =
    with_element how (is_const access) x (with_iterator (types.Iterator (is_const access) x) (with_iterator (types.Iterator (is_const access) x) g))
in_range how u g = g

-- a `return` in a function that gives this
abbrev pub is_typed_return : Scope → Option ParameterKind → Option Expr → Bool
is_typed_return g None None = true
is_typed_return g (Some k) (Some e) = goes_to k (type_of g e)
is_typed_return g k value = false

unfoldable mutual
  -- a statement in a function that gives this; the answer says whether a loop stands around it
  pub is_typed_stmt : Scope → Option ParameterKind → Bool → Stmt → Bool
  is_typed_stmt g k inside (block site all) = are_typed_stmts g k inside all
  is_typed_stmt g k inside (declares d) = false
  is_typed_stmt g k inside (choice condition b) = is_typed_cond g condition && is_typed_stmt g k inside b
  is_typed_stmt g k inside (choice_else condition b c) = is_typed_cond g condition && is_typed_stmt g k inside b && is_typed_stmt g k inside c
  is_typed_stmt g k inside (while n condition b) = is_typed_cond g condition && is_typed_stmt g k true b
  is_typed_stmt g k inside (for n head condition last b) = let h = behind_first head g in
      is_typed_first g head && is_within h && is_typed_cond h condition && is_typed_last h last && is_typed_stmt h k true b
  is_typed_stmt g k inside (range_for n how x at name b) = let u = variable_type g.containers x in let h = in_range how u g in
      may_go_over how u && is_within h && is_typed_stmt h k true b
  is_typed_stmt g k inside break = inside
  is_typed_stmt g k inside continue = inside
  is_typed_stmt g k inside (gives_back value) = is_typed_return g k value
  is_typed_stmt g k inside (does w) = is_typed_effect g w

  -- statements and declarations in turn
  pub are_typed_stmts : Scope → Option ParameterKind → Bool → Stmts → Bool
  are_typed_stmts g k inside no_more = true
  are_typed_stmts g k inside (followed (declares d) rest) =
      is_typed_declaration g d && is_within (behind d g) && are_typed_stmts (behind d g) k inside rest
  are_typed_stmts g k inside (followed b rest) = is_typed_stmt g k inside b && are_typed_stmts g k inside rest

-- a parameter comes into scope; an iterator's is const where it is written so
abbrev pub with_parameter : ParameterKind → Scope → Scope
with_parameter (parameters.Value s) g = with_scalar (types.Scalar s) g
with_parameter (parameters.Reference s) g = with_scalar (types.Scalar s) g
with_parameter (parameters.Container access x) g = with_container (types.Container access x) g
with_parameter (parameters.Iterator b x) g = with_iterator (types.Iterator b x) g

-- parameters come into scope in turn
abbrev pub with_parameters : List ParameterKind → Scope → Scope
with_parameters [] g = g
with_parameters (k ∷ ks) g = with_parameters ks (with_parameter k g)

-- what is known at the start of a function before its parameters
abbrev pub no_variables : Typed → Scope
no_variables p = record { scalars = []; containers = []; iterators = []; functions = p.functions; main = p.main }

-- a statement is a block
abbrev pub is_block : Stmt → Bool
is_block (block site all) = true
is_block b = false

-- a function
abbrev pub is_typed_function : Typed → Function → Bool
is_typed_function p h = let g = with_parameters h.parameters (no_variables p) in
    is_block h.body && has_type (type_given h.result) && is_within g && is_typed_stmt g h.result false h.body

-- there are no parameters
abbrev pub takes_nothing : List ParameterKind → Bool
takes_nothing [] = true
takes_nothing (k ∷ ks) = false

-- `main` is there, takes nothing and gives an int
abbrev pub is_main : Option Function → Bool
is_main None = false
is_main (Some h) = takes_nothing h.parameters && is_scalar t.Int (type_given h.result)
