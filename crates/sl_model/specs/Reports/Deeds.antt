-- What a text does, as far as it decides whether one run of it tells of all: reads, calls of its own functions, range-fors, and calls of the library
-- with the types of their operands. They are listed in source order, and each is judged with what is in scope there.
--
-- Restates ISO/IEC 14882:2017, [basic.scope] (what is in scope) and [stmt.expr] (the value of an expression statement is discarded).
-- Chosen here: the result of a call is used, unless the call is a whole effect: an expression statement, or the first or the last part of a `for`.
use Rattle.std.specs.Prelude.{Bool, true, false, List, [], ◌∷◌, ◌++◌, flat_map, Option, Some, None}
use Rattle.sl_syntax.specs.declared.typed.callee.Callee.{Callee}
use Rattle.sl_syntax.specs.Typed.{Expr, literal, held, iterator, convert, negate, logical_not, logical_and, logical_or, arithmetic, comparison}
use Rattle.sl_syntax.specs.Typed.{increment, move, call, own_call, first, second, container, handed_scalar, Left, scalar, reference, element}
use Rattle.sl_syntax.specs.Typed.{Operands, none, with, Cond, read, not_read, test, always, Printed, number, Effect, reads, prints}
use Rattle.sl_syntax.specs.Typed.{evaluates, assigns, updates, moves_to, Declaration, unset_scalar, set_scalar, set_iterator, binds_reference, makes}
use Rattle.sl_syntax.specs.Typed.{First, no_first, declares_first, does_first, Stmt, block, declares, choice, choice_else, while, for, range_for}
use Rattle.sl_syntax.specs.Typed.{break, continue, gives_back, does, Stmts, no_more, followed, Function, Typed}
use Rattle.sl_typing.specs.declared.expr_type.ExprType.{ExprType}
use Rattle.sl_model.specs.Typing.WellTypedScopes.{Scope, variable_type}
use Rattle.sl_model.specs.Typing.WellTypedExpressions.{type_of, type_of_left, types_of}
use Rattle.sl_model.specs.Typing.WellTypedStatements.{behind, behind_first, in_range, with_parameters, no_variables}

-- a deed
pub data Deed : Type 0 where
  -- a read from `std::cin`
  a_read : Deed
  -- a call of a function of the text
  an_own_call : Deed
  -- a range-for over a container of this type
  a_range_for : ExprType → Deed
  -- a call of the library, on operands of these types, of which that of a variable that it moves is the first; the Bool says whether its result is
  -- used
  a_library_call : Bool → Callee → List ExprType → Deed

unfoldable mutual
  -- the deeds of an expression whose value is used
  pub deeds_in : Scope → Expr → List Deed
  deeds_in g (literal s z) = []
  deeds_in g (held l) = deeds_in_left g l
  deeds_in g (iterator x) = []
  deeds_in g (convert s e) = deeds_in g e
  deeds_in g (negate s at e) = deeds_in g e
  deeds_in g (logical_not at e) = deeds_in g e
  deeds_in g (logical_and at d e) = deeds_in g d ++ deeds_in g e
  deeds_in g (logical_or at d e) = deeds_in g d ++ deeds_in g e
  deeds_in g (arithmetic op s at d e) = deeds_in g d ++ deeds_in g e
  deeds_in g (comparison op at d e) = deeds_in g d ++ deeds_in g e
  deeds_in g (increment step fix s at l) = deeds_in_left g l
  deeds_in g (move fix x h ops) = a_library_call true h.callee (variable_type g.iterators x ∷ types_of g ops) ∷ deeds_in_operands g ops
  deeds_in g (call h ops) = a_library_call true h.callee (types_of g ops) ∷ deeds_in_operands g ops
  deeds_in g (own_call n at ops) = an_own_call ∷ deeds_in_operands g ops
  deeds_in g (first at e) = deeds_in g e
  deeds_in g (second at e) = deeds_in g e
  deeds_in g (container x) = []
  deeds_in g (handed_scalar x) = []

  -- those of a left side
  pub deeds_in_left : Scope → Left → List Deed
  deeds_in_left g (scalar x at) = []
  deeds_in_left g (reference x at name part) = []
  deeds_in_left g (element h ops) = a_library_call true h.callee (types_of g ops) ∷ deeds_in_operands g ops

  -- those of operands
  pub deeds_in_operands : Scope → Operands → List Deed
  deeds_in_operands g none = []
  deeds_in_operands g (with e rest) = deeds_in g e ++ deeds_in_operands g rest

-- those of an expression that is a whole effect
abbrev pub deeds_alone : Scope → Expr → List Deed
deeds_alone g (call h ops) = a_library_call false h.callee (types_of g ops) ∷ deeds_in_operands g ops
deeds_alone g e = deeds_in g e

-- those of an expression that may be missing
abbrev pub deeds_in_value : Scope → Option Expr → List Deed
deeds_in_value g None = []
deeds_in_value g (Some e) = deeds_in g e

-- those of a condition
abbrev pub deeds_in_cond : Scope → Cond → List Deed
deeds_in_cond g (read xs) = a_read ∷ []
deeds_in_cond g (not_read xs) = a_read ∷ []
deeds_in_cond g (test e) = deeds_in g e
deeds_in_cond g always = []

-- those of an item of a print
abbrev pub deeds_in_printed : Scope → Printed → List Deed
deeds_in_printed g (number e) = deeds_in g e
deeds_in_printed g item = []

-- those of an effect
abbrev pub deeds_in_effect : Scope → Effect → List Deed
deeds_in_effect g (reads xs) = a_read ∷ []
deeds_in_effect g (prints items) = flat_map (deeds_in_printed g) items
deeds_in_effect g (evaluates e) = deeds_alone g e
deeds_in_effect g (assigns l e) = deeds_in_left g l ++ deeds_in g e
deeds_in_effect g (updates op s r at l e) = deeds_in_left g l ++ deeds_in g e
deeds_in_effect g (moves_to x e) = deeds_in g e

-- those of an effect that may be missing
abbrev pub deeds_in_last : Scope → Option Effect → List Deed
deeds_in_last g None = []
deeds_in_last g (Some w) = deeds_in_effect g w

-- those of a declaration
abbrev pub deeds_in_declaration : Scope → Declaration → List Deed
deeds_in_declaration g (unset_scalar s) = []
deeds_in_declaration g (set_scalar s e) = deeds_in g e
deeds_in_declaration g (set_iterator e) = deeds_in g e
deeds_in_declaration g (binds_reference h ops) = deeds_in_left g (element h ops)
deeds_in_declaration g (makes form h ops) = a_library_call true h.callee (types_of g ops) ∷ deeds_in_operands g ops

-- those of the first part of a `for`
abbrev pub deeds_in_first : Scope → First → List Deed
deeds_in_first g no_first = []
deeds_in_first g (declares_first d) = deeds_in_declaration g d
deeds_in_first g (does_first w) = deeds_in_effect g w

unfoldable mutual
  -- the deeds of a statement
  pub deeds_in_stmt : Scope → Stmt → List Deed
  deeds_in_stmt g (block site all) = deeds_in_stmts g all
  deeds_in_stmt g (declares d) = deeds_in_declaration g d
  deeds_in_stmt g (choice k b) = deeds_in_cond g k ++ deeds_in_stmt g b
  deeds_in_stmt g (choice_else k b c) = deeds_in_cond g k ++ (deeds_in_stmt g b ++ deeds_in_stmt g c)
  deeds_in_stmt g (while n k b) = deeds_in_cond g k ++ deeds_in_stmt g b
  deeds_in_stmt g (for n head k last b) = let h = behind_first head g in
      deeds_in_first g head ++ (deeds_in_cond h k ++ (deeds_in_last h last ++ deeds_in_stmt h b))
  deeds_in_stmt g (range_for n how x at name b) = let u = variable_type g.containers x in a_range_for u ∷ deeds_in_stmt (in_range how u g) b
  deeds_in_stmt g break = []
  deeds_in_stmt g continue = []
  deeds_in_stmt g (gives_back value) = deeds_in_value g value
  deeds_in_stmt g (does w) = deeds_in_effect g w

  -- those of statements and declarations in turn
  pub deeds_in_stmts : Scope → Stmts → List Deed
  deeds_in_stmts g no_more = []
  deeds_in_stmts g (followed (declares d) rest) = deeds_in_declaration g d ++ deeds_in_stmts (behind d g) rest
  deeds_in_stmts g (followed b rest) = deeds_in_stmt g b ++ deeds_in_stmts g rest

-- those of a function
abbrev pub deeds_in_function : Typed → Function → List Deed
deeds_in_function p f = deeds_in_stmt (with_parameters f.parameters (no_variables p)) f.body

-- the deeds of a text, also in functions that nothing calls
unfoldable pub deeds_of : Typed → List Deed
unfolding type_of type_of_left types_of deeds_in deeds_in_left deeds_in_operands deeds_in_stmt deeds_in_stmts
deeds_of p = flat_map (deeds_in_function p) p.functions
