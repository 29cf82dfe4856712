-- The nodes of a typed text in source order, as far as more is asked of them than their types: calls with their operands, operators between two
-- operands, literals, uses of references, loops, braces and declarations.
--
-- No standard says any of it; it is chosen here. What stands first in the text comes first here, also where it is evaluated later: the left side of an
-- assignment, and the last part of a `for` before its body. A call comes before its operands, and a closing brace after what it closes.
use Rattle.std.specs.Prelude.{ℕ, Bool, true, false, List, [], ◌∷◌, ◌++◌, flat_map, ℤ, Option, Some, None}
use Rattle.sl_base.specs.declared.place.Place.{Place}
use Rattle.sl_syntax.specs.declared.typed.element.Taken.{Taken}
use Rattle.sl_syntax.specs.declared.typed.element.Taken.TheVariants as taken
use Rattle.sl_syntax.specs.declared.typed.head.Head.{Head}
use Rattle.sl_syntax.specs.declared.typed.variable.VariableKind.{VariableKind}
use Rattle.sl_syntax.specs.declared.typed.variable.VariableKind.TheVariants as variables
use Rattle.sl_syntax.specs.Typed.{Expr, literal, held, iterator, convert, negate, logical_not, logical_and, logical_or, arithmetic, comparison}
use Rattle.sl_syntax.specs.Typed.{increment, move, call, own_call, first, second, container, handed_scalar, Left, scalar, reference, element}
use Rattle.sl_syntax.specs.Typed.{Operands, none, with, Cond, test, Printed, number, Effect, reads, prints}
use Rattle.sl_syntax.specs.Typed.{evaluates, assigns, updates, moves_to, Declaration, unset_scalar, set_scalar, set_iterator, binds_reference, makes}
use Rattle.sl_syntax.specs.Typed.{First, no_first, declares_first, does_first, Stmt, block, declares, choice, choice_else, while, for, range_for}
use Rattle.sl_syntax.specs.Typed.{break, continue, gives_back, does, Stmts, no_more, followed, Function, Typed}

-- a node
pub data Node : Type 0 where
  -- a number that is written in the text
  a_literal : ℤ → Node
  -- a call of the library with its operands, of which the variable that it moves is the first
  a_call : Head → Operands → Node
  -- a call of a function of the text, by its number
  an_own_call : ℕ → Operands → Node
  -- an operator on numbers between two operands, but for `&&` and `||`
  an_operator : Expr → Expr → Node
  -- `++` or `--` of a number
  a_step : Left → Node
  -- a use of a reference, at its name, with the name's number
  a_use : Place → ℕ → Node
  -- a loop, by its number
  a_loop : ℕ → Node
  -- a range-for, at its word, with the number of its container's name
  a_range : Place → ℕ → Node
  -- a declared variable
  a_variable : VariableKind → Node
  -- a closing brace, with the number of its site, if it has one, and whether its block declares a container
  a_brace : Option ℕ → Bool → Node

unfoldable mutual
  -- the nodes of an expression
  pub nodes_in : Expr → List Node
  nodes_in (literal s z) = a_literal z ∷ []
  nodes_in (held l) = nodes_in_left l
  nodes_in (iterator x) = []
  nodes_in (convert s e) = nodes_in e
  nodes_in (negate s at e) = nodes_in e
  nodes_in (logical_not at e) = nodes_in e
  nodes_in (logical_and at d e) = nodes_in d ++ nodes_in e
  nodes_in (logical_or at d e) = nodes_in d ++ nodes_in e
  nodes_in (arithmetic op s at d e) = an_operator d e ∷ (nodes_in d ++ nodes_in e)
  nodes_in (comparison op at d e) = an_operator d e ∷ (nodes_in d ++ nodes_in e)
  nodes_in (increment step fix s at l) = a_step l ∷ nodes_in_left l
  nodes_in (move fix x h ops) = a_call h (with (iterator x) ops) ∷ nodes_in_operands ops
  nodes_in (call h ops) = a_call h ops ∷ nodes_in_operands ops
  nodes_in (own_call n at ops) = an_own_call n ops ∷ nodes_in_operands ops
  nodes_in (first at e) = nodes_in e
  nodes_in (second at e) = nodes_in e
  nodes_in (container x) = []
  nodes_in (handed_scalar x) = []

  -- those of a left side
  pub nodes_in_left : Left → List Node
  nodes_in_left (scalar x at) = []
  nodes_in_left (reference x at name part) = a_use at name ∷ []
  nodes_in_left (element h ops) = a_call h ops ∷ nodes_in_operands ops

  -- those of operands
  pub nodes_in_operands : Operands → List Node
  nodes_in_operands none = []
  nodes_in_operands (with e rest) = nodes_in e ++ nodes_in_operands rest

-- those of an expression that may be missing
abbrev pub nodes_in_value : Option Expr → List Node
nodes_in_value None = []
nodes_in_value (Some e) = nodes_in e

-- those of a condition
abbrev pub nodes_in_cond : Cond → List Node
nodes_in_cond (test e) = nodes_in e
nodes_in_cond k = []

-- those of an item of a print
abbrev pub nodes_in_printed : Printed → List Node
nodes_in_printed (number e) = nodes_in e
nodes_in_printed item = []

-- those of an effect
abbrev pub nodes_in_effect : Effect → List Node
nodes_in_effect (reads xs) = []
nodes_in_effect (prints items) = flat_map nodes_in_printed items
nodes_in_effect (evaluates e) = nodes_in e
nodes_in_effect (assigns l e) = nodes_in_left l ++ nodes_in e
nodes_in_effect (updates op s r at l e) = nodes_in_left l ++ nodes_in e
nodes_in_effect (moves_to x e) = nodes_in e

-- those of an effect that may be missing
abbrev pub nodes_in_last : Option Effect → List Node
nodes_in_last None = []
nodes_in_last (Some w) = nodes_in_effect w

-- those of a declaration, the variable last
abbrev pub nodes_in_declaration : Declaration → List Node
nodes_in_declaration (unset_scalar s) = a_variable variables.Scalar ∷ []
nodes_in_declaration (set_scalar s e) = nodes_in e ++ a_variable variables.Scalar ∷ []
nodes_in_declaration (set_iterator e) = nodes_in e ++ a_variable variables.Iterator ∷ []
nodes_in_declaration (binds_reference h ops) = a_call h ops ∷ (nodes_in_operands ops ++ a_variable variables.Reference ∷ [])
nodes_in_declaration (makes form h ops) = a_call h ops ∷ (nodes_in_operands ops ++ a_variable variables.Container ∷ [])

-- those of the first part of a `for`
abbrev pub nodes_in_first : First → List Node
nodes_in_first no_first = []
nodes_in_first (declares_first d) = nodes_in_declaration d
nodes_in_first (does_first w) = nodes_in_effect w

-- the variable of a range-for
abbrev pub element_variable : Taken → VariableKind
element_variable taken.Value = variables.Scalar
element_variable taken.Reference = variables.Reference

-- a block declares a container
abbrev pub has_container : Stmts → Bool
has_container no_more = false
has_container (followed (declares (makes form h ops)) rest) = true
has_container (followed b rest) = has_container rest

unfoldable mutual
  -- the nodes of a statement
  pub nodes_in_stmt : Stmt → List Node
  nodes_in_stmt (block site all) = nodes_in_stmts all ++ a_brace site (has_container all) ∷ []
  nodes_in_stmt (declares d) = nodes_in_declaration d
  nodes_in_stmt (choice k b) = nodes_in_cond k ++ nodes_in_stmt b
  nodes_in_stmt (choice_else k b c) = nodes_in_cond k ++ (nodes_in_stmt b ++ nodes_in_stmt c)
  nodes_in_stmt (while n k b) = a_loop n ∷ (nodes_in_cond k ++ nodes_in_stmt b)
  nodes_in_stmt (for n head k last b) = a_loop n ∷ (nodes_in_first head ++ (nodes_in_cond k ++ (nodes_in_last last ++ nodes_in_stmt b)))
  nodes_in_stmt (range_for n how x at name b) = a_loop n ∷ (a_range at name ∷ (a_variable (element_variable how) ∷ nodes_in_stmt b))
  nodes_in_stmt break = []
  nodes_in_stmt continue = []
  nodes_in_stmt (gives_back value) = nodes_in_value value
  nodes_in_stmt (does w) = nodes_in_effect w

  -- those of statements
  pub nodes_in_stmts : Stmts → List Node
  nodes_in_stmts no_more = []
  nodes_in_stmts (followed b rest) = nodes_in_stmt b ++ nodes_in_stmts rest

-- the nodes of a text
abbrev pub nodes_of : Typed → List Node
nodes_of p = flat_map (λ (f : Function). nodes_in_stmt f.body) p.functions
