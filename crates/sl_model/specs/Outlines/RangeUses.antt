-- When the body of a range-for over a container counts as leaving its elements where they are: the container stands in the body only in
-- calls that read it, as a bound of a range, or as an argument for a reference that is const or for elements alone. By reference over a
-- form with keys and values it doesn't stand before `[]` either.
--
-- Restates ISO/IEC 14882:2017, [stmt.ranged]: the two hidden iterators are taken once.
-- Chosen here: the calls. It is the condition of the fact rules `range_for` and `range_for_reference`.
use Rattle.std.specs.Prelude.{ℕ, ◌==◌, Bool, true, false, not, ◌&&◌, ◌||◌, List, [], ◌∷◌, Option, Some, None, if◌then◌else◌}
use Rattle.sl_specs.specs.declared.call.Call.{Call}
use Rattle.sl_specs.specs.declared.call.Call.TheVariants as c
use Rattle.sl_syntax.specs.declared.operator.Access.TheVariants as access
use Rattle.sl_syntax.specs.declared.typed.head.Head.{Head}
use Rattle.sl_syntax.specs.declared.typed.parameter.ParameterKind.{ParameterKind}
use Rattle.sl_syntax.specs.declared.typed.parameter.ParameterKind.TheVariants as parameter
use Rattle.sl_syntax.specs.Typed.{Expr, literal, held, iterator, convert, negate, logical_not, logical_and, logical_or, arithmetic, comparison}
use Rattle.sl_syntax.specs.Typed.{increment, move, call, own_call, first, second, container, handed_scalar, Left, scalar, reference, element}
use Rattle.sl_syntax.specs.Typed.{Operands, none, with, Cond, test, Printed, text, endline, number as printed_number}
use Rattle.sl_syntax.specs.Typed.{Effect, reads, prints, evaluates, assigns, updates, moves_to, Declaration, unset_scalar, set_scalar}
use Rattle.sl_syntax.specs.Typed.{set_iterator, binds_reference, makes, First, no_first, declares_first, does_first, Stmt, block, declares}
use Rattle.sl_syntax.specs.Typed.{choice, choice_else, while, for, range_for, break, continue, gives_back, does, Stmts, no_more, followed, Typed}
use Rattle.sl_model.specs.Outlines.FactOperands.{table_row}
use Rattle.sl_model.specs.Outlines.FactsOfExpressions.{parameters_of}

-- the container, the text, and whether `[]` may stand on it
pub record Watched : Type 0 where
  pub container : ℕ
  pub text : Typed
  pub may_index : Bool

-- a call that reads its object and changes nothing
abbrev pub only_reads : Watched → Call → Bool
only_reads w c.Size = true
only_reads w c.Empty = true
only_reads w c.Begin = true
only_reads w c.End = true
only_reads w c.Front = true
only_reads w c.Back = true
only_reads w c.At = true
only_reads w c.Subscript = w.may_index
only_reads w c.Find = true
only_reads w c.Count = true
only_reads w c.LowerBound = true
only_reads w c.UpperBound = true
only_reads w name = false

-- the call's object is another container, or the call reads it
abbrev pub is_fine_call : Watched → Head → Bool
is_fine_call w h = elim h.object [
  | None ↦ true
  | Some x ↦ if x == w.container then elim (table_row h.callee) [ None ↦ false | Some r ↦ only_reads w r.call ] else true
]

-- an operand is another container, or none
abbrev pub is_other_operand : Watched → Expr → Bool
is_other_operand w (container x) = not (x == w.container)
is_other_operand w e = true

-- the parameter is a reference that is const, or one for elements alone
abbrev pub leaves_container : ParameterKind → Bool
leaves_container (parameter.Container access.Const form) = true
leaves_container (parameter.Container access.Elements form) = true
leaves_container k = false

-- no operand of a call of the library is the container
abbrev pub are_other_operands : Watched → Operands → Bool
are_other_operands w none = true
are_other_operands w (with a rest) = is_other_operand w a && are_other_operands w rest

-- the container is handed to fine parameters alone
abbrev pub are_fine_arguments : Watched → List ParameterKind → Operands → Bool
are_fine_arguments w (k ∷ ks) (with a rest) = (is_other_operand w a || leaves_container k) && are_fine_arguments w ks rest
are_fine_arguments w ks ops = are_other_operands w ops

unfoldable mutual
  -- an expression leaves the container's elements where they are
  pub leaves_in : Watched → Expr → Bool
  leaves_in w (literal ty z) = true
  leaves_in w (held l) = leaves_in_left w l
  leaves_in w (iterator x) = true
  leaves_in w (convert ty a) = leaves_in w a
  leaves_in w (negate ty at a) = leaves_in w a
  leaves_in w (logical_not at a) = leaves_in w a
  leaves_in w (logical_and at a b) = leaves_in w a && leaves_in w b
  leaves_in w (logical_or at a b) = leaves_in w a && leaves_in w b
  leaves_in w (arithmetic op ty at a b) = leaves_in w a && leaves_in w b
  leaves_in w (comparison op at a b) = leaves_in w a && leaves_in w b
  leaves_in w (increment step fix ty at l) = leaves_in_left w l
  leaves_in w (move fix x h ops) = leaves_in_all w ops
  leaves_in w (call h ops) = is_fine_call w h && are_other_operands w ops && leaves_in_all w ops
  leaves_in w (own_call f at ops) = are_fine_arguments w (parameters_of w.text f) ops && leaves_in_all w ops
  leaves_in w (first at a) = leaves_in w a
  leaves_in w (second at a) = leaves_in w a
  leaves_in w (container x) = true
  leaves_in w (handed_scalar x) = true

  -- a left side does
  pub leaves_in_left : Watched → Left → Bool
  leaves_in_left w (scalar x at) = true
  leaves_in_left w (reference r at name part) = true
  leaves_in_left w (element h ops) = is_fine_call w h && leaves_in_all w ops

  -- operands do, but for what their call does with containers
  pub leaves_in_all : Watched → Operands → Bool
  leaves_in_all w none = true
  leaves_in_all w (with a rest) = leaves_in w a && leaves_in_all w rest

-- a condition does
abbrev pub leaves_in_condition : Watched → Cond → Bool
leaves_in_condition w (test e) = leaves_in w e
leaves_in_condition w k = true

-- the items of a print do
abbrev pub leaves_in_print : Watched → List Printed → Bool
leaves_in_print w [] = true
leaves_in_print w (printed_number e ∷ ps) = leaves_in w e && leaves_in_print w ps
leaves_in_print w (text bytes ∷ ps) = leaves_in_print w ps
leaves_in_print w (endline ∷ ps) = leaves_in_print w ps

-- an effect does
abbrev pub leaves_in_effect : Watched → Effect → Bool
leaves_in_effect w (reads xs) = true
leaves_in_effect w (prints ps) = leaves_in_print w ps
leaves_in_effect w (evaluates e) = leaves_in w e
leaves_in_effect w (assigns l e) = leaves_in_left w l && leaves_in w e
leaves_in_effect w (updates op ty left_ty at l e) = leaves_in_left w l && leaves_in w e
leaves_in_effect w (moves_to it e) = leaves_in w e

-- a declaration does
abbrev pub leaves_in_declaration : Watched → Declaration → Bool
leaves_in_declaration w (unset_scalar ty) = true
leaves_in_declaration w (set_scalar ty e) = leaves_in w e
leaves_in_declaration w (set_iterator e) = leaves_in w e
leaves_in_declaration w (binds_reference h ops) = is_fine_call w h && leaves_in_all w ops
leaves_in_declaration w (makes form h ops) = are_other_operands w ops && leaves_in_all w ops

-- the first part of a `for` does
abbrev pub leaves_in_first : Watched → First → Bool
leaves_in_first w no_first = true
leaves_in_first w (declares_first d) = leaves_in_declaration w d
leaves_in_first w (does_first e) = leaves_in_effect w e

-- the last part of a `for`, or none, does
abbrev pub leaves_in_last : Watched → Option Effect → Bool
leaves_in_last w None = true
leaves_in_last w (Some e) = leaves_in_effect w e

-- a value that is given back, or none, does
abbrev pub leaves_in_result : Watched → Option Expr → Bool
leaves_in_result w None = true
leaves_in_result w (Some e) = leaves_in w e

unfoldable mutual
  -- a statement leaves the container's elements where they are
  pub leaves_in_stmt : Watched → Stmt → Bool
  leaves_in_stmt w (block site all) = leaves_in_stmts w all
  leaves_in_stmt w (declares d) = leaves_in_declaration w d
  leaves_in_stmt w (choice k a) = leaves_in_condition w k && leaves_in_stmt w a
  leaves_in_stmt w (choice_else k a b) = leaves_in_condition w k && (leaves_in_stmt w a && leaves_in_stmt w b)
  leaves_in_stmt w (while n k a) = leaves_in_condition w k && leaves_in_stmt w a
  leaves_in_stmt w (for n head k last a) =
      leaves_in_first w head && (leaves_in_condition w k && (leaves_in_last w last && leaves_in_stmt w a))
  leaves_in_stmt w (range_for n taken x at name a) = not (x == w.container) && leaves_in_stmt w a
  leaves_in_stmt w break = true
  leaves_in_stmt w continue = true
  leaves_in_stmt w (gives_back e) = leaves_in_result w e
  leaves_in_stmt w (does e) = leaves_in_effect w e

  -- statements do
  pub leaves_in_stmts : Watched → Stmts → Bool
  leaves_in_stmts w no_more = true
  leaves_in_stmts w (followed a rest) = leaves_in_stmt w a && leaves_in_stmts w rest
