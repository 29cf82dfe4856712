-- What a function assigns to its iterators, and which functions of the text it calls where, in source order.
--
-- Restates ISO/IEC 14882:2017, [basic.scope.declarative], [basic.scope.block], [stmt.for] and [stmt.ranged]: what is in scope where.
-- Chosen here: nothing more.
use Rattle.std.specs.Prelude.{List, [], ◌∷◌, ◌++◌, slice_get, Option, Some, None}
use Rattle.sl_syntax.specs.declared.typed.element.Taken.{Taken}
use Rattle.sl_syntax.specs.declared.typed.element.Taken.TheVariants as taken
use Rattle.sl_syntax.specs.declared.typed.parameter.ParameterKind.{ParameterKind}
use Rattle.sl_syntax.specs.declared.typed.parameter.ParameterKind.TheVariants as parameter
use Rattle.sl_syntax.specs.Typed.{Expr, Cond, test, Printed, Effect, reads, prints, evaluates, assigns, updates, moves_to}
use Rattle.sl_syntax.specs.Typed.{Declaration, unset_scalar, set_scalar, set_iterator, binds_reference, makes, First, no_first, declares_first}
use Rattle.sl_syntax.specs.Typed.{does_first, Stmt, block, declares, choice, choice_else, while, for, range_for, break, continue, gives_back, does}
use Rattle.sl_syntax.specs.Typed.{Stmts, no_more, followed, Function, Typed}
use Rattle.sl_model.specs.Outlines.Sources.{Declared, none_declared, with_container, with_iterator, CallSite, Walked, walked_calls, then_walked, scoped}
use Rattle.sl_model.specs.Outlines.Sources.{calls_in, calls_in_left, calls_in_all, calls_in_item, flow_to}

-- the items of a print
abbrev pub walk_print : Declared → List Printed → List CallSite
walk_print d [] = []
walk_print d (a ∷ ps) = calls_in_item d a ++ walk_print d ps

-- an effect
abbrev pub walk_effect : Typed → Declared → Effect → Walked
walk_effect p d (reads xs) = walked_calls d []
walk_effect p d (prints ps) = walked_calls d (walk_print d ps)
walk_effect p d (evaluates e) = walked_calls d (calls_in d e)
walk_effect p d (assigns l e) = walked_calls d (calls_in d e ++ calls_in_left d l)
walk_effect p d (updates op ty left_ty at l e) = walked_calls d (calls_in d e ++ calls_in_left d l)
walk_effect p d (moves_to it e) = record { flows = flow_to p d (slice_get d.iterators it) e; calls = calls_in d e; behind = d }

-- a declaration
abbrev pub walk_declaration : Typed → Declared → Declaration → Walked
walk_declaration p d (unset_scalar ty) = walked_calls d []
walk_declaration p d (set_scalar ty e) = walked_calls d (calls_in d e)
walk_declaration p d (set_iterator e) =
    record { flows = flow_to p d (Some d.iterators_before) e; calls = calls_in d e; behind = with_iterator d }
walk_declaration p d (binds_reference h ops) = walked_calls (with_iterator d) (calls_in_all d ops)
walk_declaration p d (makes form h ops) = walked_calls (with_container d) (calls_in_all d ops)

-- a condition
abbrev pub walk_condition : Declared → Cond → Walked
walk_condition d (test e) = walked_calls d (calls_in d e)
walk_condition d k = walked_calls d []

-- the first part of a `for`
abbrev pub walk_first : Typed → Declared → First → Walked
walk_first p d no_first = walked_calls d []
walk_first p d (declares_first a) = walk_declaration p d a
walk_first p d (does_first e) = walk_effect p d e

-- its last part
abbrev pub walk_last : Typed → Declared → Option Effect → Walked
walk_last p d None = walked_calls d []
walk_last p d (Some e) = walk_effect p d e

-- the value that a `return` gives back
abbrev pub walk_result : Declared → Option Expr → Walked
walk_result d None = walked_calls d []
walk_result d (Some e) = walked_calls d (calls_in d e)

-- what is declared in the body of a range-for: two hidden iterators, and a reference if it takes one
abbrev pub with_taken : Taken → Declared → Declared
with_taken taken.Value d = with_iterator (with_iterator d)
with_taken taken.Reference d = with_iterator (with_iterator (with_iterator d))

unfoldable mutual
  -- a statement
  pub walk_stmt : Typed → Declared → Stmt → Walked
  walk_stmt p d (block site all) = scoped d (walk_stmts p d all)
  walk_stmt p d (declares a) = walk_declaration p d a
  walk_stmt p d (choice k a) = then_walked (walk_condition d k) (λ e. walk_stmt p e a)
  walk_stmt p d (choice_else k a b) = then_walked (walk_condition d k) (λ e. then_walked (walk_stmt p e a) (λ g. walk_stmt p g b))
  walk_stmt p d (while n k a) = then_walked (walk_condition d k) (λ e. walk_stmt p e a)
  walk_stmt p d (for n head k last a) = scoped d (then_walked (walk_first p d head) (λ e. then_walked (walk_condition e k)
      (λ g. then_walked (walk_last p g last) (λ h. walk_stmt p h a))))
  walk_stmt p d (range_for n k x at name a) = scoped d (walk_stmt p (with_taken k d) a)
  walk_stmt p d break = walked_calls d []
  walk_stmt p d continue = walked_calls d []
  walk_stmt p d (gives_back e) = walk_result d e
  walk_stmt p d (does e) = walk_effect p d e

  -- statements in turn
  pub walk_stmts : Typed → Declared → Stmts → Walked
  walk_stmts p d no_more = walked_calls d []
  walk_stmts p d (followed a rest) = then_walked (walk_stmt p d a) (λ e. walk_stmts p e rest)

-- what is declared behind a parameter
abbrev pub with_parameter : ParameterKind → Declared → Declared
with_parameter (parameter.Value ty) d = d
with_parameter (parameter.Reference ty) d = d
with_parameter (parameter.Container a form) d = with_container d
with_parameter (parameter.Iterator is_const form) d = with_iterator d

-- what is declared behind parameters
abbrev pub with_parameters : List ParameterKind → Declared → Declared
with_parameters [] d = d
with_parameters (k ∷ ks) d = with_parameters ks (with_parameter k d)

-- a function
abbrev pub walk_function : Typed → Function → Walked
walk_function p f = walk_stmt p (with_parameters f.parameters none_declared) f.body
