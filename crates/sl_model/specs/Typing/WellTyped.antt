-- The typed texts that everything behind typing is about: each number names what is there, and each node has what it needs.
--
-- Restates ISO/IEC 14882:2017 as the parts do, [basic.start.main], and [implimits] by numbers of its own.
-- Chosen here: a text is judged by its tree alone. So it may have what no source text has: functions that are copies of one and share its sites and
-- loops, calls of functions that stand later, and parameters for elements alone. `w = v` is right where v is const. Not asked is what the tree
-- doesn't say: which names are declared twice or are the library's, and whether a reference was written const.
use Rattle.std.specs.Prelude.{◌≡◌, nat_le, Bool, true, ◌&&◌, length, slice_get}
use Rattle.std.specs.List.{list_all}
use Rattle.sl_base.specs.declared.limits.TheConstants.{FUNCTIONS, SITES}
use Rattle.sl_specs.specs.Table.{table}
use Rattle.sl_syntax.specs.Typed.{Typed}
use Rattle.sl_model.specs.Typing.WellTypedExpressions.{type_of, type_of_left, types_of}
use Rattle.sl_model.specs.Typing.WellTypedNodes.{nodes_in, nodes_in_left, nodes_in_operands, nodes_in_stmt, nodes_in_stmts, nodes_of}
use Rattle.sl_model.specs.Typing.WellTypedStatements.{is_typed_stmt, are_typed_stmts, is_typed_function, is_main}
use Rattle.sl_model.specs.Typing.WellTypedOrder.{is_still, binds_apart, is_ordered}
use Rattle.sl_model.specs.Typing.WellTypedNumbers.{has_due_site, is_numbered, tells_names, lists_variables, are_constants, literal_is_held}
use Rattle.sl_model.specs.Typing.WellTypedNumbers.{agrees_with_all}

-- there are no more functions and sites than there may be
abbrev pub has_few : Typed → Bool
has_few p = nat_le (length p.functions) FUNCTIONS && nat_le (length p.sites) SITES

-- `main` is there, takes nothing and gives an int
abbrev pub has_main : Typed → Bool
has_main p = is_main (slice_get p.functions p.main)

-- Each function has the types, constness and places that its nodes need: variables, functions and rows are there, no more variables are in scope
-- than there may be, `break` and `continue` stand in loops, and a value is given back exactly where one is due.
unfoldable pub has_types : Typed → Bool
unfolding table type_of type_of_left types_of is_typed_stmt are_typed_stmts
has_types p = list_all (is_typed_function p) p.functions

-- no variable is bound to two references of a call
unfoldable pub has_no_alias : Typed → Bool
unfolding nodes_in nodes_in_left nodes_in_operands nodes_in_stmt nodes_in_stmts
has_no_alias p = list_all binds_apart (nodes_of p)

-- no order of effects that is open matters
unfoldable pub has_order : Typed → Bool
unfolding table nodes_in nodes_in_left nodes_in_operands nodes_in_stmt nodes_in_stmts is_still
has_order p = list_all (is_ordered p.functions) (nodes_of p)

-- what can invalidate is a site, and nothing else
unfoldable pub has_sites : Typed → Bool
unfolding table nodes_in nodes_in_left nodes_in_operands nodes_in_stmt nodes_in_stmts
has_sites p = list_all has_due_site (nodes_of p)

-- sites and loops are there, and numbered in the order of the text
unfoldable pub has_numbers : Typed → Bool
unfolding nodes_in nodes_in_left nodes_in_operands nodes_in_stmt nodes_in_stmts
has_numbers p = list_all (is_numbered p) p.functions

-- names are there
unfoldable pub has_names : Typed → Bool
unfolding nodes_in nodes_in_left nodes_in_operands nodes_in_stmt nodes_in_stmts
has_names p = list_all (tells_names (length p.names)) (nodes_of p)

-- each function lists its variables, with names that are there
unfoldable pub has_variables : Typed → Bool
unfolding nodes_in nodes_in_left nodes_in_operands nodes_in_stmt nodes_in_stmts
has_variables p = list_all (lists_variables (length p.names)) p.functions

-- the constants ascend, and hold 0, 1 and each literal with its two neighbours
unfoldable pub has_constants : Typed → Bool
unfolding nodes_in nodes_in_left nodes_in_operands nodes_in_stmt nodes_in_stmts
has_constants p = are_constants p.constants && list_all (literal_is_held p.constants) (nodes_of p)

-- nodes with needs that stand at one place are calls of one name, with the same names of arguments
unfoldable pub has_one_asker : Typed → Bool
unfolding table nodes_in nodes_in_left nodes_in_operands nodes_in_stmt nodes_in_stmts
has_one_asker p = list_all (agrees_with_all (nodes_of p)) (nodes_of p)

-- a text is well typed
pub record WellTyped (p : Typed) : Type 0 where
  pub few : has_few p ≡ true
  pub main : has_main p ≡ true
  pub types : has_types p ≡ true
  pub no_alias : has_no_alias p ≡ true
  pub order : has_order p ≡ true
  pub sites : has_sites p ≡ true
  pub numbers : has_numbers p ≡ true
  pub names : has_names p ≡ true
  pub variables : has_variables p ≡ true
  pub constants : has_constants p ≡ true
  pub one_asker : has_one_asker p ≡ true
