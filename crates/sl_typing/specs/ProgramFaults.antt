-- The rules that a program breaks, in the order in which they are tried. A function's own rules come after its parameters and its body, those of the
-- program last.
--
-- Restates ISO/IEC 14882:2017, [basic.start.main], [basic.scope.declarative] (names that are declared twice) and [vector.overview] and its like (an
-- iterator type is called `iterator` or `const_iterator`).
-- Chosen here: which names are the library's, the limits, and that a second function of a name is the one that its own body calls.
use Rattle.std.specs.Prelude.{ℕ, ◌+◌, ◌==◌, Bool, true, false, not, ◌&&◌, ◌||◌, List, [], ◌∷◌, ◌++◌, length, None, is_some, codes}
use Rattle.std.specs.List.{list_any}
use Rattle.sl_base.specs.declared.limits.TheConstants.{FUNCTIONS, PARAMETERS}
use Rattle.sl_base.specs.declared.place.Place.{Place}
use Rattle.sl_base.specs.declared.scalar.Scalar.TheVariants as t
use Rattle.sl_syntax.specs.declared.tree.function.IteratorType.{IteratorType}
use Rattle.sl_syntax.specs.declared.tree.function.Param.{Param}
use Rattle.sl_syntax.specs.declared.tree.function.Param.TheVariants as p
use Rattle.sl_syntax.specs.declared.tree.function.ResultType.{ResultType}
use Rattle.sl_syntax.specs.declared.tree.function.ResultType.TheVariants as r
use Rattle.sl_syntax.specs.Tree.{Function, Program}
use Rattle.sl_typing.specs.declared.fault.Fault.{Fault}
use Rattle.sl_typing.specs.declared.rules.TheConstants as rule
use Rattle.sl_typing.specs.Candidates.{is_algorithm_name, first_row, has_row}
use Rattle.sl_typing.specs.Scopes.{function_named, is_iterator_name, name_of_parameter, parameter_kind, type_of_kind, is_among}
use Rattle.sl_typing.specs.Contexts.{Context, declare}
use Rattle.sl_typing.specs.Sites.{declares_container, is_site, own_site, sites_in, sites_in_all, site_count, at_word, inside}
use Rattle.sl_typing.specs.Rules.{is_main_name, no_such_call, writes_to_const, assigns_const, is_alias, calls_main, is_weaker, assigns_weaker, is_lone_appender, is_site_too_many}
use Rattle.sl_typing.specs.Faults.{broken, own_faults, faults, faults_of_all}
use Rattle.sl_typing.specs.Flow.{before_parameters, in_function, at_brace, after_function, after, after_item, after_items}
use Rattle.sl_typing.specs.StatementFaults.{site_faults, twice_faults, limit_faults, items_faults, stmt_faults, item_faults}
use Rattle.sl_typing.specs.TypeOf.{type_of, types_of}
use Rattle.sl_typing.specs.Looks.{is_left_side}
use Rattle.sl_typing.specs.WrongType.{may_be_element, wrong_type, wrong_assignment}
use Rattle.sl_typing.specs.Order.{deeds, deeds_of_all, is_still, order_matters}

-- no iterator type has the name behind `::`
abbrev pub iterator_faults : IteratorType → List Fault
iterator_faults i = broken (not (is_iterator_name i.name.name)) i.name.place rule.WRONG_TYPE

-- those of the type of a parameter, and of what a function gives
abbrev pub type_faults : Param → List Fault
type_faults (p.Iterator i x) = iterator_faults i
type_faults q = []

abbrev pub result_faults : ResultType → List Fault
result_faults (r.Iterator i) = iterator_faults i
result_faults result = []

-- what is known behind a parameter
abbrev pub behind_parameter : Context → Param → Context
behind_parameter g q = declare (name_of_parameter q) (type_of_kind (parameter_kind q)) g

-- those of parameters, of which k stand before
abbrev pub parameter_faults : Context → ℕ → List Param → List Fault
parameter_faults g k [] = []
parameter_faults g k (q ∷ qs) = let x = name_of_parameter q in
    twice_faults g x
    ++ type_faults q
    ++ limit_faults g (behind_parameter g q) x.place
    ++ broken (k == PARAMETERS) x.place rule.TOO_MANY_PARAMETERS
    ++ parameter_faults (behind_parameter g q) (k + 1) qs

-- the function is called `main`
abbrev pub is_main : Function → Bool
is_main f = is_main_name f.name.name

-- `int ..()`
abbrev pub is_main_head : ResultType → List Param → Bool
is_main_head (r.Scalar t.Int) [] = true
is_main_head result params = false

-- the name is one of the library's: of an algorithm, or one that all containers have
abbrev pub is_library_name : List ℕ → Bool
is_library_name name =
    is_algorithm_name name || is_among name (codes "begin" ∷ codes "end" ∷ codes "size" ∷ codes "empty" ∷ codes "swap" ∷ [])

-- those of a function: its result, its parameters, its body, its closing brace, and its own
abbrev pub function_faults : Context → Function → List Fault
function_faults g f =
    result_faults f.result
    ++ parameter_faults (before_parameters g f) 0 f.params
    ++ items_faults (in_function g f) f.items
    ++ site_faults (at_brace g f) (declares_container f.items) f.closes
    ++ broken (is_some (function_named g.scope f.name.name)) f.name.place rule.DECLARED_TWICE
    ++ broken (is_main f && not (is_main_head f.result f.params)) f.name.place rule.NO_MAIN
    ++ broken (is_library_name f.name.name) f.name.place rule.LIBRARY_NAME
    ++ broken (length g.scope.functions == FUNCTIONS) f.name.place rule.TOO_MANY_FUNCTIONS

-- those of functions
abbrev pub functions_faults : Context → List Function → List Fault
functions_faults g [] = []
functions_faults g (f ∷ fs) = function_faults g f ++ functions_faults (after_function g f) fs

-- what is known at the start of a text
abbrev pub start : Context
start = record {
  scope = record { variables = []; outer = 0; functions = []; result = None; in_loop = false };
  sites = [];
  loops = [];
  statements = 0;
  names = [];
  variables = [];
}

-- the place of a text's first byte
abbrev pub first_place : Place
first_place = record { line = 1; col = 1 }

-- the rules that a program breaks
unfoldable pub program_faults : Program → List Fault
unfolding first_row has_row type_of types_of is_left_side is_site own_site sites_in sites_in_all site_count at_word inside may_be_element wrong_type
    wrong_assignment deeds deeds_of_all is_still order_matters no_such_call writes_to_const assigns_const is_alias calls_main is_weaker
    assigns_weaker is_lone_appender is_site_too_many own_faults faults faults_of_all after after_item after_items stmt_faults item_faults
    items_faults
program_faults p = functions_faults start p ++ broken (not (list_any is_main p)) first_place rule.NO_MAIN
