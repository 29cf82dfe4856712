-- The rules that statements and their parts break, in the order in which they are tried. A statement's and a declaration's own rules come after its
-- parts.
--
-- Restates ISO/IEC 14882:2017, [basic.scope.declarative] (names that are declared twice), [stmt.select] and [stmt.iter] (conditions), [stmt.break]
-- and [stmt.cont], [stmt.return], [dcl.spec.auto], [dcl.init], [dcl.init.ref] (initialisers), [istream.formatted.arithmetic].
-- Chosen here: the limits. A read takes variables of type int.
use Rattle.std.specs.Prelude.{ℕ, ◌+◌, ◌==◌, Bool, true, false, not, ◌&&◌, ◌||◌, List, [], ◌∷◌, ◌++◌, length, flat_map, Option, Some, None, is_none, is_some}
use Rattle.std.specs.List.{list_all, list_any}
use Rattle.sl_base.specs.declared.limits.TheConstants.{SITES, LIST_ELEMENTS, STATEMENTS}
use Rattle.sl_base.specs.declared.place.Place.{Place}
use Rattle.sl_base.specs.declared.form.Form.{Form}
use Rattle.sl_base.specs.declared.scalar.Scalar.TheVariants as t
use Rattle.sl_syntax.specs.declared.tree.effect.Read.{Read}
use Rattle.sl_syntax.specs.declared.tree.identifier.Identifier.{Identifier}
use Rattle.sl_syntax.specs.declared.typed.parameter.ParameterKind.{ParameterKind}
use Rattle.sl_syntax.specs.declared.typed.parameter.ParameterKind.TheVariants as parameters
use Rattle.sl_syntax.specs.Tree as s
use Rattle.sl_syntax.specs.Tree.{Expr, Exprs, Initializer, Declaration, Out, Effect, Cond, First, Stmt, Item, Items}
use Rattle.sl_typing.specs.declared.expr_type.ExprType.{ExprType}
use Rattle.sl_typing.specs.declared.fault.Fault.{Fault}
use Rattle.sl_typing.specs.declared.rules.TheConstants as rule
use Rattle.sl_typing.specs.declared.standing.Standing.TheVariants as standing
use Rattle.sl_typing.specs.Types.{is_number, is_iterator, is_written, goes_into, is_container_of}
use Rattle.sl_typing.specs.Arguments.{is_listed}
use Rattle.sl_typing.specs.Candidates.{has_row, is_constructor_of, list_constructor, constructor_row}
use Rattle.sl_typing.specs.Scopes.{type_of_name, is_declared, passes_some_limit}
use Rattle.sl_typing.specs.Contexts.{Context, enter, started, started_loop}
use Rattle.sl_typing.specs.TypeOf.{size, type_of, types_of}
use Rattle.sl_typing.specs.Looks.{place_of}
use Rattle.sl_typing.specs.Sites.{behind, is_assignment_site, declares_container}
use Rattle.sl_typing.specs.WrongType.{is_exactly, wrong_assignment}
use Rattle.sl_typing.specs.Order.{some_clash}
use Rattle.sl_typing.specs.Rules.{is_unknown_variable, assigns_const, assigns_weaker}
use Rattle.sl_typing.specs.Faults.{broken, faults, faults_of_all}
use Rattle.sl_typing.specs.Ranges.{may_be_bound, head_frees_const, may_go_over, frees_const}
use Rattle.sl_typing.specs.Flow.{behind_declaration, behind_out, behind_left, behind_cond, behind_hidden, at_test, at_last, in_for, in_range, in_while}
use Rattle.sl_typing.specs.Flow.{after, after_item, after_items}

-- the rules that an expression breaks that stands as any part
abbrev pub expr_faults : Context → Expr → List Fault
expr_faults g e = faults g.scope (length g.sites) standing.Plain e

-- a variable that isn't declared
abbrev pub name_faults : Context → Identifier → List Fault
name_faults g x = broken (is_unknown_variable g.scope x.name) x.place rule.UNKNOWN_NAME

-- a name means a variable of type int, and no reference
abbrev pub reads_int : Context → Identifier → Bool
reads_int g x = is_exactly t.Int (type_of_name g.scope x.name)

-- those of a read
abbrev pub read_faults : Context → Read → List Fault
read_faults g r = flat_map (name_faults g) r.variables ++ broken (not (list_all (reads_int g) r.variables)) r.place rule.WRONG_TYPE

-- those of an item of a print
abbrev pub out_faults : Context → Out → List Fault
out_faults g (s.value e) = expr_faults g e
out_faults g o = []

-- those of the items of a print
abbrev pub outs_faults : Context → List Out → List Fault
outs_faults g [] = []
outs_faults g (o ∷ os) = out_faults g o ++ outs_faults (behind_out g o) os

-- what is printed isn't a number
abbrev pub wrong_out : Context → Out → Bool
wrong_out g (s.value e) = not (is_number (type_of g.scope e))
wrong_out g o = false

-- the first site past the limit stands here
abbrev pub site_faults : Context → Bool → Place → List Fault
site_faults g is_site at = broken (is_site && (length g.sites == SITES)) at rule.TOO_MANY_SITES

-- those of an effect
abbrev pub effect_faults : Context → Effect → List Fault
effect_faults g (s.reads r) = read_faults g r
effect_faults g (s.prints at os) = outs_faults g os ++ broken (list_any (wrong_out g) os) at rule.WRONG_TYPE
effect_faults g (s.evaluates e) = expr_faults g e
effect_faults g (s.assigns x op at y) =
    expr_faults g x ++ expr_faults (behind_left g (s.assigns x op at y)) y
    ++ broken (wrong_assignment g.scope x op y) at rule.WRONG_TYPE
    ++ broken (assigns_const g.scope x) at rule.WRITE_TO_CONST
    ++ broken (assigns_weaker g.scope x op) at rule.WEAKER_ITERATOR
    ++ site_faults (behind g x) (is_assignment_site g.scope x op) at

-- those of a condition
abbrev pub cond_faults : Context → Cond → List Fault
cond_faults g (s.tests_read r) = read_faults g r
cond_faults g (s.tests_no_read at r) = read_faults g r
cond_faults g (s.tests e) = expr_faults g e

-- what is tested isn't a number
abbrev pub wrong_cond : Context → Cond → Bool
wrong_cond g (s.tests e) = not (is_number (type_of g.scope e))
wrong_cond g k = false

-- a name is declared in the innermost scope
abbrev pub twice_faults : Context → Identifier → List Fault
twice_faults g x = broken (is_declared g.scope x.name) x.place rule.DECLARED_TWICE

-- between two places variables of some sort pass the limit
abbrev pub limit_faults : Context → Context → Place → List Fault
limit_faults g h at = broken (passes_some_limit g.scope h.scope) at rule.TOO_MANY_VARIABLES

-- those of an initialiser, which may be missing
abbrev pub value_faults : Context → Option Expr → List Fault
value_faults g None = []
value_faults g (Some e) = expr_faults g e

-- a value isn't a number
abbrev pub wrong_value : Context → Option Expr → Bool
wrong_value g None = false
wrong_value g (Some e) = not (is_number (type_of g.scope e))

-- those of elements of a list in braces, of which k stand before; the first past the limit is refused behind itself
abbrev pub element_faults : Context → ℕ → Exprs → List Fault
element_faults g k s.none = []
element_faults g k (s.with x xs) =
    expr_faults g x ++ broken (k == LIST_ELEMENTS) (place_of x) rule.TOO_MANY_ELEMENTS ++ element_faults (behind g x) (k + 1) xs

-- those of what a container is made from
abbrev pub initializer_faults : Context → Initializer → List Fault
initializer_faults g s.absent = []
initializer_faults g (s.copies x) = name_faults g x
initializer_faults g (s.braces equal xs) = element_faults g 0 xs
initializer_faults g (s.arguments xs) = faults_of_all g.scope (length g.sites) standing.Plain xs

-- the form has no such constructor; braces without elements are those of an empty container
abbrev pub has_no_constructor : Form → Initializer → Bool
has_no_constructor form (s.braces equal (s.with x xs)) = is_none (list_constructor form)
has_no_constructor form (s.arguments xs) = not (has_row (is_constructor_of form (size xs)))
has_no_constructor form value = false

-- it doesn't take these
abbrev pub wrong_initializer : Context → Form → Initializer → Bool
wrong_initializer g form s.absent = false
wrong_initializer g form (s.copies x) = not (is_container_of form (type_of_name g.scope x.name))
wrong_initializer g form (s.braces equal xs) = not (list_all is_listed (types_of g.scope xs))
wrong_initializer g form (s.arguments xs) = is_none (constructor_row form (types_of g.scope xs))

-- the order of its arguments could matter
abbrev pub is_disordered : Context → Initializer → Bool
is_disordered g (s.arguments xs) = some_clash g.scope xs
is_disordered g value = false

-- those of a declaration
abbrev pub declaration_faults : Context → Declaration → List Fault
declaration_faults g (s.declares_scalar at type x value) =
    value_faults g value
    ++ twice_faults g x
    ++ broken (wrong_value g value) at rule.WRONG_TYPE
    ++ limit_faults g (behind_declaration g (s.declares_scalar at type x value)) x.place
declaration_faults g (s.declares_auto at x e) =
    expr_faults g e
    ++ twice_faults g x
    ++ broken (not (is_number (type_of g.scope e) || is_iterator (type_of g.scope e))) x.place rule.AUTO
    ++ limit_faults g (behind_declaration g (s.declares_auto at x e)) x.place
declaration_faults g (s.declares_reference head x e) =
    expr_faults g e
    ++ twice_faults g x
    ++ broken (not (may_be_bound g.scope e)) head.place rule.WRONG_TYPE
    ++ broken (head_frees_const head (is_written (type_of g.scope e))) head.place rule.WRITE_TO_CONST
    ++ limit_faults g (behind_declaration g (s.declares_reference head x e)) x.place
declaration_faults g (s.declares_container ct x value) =
    initializer_faults g value
    ++ twice_faults g x
    ++ broken (has_no_constructor ct.form value) ct.place rule.NO_SUCH_CALL
    ++ broken (wrong_initializer g ct.form value) ct.place rule.WRONG_TYPE
    ++ broken (is_disordered g value) ct.place rule.ORDER_OF_EFFECTS
    ++ limit_faults g (behind_declaration g (s.declares_container ct x value)) x.place

-- the first token of a declaration
abbrev pub declaration_place : Declaration → Place
declaration_place (s.declares_scalar at type x value) = at
declaration_place (s.declares_auto at x e) = at
declaration_place (s.declares_reference head x e) = head.place
declaration_place (s.declares_container ct x value) = ct.place

-- those of the first part of a `for`
abbrev pub first_faults : Context → Option First → List Fault
first_faults g None = []
first_faults g (Some (s.first_scalar at type x e)) = declaration_faults g (s.declares_scalar at type x (Some e))
first_faults g (Some (s.first_auto at x e)) = declaration_faults g (s.declares_auto at x e)
first_faults g (Some (s.first_effect w)) = effect_faults g w

-- those of its condition
abbrev pub test_faults : Context → Option Cond → List Fault
test_faults g None = []
test_faults g (Some k) = cond_faults g k

-- what it tests is not a number
abbrev pub wrong_test : Context → Option Cond → Bool
wrong_test g None = false
wrong_test g (Some k) = wrong_cond g k

-- those of its last part
abbrev pub last_faults : Context → Option Effect → List Fault
last_faults g None = []
last_faults g (Some w) = effect_faults g w

-- a value goes to what a function gives; what a function that gives nothing gives back is left to another rule
abbrev pub goes_to_result : Option ParameterKind → ExprType → Bool
goes_to_result (Some (parameters.Value type)) u = is_number u
goes_to_result (Some (parameters.Iterator b form)) u = goes_into b form u
goes_to_result k u = true

-- a returned value, which may be missing, doesn't fit
abbrev pub wrong_result : Context → Option Expr → Bool
wrong_result g None = false
wrong_result g (Some e) = not (goes_to_result g.scope.result (type_of g.scope e))

-- a value where there is no result, or none where there is one
abbrev pub wrong_return : Option ParameterKind → Option Expr → Bool
wrong_return result None = is_some result
wrong_return result (Some e) = is_none result

-- the first statement past the limit begins here
abbrev pub statement_faults : Context → Place → List Fault
statement_faults g at = broken (g.statements == STATEMENTS) at rule.TOO_MANY_STATEMENTS

unfoldable mutual
  -- those of a statement
  pub stmt_faults : Context → Stmt → List Fault
  stmt_faults g (s.block at items close) =
      items_faults (enter g) items ++ site_faults (after_items (enter g) items) (declares_container items) close
  stmt_faults g (s.choice at k a) =
      cond_faults (started g) k ++ stmt_faults (behind_cond (started g) k) a
      ++ broken (wrong_cond (started g) k) at rule.WRONG_TYPE ++ statement_faults g at
  stmt_faults g (s.choice_else at k a b) =
      cond_faults (started g) k ++ stmt_faults (behind_cond (started g) k) a ++ stmt_faults (after (behind_cond (started g) k) a) b
      ++ broken (wrong_cond (started g) k) at rule.WRONG_TYPE ++ statement_faults g at
  stmt_faults g (s.while at k a) =
      cond_faults (started_loop at g) k ++ stmt_faults (in_while g at k) a
      ++ broken (wrong_cond (started_loop at g) k) at rule.WRONG_TYPE ++ statement_faults g at
  stmt_faults g (s.for at first k last a) =
      first_faults (enter (started_loop at g)) first
      ++ test_faults (at_test g at first) k
      ++ last_faults (at_last g at first k) last
      ++ stmt_faults (in_for g at first k last) a
      ++ broken (wrong_test (at_test g at first) k) at rule.WRONG_TYPE ++ statement_faults g at
  stmt_faults g (s.range_for at how x over a) =
      name_faults g over
      ++ stmt_faults (in_range g at how x over) a
      ++ broken (not (may_go_over how (type_of_name g.scope over.name))) at rule.WRONG_TYPE
      ++ broken (frees_const how (type_of_name g.scope over.name)) at rule.WRITE_TO_CONST
      ++ limit_faults (enter (started_loop at g)) (behind_hidden g at over) at
      ++ limit_faults (behind_hidden g at over) (in_range g at how x over) x.place
      ++ statement_faults g at
  stmt_faults g (s.break at) = broken (not g.scope.in_loop) at rule.OUTSIDE_A_LOOP ++ statement_faults g at
  stmt_faults g (s.continue at) = broken (not g.scope.in_loop) at rule.OUTSIDE_A_LOOP ++ statement_faults g at
  stmt_faults g (s.gives_back at value) =
      value_faults (started g) value
      ++ broken (wrong_result g value) at rule.WRONG_TYPE ++ broken (wrong_return g.scope.result value) at rule.WRONG_RETURN
      ++ statement_faults g at
  stmt_faults g (s.does at w) = effect_faults (started g) w ++ statement_faults g at

  -- those of an item of a block
  pub item_faults : Context → Item → List Fault
  item_faults g (s.declares d) = declaration_faults (started g) d ++ statement_faults g (declaration_place d)
  item_faults g (s.states a) = stmt_faults g a

  -- those of items
  pub items_faults : Context → Items → List Fault
  items_faults g s.no_more = []
  items_faults g (s.followed i rest) = item_faults g i ++ items_faults (after_item g i) rest
