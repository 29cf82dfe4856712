-- Short ways to write closed texts and their facts. Names, sites and the places of loops and variables are left out: no fact asks for them.
use Rattle.std.specs.Prelude.{ℕ, zero, suc, ◌==◌, ◌++◌, Bool, true, false, not, ◌&&◌, List, [], ◌∷◌, map, slice_get, ℤ, pos, Option, Some, None}
use Rattle.sl_base.specs.declared.form.Form.{Form}
use Rattle.sl_base.specs.declared.form.Form.TheVariants as f
use Rattle.sl_base.specs.declared.place.Place.{Place}
use Rattle.sl_base.specs.declared.scalar.Scalar.TheVariants as t
use Rattle.sl_specs.specs.declared.rows.sequences.TheConstants as sequence
use Rattle.sl_syntax.specs.declared.operator.Comparison.{Comparison}
use Rattle.sl_syntax.specs.declared.operator.Comparison.TheVariants as comparisons
use Rattle.sl_syntax.specs.declared.typed.callee.Callee.{Callee}
use Rattle.sl_syntax.specs.declared.typed.callee.Callee.TheVariants as callees
use Rattle.sl_syntax.specs.declared.typed.head.Head.{Head}
use Rattle.sl_syntax.specs.declared.typed.operator.Operator.TheVariants as operators
use Rattle.sl_syntax.specs.declared.typed.parameter.ParameterKind.{ParameterKind}
use Rattle.sl_syntax.specs.declared.typed.parameter.ParameterKind.TheVariants as parameter
use Rattle.sl_syntax.specs.declared.typed.step.Fix.TheVariants.{Prefix}
use Rattle.sl_syntax.specs.declared.typed.step.Step.TheVariants.{Up}
use Rattle.sl_syntax.specs.Typed.{Expr, literal, held, convert, comparison, increment, move, call, Left, scalar, element}
use Rattle.sl_syntax.specs.Typed.{none, with, operands_from, stmts_from, evaluates, prints, number, set_scalar, set_iterator, makes, Stmt}
use Rattle.sl_syntax.specs.Typed.{block, declares, does, Function, Typed}
use Rattle.sl_model.specs.Outlines.Facts.{Fact, given_by}
use Rattle.sl_model.specs.Outlines.FactOperands.{table_row}
use Rattle.sl_model.specs.Outlines.FactSteps.{Heads, Given, Places}
use Rattle.sl_model.specs.Outlines.FactsOfExpressions.{expression, left_side, stepped, operands}
use Rattle.sl_model.specs.Outlines.FactScopes.{no_scope}
use Rattle.sl_model.specs.Outlines.RangeUses.{leaves_in, leaves_in_left, leaves_in_all, leaves_in_stmt, leaves_in_stmts}
use Rattle.sl_model.specs.Outlines.Carry.{Carry, carry, carry_all, no_carry}
use Rattle.sl_model.specs.Outlines.Outline.{nowhere}

-- a place of which nothing is said, and a place on a line
abbrev pub here : Place
here = record { line = 0; col = 0 }

-- the place of what stands on a line
abbrev pub on : ℕ → Place
on l = record { line = l; col = 1 }

-- a call without its operands
abbrev pub head_at : Place → Callee → Option ℕ → Head
head_at at callee object = record { callee = callee; place = at; site = None; object = object; names = [] }

-- a number of a type
abbrev pub int : ℕ → Expr
int n = literal t.Int (pos n)

-- a number that becomes a std::size_t
abbrev pub size_number : ℕ → Expr
size_number n = convert t.Size (int n)

-- the value of a scalar
abbrev pub value_of : ℕ → Expr
value_of x = held (scalar x here)

-- a member call on a container at a place
abbrev pub member_at : Place → ℕ → ℕ → List Expr → Expr
member_at at row x ops = call (head_at at (callees.Row row) (Some x)) (operands_from ops)

-- a member call on a container
abbrev pub member : ℕ → ℕ → List Expr → Expr
member = member_at here

-- a member call that gives an element, at a place
abbrev pub member_element_at : Place → ℕ → ℕ → List Expr → Left
member_element_at at row x ops = element (head_at at (callees.Row row) (Some x)) (operands_from ops)

-- a member call that gives an element
abbrev pub member_element : ℕ → ℕ → List Expr → Left
member_element = member_element_at here

-- a call of an algorithm at a place
abbrev pub algorithm_at : Place → ℕ → List Expr → Expr
algorithm_at at row ops = call (head_at at (callees.Row row) None) (operands_from ops)

-- a call of an algorithm
abbrev pub algorithm : ℕ → List Expr → Expr
algorithm = algorithm_at here

-- `*e` at a place
abbrev pub star_at : Place → Expr → Left
star_at at e = element (head_at at (callees.Operator operators.Dereference) None) (with e none)

-- `*e`
abbrev pub star : Expr → Left
star = star_at here

-- `++it` and `--it` at a place
abbrev pub up_at : Place → ℕ → Expr
up_at at it = move Prefix it (head_at at (callees.Operator operators.Increment) None) none

-- `--it` at a place
abbrev pub down_at : Place → ℕ → Expr
down_at at it = move Prefix it (head_at at (callees.Operator operators.Decrement) None) none

-- `++it`
abbrev pub up : ℕ → Expr
up = up_at here

-- `--it`
abbrev pub down : ℕ → Expr
down = down_at here

-- `++x` of an int
abbrev pub up_int : ℕ → Expr
up_int x = increment Up Prefix t.Int here (scalar x here)

-- `++x` of a std::size_t
abbrev pub up_size : ℕ → Expr
up_size x = increment Up Prefix t.Size here (scalar x here)

-- iterators are compared at a place
abbrev pub compared_at : Place → Comparison → Expr → Expr → Expr
compared_at at op a b = call (head_at at (callees.Operator (operators.Compare op)) None) (with a (with b none))

-- `a != b` of iterators
abbrev pub differ : Expr → Expr → Expr
differ = compared_at here comparisons.NotEqual

-- numbers are compared
abbrev pub compares : Comparison → Expr → Expr → Expr
compares op a b = comparison op here a b

-- `std::vector<int> v;` and the like, by the form's row
abbrev pub empty : Form → ℕ → Stmt
empty form row = declares (makes form (head_at here (callees.Row row) None) none)

-- `std::vector<int> v = {..};` and the like
abbrev pub filled : Form → ℕ → List ℕ → Stmt
filled form row ns = declares (makes form (head_at here (callees.Row row) None) (operands_from (map int ns)))

-- `std::vector<int> v;`
abbrev pub vector : Stmt
vector = empty f.Vector sequence.VECTOR_CONSTRUCTOR

-- `std::vector<int> v = {..};`
abbrev pub vector_of : List ℕ → Stmt
vector_of ns = filled f.Vector sequence.VECTOR_CONSTRUCTOR_LIST ns

-- `v.begin()` and `v.end()` of a vector
abbrev pub first_of : ℕ → Expr
first_of v = member sequence.VECTOR_BEGIN v []

-- `v.end()` of a vector
abbrev pub last_of : ℕ → Expr
last_of v = member sequence.VECTOR_END v []

-- `auto it = e;`
abbrev pub let_it : Expr → Stmt
let_it e = declares (set_iterator e)

-- `int x = e;`
abbrev pub let_int : Expr → Stmt
let_int e = declares (set_scalar t.Int e)

-- `std::size_t x = e;`
abbrev pub let_size : Expr → Stmt
let_size e = declares (set_scalar t.Size e)

-- `e;`
abbrev pub run : Expr → Stmt
run e = does (evaluates e)

-- `std::cout << e;`
abbrev pub print : Expr → Stmt
print e = does (prints (number e ∷ []))

-- `v.push_back(n);` of a vector
abbrev pub push : ℕ → ℕ → Stmt
push v n = run (member sequence.VECTOR_PUSH_BACK v (int n ∷ []))

-- `{..}`
abbrev pub braces : List Stmt → Stmt
braces all = block None (stmts_from all)

-- a function by its parameters, what it gives back and its body
abbrev pub function_of : List ParameterKind → Option ParameterKind → List Stmt → Function
function_of ks result all = record { name = []; parameters = ks; result = result; variables = []; body = braces all; close = here }

-- `int main()` with a body
abbrev pub main_of : List Stmt → Function
main_of all = function_of [] (Some (parameter.Value t.Int)) all

-- a text by its constants and its functions, of which the one with this number is `main`
abbrev pub text_of : List ℤ → ℕ → List Function → Typed
text_of constants main functions = record { functions = functions; main = main; sites = []; loops = []; names = []; constants = constants }

-- a text of a `main` alone
abbrev pub alone : List ℤ → List Stmt → Typed
alone constants all = text_of constants 0 (main_of all ∷ [])

-- the whole numbers from 0 to n
abbrev pub numbers_to : ℕ → List ℤ
numbers_to zero = pos 0 ∷ []
numbers_to (suc n) = numbers_to n ++ (pos (suc n) ∷ [])

-- the list with a number
abbrev pub list_in : List (List Fact) → ℕ → List Fact
list_in ls n = elim (slice_get ls n) [ None ↦ [] | Some l ↦ l ]

-- the lists of an outline: of loops, entries and exits
abbrev pub heads : List (List Fact) → List (List Fact) → List (List Fact) → Heads
heads loops entries exits = record { loops = list_in loops; entries = list_in entries; exits = list_in exits }

-- the lists of the loops of a text of `main` alone
abbrev pub loops : List (List Fact) → Heads
loops ls = heads ls [] []

-- no lists
abbrev pub no_lists : Heads
no_lists = loops []

-- a fact is given at a place
abbrev pub is_given : Given → Fact → Bool
is_given None g = false
is_given (Some F) g = F g

-- each of these facts is given
abbrev pub all_given : Given → List Fact → Bool
all_given G [] = true
all_given G (f ∷ l) = is_given G f && all_given G l

-- none of them is
abbrev pub none_given : Given → List Fact → Bool
none_given G [] = true
none_given G (f ∷ l) = not (is_given G f) && none_given G l

-- statements of `main`, in a text with these constants
abbrev pub statements : List ℤ → List Stmt → Carry
statements constants all = carry_all (no_scope (alone constants all)) no_carry (stmts_from all)

-- from no facts, statements of a `main` without loops have what they need; behind them these facts are given, and those aren't
unfoldable pub shows : List ℤ → List Stmt → List Fact → List Fact → Bool
unfolding table_row expression left_side stepped operands leaves_in leaves_in_left leaves_in_all leaves_in_stmt leaves_in_stmts carry carry_all
shows constants all given dropped =
    let read = statements constants all in
    let start = Some (given_by []) in
    let behind = (read.gives nowhere no_lists start).next in
    read.allowed nowhere no_lists && read.needs nowhere no_lists start && all_given behind given && none_given behind dropped

-- the places on a line
abbrev pub at_line : ℕ → Places
at_line l p = p.line == l
