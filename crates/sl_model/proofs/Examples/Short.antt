-- Short ways to write closed runs. A run looks neither at the names of functions, nor at the names and places of variables, nor at the
-- places of loops, nor at the constants: these are left out.
use Rattle.std.specs.Prelude.{ℕ, List, [], ◌∷◌, ℤ, Option, Some, None}
use Rattle.sl_base.specs.declared.place.Place.{Place}
use Rattle.sl_base.specs.declared.form.Form.TheVariants as f
use Rattle.sl_base.specs.declared.scalar.Scalar.TheVariants as t
use Rattle.sl_syntax.specs.declared.typed.callee.Callee.{Callee}
use Rattle.sl_syntax.specs.declared.typed.callee.Callee.TheVariants as callees
use Rattle.sl_syntax.specs.declared.typed.head.Head.{Head}
use Rattle.sl_syntax.specs.declared.typed.operator.Operator.TheVariants as operators
use Rattle.sl_syntax.specs.declared.typed.parameter.ParameterKind.TheVariants as parameter
use Rattle.sl_syntax.specs.Typed.{Left, literal, held, iterator, call, element, none, with, evaluates, set_scalar, set_iterator, makes, Stmt, block}
use Rattle.sl_syntax.specs.Typed.{declares, does, Stmts, no_more, followed, Function, Typed}
use Rattle.sl_model.specs.Runs.Ends.{End, Finish, Trap}

-- a place
abbrev pub at : ℕ → ℕ → Place
at l c = record { line = l; col = c }

-- a call without its operands
abbrev pub head : Callee → Place → Option ℕ → Option ℕ → List (Option ℕ) → Head
head callee at site object names = record { callee = callee; place = at; site = site; object = object; names = names }

-- statements in a row
abbrev pub all : List Stmt → Stmts
all [] = no_more
all (a ∷ rest) = followed a (all rest)

-- `std::vector<int> v;` at its lib
abbrev pub vector : Place → Stmt
vector at = declares (makes f.Vector (head (callees.Row 0) at None None []) none)

-- `v.push_back(z);` at its call: its site, the vector with its name, and the number
abbrev pub push : Place → ℕ → ℕ → ℕ → ℤ → Stmt
push at site v name z = does (evaluates (call (head (callees.Row 15) at (Some site) (Some v) (Some name ∷ [])) (with (literal t.Int z) none)))

-- `auto it = v.begin();` at its call: the vector with its name
abbrev pub start : Place → ℕ → ℕ → Stmt
start at v name = declares (set_iterator (call (head (callees.Row 7) at None (Some v) (Some name ∷ [])) none))

-- `*it` at its star: the iterator with its name
abbrev pub deref : Place → ℕ → ℕ → Left
deref at it name = element (head (callees.Operator operators.Dereference) at None None (None ∷ Some name ∷ [])) (with (iterator it) none)

-- `int x = *it;` at its star
abbrev pub read_from : Place → ℕ → ℕ → Stmt
read_from at it name = declares (set_scalar t.Int (held (deref at it name)))

-- `int main()` with a body, whose closing brace may be a site
abbrev pub main_of : Option ℕ → List Stmt → Place → Function
main_of site body close = record {
  name = [];
  parameters = [];
  result = Some (parameter.Value t.Int);
  variables = [];
  body = block site (all body);
  close = close;
}

-- a text of functions of which the one with this number is `main`
abbrev pub text_of : List Function → ℕ → List Place → List (List ℕ) → Typed
text_of functions main sites names = record { functions = functions; main = main; sites = sites; loops = []; names = names; constants = [] }

-- a text of a `main` alone
abbrev pub alone : Option ℕ → List Stmt → Place → List Place → List (List ℕ) → Typed
alone site body close sites names = text_of (main_of site body close ∷ []) 0 sites names

-- an end, the bytes and the count of the lost ones
abbrev pub finish : End → List ℕ → ℕ → Finish
finish e bytes lost = record { end = e; output = record { bytes = bytes; lost = lost } }

-- a trap by its parts
abbrev pub trap : Place → ℕ → List ℕ → ℕ → Option ℕ → Option ℕ → Trap
trap at kind called argument name killer = record { place = at; kind = kind; call = called; argument = argument; name = name; killer = killer }
