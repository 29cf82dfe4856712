-- What a text of the subset is as data.
use Rattle.std.specs.Prelude.{ℕ, ◌+◌, Bool, true, false, List, [], ◌∷◌, count_by, Option, Some, None, ℤ, pos, ◌+ℤ◌, ◌-ℤ◌, int_lt, codes}
use Rattle.std.specs.Prelude.{if◌then◌else◌}
use Rattle.std.specs.List.{list_any, filter_map}
use Rattle.sl_base.specs.declared.form.Form.TheVariants as f
use Rattle.sl_base.specs.declared.place.Place.{Place}
use Rattle.sl_base.specs.declared.scalar.Scalar.TheVariants as c
use Rattle.sl_syntax.specs.declared.subset.Stmt.{Stmt as StmtCode}
use Rattle.sl_syntax.specs.declared.subset.Stmt.TheVariants.{Vector, PushBack, Begin, Dereference}
use Rattle.sl_syntax.specs.declared.subset.Text.{Text}
use Rattle.sl_syntax.specs.declared.typed.callee.Callee.{Callee}
use Rattle.sl_syntax.specs.declared.typed.callee.Callee.TheVariants as k
use Rattle.sl_syntax.specs.declared.typed.head.Head.{Head}
use Rattle.sl_syntax.specs.declared.typed.operator.Operator.TheVariants as o
use Rattle.sl_syntax.specs.declared.typed.parameter.ParameterKind.TheVariants as p
use Rattle.sl_syntax.specs.declared.typed.variable.Variable.{Variable}
use Rattle.sl_syntax.specs.declared.typed.variable.VariableKind.{VariableKind}
use Rattle.sl_syntax.specs.declared.typed.variable.VariableKind.TheVariants as kinds
use Rattle.sl_syntax.specs.Typed.{literal, held, iterator, call, element, none, with, evaluates, set_scalar, set_iterator, makes, Stmt, block}
use Rattle.sl_syntax.specs.Typed.{declares, does, Stmts, no_more, followed, Function, Typed}

-- the numbers of the rows that are there
abbrev pub vector_row : ℕ
vector_row = 0

abbrev pub begin_row : ℕ
begin_row = 7

abbrev pub push_back_row : ℕ
push_back_row = 15

-- a call that is no member call, at its place
abbrev pub free_call : Callee → Place → List (Option ℕ) → Head
free_call callee place names = record { callee = callee; place = place; site = None; object = None; names = names }

-- a member call of a container, with the site that it kills at, if it kills
abbrev pub member_call : ℕ → Place → Option ℕ → ℕ → ℕ → Head
member_call number place site object name =
    record { callee = k.Row number; place = place; site = site; object = Some object; names = Some name ∷ [] }

abbrev pub stmt_of : StmtCode → Stmt
stmt_of (Vector place named) = declares (makes f.Vector (free_call (k.Row vector_row) place []) none)
stmt_of (PushBack place v name site number) =
    does (evaluates (call (member_call push_back_row place (Some site) v name) (with (literal c.Int (pos number)) none)))
stmt_of (Begin place v name named) = declares (set_iterator (call (member_call begin_row place None v name) none))
stmt_of (Dereference place it name named) =
    declares (set_scalar c.Int (held (element (free_call (k.Operator o.Dereference) place (None ∷ Some name ∷ [])) (with (iterator it) none))))

abbrev pub stmts_of : List StmtCode → Stmts
stmts_of [] = no_more
stmts_of (s ∷ ss) = followed (stmt_of s) (stmts_of ss)

abbrev pub is_vector : StmtCode → Bool
is_vector (Vector place named) = true
is_vector s = false

abbrev pub is_push_back : StmtCode → Bool
is_push_back (PushBack place v name site number) = true
is_push_back s = false

-- The site of the closing brace: it ends containers where one is declared, and its number is behind those of the calls.
abbrev pub brace_site : List StmtCode → Option ℕ
brace_site stmts = if list_any is_vector stmts then Some (count_by is_push_back stmts) else None

abbrev pub literal_of : StmtCode → Option ℤ
literal_of (PushBack place v name site number) = Some (pos number)
literal_of s = None

-- a number put into an ascending list, where it isn't there
abbrev pub put_in : ℤ → List ℤ → List ℤ
put_in z [] = z ∷ []
put_in z (x ∷ xs) = if int_lt z x then z ∷ x ∷ xs else if int_lt x z then x ∷ put_in z xs else x ∷ xs

-- 0, 1, each of these numbers and its two neighbours
abbrev pub constants_of : List ℤ → List ℤ
constants_of [] = pos 0 ∷ pos 1 ∷ []
constants_of (z ∷ zs) = put_in (z -ℤ pos 1) (put_in z (put_in (z +ℤ pos 1) (constants_of zs)))

-- a variable with its name's number
abbrev pub variable : VariableKind → ℕ → Place → Variable
variable kind name named = record { kind = kind; name = name; place = named }

-- the variables that these declare, where the first name has this number: each declaration has a name of its own
abbrev pub variables_of : ℕ → List StmtCode → List Variable
variables_of n [] = []
variables_of n (Vector place named ∷ ss) = variable kinds.Container n named ∷ variables_of (n + 1) ss
variables_of n (PushBack place v name site number ∷ ss) = variables_of n ss
variables_of n (Begin place v name named ∷ ss) = variable kinds.Iterator n named ∷ variables_of (n + 1) ss
variables_of n (Dereference place it name named ∷ ss) = variable kinds.Scalar n named ∷ variables_of (n + 1) ss

-- `int main()` with these statements
abbrev pub main_of : List StmtCode → Place → Function
main_of stmts close = record {
  name = codes "main";
  parameters = [];
  result = Some (p.Value c.Int);
  variables = variables_of 0 stmts;
  body = block (brace_site stmts) (stmts_of stmts);
  close = close;
}

abbrev pub typed_of : Text → Typed
typed_of x = record {
  functions = main_of x.stmts x.close ∷ [];
  main = 0;
  sites = x.sites;
  loops = [];
  names = x.names;
  constants = constants_of (filter_map literal_of x.stmts);
}
