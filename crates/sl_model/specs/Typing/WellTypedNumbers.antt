-- Typed texts whose numbers name what is there, and in which one place stands for one call.
--
-- No standard says any of it; all of it is chosen here. The numbers of sites go up by one along a function, in the order of the text, and so do those
-- of loops; two functions may share theirs, where both are copies of one. A call is a site where its class in its form can invalidate something, and
-- where it appends. Among the constants are 0, 1, and each literal with its two neighbours. Two nodes that have needs and stand at one place are
-- calls of one name, with the same names of arguments: copies have such nodes.
use Rattle.std.specs.Prelude.{ℕ, ◌+◌, ◌==◌, nat_lt, Bool, true, false, not, ◌&&◌, ◌||◌, List, [], ◌∷◌, ◌++◌, length, map, filter_map}
use Rattle.std.specs.Prelude.{ℤ, pos, ◌+ℤ◌, ◌-ℤ◌, int_lt, int_le, Option, Some, None, is_some, codes, if◌then◌else◌}
use Rattle.std.specs.List.{list_all, list_any}
use Rattle.std.specs.Str.{bytes_eq}
use denote.Enum.Bare.{sameb}
use Rattle.sl_base.specs.declared.place.Place.{Place}
use Rattle.sl_specs.specs.declared.class.Class.TheVariants as k
use Rattle.sl_specs.specs.Rows.{Row}
use Rattle.sl_syntax.specs.contracts.typed.variable.VariableKind.{the_type}
use Rattle.sl_syntax.specs.declared.typed.callee.Callee.{Callee}
use Rattle.sl_syntax.specs.declared.typed.callee.Callee.TheVariants as callees
use Rattle.sl_syntax.specs.declared.typed.head.Head.{Head}
use Rattle.sl_syntax.specs.declared.typed.parameter.ParameterKind.{ParameterKind}
use Rattle.sl_syntax.specs.declared.typed.parameter.ParameterKind.TheVariants as parameters
use Rattle.sl_syntax.specs.declared.typed.variable.Variable.{Variable}
use Rattle.sl_syntax.specs.declared.typed.variable.VariableKind.{VariableKind}
use Rattle.sl_syntax.specs.declared.typed.variable.VariableKind.TheVariants as variables
use Rattle.sl_syntax.specs.Typed.{Function, Typed}
use Rattle.sl_typing.specs.Types.{same_answer}
use Rattle.sl_typing.specs.Signatures.{row_at}
use Rattle.sl_model.specs.LibraryCalls.Rows.{call_name}
use Rattle.sl_model.specs.Typing.WellTypedNodes.{Node, a_literal, a_call, a_use, a_loop, a_range, a_variable, a_brace, nodes_in_stmt}

-- a row, if it is there, can invalidate
abbrev pub row_kills : Option Row → Bool
row_kills None = false
row_kills (Some row) = elim row.kills as (λ _. Bool) [ k.Nothing ↦ false | class ↦ true ]

-- a call of the library is a site
abbrev pub is_site : Callee → Bool
is_site (callees.Row n) = row_kills (row_at n)
is_site (callees.Appends n) = true
is_site callee = false

-- a call has a site exactly where it is one, and a closing brace where its block declares a container
abbrev pub has_due_site : Node → Bool
has_due_site (a_call h ops) = same_answer (is_site h.callee) (is_some h.site)
has_due_site (a_brace site declares_container) = same_answer declares_container (is_some site)
has_due_site node = true

-- the number of a node's site, if it has one
abbrev pub site_in : Node → Option ℕ
site_in (a_call h ops) = h.site
site_in (a_brace site declares_container) = site
site_in node = None

-- the number of a loop
abbrev pub loop_in : Node → Option ℕ
loop_in (a_loop n) = Some n
loop_in node = None

-- each of these is one more than the one before
abbrev pub go_up : List ℕ → Bool
go_up [] = true
go_up (x ∷ []) = true
go_up (x ∷ y ∷ rest) = y == x + 1 && go_up (y ∷ rest)

-- these are numbers of some of n things, in their order
abbrev pub are_numbers_of : ℕ → List ℕ → Bool
are_numbers_of n xs = go_up xs && list_all (λ x. nat_lt x n) xs

-- the sites and the loops of a function are numbered
abbrev pub is_numbered : Typed → Function → Bool
is_numbered p h = are_numbers_of (length p.sites) (filter_map site_in (nodes_in_stmt h.body))
    && are_numbers_of (length p.loops) (filter_map loop_in (nodes_in_stmt h.body))

-- the names that a node tells
abbrev pub names_in : Node → List (Option ℕ)
names_in (a_call h ops) = h.names
names_in (a_use at name) = Some name ∷ []
names_in (a_range at name) = Some name ∷ []
names_in node = []

-- a name that is told is one of n
abbrev pub is_name : ℕ → Option ℕ → Bool
is_name n None = true
is_name n (Some name) = nat_lt name n

-- the names that a node tells are there
abbrev pub tells_names : ℕ → Node → Bool
tells_names n node = list_all (is_name n) (names_in node)

-- the sort of variable that a parameter is
abbrev pub kind_of : ParameterKind → VariableKind
kind_of (parameters.Value s) = variables.Scalar
kind_of (parameters.Reference s) = variables.Scalar
kind_of (parameters.Container access form) = variables.Container
kind_of (parameters.Iterator b form) = variables.Iterator

-- the sort of the variable that a node declares
abbrev pub kind_in : Node → Option VariableKind
kind_in (a_variable kind) = Some kind
kind_in node = None

-- these are variables of these sorts, whose names are among n
abbrev pub are_variables : ℕ → List VariableKind → List Variable → Bool
are_variables n [] [] = true
are_variables n (kind ∷ kinds) (v ∷ vs) = sameb the_type kind v.kind && nat_lt v.name n && are_variables n kinds vs
are_variables n kinds vs = false

-- a function lists the variables that it declares, its parameters first
abbrev pub lists_variables : ℕ → Function → Bool
lists_variables n h = are_variables n (map kind_of h.parameters ++ filter_map kind_in (nodes_in_stmt h.body)) h.variables

-- a number is among these
abbrev pub holds : List ℤ → ℤ → Bool
holds zs z = list_any (λ y. int_le y z && int_le z y) zs

-- a number and its two neighbours are
abbrev pub holds_around : List ℤ → ℤ → Bool
holds_around zs z = holds zs (z -ℤ pos 1) && holds zs z && holds zs (z +ℤ pos 1)

-- each of these is above the one before
abbrev pub ascend : List ℤ → Bool
ascend [] = true
ascend (x ∷ []) = true
ascend (x ∷ y ∷ rest) = int_lt x y && ascend (y ∷ rest)

-- a node is no literal whose number or neighbours aren't among these
abbrev pub literal_is_held : List ℤ → Node → Bool
literal_is_held zs (a_literal z) = holds_around zs z
literal_is_held zs node = true

-- numbers ascend, and 0 and 1 are among them
abbrev pub are_constants : List ℤ → Bool
are_constants zs = ascend zs && holds zs (pos 0) && holds zs (pos 1)

-- a row, if it is there, has needs
abbrev pub row_asks : Option Row → Bool
row_asks None = false
row_asks (Some row) = elim row.needs as (λ _. Bool) [ [] ↦ false | need ∷ needs ↦ true ]

-- what asks for something at a place: the name of the call, and the names of its arguments, of which the object is the first
pub record Asked : Type 0 where
  pub place : Place
  pub word : List ℕ
  pub names : List (Option ℕ)

-- a call of the library has needs; every operator has
abbrev pub call_asks : Callee → Bool
call_asks (callees.Row n) = row_asks (row_at n)
call_asks (callees.Appends n) = row_asks (row_at n)
call_asks callee = true

-- what a call of the library asks, if it has needs
abbrev pub asked_by_call : Head → Option Asked
asked_by_call h = if call_asks h.callee then Some (record { place = h.place; word = call_name h.callee; names = h.names }) else None

-- what a node asks, if it has needs: a use of a reference has its name for argument 1, and a range-for that of its container for arguments 1 and 2
abbrev pub asked_by : Node → Option Asked
asked_by (a_call h ops) = asked_by_call h
asked_by (a_use at name) = Some (record { place = at; word = codes "use"; names = None ∷ Some name ∷ [] })
asked_by (a_range at name) = Some (record { place = at; word = codes "for"; names = None ∷ Some name ∷ Some name ∷ [] })
asked_by node = None

-- one place
abbrev pub same_place : Place → Place → Bool
same_place x y = x.line == y.line && x.col == y.col

-- the same name, or both none
abbrev pub same_name : Option ℕ → Option ℕ → Bool
same_name None None = true
same_name (Some x) (Some y) = x == y
same_name x y = false

-- the same at each argument; behind the last that is listed stands none
abbrev pub same_names : List (Option ℕ) → List (Option ℕ) → Bool
same_names [] ys = list_all (same_name None) ys
same_names (x ∷ xs) [] = same_name x None && list_all (same_name None) xs
same_names (x ∷ xs) (y ∷ ys) = same_name x y && same_names xs ys

-- what is asked at one place is the same call, with the same names
abbrev pub agrees : Asked → Asked → Bool
agrees x y = not (same_place x.place y.place) || (bytes_eq x.word y.word && same_names x.names y.names)

-- the same of what two nodes ask
abbrev pub agree : Option Asked → Option Asked → Bool
agree (Some x) (Some y) = agrees x y
agree x y = true

-- a node agrees with each of these
abbrev pub agrees_with_all : List Node → Node → Bool
agrees_with_all nodes node = list_all (λ other. agree (asked_by node) (asked_by other)) nodes
