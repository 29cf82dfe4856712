-- Homes of iterators: the one container in scope that an iterator comes from. With them a function can be copied for each way in which
-- calls find the homes of its iterator arguments, with a container parameter more for each home that is no argument.
--
-- Restates no section of ISO/IEC 14882:2017.
-- Chosen here: all of it. A pair is a function with a pattern; in a pair an iterator parameter comes from the container parameter, given
-- or added, that the pattern names for it, and from nothing where it names none. A container parameter that is added is known by the
-- iterator parameter whose home it is.
use Rattle.std.specs.Prelude.{ℕ, zero, suc, ◌+◌, ◌==◌, Bool, true, false, ◌&&◌, List, [], ◌∷◌, ◌++◌, flat_map, map, slice_get}
use Rattle.std.specs.Prelude.{Option, Some, None, option_and_then, IsTrue, if◌then◌else◌}
use Rattle.std.specs.List.{list_any, list_all}
use Rattle.sl_syntax.specs.declared.typed.parameter.ParameterKind.{ParameterKind}
use Rattle.sl_syntax.specs.declared.typed.parameter.ParameterKind.TheVariants as parameter
use Rattle.sl_syntax.specs.Typed.{Expr, container, Operands, none, with, Typed}
use Rattle.sl_model.specs.Outlines.FactOperands.{table_row}
use Rattle.sl_model.specs.Outlines.FactsOfExpressions.{parameters_of}
use Rattle.sl_model.specs.Outlines.Sources.{Declared, Origin, from_container, from_iterator, Flow, CallSite, Walked, origins, origins_of_all, calls_in}
use Rattle.sl_model.specs.Outlines.Sources.{calls_in_left, calls_in_all}
use Rattle.sl_model.specs.Outlines.IteratorFlows.{walk_function, walk_stmt, walk_stmts}

-- a container that an iterator comes from: one that the function declares, by its place in the order, or one that is added
pub data Source : Type 0 where
  declared_source : ℕ → Source
  added_source : ℕ → Source

-- two sources are one
abbrev pub same_source : Source → Source → Bool
same_source (declared_source x) (declared_source y) = x == y
same_source (added_source x) (added_source y) = x == y
same_source a b = false

-- where the home of an iterator argument is found: by the places of arguments among the containers and among the iterators
pub data Found : Type 0 where
  at_container : ℕ → Found
  at_iterator : ℕ → Found
  at_none : Found

-- a pattern: for each iterator argument where its home is found
abbrev pub Pattern : Type 0
Pattern = List Found

-- a function, by its number, with a pattern
pub record Copy : Type 0 where
  pub function : ℕ
  pub pattern : Pattern

-- what an iterator parameter comes from in a pair
abbrev pub source_found : Found → List Source
source_found (at_container n) = declared_source n ∷ []
source_found (at_iterator n) = added_source n ∷ []
source_found at_none = []

-- what the iterator with this place comes from by the pattern: parameters are declared first
abbrev pub by_pattern : Pattern → ℕ → List Source
by_pattern pattern n = elim (slice_get pattern n) [ None ↦ [] | Some f ↦ source_found f ]

-- what is assigned to an iterator
abbrev pub assigned_to : ℕ → List Flow → List Origin
assigned_to n flows = flat_map (λ (x : Flow). if x.to == n then x.from else []) flows

-- what an origin comes from, where it is known of iterators
abbrev pub sources_of_origin : (ℕ → List Source) → Origin → List Source
sources_of_origin known (from_container c) = declared_source c ∷ []
sources_of_origin known (from_iterator n) = known n

-- what an iterator comes from, along so many assignments at most; as many as the function has iterators are enough
unfoldable pub sources_along : ℕ → Pattern → List Flow → ℕ → List Source
sources_along zero pattern flows n = by_pattern pattern n
sources_along (suc more) pattern flows n =
    by_pattern pattern n ++ flat_map (sources_of_origin (sources_along more pattern flows)) (assigned_to n flows)

-- what an expression comes from in a pair, whose function is walked so
abbrev pub sources : Typed → Pattern → Walked → Declared → Expr → List Source
sources p pattern w d e = flat_map (sources_of_origin (sources_along w.behind.iterators_before pattern w.flows)) (origins p d e)

-- the one source of which there are several, or no other
abbrev pub only_source : List Source → Option Source
only_source [] = None
only_source (a ∷ others) = if list_all (same_source a) others then Some a else None

-- the container is in scope: one that is added is a parameter
abbrev pub is_there : Declared → Source → Bool
is_there d (declared_source n) = list_any (λ c. c == n) d.containers
is_there d (added_source n) = true

-- a source that is in scope
abbrev pub if_there : Declared → Source → Option Source
if_there d a = if is_there d a then Some a else None

-- the home of an expression in a pair
abbrev pub home : Typed → Pattern → Walked → Declared → Expr → Option Source
home p pattern w d e = option_and_then (if_there d) (only_source (sources p pattern w d e))

-- the container that an argument is
abbrev pub argument_source : Declared → Expr → List Source
argument_source d (container x) = elim (slice_get d.containers x) [ None ↦ [] | Some n ↦ declared_source n ∷ [] ]
argument_source d e = []

-- the containers among arguments
abbrev pub container_arguments : Declared → Operands → List Source
container_arguments d none = []
container_arguments d (with a rest) = argument_source d a ++ container_arguments d rest

-- the argument, where its parameter is an iterator
abbrev pub if_iterator_parameter : ParameterKind → Expr → List Expr
if_iterator_parameter (parameter.Iterator is_const form) e = e ∷ []
if_iterator_parameter k e = []

-- the arguments for iterators
abbrev pub iterator_arguments : List ParameterKind → Operands → List Expr
iterator_arguments (k ∷ ks) (with a rest) = if_iterator_parameter k a ++ iterator_arguments ks rest
iterator_arguments ks ops = []

-- where a source first stands in a list, from a place on
abbrev pub place_of : ℕ → Source → List Source → Option ℕ
place_of n a [] = None
place_of n a (b ∷ rest) = if same_source a b then Some n else place_of (n + 1) a rest

-- an iterator's home is this source
abbrev pub has_home : Source → Option Source → Bool
has_home a None = false
has_home a (Some b) = same_source a b

-- the first iterator with a home, from a place on
abbrev pub first_with_home : ℕ → Source → List (Option Source) → Found
first_with_home n a [] = at_none
first_with_home n a (b ∷ rest) = if has_home a b then at_iterator n else first_with_home (n + 1) a rest

-- where a home is found: at the first container argument that it is, else at the first iterator argument with this home
abbrev pub found_home : List Source → List (Option Source) → Option Source → Found
found_home containers homes None = at_none
found_home containers homes (Some a) =
    elim (place_of 0 a containers) [ Some n ↦ at_container n | None ↦ first_with_home 0 a homes ]

-- the pattern by the homes of the iterator arguments
abbrev pub pattern_by : List Source → List (Option Source) → Pattern
pattern_by containers homes = map (found_home containers homes) homes

-- the pattern of a call in a pair
abbrev pub pattern_of : Typed → Pattern → Walked → CallSite → Pattern
pattern_of p pattern w c = pattern_by (container_arguments c.declared c.operands)
    (map (home p pattern w c.declared) (iterator_arguments (parameters_of p c.callee) c.operands))

-- the pairs that the calls in a walked function give
abbrev pub called_in : Typed → Pattern → Walked → List Copy
called_in p pattern w = map (λ (c : CallSite). record { function = c.callee; pattern = pattern_of p pattern w c }) w.calls

-- the pairs that a pair calls
abbrev pub called_by : Typed → Copy → List Copy
called_by p a = elim (slice_get p.functions a.function) [ None ↦ [] | Some f ↦ called_in p a.pattern (walk_function p f) ]

-- two places are one
abbrev pub same_found : Found → Found → Bool
same_found (at_container n) (at_container m) = n == m
same_found (at_iterator n) (at_iterator m) = n == m
same_found at_none at_none = true
same_found a b = false

-- two patterns are one
abbrev pub same_pattern : Pattern → Pattern → Bool
same_pattern [] [] = true
same_pattern (a ∷ x) (b ∷ y) = same_found a b && same_pattern x y
same_pattern x y = false

-- two pairs are one
abbrev pub same_copy : Copy → Copy → Bool
same_copy a b = a.function == b.function && same_pattern a.pattern b.pattern

-- those of some pairs that aren't there yet come behind
abbrev pub with_new : List Copy → List Copy → List Copy
with_new there [] = there
with_new there (a ∷ more) = if list_any (same_copy a) there then with_new there more else with_new (there ++ (a ∷ [])) more

-- the pairs to which so many calls in turn lead from `main`, which has the empty pattern
unfoldable pub copies_after : ℕ → Typed → List Copy
unfolding table_row origins origins_of_all calls_in calls_in_left calls_in_all walk_stmt walk_stmts sources_along
copies_after zero p = record { function = p.main; pattern = [] } ∷ []
copies_after (suc n) p = with_new (copies_after n p) (flat_map (called_by p) (copies_after n p))

-- a pair is among the copies of a text: some number of calls leads to it
abbrev pub Copies : Typed → Copy → Type 0
Copies p a = (n : ℕ) × IsTrue (list_any (same_copy a) (copies_after n p))

-- the iterator parameters whose homes are added as container parameters, from a place on
abbrev pub added_from : ℕ → Pattern → List ℕ
added_from n [] = []
added_from n (a ∷ rest) = if same_found a (at_iterator n) then n ∷ added_from (n + 1) rest else added_from (n + 1) rest

-- those of a pattern, one for each home that is among no container argument
abbrev pub added : Pattern → List ℕ
added pattern = added_from 0 pattern
