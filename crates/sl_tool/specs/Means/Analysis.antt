-- What the analysis knows, statement by statement, and what it warns of, as functions. A means of the proof alone: proofs/Soundness ties
-- it to the runs.
use Rattle.std.specs.Prelude.{ℕ, ◌==◌, Bool, true, false, List, [], ◌∷◌, ◌++◌, length, drop, slice_set, slice_index_or, Option, Some, None}
use Rattle.std.specs.Prelude.{if◌then◌else◌}
use Rattle.sl_base.specs.declared.place.Place.{Place}
use Rattle.sl_syntax.specs.declared.subset.Stmt.{Stmt}
use Rattle.sl_syntax.specs.declared.subset.Stmt.TheVariants.{Vector, PushBack, Begin, Dereference}
use Rattle.sl_tool.specs.declared.analysis.Standing.{Standing}
use Rattle.sl_tool.specs.declared.analysis.Push.{Push}
use Rattle.sl_tool.specs.declared.analysis.Warning.{Warning}
use Rattle.sl_tool.specs.declared.analysis.Fault.{Fault}
use Rattle.sl_tool.specs.declared.analysis.Fault.TheVariants.{InvalidIterator, EndIterator}

-- Whether each vector has elements; of each iterator the vector at whose begin it was made, whether that had elements then, and how many
-- calls of `push_back` came before it was made or last found valid; and the calls so far.
pub record Known : Type 0 where
  pub filled : List Bool
  pub iterators : List Standing
  pub pushes : List Push

abbrev pub nothing_known : Known
nothing_known = record { filled = []; iterators = []; pushes = [] }

-- the sites of the calls on this vector
abbrev pub sites_on : ℕ → List Push → List ℕ
sites_on vector [] = []
sites_on vector (p ∷ ps) = if p.vector == vector then p.site ∷ sites_on vector ps else sites_on vector ps

-- the sites that may have invalidated an iterator
abbrev pub killers_of : Known → Standing → List ℕ
killers_of k standing = sites_on standing.vector (drop standing.since k.pushes)

-- the iterator with this number, and its vector's first element
abbrev pub standing_at : Known → ℕ → Standing
standing_at k i = slice_index_or k.iterators i (record { vector = 0; at_element = true; since = 0 })

abbrev pub is_filled : Known → ℕ → Bool
is_filled k v = slice_index_or k.filled v false

-- What may be wrong with an iterator that these sites may have invalidated: each `push_back` on its vector does so to one that was made at
-- the end, and one that is still there has no element.
abbrev pub fault_in : List ℕ → Bool → Option Fault
fault_in [] true = None
fault_in [] false = Some EndIterator
fault_in (x ∷ xs) at_element = Some (InvalidIterator (x ∷ xs))

-- what is warned of at `*` of an iterator with this fault
abbrev pub told_at : Place → ℕ → Option Fault → List Warning
told_at place name None = []
told_at place name (Some fault) = record { place = place; name = name; fault = fault } ∷ []

abbrev pub dereferenced : Known → Place → ℕ → Standing → List Warning
dereferenced k place name standing = told_at place name (fault_in (killers_of k standing) standing.at_element)

abbrev pub warned : Known → Stmt → List Warning
warned k (Dereference place i name named) = dereferenced k place name (standing_at k i)
warned k s = []

-- a new vector has no elements
abbrev pub with_vector : Known → Known
with_vector k = record k { filled = k.filled ++ false ∷ [] }

-- a vector has an element more
abbrev pub with_push : Known → ℕ → ℕ → Known
with_push k v site = record k { filled = slice_set k.filled v true; pushes = k.pushes ++ record { vector = v; site = site } ∷ [] }

-- a new iterator stands at the begin of a vector
abbrev pub with_iterator : Known → ℕ → Known
with_iterator k v = record k { iterators = k.iterators ++ record { vector = v; at_element = is_filled k v; since = length k.pushes } ∷ [] }

-- an iterator that was dereferenced is valid in the runs that go on
abbrev pub found_valid : Known → ℕ → Standing → Known
found_valid k i standing =
    record k { iterators = slice_set k.iterators i (record { vector = standing.vector; at_element = standing.at_element; since = length k.pushes }) }

-- what is known behind a statement, in the runs that go on
abbrev pub known_after : Known → Stmt → Known
known_after k (Vector place named) = with_vector k
known_after k (PushBack place v name site number) = with_push k v site
known_after k (Begin place v name named) = with_iterator k v
known_after k (Dereference place i name named) = found_valid k i (standing_at k i)

-- Whether a run may go on behind a statement. None goes on behind `*` of an iterator that was made at the end of a vector.
abbrev pub goes_on : Known → Stmt → Bool
goes_on k (Dereference place i name named) = (standing_at k i).at_element
goes_on k s = true

-- what the analysis warns of in these statements
abbrev pub warnings_of : Known → List Stmt → List Warning
warnings_of k [] = []
warnings_of k (s ∷ ss) = warned k s ++ (if goes_on k s then warnings_of (known_after k s) ss else [])
