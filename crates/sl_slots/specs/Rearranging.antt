-- Containers that are put together anew, by numbers: which elements they have then, and what becomes of what stood in them.
use Rattle.std.specs.Prelude.{◌≡◌, ℕ, ◌+◌, ◌≤◌, ◌<◌, ◌==◌, nat_lt, pos, Bool, true, false, List, [], ◌∷◌, map, length, Option, Some, None, slice_get, slice_set, if◌then◌else◌}
use Rattle.sl_base.specs.declared.scalar.Scalar.TheVariants as t
use Rattle.sl_model.specs.Numbers.{converted}
use Rattle.sl_model.specs.Memory.Containers.{Cont, size}
use Rattle.sl_model.specs.Memory.Edits.{Change, Source as SourceData, old, written, theirs, new}
use Rattle.sl_model.proofs.ColumnLaws.{IsTaken}
use Rattle.sl_slots.specs.declared.container.Element.{Element}
use Rattle.sl_slots.specs.declared.source.Source.{Source}
use Rattle.sl_slots.specs.declared.source.Source.TheVariants.{Old, Written, Theirs, New}
use Rattle.sl_slots.specs.declared.rearrangement.Rearrangement.{Rearrangement}
use Rattle.sl_slots.specs.Shown.{new_element}

-- a source takes place k of the container itself
abbrev pub takes_old : Source → ℕ → Bool
takes_old (Old i) k = i == k
takes_old (Written i x) k = i == k
takes_old (Theirs i) k = false
takes_old (New x) k = false

-- the index of the first source that passes a test, counted from i
abbrev pub index_taken : (Source → Bool) → ℕ → List Source → Option ℕ
index_taken takes i [] = None
index_taken takes i (s ∷ ss) = if takes s then Some i else index_taken takes (i + 1) ss

-- where the element at place k goes, if a source takes it
abbrev pub place_taken : List Source → ℕ → Option ℕ
place_taken ss k = index_taken (λ s. takes_old s k) 0 ss

-- no source takes it
abbrev pub is_lost : Option ℕ → Bool
is_lost None = true
is_lost (Some p) = false

-- the references to the element at place k are invalidated
abbrev pub loses_in : Rearrangement → ℕ → Bool
loses_in by k = is_lost (place_taken by.sources.items k)

-- the iterators at place k are invalidated
abbrev pub kills_in : Rearrangement → ℕ → Bool
kills_in by k = if by.all then true else if nat_lt k by.size then loses_in by k else false

-- a place, and another one where there is none
abbrev pub place_or : Option ℕ → ℕ → ℕ
place_or None k = k
place_or (Some p) k = p

-- where what stands at place k goes, elements to the place that takes them and the end to the end
abbrev pub place_in : Rearrangement → ℕ → ℕ
place_in by k = if nat_lt k by.size then place_or (place_taken by.sources.items k) k else length by.sources.items

-- the element at a place, and zeros where there is none
abbrev pub element_there : List Element → ℕ → Element
element_there es k = elim (slice_get es k) [ None ↦ record { key = pos 0; value = pos 0 } | Some x ↦ x ]

-- the element that a source gives, from the elements of the container itself and of the other one
abbrev pub element_from : List Element → List Element → Source → Element
element_from own other (Old k) = element_there own k
element_from own other (Written k z) = record (element_there own k) { key = z }
element_from own other (Theirs k) = element_there other k
element_from own other (New x) = x

-- a source of the model in the store; what is written or new is converted
abbrev pub source_code : SourceData → Source
source_code (old k) = Old k
source_code (written k z) = Written k (converted t.Int z)
source_code (theirs k) = Theirs k
source_code (new x y) = New (new_element (x, y))

-- These numbers are those of a change of the model: it has these sources and this room, what it takes it doesn't invalidate, but all
-- iterators where that is said, with the end.
pub record IsRearranged (by : Rearrangement) (c : Cont) (ch : Change) : Type 0 where
  pub sources : by.sources.items ≡ map source_code ch.sources
  pub room : by.room ≡ ch.room
  pub references : (k : ℕ) → k < size c → IsTaken ch.sources k → ch.lose k ≡ false
  pub iterators : by.all ≡ false → (k : ℕ) → k < size c → IsTaken ch.sources k → ch.kill k ≡ false
  pub all_die : by.all ≡ true → (k : ℕ) → k < size c → ch.kill k ≡ true
  pub end : ch.kill (size c) ≡ by.all
