-- Named lists of bytes, what is left under a name, and what a failed read is blamed on.
use Rattle.std.specs.Prelude.{◌≡◌, ◌<◌, ℕ, List, [], ◌∷◌, Option, Some, None, if◌then◌else◌, String, Vec, string_bytes, length, map, slice_index_or}
use Rattle.std.specs.Str.{bytes_eq}
use Rattle.std.specs.declared.alloc.Global.{Global}
use Rattle.sl_base.specs.declared.outside.blame.Blame.{Blame}
use Rattle.sl_base.specs.declared.outside.blame.Blame.TheVariants.{Nothing, Known, Unknown}

abbrev pub MemFile : Type 0
MemFile = String Global × Vec ℕ Global

abbrev pub names_of : List MemFile → List (List ℕ)
names_of files = map (λ f. string_bytes f.0) files

-- what is left of the first file of this name
abbrev pub left_in : List MemFile → List ℕ → Option (List ℕ)
left_in [] name = None
left_in (f ∷ fs) name = if bytes_eq (string_bytes f.0) name then Some f.1.items else left_in fs name

-- the file at i has this name
abbrev pub HasNameAt : List MemFile → ℕ → List ℕ → Type 0
HasNameAt fs i name = (d : MemFile) → string_bytes (slice_index_or fs i d).0 ≡ name

-- the first file of this name is at i
pub record IsPlace (fs : List MemFile) (name : List ℕ) (i : ℕ) : Type 0 where
  pub within : i < length fs
  pub named : HasNameAt fs i name
  pub first : (k : ℕ) (d : MemFile) → k < i → string_bytes (slice_index_or fs k d).0 ≡ name → ⊥

-- the last read that failed was of this name
abbrev pub IsBlamed : List MemFile → Blame → List ℕ → Type 0
IsBlamed fs Nothing name = ⊥
IsBlamed fs (Known i) name = (i < length fs) × HasNameAt fs i name
IsBlamed fs Unknown name = left_in fs name ≡ None

-- The blame is on this name alone, or, where it isn't there, on the names that aren't there alone.
abbrev pub BlamesAlone : (List ℕ → Option (List ℕ)) → (List ℕ → Type 0) → List ℕ → Type 0
BlamesAlone left blamed name = (other : List ℕ) → blamed other → (left name ≡ None → left other ≡ None) × ((left name ≡ None → ⊥) → other ≡ name)
