-- Which word of the command a read that failed was of.
use Rattle.std.specs.Prelude.{◌≡◌, ◌<◌, ℕ, List, String, string_bytes, length, map, slice_index_or}
use Rattle.std.specs.declared.alloc.Global.{Global}
use Rattle.sl_base.specs.declared.outside.blame.Blame.{Blame}
use Rattle.sl_base.specs.declared.outside.blame.Blame.TheVariants.{Nothing, Known, Unknown}

abbrev pub names_of_words : List (String Global) → List (List ℕ)
names_of_words words = map string_bytes words

-- no word is this name
abbrev pub HasNoWord : List (String Global) → List ℕ → Type 0
HasNoWord words name = (k : ℕ) (d : String Global) → k < length words → string_bytes (slice_index_or words k d) ≡ name → ⊥

-- the word at i is this name
abbrev pub IsWordAt : List (String Global) → List ℕ → ℕ → Type 0
IsWordAt words name i = (i < length words) × ((d : String Global) → string_bytes (slice_index_or words i d) ≡ name)

-- the last read that failed was of this name
abbrev pub IsBlamedWord : List (String Global) → Blame → List ℕ → Type 0
IsBlamedWord words Nothing name = ⊥
IsBlamedWord words (Known i) name = IsWordAt words name i
IsBlamedWord words Unknown name = HasNoWord words name
