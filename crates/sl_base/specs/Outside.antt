-- What a read takes from a file and a write gives to a sink, where their bytes are told, and when a fault may be told.
use Rattle.std.specs.Prelude.{◌≡◌, ◌≢◌, ◌↔◌, ℕ, ◌+◌, ◌-◌, ◌^◌, ◌<◌, ◌≤◌, List, length, Option}
use Rattle.std.specs.Io.KnownBytes.{Consumes, Keeps, IsAtEnd}

-- A count rose, or stands at its last value.
abbrev pub Rose : ℕ → ℕ → Type 0
Rose before after = after < 2 ^ 64 - 1 → before < after

-- No fault was told: the count of faults stayed, and what was blamed is blamed and nothing else.
pub record NoFault (before after : ℕ) (blamed_before blamed_after : List ℕ → Type 0) : Type 0 where
  pub count : after ≡ before
  pub blame : (name : List ℕ) → blamed_after name ↔ blamed_before name

-- the told bytes of each name but this one are as they were
abbrev pub OthersKept : (List ℕ → Option (List ℕ)) → (List ℕ → Option (List ℕ)) → List ℕ → Type 0
OthersKept old new name = (other : List ℕ) → other ≢ name → Keeps (old other) (new other)

-- the told bytes of every name are as they were
abbrev pub AllKept : (List ℕ → Option (List ℕ)) → (List ℕ → Option (List ℕ)) → Type 0
AllKept old new = (other : List ℕ) → Keeps (old other) (new other)

-- These bytes were read of a file's told bytes: all of them, or one more than the limit.
pub record IsRead (limit : ℕ) (bytes : List ℕ) (old new : Option (List ℕ)) : Type 0 where
  pub consumed : Consumes old new bytes
  pub bound : length bytes ≤ limit + 1
  pub whole : length bytes ≤ limit → IsAtEnd new

-- a first part of a file's told bytes was read, and no more than the limit and one
abbrev pub IsReadInPart : ℕ → Option (List ℕ) → Option (List ℕ) → Type 0
IsReadInPart limit old new = (bytes : List ℕ) × (length bytes ≤ limit + 1) × Consumes old new bytes
