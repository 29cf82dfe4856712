-- What the words of a command ask for.
use Rattle.std.specs.Prelude.{ℕ, List, [], ◌∷◌, map, if◌then◌else◌, codes, String, string_bytes}
use Rattle.std.specs.Str.{bytes_eq}
use Rattle.std.specs.declared.alloc.Global.{Global}

abbrev pub words_of : List (String Global) → List (List ℕ)
words_of words = map string_bytes words

pub data Command : Type 0 where
  -- `check FILE`
  check : List ℕ → Command
  -- `specs`
  specs : Command
  -- anything else
  unknown : Command

abbrev pub command_of : List (List ℕ) → Command
command_of (word ∷ []) = if bytes_eq word (codes "specs") then specs else unknown
command_of (word ∷ file ∷ []) = if bytes_eq word (codes "check") then check file else unknown
command_of _ = unknown
