-- How far words begin something whole, as a program.
use Rattle.std.specs.Prelude.{◌≡◌, ℕ, ◌+◌, ◌≤◌, ◌<◌, List, ◌++◌, length, take, map}
use Rattle.sl_base.specs.declared.token.Token.{Token}
use Rattle.sl_base.specs.declared.word.Word.{Word}
use Rattle.sl_syntax.specs.Shaped.{Shaped}
use Rattle.sl_syntax.specs.Tree.{Program}
use Rattle.sl_syntax.specs.Written.{words}

-- the words of tokens
abbrev pub words_in : List Token → List Word
words_in tokens = map (λ (t : Token). t.word) tokens

-- these are the words of a program that follows the grammar
abbrev pub IsProgram : List Word → Type 0
IsProgram ws = (p : Program) × Shaped p × (words p ≡ ws)

-- with some words behind them they are whole
abbrev pub Begins : (List Word → Type 0) → List Word → Type 0
Begins IsWhole ws = (more : List Word) × IsWhole (ws ++ more)

-- The first k words begin what is whole, and the first k + 1 don't. Where there are only k, they aren't whole.
pub record Stops (IsWhole : List Word → Type 0) (ws : List Word) (k : ℕ) : Type 0 where
  pub inside : k ≤ length ws
  pub before : Begins IsWhole (take k ws)
  pub behind : k < length ws → Begins IsWhole (take (k + 1) ws) → ⊥
  pub ends : k ≡ length ws → IsWhole ws → ⊥
