-- Words of a command by name.
use Rattle.std.proofs.Common.{ℕ, List, [], ◌∷◌, String, arith}
use Rattle.std.specs.declared.alloc.Global.{Global}
use Rattle.sl_base.specs.RealWords.{HasNoWord, IsWordAt}

-- a name that a word has is a word
pub IsWordAt-some : (words : List (String Global)) (name : List ℕ) (i : ℕ) → IsWordAt words name i → HasNoWord words name → ⊥
IsWordAt-some [] name i there none = omega (arith, there.0)
IsWordAt-some (w ∷ ws) name i there none = none i w there.0 (there.1 w)
