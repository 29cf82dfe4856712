-- The line that is written for a refusal is the one that is due.
use Rattle.std.proofs.Common.{◌≡◌, List, ℕ, Some, Result, Ok, Err, IfOk, sym, ap, subst}
use Rattle.std.specs.declared.alloc.AllocError.{AllocError}

-- a line that is another has what the other has
pub is_line : (P : List ℕ → Type 0) (due line : List ℕ) → Some due ≡ Some line → P due → P line
is_line P due line e h = let q : due ≡ line = cc in subst P q h

-- where a line is written, it is the one of the stop
pub written : (due : List ℕ) (result : Result (List ℕ) AllocError) → IfOk result (λ line. line ≡ due) → IfOk result (λ line. Some due ≡ Some line)
written due (Ok line) is = ap Some (sym is)
written due (Err e) is = tt
