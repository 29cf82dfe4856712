-- Parameters that are declared one after the other.
use Rattle.std.proofs.Common.{◌≡◌, ℕ, ◌+◌, ◌<◌, ◌≤◌, List, ◌∷◌, drop, get_or, length, sym, ◌∙◌, ap}
use Rattle.std.proofs.lemmas.List.{at_drop_more, at_drop_all}
use Rattle.sl_syntax.specs.declared.tree.function.Param.{Param}
use Rattle.sl_typing.specs.Contexts.{Context, declare_parameters}
use Rattle.sl_typing.specs.ProgramFaults.{behind_parameter}

-- one more is declared
pub one_more : (xs : List Param) (g h new : Context) (n : ℕ) (x : Param) → n < length xs → x ≡ get_or xs n x
    → declare_parameters (drop n xs) h ≡ declare_parameters xs g → new ≡ behind_parameter h x
    → declare_parameters (drop (n + 1) xs) new ≡ declare_parameters xs g
one_more xs g h new n x lt at left known =
    ap (λ (k : Context). declare_parameters (drop (n + 1) xs) k) known
    ∙ ap (λ (y : Param). declare_parameters (y ∷ drop (n + 1) xs) h) at
    ∙ sym (at_drop_more (λ (l : List Param). declare_parameters l h) xs n x lt)
    ∙ left

-- none is left
pub all_declared : (xs : List Param) (g h : Context) (n : ℕ) → length xs ≤ n → declare_parameters (drop n xs) h ≡ declare_parameters xs g
    → h ≡ declare_parameters xs g
all_declared xs g h n past left = sym (at_drop_all (λ (l : List Param). declare_parameters l h) xs n past) ∙ left
