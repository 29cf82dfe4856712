-- Lists are walked item by item.
use Rattle.std.proofs.Common.{◌≡◌, List, ◌++◌, drop, length, ℕ, ◌≤◌, sym, ap, ◌∙◌, append-nil, ℤ, flat_map}
use Rattle.std.proofs.lemmas.List.{drop_all}

-- nothing is left
pub none_left : {X : Type 0} (f : X → List ℤ) (xs : List X) (k : ℕ) (out whole : List ℤ) → length xs ≤ k → out ++ flat_map f (drop k xs) ≡ whole
    → out ≡ whole
none_left f xs k out whole le h = sym (append-nil out) ∙ ap (λ l. out ++ flat_map f l) (sym (drop_all k xs le)) ∙ h
