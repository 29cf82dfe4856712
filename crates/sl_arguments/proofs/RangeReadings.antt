-- What is read of ranges.
use Rattle.std.proofs.Common.{◌≡◌, ℕ, ◌-◌, List, [], ◌∷◌, map, take, drop, slice_range, refl, ap, sym, ◌∙◌}
use Rattle.std.proofs.lemmas.List.{take-map, drop-map}
use Rattle.sl_model.specs.Memory.Containers.{Cell}
use Rattle.sl_slots.specs.Shown.{element_of}
use Rattle.sl_arguments.specs.Readings.{key_of}

-- the keys of elements without marks
pub keys_read : (cs : List Cell) → map key_of (map element_of cs) ≡ map (λ (x : Cell). x.key) cs
keys_read [] = refl
keys_read (c ∷ cs) = ap (λ l. c.key ∷ l) (keys_read cs)

-- the keys of those from a place on
pub keys_between : (cs : List Cell) (low high : ℕ) → map key_of (slice_range (map element_of cs) low high)
    ≡ slice_range (map (λ (x : Cell). x.key) cs) low high
keys_between cs low high = sym (take-map key_of (high - low) (drop low (map element_of cs)))
    ∙ ap (take (high - low)) (sym (drop-map key_of low (map element_of cs)) ∙ ap (drop low) (keys_read cs))
