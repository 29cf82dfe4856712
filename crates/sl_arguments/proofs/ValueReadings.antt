-- What is read of the values and containers of a store is what a situation has.
use Rattle.std.proofs.Common.{◌≡◌, ℕ, zero, suc, List, [], ◌∷◌, map, Option, Some, None, refl, ap, sym, ◌∙◌}
use Rattle.std.specs.List.{slice_get, slice_index_or}
use Rattle.std.specs.Option.{option_map}
use Rattle.std.proofs.lemmas.Option.{slice_get-map}
use Rattle.sl_base.specs.declared.form.Form.TheVariants.{Vector}
use Rattle.sl_model.specs.Memory.Containers.{Memory, Cont, locate, found, stamps, killer_of, cont_at}
use Rattle.sl_model.specs.LibraryCalls.Values.{Value, nothing, number, iterator, pair, two, scalar_at, container_at, element_at}
use Rattle.sl_model.specs.LibraryCalls.Situation.{place_in, container_of_value, container_in, number_in}
use Rattle.sl_slots.specs.declared.container.Container.{Container}
use Rattle.sl_slots.specs.Shown.{Plain, plain, contents, slot_from, value_of}
use Rattle.sl_arguments.specs.Means.Values.{place_shown, container_shown, number_shown, shown_at}
use Rattle.sl_slots.specs.declared.slot.Value.TheVariants.{Iterator}

-- where an iterator of the store stands is where its mark is found
place_from : (o : Option (ℕ × ℕ)) (site : Option ℕ) → place_shown (Iterator (slot_from o site)) ≡ o
place_from None site = refl
place_from (Some p) site = refl

-- where a value stands
pub place_read : (m : Memory) (v : Value) → place_shown (value_of m v) ≡ place_in m v
place_read m nothing = refl
place_read m (number z) = refl
place_read m (iterator s) = place_from (locate m s) (killer_of s m.graves)
place_read m (pair s b) = refl
place_read m (two s t) = refl
place_read m (scalar_at l) = refl
place_read m (container_at j) = refl
place_read m (element_at j k part) = refl

-- the container that it is or stands in
pub container_read : (m : Memory) (v : Value) → container_shown (value_of m v) ≡ container_of_value m v
container_read m nothing = refl
container_read m (number z) = refl
container_read m (iterator s) = ap container_in (place_read m (iterator s))
container_read m (pair s b) = refl
container_read m (two s t) = refl
container_read m (scalar_at l) = refl
container_read m (container_at j) = refl
container_read m (element_at j k part) = refl

-- it as a number
pub number_read : (m : Memory) (v : Value) → number_shown (value_of m v) ≡ number_in v
number_read m nothing = refl
number_read m (number z) = refl
number_read m (iterator s) = refl
number_read m (pair s b) = refl
number_read m (two s t) = refl
number_read m (scalar_at l) = refl
number_read m (container_at j) = refl
number_read m (element_at j k part) = refl

-- contents that are there, and those of an empty container
abbrev plain_or : Option Plain → Plain
plain_or o = elim o [ None ↦ record { form = Vector; elements = []; room = 0 } | Some p ↦ p ]

-- a container among these
shown-or : (o : Option Container)
    → (elim o as (λ _. Plain) [ None ↦ record { form = Vector; elements = []; room = 0 } | Some c ↦ contents c ]) ≡ plain_or (option_map contents o)
shown-or None = refl
shown-or (Some c) = refl

-- a container of the memory among these
plain-or : (cs : List Cont) (j end : ℕ) → plain (slice_index_or cs j (record { form = Vector; cells = []; end = end; room = 0 }))
    ≡ plain_or (option_map plain (slice_get cs j))
plain-or [] j end = refl
plain-or (c ∷ cs) zero end = refl
plain-or (c ∷ cs) (suc j) end = plain-or cs j end

-- the container with a number, an empty one where there is none
pub container_shows : (cs : List Container) (m : Memory) → map contents cs ≡ map plain m.conts → (j : ℕ) → shown_at cs j ≡ plain (cont_at m j)
container_shows cs m e j = shown-or (slice_get cs j)
    ∙ (ap plain_or (sym (slice_get-map contents cs j) ∙ (ap (λ (l : List Plain). slice_get l j) e ∙ slice_get-map plain m.conts j))
    ∙ sym (plain-or m.conts j m.fresh))
