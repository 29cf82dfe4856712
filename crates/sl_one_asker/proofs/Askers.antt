-- How many nodes may ask for something at a place.
use Rattle.std.proofs.Common.{ℕ, List, []}
use Rattle.std.specs.Prelude.{◌||◌, if◌then◌else◌}
use Rattle.std.specs.List.{list_any}
use Rattle.sl_base.specs.declared.place.Place.{Place}
use Rattle.sl_model.specs.Typing.WellTypedNodes.{Node, a_call, a_use, a_range}
use Rattle.sl_model.specs.Typing.WellTypedNumbers.{same_place}
use Rattle.sl_one_asker.proofs.Totals.{total}

-- one, if the first place is among the others, which are told of one word
unfoldable pub told_at : Place → Place → List Place → ℕ
told_at q p ps = if same_place q p || list_any (same_place q) ps then 1 else 0

-- one, if two places are one
abbrev pub here : Place → Place → ℕ
here q p = told_at q p []

-- one, if a node that may ask stands at a place: a call of the library, a use of a reference, or a range-for
abbrev pub asks_at : Place → Node → ℕ
asks_at q (a_call h ops) = here q h.place
asks_at q (a_use at name) = here q at
asks_at q (a_range at name) = here q at
asks_at q node = 0

-- how many of these nodes do
abbrev pub askers : Place → List Node → ℕ
askers q nodes = total (asks_at q) nodes
