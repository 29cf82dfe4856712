-- What is read of values and containers of a store.
use Rattle.std.specs.Prelude.{ℕ, ℤ, pos, List, [], Option, Some, None, slice_get}
use Rattle.sl_base.specs.declared.form.Form.TheVariants.{Vector}
use Rattle.sl_model.specs.LibraryCalls.Situation.{container_in}
use Rattle.sl_slots.specs.declared.slot.Slot.TheVariants.{Stands, Gone}
use Rattle.sl_slots.specs.declared.slot.Value.{Value}
use Rattle.sl_slots.specs.declared.slot.Value.TheVariants.{Number, Iterator, ContainerAt}
use Rattle.sl_slots.specs.declared.container.Container.{Container}
use Rattle.sl_slots.specs.Shown.{Plain, contents}

-- where a value stands
abbrev pub place_shown : Value → Option (ℕ × ℕ)
place_shown (Iterator (Stands j k)) = Some (j, k)
place_shown v = None

-- the container that it is or stands in
abbrev pub container_shown : Value → ℕ
container_shown (ContainerAt j) = j
container_shown v = container_in (place_shown v)

-- it as a number
abbrev pub number_shown : Value → ℤ
number_shown (Number z) = z
number_shown v = pos 0

-- the container with a number among these, and an empty one where there is none
abbrev pub shown_at : List Container → ℕ → Plain
shown_at cs j = elim (slice_get cs j) [ None ↦ record { form = Vector; elements = []; room = 0 } | Some c ↦ contents c ]

-- the container that it is
abbrev pub appended_shown : Value → Option ℕ
appended_shown (ContainerAt j) = Some j
appended_shown v = None
