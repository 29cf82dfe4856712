-- What a change does to slots, by its numbers alone. A fate says of each place of each container where what stands there goes, or
-- that it is invalidated, and at which site.
use Rattle.std.specs.Prelude.{◌+◌, ◌-◌, ◌≤◌, ◌<◌, ◌^◌, min, pos, replicate, ℕ, ◌==◌, nat_lt, Bool, Some, if◌then◌else◌}
use Rattle.sl_model.specs.Memory.Classes.{Edit, kills, loses}
use Rattle.sl_slots.specs.declared.edit.Editing.{Editing}
use Rattle.sl_slots.specs.declared.slot.Slot.{Slot}
use Rattle.sl_slots.specs.declared.slot.Slot.TheVariants.{Stands, Gone}
use Rattle.sl_slots.specs.declared.slot.Pointer.{Pointer}
use Rattle.sl_slots.specs.declared.slot.Pointer.TheVariants.{Iterator as IteratorAt, Reference}
use Rattle.sl_slots.specs.declared.slot.Value.{Value}
use Rattle.sl_slots.specs.declared.slot.Value.TheVariants.{Iterator, Pair, Two}
use Rattle.sl_slots.specs.Trading.{trade_fate}
use Rattle.sl_slots.specs.Rearranging.{kills_in, loses_in, place_in}
use Rattle.sl_slots.specs.declared.motion.Motion.{Motion}
use Rattle.sl_slots.specs.declared.motion.Motion.TheVariants.{Ends, Edits, Rearranges, Trades}

-- what becomes of what stands at a place of a container
abbrev pub Fate : Type 0
Fate = ℕ → ℕ → Slot

-- a slot after that; what stands nowhere stays so
abbrev pub slot_after : Fate → Slot → Slot
slot_after fate (Stands j k) = fate j k
slot_after fate (Gone site) = Gone site

-- the containers from number n on end at a site
abbrev pub ends : ℕ → ℕ → Fate
ends n site j k = if nat_lt j n then Stands j k else Gone (Some site)

-- in container i some places are invalidated at a site, and the others move
abbrev pub moves : ℕ → (ℕ → Bool) → (ℕ → ℕ) → ℕ → Fate
moves i kill move site j k = if j == i then (if kill k then Gone (Some site) else Stands j (move k)) else Stands j k

-- an edit in the words of the model, with any elements that come: what it does to slots goes by how many they are
abbrev pub edit_of : Editing → Edit
edit_of e = record { from = e.edit.from; gone = e.edit.gone; come = replicate e.come (pos 0, pos 0); room = e.edit.room }

-- an edit invalidates the iterators at place k
abbrev pub kills_by : Editing → ℕ → Bool
kills_by e k = kills e.edit.class e.size e.room (edit_of e) k

-- it invalidates the references to the element at place k
abbrev pub loses_by : Editing → ℕ → Bool
loses_by e k = loses e.edit.class e.size e.room (edit_of e) k

-- where it moves what stood at place k and stays; no place is near the greatest number
abbrev pub shifted_by : Editing → ℕ → ℕ
shifted_by e k = if nat_lt k e.edit.from then k else (min (k + e.come) 18446744073709551615 - e.edit.gone)

-- an edit of its container, which doesn't grow past all bounds
pub record IsFit (e : Editing) : Type 0 where
  pub inside : e.edit.from + e.edit.gone ≤ e.size
  pub few : e.size + e.come < 2 ^ 63

-- a change that can be carried out
abbrev pub IsReady : Motion → Type 0
IsReady (Ends n site) = Unit {0}
IsReady (Edits e) = IsFit e
IsReady (Rearranges by) = Unit {0}
IsReady (Trades by) = Unit {0}

-- the fate of iterators
abbrev pub iterator_fate : Motion → Fate
iterator_fate (Ends n site) = ends n site
iterator_fate (Edits e) = moves e.container (kills_by e) (shifted_by e) e.site
iterator_fate (Rearranges by) = moves by.container (kills_in by) (place_in by) by.site
iterator_fate (Trades by) = trade_fate by

-- the fate of references
abbrev pub reference_fate : Motion → Fate
reference_fate (Ends n site) = ends n site
reference_fate (Edits e) = moves e.container (loses_by e) (shifted_by e) e.site
reference_fate (Rearranges by) = moves by.container (loses_in by) (place_in by) by.site
reference_fate (Trades by) = trade_fate by

-- what a variable holds after a change
abbrev pub pointer_after : Motion → Pointer → Pointer
pointer_after by (IteratorAt s) = IteratorAt (slot_after (iterator_fate by) s)
pointer_after by (Reference s part) = Reference (slot_after (reference_fate by) s) part

-- a value after a change
abbrev pub value_after : Motion → Value → Value
value_after by (Iterator s) = Iterator (slot_after (iterator_fate by) s)
value_after by (Pair s b) = Pair (slot_after (iterator_fate by) s) b
value_after by (Two s t) = Two (slot_after (iterator_fate by) s) (slot_after (iterator_fate by) t)
value_after by v = v
