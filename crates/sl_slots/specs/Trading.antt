-- Two containers that exchange elements, by numbers: what becomes of what stood in them.
use Rattle.std.specs.Prelude.{◌≡◌, ℕ, ◌<◌, ◌==◌, nat_lt, Bool, true, false, List, map, length, Option, Some, None, if◌then◌else◌}
use Rattle.sl_model.specs.Memory.Containers.{Cont, size}
use Rattle.sl_model.specs.Memory.Edits.{Change}
use Rattle.sl_slots.specs.declared.source.Source.{Source}
use Rattle.sl_slots.specs.declared.source.Source.TheVariants.{Old, Written, Theirs, New}
use Rattle.sl_slots.specs.declared.slot.Slot.{Slot}
use Rattle.sl_slots.specs.declared.slot.Slot.TheVariants.{Stands, Gone}
use Rattle.sl_slots.specs.declared.trade.Side.{Side}
use Rattle.sl_slots.specs.declared.trade.Trade.{Trade}
use Rattle.sl_slots.specs.Rearranging.{index_taken, place_taken, source_code}

-- a source takes place k of the other container
abbrev pub takes_theirs : Source → ℕ → Bool
takes_theirs (Old i) k = false
takes_theirs (Written i x) k = false
takes_theirs (Theirs i) k = i == k
takes_theirs (New x) k = false

-- where the element at place k of the other container goes, if a source takes it
abbrev pub place_over : List Source → ℕ → Option ℕ
place_over ss k = index_taken (λ s. takes_theirs s k) 0 ss

-- what becomes of an element of container j that its own sources take, or else those of container i
abbrev pub traded_place : ℕ → Option ℕ → ℕ → Option ℕ → ℕ → Slot
traded_place j (Some p) i over site = Stands j p
traded_place j None i (Some p) site = Stands i p
traded_place j None i None site = Gone (Some site)

-- what becomes of what stands at place k of one of two containers that exchange elements
abbrev pub traded : Side → Side → Bool → ℕ → ℕ → Slot
traded own other ends site k =
    if nat_lt k own.size
    then traded_place own.container (place_taken own.sources.items k) other.container (place_over other.sources.items k) site
    else if ends then Gone (Some site) else Stands own.container (length own.sources.items)

-- what becomes of what stands at place k of container j
abbrev pub trade_fate : Trade → ℕ → ℕ → Slot
trade_fate by j k =
    if j == by.first.container then traded by.first by.second by.ends by.site k
    else if j == by.second.container then traded by.second by.first by.ends by.site k
    else Stands j k

-- The numbers of one of two containers are those of a change of the model: it has these sources and this room, and it invalidates no
-- element, and the end where that is said.
pub record IsSide (side : Side) (ends : Bool) (c : Cont) (ch : Change) : Type 0 where
  pub sources : side.sources.items ≡ map source_code ch.sources
  pub room : side.room ≡ ch.room
  pub iterators : (k : ℕ) → k < size c → ch.kill k ≡ false
  pub references : (k : ℕ) → k < size c → ch.lose k ≡ false
  pub end : ch.kill (size c) ≡ ends
