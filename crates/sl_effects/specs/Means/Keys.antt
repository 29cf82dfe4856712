-- Keys of elements as the code has them, and what one key more leaves.
use Rattle.std.specs.Prelude.{ℕ, ◌+◌, ℤ, Bool, true, false, List, map, int_lt, int_le, if◌then◌else◌}
use Rattle.sl_specs.specs.declared.class.Class.{Class}
use Rattle.sl_specs.specs.declared.class.Class.TheVariants.{HashInsert}
use Rattle.sl_specs.specs.Forms.{is_hash}
use Rattle.sl_model.specs.Memory.Containers.{Cont, size}
use Rattle.sl_model.specs.Memory.Edits.{after}
use Rattle.sl_model.specs.Memory.Schedule.{after_picks}
use Rattle.sl_model.specs.LibraryCalls.Effects.{Left, is_full, key_change, key_picks}
use Rattle.sl_slots.specs.declared.container.Element.{Element}

-- the keys of elements
abbrev pub keys_of : List Element → List ℤ
keys_of es = map (λ (x : Element). x.key) es

-- a key goes before a new one, an equal one where that is said
abbrev pub goes_before : Bool → ℤ → ℤ → Bool
goes_before equal k x = if equal then int_le x k else int_lt x k

-- a new key comes into container j, which was c
abbrev pub added : Class → ℕ → ℕ → Cont → ℤ × ℤ → Left → Left
added class site j c x left = record {
  memory = after (key_change class c x left.picks) left.memory j c site;
  picks = after_picks (key_picks c) left.picks;
}

-- a new key makes a container grow and put all its elements in again
abbrev pub scatters : Cont → Bool
scatters c = if is_hash c.form then is_full c 1 else false

-- how many picks a new key takes in a hash form
abbrev pub picks_in_hash : Cont → ℕ
picks_in_hash c = if is_full c 1 then size c + 2 else 1

-- a class of rows that put keys in invalidates the iterators of a hash form that grows
abbrev pub grows_over : Class → Bool
grows_over HashInsert = true
grows_over class = false
