-- Which memory of a run a store shows. The store has no stamps, no refers and nothing of what was dropped: each iterator and each
-- reference is a slot, which says where its stamp or refer stands in the memory, or, where it stands nowhere, which site dropped it.
-- So the relation is equations, by a function from stamps and refers to slots.
--
-- Nothing here restates a standard: what containers, stamps and refers are, `sl_model` says.
use Rattle.std.specs.Prelude.{◌≡◌, ℕ, ℤ, List, map, Option, Some, None}
use Rattle.sl_base.specs.declared.form.Form.{Form}
use Rattle.sl_base.specs.declared.scalar.Scalar.TheVariants as t
use Rattle.sl_model.specs.Numbers.{converted}
use Rattle.sl_model.specs.Memory.Containers.{Cell, Cont, Grave, Memory, stamps, refers, found, killer_of, Part, key_part, value_part}
use Rattle.sl_model.specs.Runs.State.{Pointer, iterator_at, reference_to, mark_in}
use Rattle.sl_model.specs.LibraryCalls.Values.{Value, nothing, number, iterator, pair, two, scalar_at, container_at, element_at}
use Rattle.sl_model.specs.Runs.Good.{AreBelow, IsSound}
use Rattle.sl_model.proofs.Gifts.{AllUsed}
use Rattle.sl_slots.specs.declared.slot.Slot.{Slot}
use Rattle.sl_slots.specs.declared.slot.Slot.TheVariants.{Stands, Gone}
use Rattle.sl_slots.specs.declared.slot.Part.{Part as PartCode}
use Rattle.sl_slots.specs.declared.slot.Part.TheVariants as q
use Rattle.sl_slots.specs.declared.slot.Pointer.{Pointer as PointerCode}
use Rattle.sl_slots.specs.declared.slot.Pointer.TheVariants as p
use Rattle.sl_slots.specs.declared.slot.Value.{Value as ValueCode}
use Rattle.sl_slots.specs.declared.slot.Value.TheVariants as v
use Rattle.sl_slots.specs.declared.container.Element.{Element}
use Rattle.sl_slots.specs.declared.container.Container.{Container}
use Rattle.sl_slots.specs.declared.store.Store.{Store}

-- a slot, by where a mark stands and by the site that dropped it
abbrev pub slot_from : Option (ℕ × ℕ) → Option ℕ → Slot
slot_from None site = Gone site
slot_from (Some at) site = Stands at.0 at.1

-- the slot of a mark among these lists of marks and these dropped ones
abbrev pub slot_in : List (List ℕ) → List Grave → ℕ → Slot
slot_in lists graves mark = slot_from (found mark 0 lists) (killer_of mark graves)

-- the slot of an iterator
abbrev pub slot_of : Memory → ℕ → Slot
slot_of m stamp = slot_in (map stamps m.conts) m.graves stamp

-- the slot of a reference
abbrev pub refer_slot : Memory → ℕ → Slot
refer_slot m refer = slot_in (map refers m.conts) m.lost refer

-- which number of an element, in the store
abbrev pub part_code : Part → PartCode
part_code key_part = q.Key
part_code value_part = q.Value

-- what the store has for what an iterator variable or a reference holds
abbrev pub pointer_of : Memory → Pointer → PointerCode
pointer_of m (iterator_at stamp) = p.Iterator (slot_of m stamp)
pointer_of m (reference_to refer part) = p.Reference (refer_slot m refer) (part_code part)

-- what the store has for a value
abbrev pub value_of : Memory → Value → ValueCode
value_of m nothing = v.Nothing
value_of m (number z) = v.Number z
value_of m (iterator stamp) = v.Iterator (slot_of m stamp)
value_of m (pair stamp b) = v.Pair (slot_of m stamp) b
value_of m (two stamp other) = v.Two (slot_of m stamp) (slot_of m other)
value_of m (scalar_at l) = v.ScalarAt l
value_of m (container_at l) = v.ContainerAt l
value_of m (element_at j k part) = v.ElementAt j k (part_code part)

-- what a container has but marks
pub record Plain : Type 0 where
  pub form : Form
  pub elements : List Element
  pub room : ℕ

-- an element without its marks
abbrev pub element_of : Cell → Element
element_of x = record { key = x.key; value = x.value }

-- a container of a memory without its marks
abbrev pub plain : Cont → Plain
plain c = record { form = c.form; elements = map element_of c.cells; room = c.room }

-- a container of the store
abbrev pub contents : Container → Plain
contents c = record { form = c.form; elements = c.elements.items; room = c.room }

-- an element that comes into a container with a key and a value, which are converted
abbrev pub new_element : ℤ × ℤ → Element
new_element x = record { key = converted t.Int x.0; value = converted t.Int x.1 }

-- The store shows a memory, in which variables hold these iterators and references, and these values are held as operands.
pub record Shows (st : Store) (m : Memory) (ps : List Pointer) (vs : List Value) : Type 0 where
  pub containers : map contents st.containers.items ≡ map plain m.conts
  pub pointers : st.pointers.items ≡ map (pointer_of m) ps
  pub operands : st.operands.items ≡ map (value_of m) vs

-- the store shows a sound memory, and all that is held was used
pub record Holds (st : Store) (m : Memory) (ps : List Pointer) (vs : List Value) : Type 0 where
  pub sound : IsSound m
  pub pointers_used : AreBelow (map mark_in ps) m.fresh
  pub operands_used : AllUsed m.fresh vs
  pub shows : Shows st m ps vs
