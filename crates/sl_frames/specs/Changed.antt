-- What the calls on variables do to them, and what they read.
use Rattle.std.specs.Prelude.{◌≡◌, ℕ, ℤ, pos, List, [], ◌∷◌, ◌++◌, map, length, take, Option, Some, None, slice_get, slice_set, Bool}
use Rattle.std.specs.Prelude.{true, false}
use Rattle.sl_base.specs.declared.place.Place.{Place}
use Rattle.sl_base.specs.declared.scalar.Scalar.{Scalar}
use Rattle.sl_base.specs.declared.scalar.Scalar.TheVariants as t
use Rattle.sl_syntax.specs.declared.typed.element.ElementPart.{ElementPart}
use Rattle.sl_syntax.specs.declared.typed.element.ElementPart.TheVariants as parts
use Rattle.sl_model.specs.LibraryCalls.Values.{element_at}
use Rattle.sl_model.specs.Memory.Containers.{Part, key_part, value_part}
use Rattle.sl_model.specs.Numbers.{converted}
use Rattle.sl_model.specs.Runs.Ends.{NoMeaning, Trapped, use_trap}
use Rattle.sl_model.specs.Runs.Eval.{Out, Gives, Stops}
use Rattle.sl_model.specs.Runs.State.{Frame, Slot, State}
use Rattle.sl_slots.specs.declared.container.Element.{Element}
use Rattle.sl_slots.specs.declared.motion.Motion.TheVariants.{Ends}
use Rattle.sl_slots.specs.declared.slot.Part.{Part as PartCode}
use Rattle.sl_slots.specs.declared.slot.Part.TheVariants as q
use Rattle.sl_slots.specs.declared.slot.Pointer.{Pointer}
use Rattle.sl_slots.specs.declared.slot.Pointer.TheVariants as p
use Rattle.sl_slots.specs.declared.slot.Slot.{Slot as SlotCode}
use Rattle.sl_slots.specs.declared.slot.Slot.TheVariants.{Stands, Gone}
use Rattle.sl_slots.specs.declared.slot.Value.{Value}
use Rattle.sl_slots.specs.declared.slot.Value.TheVariants as v
use Rattle.sl_slots.specs.declared.store.Store.{Store}
use Rattle.sl_slots.specs.Fates.{pointer_after, value_after}
use Rattle.sl_slots.specs.Stored.{Written, elements_at, number_of}
use Rattle.sl_frames.specs.declared.frame.Frame.{Frame as FrameCode}
use Rattle.sl_frames.specs.declared.heights.Heights.{Heights}
use Rattle.sl_frames.specs.declared.references.ReferenceUse.{ReferenceUse}
use Rattle.sl_frames.specs.declared.references.ReferenceUse.TheVariants as uses
use Rattle.sl_frames.specs.declared.variables.Variables.{Variables}
use Rattle.sl_frames.specs.Followed.{frame_of, variable_of}

-- how many variables are in scope
abbrev pub frame_heights : FrameCode → Heights
frame_heights f = record { scalars = length f.scalars.items; containers = length f.containers.items; pointers = length f.pointers.items }

-- how many variables all calls in progress have
abbrev pub heights_of : Variables → Heights
heights_of v = record {
  scalars = length v.scalars.items;
  containers = length v.store.containers.items;
  pointers = length v.store.pointers.items;
}

-- a frame with the first variables alone
abbrev pub frame_cut : Heights → Frame → Frame
frame_cut h f = record { scalars = take h.scalars f.scalars; conts = take h.containers f.conts; iters = take h.pointers f.iters }

-- a scalar came into scope
pub record ScalarCame (ty : Scalar) (value : Option ℤ) (old new : Variables) : Type 0 where
  pub frame : frame_of new.frame ≡ record (frame_of old.frame) { scalars = old.frame.scalars.items ++ length old.scalars.items ∷ [] }
  pub scalars : map variable_of new.scalars.items ≡ map variable_of old.scalars.items ++ record { ty = ty; value = value } ∷ []
  pub store : new.store ≡ old.store

-- a scalar that is there got a further name
pub record ScalarNamed (at : ℕ) (old new : Variables) : Type 0 where
  pub frame : frame_of new.frame ≡ record (frame_of old.frame) { scalars = old.frame.scalars.items ++ at ∷ [] }
  pub scalars : new.scalars ≡ old.scalars
  pub store : new.store ≡ old.store

-- an iterator or a reference came into scope
pub record PointerCame (x : Pointer) (old new : Variables) : Type 0 where
  pub frame : frame_of new.frame ≡ record (frame_of old.frame) { iters = old.frame.pointers.items ++ length old.store.pointers.items ∷ [] }
  pub scalars : new.scalars ≡ old.scalars
  pub containers : new.store.containers ≡ old.store.containers
  pub pointers : new.store.pointers.items ≡ old.store.pointers.items ++ x ∷ []
  pub operands : new.store.operands ≡ old.store.operands

-- two iterators came into scope, at the begin and at the end of a container
pub record RangeCame (at : ℕ) (old new : Variables) : Type 0 where
  pub middle : Variables
  pub first : PointerCame (p.Iterator (Stands at 0)) old middle
  pub second : PointerCame (p.Iterator (Stands at (length (elements_at old.store at)))) middle new

-- a reference to the element at a place came into scope, or nothing happened
abbrev pub ReferenceCame : Bool → Value → Variables → Variables → Type 0
ReferenceCame true (v.ElementAt j k part) old new = PointerCame (p.Reference (Stands j k) part) old new
ReferenceCame true w old new = ⊥
ReferenceCame false w old new = new ≡ old

-- a container came into scope
pub record ContainerCame (at : ℕ) (old new : Variables) : Type 0 where
  pub frame : frame_of new.frame ≡ record (frame_of old.frame) { conts = old.frame.containers.items ++ at ∷ [] }
  pub scalars : new.scalars ≡ old.scalars
  pub store : new.store ≡ old.store

-- the scalars, of which the one at a location takes a number, where it is there
abbrev pub scalars_with : List Slot → ℕ → ℤ → List Slot
scalars_with scalars at z = elim (slice_get scalars at) [ None ↦ scalars | Some x ↦ slice_set scalars at (record x { value = Some z }) ]

-- a scalar took a number
pub record NumberSet (at : ℕ) (z : ℤ) (old new : Variables) : Type 0 where
  pub frame : new.frame ≡ old.frame
  pub scalars : map variable_of new.scalars.items ≡ scalars_with (map variable_of old.scalars.items) at z
  pub store : new.store ≡ old.store

-- an iterator or a reference holds another one
pub record PointerSet (at : ℕ) (x : Pointer) (old new : Variables) : Type 0 where
  pub frame : new.frame ≡ old.frame
  pub scalars : new.scalars ≡ old.scalars
  pub containers : new.store.containers ≡ old.store.containers
  pub pointers : new.store.pointers.items ≡ slice_set old.store.pointers.items at x
  pub operands : new.store.operands ≡ old.store.operands

-- a number was written in an element, where it is there, as an `int`
pub record ElementWrote (j k : ℕ) (part : PartCode) (z : ℤ) (old new : Store) : Type 0 where
  pub there : (x : Element) → slice_get (elements_at old j) k ≡ Some x → Written j k x part (converted t.Int z) old new
  pub absent : slice_get (elements_at old j) k ≡ None → new ≡ old

-- a number was written at a place; any other value is none
abbrev pub Wrote : Value → ℤ → Variables → Variables → Type 0
Wrote (v.ScalarAt l) z old new = NumberSet l z old new
Wrote (v.ElementAt j k part) z old new = (new.frame ≡ old.frame) × (new.scalars ≡ old.scalars) × ElementWrote j k part z old.store new.store
Wrote w z old new = new ≡ old

-- the variables of all calls from these locations on ended at a site
pub record StacksCut (h : Heights) (site : ℕ) (old new : Variables) : Type 0 where
  pub scalars : new.scalars.items ≡ take h.scalars old.scalars.items
  pub containers : new.store.containers.items ≡ take h.containers old.store.containers.items
  pub pointers : new.store.pointers.items ≡ map (pointer_after (Ends h.containers site)) (take h.pointers old.store.pointers.items)
  pub operands : new.store.operands.items ≡ map (value_after (Ends h.containers site)) old.store.operands.items

-- the number of a scalar, where it is there and set
abbrev pub number_at : Variables → ℕ → Option ℤ
number_at v at = elim (slice_get v.scalars.items at) [ None ↦ None | Some x ↦ x.value ]

-- a number as a value
abbrev pub as_number : Option ℤ → Option Value
as_number None = None
as_number (Some z) = Some (v.Number z)

-- a number of an element, and 0 where there is none
abbrev pub number_in : PartCode → Option Element → ℤ
number_in part None = pos 0
number_in part (Some x) = number_of part x

-- the number at a place of a container
abbrev pub element_number : Store → ℕ → ℕ → PartCode → Value
element_number st j k part = v.Number (number_in part (slice_get (elements_at st j) k))

-- what is read at a place
abbrev pub value_read : Variables → Value → Option Value
value_read m (v.ScalarAt l) = as_number (number_at m l)
value_read m (v.ElementAt j k part) = Some (element_number m.store j k part)
value_read m w = Some w

-- which number of an element a use means
abbrev pub part_taken : ElementPart → PartCode → PartCode
part_taken parts.Whole bound = bound
part_taken parts.First bound = q.Key
part_taken parts.Second bound = q.Value

-- what a use of what stands somewhere means
abbrev pub use_at : PartCode → SlotCode → ReferenceUse
use_at part (Stands j k) = uses.Element j k part
use_at part (Gone site) = uses.Invalid site

-- what a use of what is held means
abbrev pub use_of : ElementPart → Pointer → ReferenceUse
use_of part (p.Iterator s) = uses.NoReference
use_of part (p.Reference s bound) = use_at (part_taken part bound) s

-- which number of an element, in a run
abbrev pub part_data : PartCode → Part
part_data q.Key = key_part
part_data q.Value = value_part

-- what a use of a reference gives in a run, at its name
abbrev pub use_gives : Place → ℕ → ReferenceUse → State → Out
use_gives at name (uses.Element j k part) s = Gives (element_at j k (part_data part)) s
use_gives at name (uses.Invalid site) s = Stops (Trapped (use_trap at name site)) s
use_gives at name uses.NoReference s = Stops (NoMeaning at) s
