-- What the calls of a store do to it.
use Rattle.std.specs.Prelude.{◌≡◌, ℕ, ℤ, List, [], ◌∷◌, ◌++◌, map, length, take, drop, Some, None, slice_get, slice_set, Bool, true, not, if◌then◌else◌}
use Rattle.sl_base.specs.declared.form.Form.{Form}
use Rattle.sl_base.specs.declared.form.Form.TheVariants.{Vector}
use Rattle.sl_specs.specs.Forms.{is_keyed}
use Rattle.sl_model.specs.Memory.Classes.{Edit as EditData}
use Rattle.sl_slots.specs.declared.edit.Edit.{Edit}
use Rattle.sl_slots.specs.declared.edit.Editing.{Editing}
use Rattle.sl_slots.specs.declared.container.Element.{Element}
use Rattle.sl_slots.specs.declared.slot.Part.{Part}
use Rattle.sl_slots.specs.declared.slot.Part.TheVariants.{Key, Value}
use Rattle.sl_slots.specs.declared.store.Store.{Store}
use Rattle.sl_slots.specs.declared.motion.Motion.{Motion}
use Rattle.sl_slots.specs.declared.motion.Motion.TheVariants.{Ends, Edits, Rearranges, Trades}
use Rattle.sl_slots.specs.declared.rearrangement.Rearrangement.{Rearrangement}
use Rattle.sl_slots.specs.declared.trade.Side.{Side}
use Rattle.sl_slots.specs.declared.trade.Trade.{Trade}
use Rattle.sl_slots.specs.Rearranging.{element_from}
use Rattle.sl_slots.specs.Shown.{Plain, contents, new_element}
use Rattle.sl_slots.specs.Fates.{pointer_after, value_after}

-- the container with a number, an empty one where it isn't there
abbrev pub contents_at : Store → ℕ → Plain
contents_at st j = elim (slice_get st.containers.items j) [ None ↦ record { form = Vector; elements = []; room = 0 } | Some c ↦ contents c ]

-- its elements
abbrev pub elements_at : Store → ℕ → List Element
elements_at st j = (contents_at st j).elements

-- nothing came, went or moved
pub record Stays (old new : Store) : Type 0 where
  pub containers : new.containers.items ≡ old.containers.items
  pub pointers : new.pointers.items ≡ old.pointers.items
  pub operands : new.operands.items ≡ old.operands.items

-- a container came as the last, and nothing moved
pub record Made (form : Form) (room : ℕ) (elements : List Element) (old new : Store) : Type 0 where
  pub containers : map contents new.containers.items
      ≡ map contents old.containers.items ++ record { form = form; elements = elements; room = room } ∷ []
  pub pointers : new.pointers.items ≡ old.pointers.items
  pub operands : new.operands.items ≡ old.operands.items

-- all that is held has its fate
pub record Moved (by : Motion) (old new : Store) : Type 0 where
  pub pointers : new.pointers.items ≡ map (pointer_after by) old.pointers.items
  pub operands : new.operands.items ≡ map (value_after by) old.operands.items

-- the containers from number n on ended at a site
pub record Ended (n site : ℕ) (old new : Store) : Type 0 where
  pub containers : new.containers.items ≡ take n old.containers.items
  pub moved : Moved (Ends n site) old new

-- a number of an element
abbrev pub number_of : Part → Element → ℤ
number_of Key x = x.key
number_of Value x = x.value

-- a container after an edit by which these elements came
abbrev pub edited : Edit → List Element → Plain → Plain
edited e come c = record { form = c.form; elements = take e.from c.elements ++ (come ++ drop e.gone (drop e.from c.elements)); room = e.room }

-- an edit of a container of a store at a site
abbrev pub editing_of : ℕ → Edit → List Element → ℕ → Store → Editing
editing_of j e come site st = record {
  edit = e;
  container = j;
  size = length (elements_at st j);
  room = (contents_at st j).room;
  come = length come;
  site = site;
}

-- the container was edited at a site, and all that is held took its fate
pub record Edited (j : ℕ) (e : Edit) (come : List Element) (site : ℕ) (old new : Store) : Type 0 where
  pub containers : map contents new.containers.items ≡ slice_set (map contents old.containers.items) j (edited e come (contents_at old j))
  pub moved : Moved (Edits (editing_of j e come site old)) old new

-- these numbers and elements are those of an edit of the model
pub record IsEdit (e : EditData) (code : Edit) (come : List Element) : Type 0 where
  pub from : e.from ≡ code.from
  pub gone : e.gone ≡ code.gone
  pub come_in : map new_element e.come ≡ come
  pub room : e.room ≡ code.room

-- a number of an element that a container of a form lets be written: no key that orders or finds its element
abbrev pub is_open : Form → Part → Bool
is_open form Value = true
is_open form Key = not (is_keyed form)

-- an element with a number written
abbrev pub with_number : Part → ℤ → Element → Element
with_number Key z x = record x { key = z }
with_number Value z x = record x { value = z }

-- an element of a container of a form after a number is written in it
abbrev pub written : Form → Part → ℤ → Element → Element
written form part z x = if is_open form part then with_number part z x else x

-- a number was written in the element x at place k of the container, and nothing moved
pub record Written (j k : ℕ) (x : Element) (part : Part) (z : ℤ) (old new : Store) : Type 0 where
  pub containers : map contents new.containers.items ≡ slice_set (map contents old.containers.items) j
      (record (contents_at old j) { elements = slice_set (elements_at old j) k (written (contents_at old j).form part z x) })
  pub pointers : new.pointers.items ≡ old.pointers.items
  pub operands : new.operands.items ≡ old.operands.items

-- a container after it was put together anew
abbrev pub rearranged : Rearrangement → Plain → Plain
rearranged by c = record { form = c.form; elements = map (element_from c.elements c.elements) by.sources.items; room = by.room }

-- the container was put together anew, and all that is held took its fate
pub record Rearranged (by : Rearrangement) (old new : Store) : Type 0 where
  pub containers : map contents new.containers.items
      ≡ slice_set (map contents old.containers.items) by.container (rearranged by (contents_at old by.container))
  pub moved : Moved (Rearranges by) old new

-- one of two containers after they exchanged elements
abbrev pub exchanged : Side → Plain → Plain → Plain
exchanged side own other =
    record { form = own.form; elements = map (element_from own.elements other.elements) side.sources.items; room = side.room }

-- the two containers exchanged elements, and all that is held took its fate
pub record Traded (by : Trade) (old new : Store) : Type 0 where
  pub containers : map contents new.containers.items
      ≡ slice_set (slice_set (map contents old.containers.items) by.first.container
      (exchanged by.first (contents_at old by.first.container) (contents_at old by.second.container)))
      by.second.container (exchanged by.second (contents_at old by.second.container) (contents_at old by.first.container))
  pub moved : Moved (Trades by) old new
