-- Containers, iterators and references. A container has elements in order, and behind them its end. An iterator is a stamp: it
-- stands where a live container holds that stamp, at an element or as its end. A reference to an element is a refer: it stands
-- where a live container holds that refer, at an element. What is invalidated gets a new stamp or refer in the container, so that
-- the old one stands nowhere; it is kept as dropped, with the site in the text that dropped it.
--
-- Restates ISO/IEC 14882:2017, [container.requirements.general], [iterator.requirements.general] (valid, dereferenceable
-- and past-the-end iterators) and [vector.capacity] (a room, which the standard calls capacity).
-- Chosen here: stamps, refers, sites, and the end of a container as a place that can be invalidated like an element. A sequence
-- or set keeps its element as the key, and a map's element is a key and a value. No elements but `int`s: a number that comes into
-- a container is converted ([conv.integral]). A key that orders or finds its element is never written.
use Rattle.std.specs.Prelude.{◌≡◌, ℕ, ◌+◌, ◌==◌, Bool, true, not, List, [], ◌∷◌, ◌++◌, map, length, take, drop, ℤ, pos, Option, Some, None, IsSome, option_map}
use Rattle.std.specs.Prelude.{slice_get, slice_set, slice_index_or, if◌then◌else◌}
use Rattle.sl_base.specs.declared.form.Form.{Form}
use Rattle.sl_base.specs.declared.form.Form.TheVariants as f
use Rattle.sl_base.specs.declared.scalar.Scalar.TheVariants as t
use Rattle.sl_specs.specs.Forms.{is_keyed}
use Rattle.sl_model.specs.Numbers.{converted}

-- an element: the stamp of its place, the refer of it, its key and its value
pub record Cell : Type 0 where
  pub stamp : ℕ
  pub refer : ℕ
  pub key : ℤ
  pub value : ℤ

-- a container: its elements in order, the stamp of its end and its room
pub record Cont : Type 0 where
  pub form : Form
  pub cells : List Cell
  pub end : ℕ
  pub room : ℕ

-- a dropped stamp or refer, and the site that dropped it
pub record Grave : Type 0 where
  pub mark : ℕ
  pub site : ℕ

-- the live containers in the order of their declarations, the dropped stamps, the dropped refers, and the least number that was
-- never a stamp and never a refer
pub record Memory : Type 0 where
  pub conts : List Cont
  pub graves : List Grave
  pub lost : List Grave
  pub fresh : ℕ

-- no containers
abbrev pub empty_memory : Memory
empty_memory = record { conts = []; graves = []; lost = []; fresh = 0 }

-- the number of elements
abbrev pub size : Cont → ℕ
size c = length c.cells

-- the stamps of the places, that of the end last
abbrev pub stamps : Cont → List ℕ
stamps c = map (λ (x : Cell). x.stamp) c.cells ++ c.end ∷ []

-- the refers of the elements
abbrev pub refers : Cont → List ℕ
refers c = map (λ (x : Cell). x.refer) c.cells

-- the keys in order
abbrev pub keys : Cont → List ℤ
keys c = map (λ (x : Cell). x.key) c.cells

-- the keys and values in order
abbrev pub items : Cont → List (ℤ × ℤ)
items c = map (λ (x : Cell). (x.key, x.value)) c.cells

-- the container with a number, and an empty one where there is none
abbrev pub cont_at : Memory → ℕ → Cont
cont_at m j = slice_index_or m.conts j (record { form = f.Vector; cells = []; end = m.fresh; room = 0 })

-- the stamp at an index of a container, of which the end's is the size
abbrev pub stamp_at : Memory → ℕ → ℕ → ℕ
stamp_at m j k = slice_index_or (stamps (cont_at m j)) k m.fresh

-- the refer of the element at an index of a container
abbrev pub refer_at : Memory → ℕ → ℕ → ℕ
refer_at m j k = slice_index_or (refers (cont_at m j)) k m.fresh

-- the stamp that `begin` gives
abbrev pub begin_of : Memory → ℕ → ℕ
begin_of m j = stamp_at m j 0

-- the stamp that `end` gives
abbrev pub end_of : Memory → ℕ → ℕ
end_of m j = (cont_at m j).end

-- the index of a number among these, counted from i
abbrev pub index_of : ℕ → ℕ → List ℕ → Option ℕ
index_of s i [] = None
index_of s i (x ∷ xs) = if x == s then Some i else index_of s (i + 1) xs

-- the list of these and the index in it where a number stands, lists counted from j
abbrev pub found : ℕ → ℕ → List (List ℕ) → Option (ℕ × ℕ)
found s j [] = None
found s j (xs ∷ rest) = elim (index_of s 0 xs) [ None ↦ found s (j + 1) rest | Some k ↦ Some (j, k) ]

-- where an iterator stands: its container and its index
abbrev pub locate : Memory → ℕ → Option (ℕ × ℕ)
locate m s = found s 0 (map stamps m.conts)

-- where a reference stands: its container and its index
abbrev pub locate_refer : Memory → ℕ → Option (ℕ × ℕ)
locate_refer m r = found r 0 (map refers m.conts)

-- the iterator stands somewhere
abbrev pub IsValid : Memory → ℕ → Type 0
IsValid m s = IsSome (locate m s)

-- the container that an iterator stands in
abbrev pub owner : Memory → ℕ → Option ℕ
owner m s = option_map (λ (p : ℕ × ℕ). p.0) (locate m s)

-- the index at which an iterator stands
abbrev pub place : Memory → ℕ → Option ℕ
place m s = option_map (λ (p : ℕ × ℕ). p.1) (locate m s)

-- the site beside a number among these
abbrev pub killer_of : ℕ → List Grave → Option ℕ
killer_of s [] = None
killer_of s (g ∷ gs) = if g.mark == s then Some g.site else killer_of s gs

-- the site that dropped a stamp, if it was dropped
abbrev pub killer : Memory → ℕ → Option ℕ
killer m s = killer_of s m.graves

-- the site that dropped a refer, if it was dropped
abbrev pub refer_killer : Memory → ℕ → Option ℕ
refer_killer m r = killer_of r m.lost

-- a number is among these with a site
abbrev pub IsGrave : List Grave → ℕ → ℕ → Type 0
IsGrave gs s site = (i : ℕ) × (slice_get gs i ≡ Some (record { mark = s; site = site }))

-- a stamp was dropped at a site
abbrev pub Dropped : Memory → ℕ → ℕ → Type 0
Dropped m s site = IsGrave m.graves s site

-- a refer was dropped at a site
abbrev pub Lost : Memory → ℕ → ℕ → Type 0
Lost m r site = IsGrave m.lost r site

-- these numbers with the site that drops them
abbrev pub graves_at : ℕ → List ℕ → List Grave
graves_at site [] = []
graves_at site (s ∷ ss) = record { mark = s; site = site } ∷ graves_at site ss

-- all numbers of these lists
abbrev pub joined : List (List ℕ) → List ℕ
joined [] = []
joined (xs ∷ rest) = xs ++ joined rest

-- the containers from number n on end at a site, which drops all their stamps and refers
abbrev pub end_from : ℕ → ℕ → Memory → Memory
end_from site n m = record m {
  conts = take n m.conts;
  graves = graves_at site (joined (map stamps (drop n m.conts))) ++ m.graves;
  lost = graves_at site (joined (map refers (drop n m.conts))) ++ m.lost;
}

-- new elements, each with a stamp and a refer of its own, from `next` on
abbrev pub new_cells : ℕ → List (ℤ × ℤ) → List Cell
new_cells next [] = []
new_cells next (x ∷ xs) =
    record { stamp = next; refer = next; key = converted t.Int x.0; value = converted t.Int x.1 } ∷ new_cells (next + 1) xs

-- a new container of a form, with a room and these elements, as the last
abbrev pub made : Form → ℕ → List (ℤ × ℤ) → Memory → Memory
made form room xs m = record m {
  conts = m.conts ++ record { form = form; cells = new_cells (m.fresh + 1) xs; end = m.fresh; room = room } ∷ [];
  fresh = (m.fresh + 1) + length xs;
}

-- which number of an element
pub data Part : Type 0 where
  key_part : Part
  value_part : Part

-- a number of an element
abbrev pub part_of : Part → Cell → ℤ
part_of key_part x = x.key
part_of value_part x = x.value

-- an element with a number written
abbrev pub with_part : Part → ℤ → Cell → Cell
with_part key_part z x = record x { key = z }
with_part value_part z x = record x { value = z }

-- the number at an index of a container, and 0 where there is none
abbrev pub element : Memory → ℕ → ℕ → Part → ℤ
element m j k part = elim (slice_get (cont_at m j).cells k) [ None ↦ pos 0 | Some x ↦ part_of part x ]

-- a number of an element that a container of this form lets be written
abbrev pub is_writable : Form → Part → Bool
is_writable form value_part = true
is_writable form key_part = not (is_keyed form)

-- the elements with a number written at an index
abbrev pub cells_with : List Cell → ℕ → Part → ℤ → List Cell
cells_with cells k part z = elim (slice_get cells k) [ None ↦ cells | Some x ↦ slice_set cells k (with_part part (converted t.Int z) x) ]

-- a container with a number written at an index
abbrev pub cont_with : Cont → ℕ → Part → ℤ → Cont
cont_with c k part z = if is_writable c.form part then record c { cells = cells_with c.cells k part z } else c

-- the memory with a number written at an index of a container
abbrev pub write_element : Memory → ℕ → ℕ → Part → ℤ → Memory
write_element m j k part z = elim (slice_get m.conts j) [ None ↦ m | Some c ↦ record m { conts = slice_set m.conts j (cont_with c k part z) } ]
