-- What a change of a container leaves of the facts on it: a table with a column for each kind of fact, and what each entry says.
-- Facts on other containers stay.
--
-- Restates ISO/IEC 14882:2017, [vector.modifiers], [deque.modifiers], [list.modifiers], [list.ops], [associative.reqmts],
-- [unord.req] and [container.requirements.general], as far as they say which iterators and references stay valid.
-- Chosen here: what is kept of it. A size that falls is one that was at least 1.
use Rattle.std.specs.Prelude.{ℕ, ◌==◌, Bool, true, false, ◌&&◌, List, ℤ, pos, ◌+ℤ◌, ◌-ℤ◌, if◌then◌else◌}
use Rattle.sl_base.specs.declared.form.Form.{Form}
use Rattle.sl_base.specs.declared.form.Form.TheVariants as f
use Rattle.sl_model.specs.Outlines.Facts.{Facts, inside, before, behind, size_at_least, spare_at_least, sorted, up_to_size, below_size, alive}
use Rattle.sl_model.specs.Outlines.Facts.{at_least_constant, greater}

-- what becomes of the size, and of scalars that are at most or less than it
pub data OnSize : Type 0 where
  size_kept : OnSize
  size_rises : OnSize
  size_falls : OnSize
  size_dropped : OnSize

-- what becomes of the spare room
pub data OnSpare : Type 0 where
  spare_kept : OnSpare
  spare_falls : OnSpare
  spare_dropped : OnSpare

-- what becomes of the order of the elements
pub data OnOrder : Type 0 where
  order_kept : OnOrder
  order_given : OnOrder
  order_dropped : OnOrder

-- what becomes of iterators into the container; with spare room those before the end are kept, and where elements change places one
-- that is behind the beginning is only inside
pub data OnIterators : Type 0 where
  iterators_kept : OnIterators
  iterators_kept_with_spare : OnIterators
  iterators_moved : OnIterators
  iterators_dropped : OnIterators

-- what becomes of references to elements of the container
pub data OnReferences : Type 0 where
  references_kept : OnReferences
  references_kept_with_spare : OnReferences
  references_dropped : OnReferences

-- what a change leaves of the facts on the container that it changes
pub record Remainder : Type 0 where
  pub size : OnSize
  pub spare : OnSpare
  pub order : OnOrder
  pub iterators : OnIterators
  pub references : OnReferences

-- a line of the table
abbrev pub leaves : OnSize → OnSpare → OnOrder → OnIterators → OnReferences → Remainder
leaves size spare order iterators references =
    record { size = size; spare = spare; order = order; iterators = iterators; references = references }

-- an element is written
abbrev pub when_written : Remainder
when_written = leaves size_kept spare_kept order_dropped iterators_kept references_kept

-- one element is erased, at an iterator or at an end
abbrev pub when_one_goes : Remainder
when_one_goes = leaves size_falls spare_kept order_kept iterators_dropped references_dropped

-- one element is inserted at an iterator
abbrev pub when_inserted : Form → Remainder
when_inserted f.List = leaves size_rises spare_falls order_dropped iterators_kept references_kept
when_inserted form = leaves size_rises spare_falls order_dropped iterators_dropped references_dropped

-- one element is put at an end
abbrev pub when_pushed : Form → Remainder
when_pushed f.List = leaves size_rises spare_falls order_dropped iterators_kept references_kept
when_pushed f.Deque = leaves size_rises spare_falls order_dropped iterators_dropped references_kept
when_pushed form = leaves size_rises spare_falls order_dropped iterators_kept_with_spare references_kept_with_spare

-- all elements are erased
abbrev pub when_cleared : Remainder
when_cleared = leaves size_dropped spare_kept order_given iterators_dropped references_dropped

-- room is made
abbrev pub when_reserved : Remainder
when_reserved = leaves size_kept spare_kept order_kept iterators_dropped references_dropped

-- all elements are sorted, those of a list by changing places
abbrev pub when_sorted : Form → Remainder
when_sorted f.List = leaves size_kept spare_kept order_given iterators_moved references_kept
when_sorted form = leaves size_kept spare_kept order_given iterators_kept references_kept

-- a key comes in, or is there
abbrev pub when_key_inserted : Form → Remainder
when_key_inserted f.HashSet = leaves size_kept spare_dropped order_dropped iterators_dropped references_kept
when_key_inserted f.HashMap = leaves size_kept spare_dropped order_dropped iterators_dropped references_kept
when_key_inserted form = leaves size_kept spare_dropped order_dropped iterators_kept references_kept

-- elements are appended one by one
abbrev pub when_appended : Form → Remainder
when_appended f.List = leaves size_kept spare_dropped order_dropped iterators_kept references_kept
when_appended f.Deque = leaves size_kept spare_dropped order_dropped iterators_dropped references_kept
when_appended form = leaves size_kept spare_dropped order_dropped iterators_dropped references_dropped

-- elements are erased by their values, the others keeping their order
abbrev pub when_tail_erased : Remainder
when_tail_erased = leaves size_dropped spare_dropped order_kept iterators_dropped references_dropped

-- what is given on the size
abbrev pub size_left : List ℤ → OnSize → ℕ → Facts → ℤ → Bool
size_left constants size_kept c F k = F (size_at_least c k)
size_left constants size_rises c F k = at_least_constant constants k (λ m. F (size_at_least c (m -ℤ pos 1)))
size_left constants size_falls c F k = at_least_constant constants (greater k (pos 0)) (λ m. F (size_at_least c (m +ℤ pos 1)))
size_left constants size_dropped c F k = false

-- whether a scalar is at most the size
abbrev pub up_to_left : OnSize → ℕ → Facts → ℕ → Bool
up_to_left size_kept c F x = F (up_to_size x c)
up_to_left size_rises c F x = F (up_to_size x c)
up_to_left size_falls c F x = F (below_size x c)
up_to_left size_dropped c F x = false

-- whether a scalar is less than the size
abbrev pub below_left : OnSize → ℕ → Facts → ℕ → Bool
below_left size_kept c F x = F (below_size x c)
below_left size_rises c F x = F (below_size x c)
below_left size_falls c F x = false
below_left size_dropped c F x = false

-- what is given on the spare room
abbrev pub spare_left : List ℤ → OnSpare → ℕ → Facts → ℤ → Bool
spare_left constants spare_kept c F k = F (spare_at_least c k)
spare_left constants spare_falls c F k = at_least_constant constants (greater k (pos 0)) (λ m. F (spare_at_least c (m +ℤ pos 1)))
spare_left constants spare_dropped c F k = false

-- whether the elements ascend
abbrev pub order_left : OnOrder → ℕ → Facts → Bool
order_left order_kept c F = F (sorted c)
order_left order_given c F = true
order_left order_dropped c F = false

-- whether an iterator is inside
abbrev pub inside_left : OnIterators → ℕ → Facts → ℕ → Bool
inside_left iterators_kept c F it = F (inside it c)
inside_left iterators_kept_with_spare c F it = F (spare_at_least c (pos 1)) && F (before it c)
inside_left iterators_moved c F it = F (inside it c)
inside_left iterators_dropped c F it = false

-- whether it is before the end
abbrev pub before_left : OnIterators → ℕ → Facts → ℕ → Bool
before_left iterators_kept c F it = F (before it c)
before_left iterators_kept_with_spare c F it = F (spare_at_least c (pos 1)) && F (before it c)
before_left iterators_moved c F it = F (before it c)
before_left iterators_dropped c F it = false

-- whether it is behind the beginning
abbrev pub behind_left : OnIterators → ℕ → Facts → ℕ → Bool
behind_left iterators_kept c F it = F (behind it c)
behind_left iterators_kept_with_spare c F it = false
behind_left iterators_moved c F it = false
behind_left iterators_dropped c F it = false

-- whether a reference is to one of its elements
abbrev pub alive_left : OnReferences → ℕ → Facts → ℕ → Bool
alive_left references_kept c F r = F (alive r c)
alive_left references_kept_with_spare c F r = F (spare_at_least c (pos 1)) && F (alive r c)
alive_left references_dropped c F r = false

-- what a change of a container leaves, in a text with these constants
abbrev pub remaining : List ℤ → ℕ → Remainder → Facts → Facts
remaining constants c r F (inside i d) = if d == c then inside_left r.iterators c F i else F (inside i d)
remaining constants c r F (before i d) = if d == c then before_left r.iterators c F i else F (before i d)
remaining constants c r F (behind i d) = if d == c then behind_left r.iterators c F i else F (behind i d)
remaining constants c r F (size_at_least d k) = if d == c then size_left constants r.size c F k else F (size_at_least d k)
remaining constants c r F (spare_at_least d k) = if d == c then spare_left constants r.spare c F k else F (spare_at_least d k)
remaining constants c r F (sorted d) = if d == c then order_left r.order c F else F (sorted d)
remaining constants c r F (up_to_size x d) = if d == c then up_to_left r.size c F x else F (up_to_size x d)
remaining constants c r F (below_size x d) = if d == c then below_left r.size c F x else F (below_size x d)
remaining constants c r F (alive i d) = if d == c then alive_left r.references c F i else F (alive i d)
remaining constants c r F f = F f
