-- How what a call does to memory is carried out, with the picks that are left.
--
-- Restates ISO/IEC 14882:2017, [vector.capacity] (growth), [associative.reqmts] (a new key goes where the order puts it, behind equal
-- ones), [unord.req] (growth puts all elements in again) and [back.insert.iterator] (one `push_back` for each element).
-- Chosen here: where a vector or hash form grows, its new room is its new size and a pick; picks come in this order: the room, the
-- places of the elements that are put in again, the place of the new one.
use Rattle.std.specs.Prelude.{ℕ, ◌+◌, ◌-◌, ◌==◌, nat_lt, Bool, List, [], ◌∷◌, map, length, ℤ, Option, Some, None, int_lt, int_le, if◌then◌else◌}
use Rattle.sl_base.specs.declared.form.Form.{Form}
use Rattle.sl_base.specs.declared.form.Form.TheVariants as f
use Rattle.sl_specs.specs.declared.class.Class.{Class}
use Rattle.sl_specs.specs.declared.class.Class.TheVariants as classes
use Rattle.sl_specs.specs.Forms.{is_hash}
use Rattle.sl_model.specs.Memory.Classes.{Edit, kills, loses}
use Rattle.sl_model.specs.Memory.Containers.{Cont, Memory, cont_at, size, keys, made}
use Rattle.sl_model.specs.Memory.Edits.{Change, old, new, numbers, change_of, after, after_two}
use Rattle.sl_model.specs.Memory.Forms.{holds_equal_keys}
use Rattle.sl_model.specs.Memory.Orders.{index_of_key, how_many}
use Rattle.sl_model.specs.Memory.Schedule.{pick, pick_at, after_picks, put_at, hash_place, scattered}
use Rattle.sl_model.specs.LibraryCalls.Situation.{Situation, own, item}
use Rattle.sl_model.specs.LibraryCalls.Actions.{Effect, keeps, edits, changes, trades, inserts, appends, makes, makes_by_keys}

-- a memory and the picks that are left
pub record Left : Type 0 where
  pub memory : Memory
  pub picks : List ℕ

-- n elements more don't fit in the room
abbrev pub is_full : Cont → ℕ → Bool
is_full c n = nat_lt c.room (size c + n)

-- the room of a container that grows where n elements come into it and are too many for it
abbrev pub grown_room : Cont → ℕ → List ℕ → ℕ
grown_room c n picks = if is_full c n then size c + n + pick picks else c.room

-- how many picks that takes
abbrev pub grown_picks : Cont → ℕ → ℕ
grown_picks c n = if is_full c n then 1 else 0

-- the room of a sequence into which n elements come
abbrev pub room_with : Form → Cont → ℕ → List ℕ → ℕ
room_with f.Vector c n picks = if n == 0 then c.room else grown_room c n picks
room_with form c n picks = c.room

-- how many picks such an insertion takes
abbrev pub picks_with : Form → Cont → ℕ → ℕ
picks_with f.Vector c n = if n == 0 then 0 else grown_picks c n
picks_with form c n = 0

-- elements come into a sequence at place `from`
abbrev pub insertion : Cont → ℕ → List (ℤ × ℤ) → List ℕ → Edit
insertion c from come picks = record { from = from; gone = 0; come = come; room = room_with c.form c (length come) picks }

-- what an insertion into a sequence of a form invalidates
abbrev pub insertion_class : Form → Class
insertion_class f.Vector = classes.VectorInsert
insertion_class f.Deque = classes.DequeInsert
insertion_class form = classes.Nothing

-- one element more at the end of container j, which was c
abbrev pub append : ℕ → ℕ → Cont → ℤ → Left → Left
append site j c x left = record {
  memory = after (change_of (insertion_class c.form) c (insertion c (size c) (item x ∷ []) left.picks)) left.memory j c site;
  picks = after_picks (picks_with c.form c 1) left.picks;
}

-- elements one by one at the end
abbrev pub append_all : ℕ → ℕ → List ℤ → Left → Left
append_all site j [] left = left
append_all site j (x ∷ xs) left = append_all site j xs (append site j (cont_at left.memory j) x left)

-- the place of a new key in the order of keys, behind those that are less, and behind equal ones where they may be
abbrev pub ordered_place : Cont → ℤ → ℕ
ordered_place c k = how_many (λ x. if holds_equal_keys c.form then int_le x k else int_lt x k) (keys c)

-- how many picks a new key takes
abbrev pub key_picks : Cont → ℕ
key_picks c = if is_hash c.form then (if is_full c 1 then size c + 2 else 1) else 0

-- the room after a new key
abbrev pub key_room : Cont → List ℕ → ℕ
key_room c picks = if is_hash c.form then grown_room c 1 picks else c.room

-- the place of a new key: by the order of keys, or by the last pick
abbrev pub key_place : Cont → ℤ → List ℕ → ℕ
key_place c k picks = if is_hash c.form then hash_place (size c) (pick_at (key_picks c - 1) picks) else ordered_place c k

-- the order of the old elements when a new key comes: a hash form that grows puts them in again
abbrev pub key_order : Cont → List ℕ → List ℕ
key_order c picks =
    if is_hash c.form then (if is_full c 1 then scattered (after_picks 1 picks) (numbers 0 (size c)) else numbers 0 (size c)) else numbers 0 (size c)

-- a new key as an edit, as far as a class asks
abbrev pub key_edit : Cont → ℤ × ℤ → List ℕ → Edit
key_edit c x picks = record { from = key_place c x.0 picks; gone = 0; come = x ∷ []; room = key_room c picks }

-- the change by which a new key comes
abbrev pub key_change : Class → Cont → ℤ × ℤ → List ℕ → Change
key_change class c x picks = record {
  kill = kills class (size c) c.room (key_edit c x picks);
  lose = loses class (size c) c.room (key_edit c x picks);
  sources = put_at (key_place c x.0 picks) (new x.0 x.1) (map (λ k. old k) (key_order c picks));
  room = key_room c picks;
}

-- the place of a key that keeps an equal one out
abbrev pub known_key : Cont → ℤ → Option ℕ
known_key c k = if holds_equal_keys c.form then None else index_of_key k (keys c)

-- the insertion of an element into container j, which was c; a key that is there changes nothing, but where equal keys may be
abbrev pub insert_key : Class → ℕ → ℕ → Cont → ℤ × ℤ → Left → Left
insert_key class site j c x left = elim (known_key c x.0) [
  | None ↦ record {
    memory = after (key_change class c x left.picks) left.memory j c site;
    picks = after_picks (key_picks c) left.picks;
  }
  | Some k ↦ left
]

-- elements one by one
abbrev pub insert_all : Class → ℕ → ℕ → List (ℤ × ℤ) → Left → Left
insert_all class site j [] left = left
insert_all class site j (x ∷ xs) left = insert_all class site j xs (insert_key class site j (cont_at left.memory j) x left)

-- the memory of a call and what is left of its picks after n
abbrev pub left_after : Situation → ℕ → Memory → Left
left_after s n m = record { memory = m; picks = after_picks n s.picks }

-- the memory and the picks after an effect of a row on a form, by its class
abbrev pub does : Form → Class → Situation → Effect → Left
does form class s keeps = left_after s 0 s.memory
does form class s (edits n e) = left_after s n (after (change_of class (own s) e) s.memory s.object (own s) s.site)
does form class s (changes n j ch) = left_after s n (after ch s.memory j (cont_at s.memory j) s.site)
does form class s (trades j ch dh) = left_after s 0 (after_two ch dh s.memory s.object (own s) j (cont_at s.memory j) s.site)
does form class s (inserts xs) = insert_all class s.site s.object xs (left_after s 0 s.memory)
does form class s (appends j xs) = append_all s.site j xs (left_after s 0 s.memory)
does form class s (makes n room xs) = left_after s n (made form room xs s.memory)
does form class s (makes_by_keys n room xs) = insert_all class s.site s.object xs (left_after s n (made form room [] s.memory))
