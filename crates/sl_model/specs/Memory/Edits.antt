-- What an operation does to the elements of containers and to their marks, which are their stamps and refers. A change says of
-- each element of the new container where it comes from, and which old places have their iterators or references invalidated.
--
-- Restates ISO/IEC 14882:2017, [container.requirements.general] and [list.ops] (elements that go over to another container keep
-- their iterators and references).
-- Chosen here: what stays and is invalidated gets a mark that was never used, and what goes loses its own. A number that comes into
-- a container is converted to an int ([conv.integral]).
use Rattle.std.specs.Prelude.{ℕ, zero, suc, ◌+◌, ◌-◌, nat_lt, Bool, false, List, [], ◌∷◌, ◌++◌, map, length, ℤ, pos, Some, None}
use Rattle.std.specs.Prelude.{slice_get, slice_set, if◌then◌else◌}
use Rattle.sl_base.specs.declared.scalar.Scalar.TheVariants as t
use Rattle.sl_specs.specs.declared.class.Class.{Class}
use Rattle.sl_model.specs.Numbers.{converted}
use Rattle.sl_model.specs.Memory.Classes.{Edit, kills, loses}
use Rattle.sl_model.specs.Memory.Containers.{Cell, Cont, Grave, Memory, size, stamps, refers}

-- Where an element of the new container comes from: a place of the old one (with another key, where it is written over), a
-- place of the other container, or nowhere.
pub data Source : Type 0 where
  old : ℕ → Source
  written : ℕ → ℤ → Source
  theirs : ℕ → Source
  new : ℤ → ℤ → Source

-- What happens to one container: which old places have their iterators invalidated, which their references, where the new
-- elements come from, and the room.
pub record Change : Type 0 where
  pub kill : ℕ → Bool
  pub lose : ℕ → Bool
  pub sources : List Source
  pub room : ℕ

-- no place
abbrev pub nowhere : ℕ → Bool
nowhere k = false

-- n numbers from i on
abbrev pub numbers : ℕ → ℕ → List ℕ
numbers i zero = []
numbers i (suc n) = i ∷ numbers (i + 1) n

-- n elements from place i on that stay
abbrev pub olds : ℕ → ℕ → List Source
olds i n = map (λ k. old k) (numbers i n)

-- n elements of the other container from its place i on
abbrev pub theirs_from : ℕ → ℕ → List Source
theirs_from i n = map (λ k. theirs k) (numbers i n)

-- elements that are put in
abbrev pub news : List (ℤ × ℤ) → List Source
news xs = map (λ (x : ℤ × ℤ). new x.0 x.1) xs

-- an edit of a class as a change
abbrev pub change_of : Class → Cont → Edit → Change
change_of class c e = record {
  kill = kills class (size c) c.room e;
  lose = loses class (size c) c.room e;
  sources = olds 0 e.from ++ (news e.come ++ olds (e.from + e.gone) (size c - (e.from + e.gone)));
  room = e.room;
}

-- the place after an edit of what stood at k and stays
abbrev pub shifted : Edit → ℕ → ℕ
shifted e k = if nat_lt k e.from then k else ((k + length e.come) - e.gone)

-- the mark of place k after a change: a new one, by its place from `base` on, where it is invalidated
abbrev pub mark_after : (ℕ → Bool) → ℕ → ℕ → ℕ → ℕ
mark_after renewed base k mark = if renewed k then base + k else mark

-- the element at place k, where there is one
abbrev pub stayed : Change → ℕ → Cont → Cell → ℕ → Cell
stayed ch base c missing k = elim (slice_get c.cells k) [
  | None ↦ missing
  | Some x ↦ record x { stamp = mark_after ch.kill base k x.stamp; refer = mark_after ch.lose base k x.refer }
]

-- the element that comes from a source; `missing` has marks of its own
abbrev pub from_source : Change → ℕ → Cont → Cont → Cell → Source → Cell
from_source ch base own other missing (old k) = stayed ch base own missing k
from_source ch base own other missing (written k x) = record (stayed ch base own missing k) { key = converted t.Int x }
from_source ch base own other missing (theirs k) = elim (slice_get other.cells k) [ None ↦ missing | Some x ↦ x ]
from_source ch base own other missing (new x y) = record missing { key = converted t.Int x; value = converted t.Int y }

-- the elements that come from these sources; for each one there is a mark, from `next` on
abbrev pub from_sources : Change → ℕ → Cont → Cont → ℕ → List Source → List Cell
from_sources ch base own other next [] = []
from_sources ch base own other next (s ∷ ss) =
    from_source ch base own other (record { stamp = next; refer = next; key = pos 0; value = pos 0 }) s
    ∷ from_sources ch base own other (next + 1) ss

-- a container after a change: its invalidated places get marks from `base` on, and new elements from `next` on; the other
-- container gives the elements that come with their marks
abbrev pub rebuilt : ℕ → ℕ → Change → Cont → Cont → Cont
rebuilt base next ch own other = record own {
  cells = from_sources ch base own other next ch.sources;
  end = mark_after ch.kill base (size own) own.end;
  room = ch.room;
}

-- a container after a change of it alone
abbrev pub changed : ℕ → Change → Cont → Cont
changed fresh ch c = rebuilt fresh (fresh + size c + 1) ch c c

-- the least number that is unused after a change
abbrev pub used : ℕ → Change → Cont → ℕ
used fresh ch c = fresh + size c + 1 + length ch.sources

-- those marks that are dropped, with the site; the places are counted from i
abbrev pub buried : (ℕ → Bool) → ℕ → ℕ → List ℕ → List Grave
buried kill site i [] = []
buried kill site i (s ∷ ss) = if kill i then record { mark = s; site = site } ∷ buried kill site (i + 1) ss else buried kill site (i + 1) ss

-- the memory after a change of container j, which was c, at a site
abbrev pub after : Change → Memory → ℕ → Cont → ℕ → Memory
after ch m j c site = record {
  conts = slice_set m.conts j (changed m.fresh ch c);
  graves = buried ch.kill site 0 (stamps c) ++ m.graves;
  lost = buried ch.lose site 0 (refers c) ++ m.lost;
  fresh = used m.fresh ch c;
}

-- the number from which new elements of the first of two containers have their marks, in a memory with this least unused one
abbrev pub next_of_two : ℕ → Cont → Cont → ℕ
next_of_two fresh c d = (fresh + size c + 1) + size d + 1

-- the memory after changes of two containers j and i, which were c and d, at a site; elements that go over keep their marks
abbrev pub after_two : Change → Change → Memory → ℕ → Cont → ℕ → Cont → ℕ → Memory
after_two ch dh m j c i d site = record {
  conts = slice_set (slice_set m.conts j (rebuilt m.fresh (next_of_two m.fresh c d) ch c d)) i
      (rebuilt (m.fresh + size c + 1) (next_of_two m.fresh c d + length ch.sources) dh d c);
  graves = buried ch.kill site 0 (stamps c) ++ (buried dh.kill site 0 (stamps d) ++ m.graves);
  lost = buried ch.lose site 0 (refers c) ++ (buried dh.lose site 0 (refers d) ++ m.lost);
  fresh = (next_of_two m.fresh c d + length ch.sources) + length dh.sources;
}
