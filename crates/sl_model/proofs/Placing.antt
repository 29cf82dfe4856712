-- Which places a container has for iterators: one at each index up to its size, and their stamps were used. What a change, a new key
-- and a search leave of them.
use Rattle.std.proofs.Common.{◌≡◌, ℕ, suc, ◌+◌, ◌-◌, ◌<◌, ◌≤◌, ◌%◌, Bool, true, false, List, [], ◌∷◌, ◌++◌, map, take, drop, length}
use Rattle.std.proofs.Common.{length-append}
use Rattle.std.proofs.Common.{Some, option_map, ap, sym, ◌∙◌, subst, arith, if◌then◌else◌, min}
use Rattle.std.specs.Prelude.{ℤ}
use Rattle.std.specs.List.{slice_get, slice_set}
use Rattle.std.proofs.Math.ListN.{length-set}
use Rattle.std.proofs.Math.Nat.{mod-lt}
use Rattle.std.proofs.lemmas.List.{length-map, length-take}
use Rattle.std.proofs.lemmas.List.Sums.{length-filter, count_by-le-length}
use Rattle.std.proofs.lemmas.Option.{slice_get-get_or, get_or_from_slice_get, slice_get-map}
use Rattle.sl_base.specs.declared.form.Form.TheVariants as f
use Rattle.sl_specs.specs.declared.class.Class.{Class}
use Rattle.sl_model.specs.Memory.Classes.{Edit}
use Rattle.sl_model.specs.Memory.Containers.{Cell, Cont, Memory, size, stamps, keys, cont_at, stamp_at}
use Rattle.sl_model.specs.Memory.Edits.{Change, olds, news, changed, change_of, after}
use Rattle.sl_model.specs.Memory.Schedule.{hash_place}
use Rattle.sl_model.specs.Memory.Orders.{first_of_key, how_many, same}
use Rattle.sl_model.specs.LibraryCalls.Actions.{Answer, nothing, gives_number, gives_place, gives_place_and, gives_places, gives_element}
use Rattle.sl_model.specs.Runs.Good.{IsSound}
use Rattle.sl_model.proofs.Getting.{get_some, get_set_same}
use Rattle.sl_model.proofs.FairChanges.{length_olds}
use Rattle.sl_model.proofs.Columns.{stamp_of_end, rebuilt-size}

-- a container has a place at an index
pub record HasPlace (m : Memory) (j k : ℕ) : Type 0 where
  pub there : j < length m.conts
  pub within : k ≤ size (cont_at m j)

-- what a call gives stands somewhere, where it is an iterator
abbrev pub IsPlaced : Memory → Answer → Type 0
IsPlaced m nothing = Unit {0}
IsPlaced m (gives_number z) = Unit {0}
IsPlaced m (gives_place j k) = HasPlace m j k
IsPlaced m (gives_place_and j k b) = HasPlace m j k
IsPlaced m (gives_places j k i) = HasPlace m j k × HasPlace m j i
IsPlaced m (gives_element j k part) = Unit {0}

-- a stamp of a container that is there was used
stands_used : (m : Memory) (j k s : ℕ) → IsSound m → j < length m.conts → slice_get (stamps (cont_at m j)) k ≡ Some s → s < m.fresh
stands_used m j k s sound low stands = sound.stamps_apart.used j k s (stamps (cont_at m j), there, stands)
  where
    there : slice_get (map stamps m.conts) j ≡ Some (stamps (cont_at m j))
    there = slice_get-map stamps m.conts j
        ∙ ap (option_map stamps) (slice_get-get_or m.conts j (record { form = f.Vector; cells = []; end = m.fresh; room = 0 }) low)

-- a container holds a stamp at each index up to its size
pub place_stands : (c : Cont) (k : ℕ) → k ≤ size c → (s : ℕ) × (slice_get (stamps c) k ≡ Some s)
place_stands c k low = get_some (stamps c) k (within (length-append (map (λ (x : Cell). x.stamp) c.cells) (c.end ∷ []))
    (length-map c.cells (λ (x : Cell). x.stamp)))
  where
    within : length (stamps c) ≡ length (map (λ (x : Cell). x.stamp) c.cells) + 1 → length (map (λ (x : Cell). x.stamp) c.cells) ≡ size c
        → k < length (stamps c)
    within p q = omega arith

-- the stamp of a place was used
pub place_used : (m : Memory) (j k : ℕ) → IsSound m → HasPlace m j k → stamp_at m j k < m.fresh
place_used m j k sound h = by_place (place_stands (cont_at m j) k h.within)
  where
    by_place : (s : ℕ) × (slice_get (stamps (cont_at m j)) k ≡ Some s) → stamp_at m j k < m.fresh
    by_place r = subst (λ (s : ℕ). s < m.fresh) (sym (get_or_from_slice_get (stamps (cont_at m j)) k r.0 m.fresh r.1))
        (stands_used m j k r.0 sound h.there r.1)

-- the end of a container that is there was used
pub end_used : (m : Memory) (j : ℕ) → IsSound m → j < length m.conts → (cont_at m j).end < m.fresh
end_used m j sound low = stands_used m j (size (cont_at m j)) (cont_at m j).end sound low (stamp_of_end (cont_at m j))

-- the place of an index up to the number of sources, after a change
pub after-place : (ch : Change) (m : Memory) (j : ℕ) (c : Cont) (site k : ℕ) → j < length m.conts → k ≤ length ch.sources
    → HasPlace (after ch m j c site) j k
after-place ch m j c site k low few = record {
  there = let e = length-set m.conts j (changed m.fresh ch c) in omega arith;
  within = subst (λ (x : Cont). k ≤ size x) (sym same) (let e = sizes in omega arith);
}
  where
    sizes : size (changed m.fresh ch c) ≡ length ch.sources
    sizes = rebuilt-size ch m.fresh c c (m.fresh + size c + 1)

    same : cont_at (after ch m j c site) j ≡ changed m.fresh ch c
    same = get_or_from_slice_get (slice_set m.conts j (changed m.fresh ch c)) j (changed m.fresh ch c)
        (record { form = f.Vector; cells = []; end = (after ch m j c site).fresh; room = 0 })
        (get_set_same m.conts j (changed m.fresh ch c) low)

-- the place at which an edit begins, and those before it
pub edit-place : (class : Class) (m : Memory) (j : ℕ) (c : Cont) (e : Edit) (site k : ℕ) → j < length m.conts → k ≤ e.from
    → HasPlace (after (change_of class c e) m j c site) j k
edit-place class m j c e site k low few = after-place (change_of class c e) m j c site k low
    (at_least (length-append (olds 0 e.from) (news e.come ++ olds (e.from + e.gone) (size c - (e.from + e.gone)))) (length_olds 0 e.from))
  where
    at_least : length (change_of class c e).sources
        ≡ length (olds 0 e.from) + length (news e.come ++ olds (e.from + e.gone) (size c - (e.from + e.gone)))
        → length (olds 0 e.from) ≡ e.from → k ≤ length (change_of class c e).sources
    at_least p q = omega arith

-- a place in a hash order
pub hash_place-low : (n p : ℕ) → hash_place n p ≤ n
hash_place-low n p = let r : p % (n + 1) < n + 1 = mod-lt p (omega arith) in omega arith

-- no more pass a test than there are
pub how_many-low : (test : ℤ → Bool) (xs : List ℤ) → how_many test xs ≤ length xs
how_many-low test xs = let e = length-filter test xs in let r = count_by-le-length test xs in omega arith

-- the first of a key stands in the list
pub first_of_key-low : (x : ℤ) (i : ℕ) (xs : List ℤ) (k : ℕ) → first_of_key x i xs ≡ Some k → k < i + length xs
first_of_key-low x i [] k e = absurd (cc)
first_of_key-low x i (y ∷ ys) k e = by_test (same x y) e (first_of_key-low x (i + 1) ys k)
  where
    by_test : (b : Bool) → (if b then Some i else first_of_key x (i + 1) ys) ≡ Some k
        → (first_of_key x (i + 1) ys ≡ Some k → k < (i + 1) + length ys) → k < i + suc (length ys)
    by_test true h later = let q : i ≡ k = cc in omega arith
    by_test false h later = let r : k < (i + 1) + length ys = later h in omega arith

-- as many keys as elements
pub keys-length : (c : Cont) → length (keys c) ≡ size c
keys-length c = length-map c.cells (λ (x : Cell). x.key)

-- those from one index to another
pub range-length : {A : Type 0} (a b : ℕ) (xs : List A) → length (take (b - a) (drop a xs)) ≤ b - a
range-length a b xs = let e : length (take (b - a) (drop a xs)) ≡ min (b - a) (length (drop a xs)) = length-take (b - a) (drop a xs) in omega arith
