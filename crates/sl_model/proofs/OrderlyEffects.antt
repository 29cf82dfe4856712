-- What an effect of a call has to be, so that it leaves the containers of a memory orderly: their keys in order, and their elements ints.
use Rattle.std.proofs.Common.{◌≡◌, ◌≢◌, ℕ, zero, suc, ◌+◌, ◌<◌, ◌≤◌, Bool, true, false, IsTrue, List, [], ◌∷◌, Option, Some, None, length, map}
use Rattle.std.proofs.Common.{refl, ap, sym, ◌∙◌, ◌⊎◌, inl, inr, ⊎_elim, subst, ℤ, if◌then◌else◌}
use Rattle.std.specs.List.{slice_get, slice_set}
use Rattle.std.proofs.lemmas.Bool.{cases_eq, cases_lt, not-true}
use Rattle.sl_base.specs.declared.form.Form.{Form}
use Rattle.sl_base.specs.declared.scalar.Scalar.TheVariants as t
use Rattle.sl_specs.specs.declared.class.Class.{Class}
use Rattle.sl_specs.specs.Forms.{is_hash, is_keyed}
use Rattle.sl_model.specs.Memory.Containers.{Cell, Cont, Memory, cont_at, size, keys, new_cells, made, end_from, Part, key_part, value_part, with_part}
use Rattle.sl_model.specs.Memory.Containers.{is_writable, cont_with, write_element, empty_memory}
use Rattle.sl_model.specs.Memory.Edits.{Change, old, numbers, theirs_from, change_of, changed, rebuilt, next_of_two, after, after_two}
use Rattle.sl_model.specs.Numbers.{converted, fits}
use Rattle.sl_model.specs.Memory.Orderly.{Each, AreInOrder, HoldsInts, IsOrderlyCont, IsOrderly}
use Rattle.sl_model.specs.Memory.Schedule.{after_picks, scattered}
use Rattle.sl_model.specs.LibraryCalls.Situation.{Situation, own, item}
use Rattle.sl_model.specs.LibraryCalls.Actions.{Effect, keeps, edits, changes, trades, inserts, appends, makes, makes_by_keys}
use Rattle.sl_model.specs.LibraryCalls.Effects.{Left, insertion_class, insertion, append, append_all, known_key, key_change, key_picks, insert_key}
use Rattle.sl_model.specs.LibraryCalls.Effects.{insert_all, does}
use Rattle.sl_model.proofs.AsInts.{converted-fits}
use Rattle.sl_model.proofs.After.{get-after-own, get-after-other, cont_at-after-own, cont_of_there}
use Rattle.sl_model.proofs.FineEffects.{IsThere, IsFine}
use Rattle.sl_model.proofs.Getting.{get_left, get_take, get_set_same, get_set_other, get_within}
use Rattle.sl_model.proofs.KeyCounts.{key_from, keys_from}
use Rattle.sl_model.proofs.KeysAfter.{sources-ints, any_order, all_keys, old-keys, their-keys, scattered-order, IsTidyEdit, edit-order}
use Rattle.sl_model.proofs.KeyInOrder.{key-order}
use Rattle.sl_model.proofs.Making.{last_one, fresh_cont, made-there}
use Rattle.sl_model.proofs.Moved.{first-there, second-there}
use Rattle.sl_model.proofs.Places.{counts-fair}

-- the key of what is put in is an int
abbrev pub HasIntKey : ℤ × ℤ → Type 0
HasIntKey x = IsTrue (fits t.Int x.0)

-- a change of a container of a form with keys puts the elements of a hash form in again
abbrev pub IsTidyChange : Cont → Change → Type 0
IsTidyChange c ch =
    (is_keyed c.form ≡ false)
    ⊎ ((is_hash c.form ≡ true) × ((picks : List ℕ) × (ch.sources ≡ map (λ k. old k) (scattered picks (numbers 0 (size c))))))

-- changes of two containers are of sequences, or of two of a form that exchange all elements
abbrev pub IsTidyTrade : Cont → Cont → Change → Change → Type 0
IsTidyTrade c d ch dh =
    ((is_keyed c.form ≡ false) × (is_keyed d.form ≡ false))
    ⊎ ((c.form ≡ d.form) × (ch.sources ≡ theirs_from 0 (size d)) × (dh.sources ≡ theirs_from 0 (size c)))

-- What an effect on a form has to be, so that keys stay in order.
abbrev pub IsTidy : Form → Situation → Effect → Type 0
IsTidy form s keeps = Unit {0}
IsTidy form s (edits n e) = IsTidyEdit (own s) e
IsTidy form s (changes n j ch) = IsTidyChange (cont_at s.memory j) ch
IsTidy form s (trades j ch dh) = IsTidyTrade (own s) (cont_at s.memory j) ch dh
IsTidy form s (inserts xs) = Each HasIntKey xs
IsTidy form s (appends j xs) = is_keyed (cont_at s.memory j).form ≡ false
IsTidy form s (makes n room xs) = AreInOrder form (map (λ (x : ℤ × ℤ). converted t.Int x.0) xs)
IsTidy form s (makes_by_keys n room xs) = Each HasIntKey xs

-- ## One container

-- a change after which the keys stand in order
after-orderly : (ch : Change) (m : Memory) (j : ℕ) (c : Cont) (site : ℕ) → IsOrderly m → slice_get m.conts j ≡ Some c
    → AreInOrder c.form (keys (changed m.fresh ch c)) → IsOrderly (after ch m j c site)
after-orderly ch m j c site orderly there order i d at = ⊎_elim
    (λ (e : j ≡ i).
    let a : Some (changed m.fresh ch c) ≡ Some d = sym (get-after-own ch m j c site there) ∙ (ap (slice_get (after ch m j c site).conts) e ∙ at) in
    let q : changed m.fresh ch c ≡ d = cc in
    let ints = (orderly j c there).ints in
    subst IsOrderlyCont q (record { order = order; ints = sources-ints ch m.fresh c c ints ints (m.fresh + size c + 1) ch.sources }))
    (λ (n : j ≢ i). orderly i d (sym (get-after-other ch m j i c site n) ∙ at))
    (cases_eq j i)

-- the keys by the sources
by_sources : (ch : Change) (fresh : ℕ) (c : Cont) → AreInOrder c.form (map (key_from c c) ch.sources)
    → AreInOrder c.form (keys (changed fresh ch c))
by_sources ch fresh c h = subst (AreInOrder c.form) (sym (keys_from ch fresh c c (fresh + size c + 1) ch.sources)) h

-- a tidy change
change-order : (c : Cont) (ch : Change) → AreInOrder c.form (keys c) → IsTidyChange c ch → AreInOrder c.form (map (key_from c c) ch.sources)
change-order c ch order (inl free) = any_order c.form (map (key_from c c) ch.sources) free
change-order c ch order (inr h) = subst (λ xs. AreInOrder c.form (map (key_from c c) xs)) (sym h.1.1)
    (subst (AreInOrder c.form) (sym (old-keys c c (scattered h.1.0 (numbers 0 (size c))))) (scattered-order c h.1.0 h.0 order))

-- a container that is there after a change of it
there-after : (ch : Change) (m : Memory) (j : ℕ) (site : ℕ) → IsThere m j → IsThere (after ch m j (cont_at m j) site) j
there-after ch m j site there = get-after-own ch m j (cont_at m j) site there
    ∙ ap (λ (x : Cont). Some x) (sym (cont_at-after-own ch m j (cont_at m j) site there))

-- ## Keys and elements one by one

-- a key
insert_key-orderly : (class : Class) (site j : ℕ) (x : ℤ × ℤ) (left : Left) → IsOrderly left.memory → IsThere left.memory j → HasIntKey x
    → IsOrderly (insert_key class site j (cont_at left.memory j) x left).memory
    × IsThere (insert_key class site j (cont_at left.memory j) x left).memory j
insert_key-orderly class site j x left orderly there int = by_known (known_key c x.0) refl
  where
    c : Cont
    c = cont_at left.memory j

    ch : Change
    ch = key_change class (cont_at left.memory j) x left.picks

    next : Left
    next = record { memory = after ch left.memory j c site; picks = after_picks (key_picks c) left.picks }

    by_known : (o : Option ℕ) → known_key c x.0 ≡ o → IsOrderly (elim o as (λ _. Left) [ None ↦ next | Some k ↦ left ]).memory
        × IsThere (elim o as (λ _. Left) [ None ↦ next | Some k ↦ left ]).memory j
    by_known (Some k) e = (orderly, there)
    by_known None e = (
      after-orderly ch left.memory j c site orderly there (key-order class left.memory.fresh c x left.picks e int (orderly j c there).order),
      there-after ch left.memory j site there,
    )

-- keys one by one
insert_all-orderly : (class : Class) (site j : ℕ) (xs : List (ℤ × ℤ)) (left : Left) → IsOrderly left.memory → IsThere left.memory j
    → Each HasIntKey xs → IsOrderly (insert_all class site j xs left).memory
insert_all-orderly class site j [] left orderly there int = orderly
insert_all-orderly class site j (x ∷ xs) left orderly there int =
    let first = insert_key-orderly class site j x left orderly there int.0 in
    insert_all-orderly class site j xs (insert_key class site j (cont_at left.memory j) x left) first.0 first.1 int.1

-- elements at the end of a sequence
append_all-orderly : (site j : ℕ) (xs : List ℤ) (left : Left) → IsOrderly left.memory → IsThere left.memory j
    → is_keyed (cont_at left.memory j).form ≡ false → IsOrderly (append_all site j xs left).memory
append_all-orderly site j [] left orderly there free = orderly
append_all-orderly site j (x ∷ xs) left orderly there free =
    append_all-orderly site j xs (append site j c x left)
    (after-orderly ch left.memory j c site orderly there (any_order c.form (keys (changed left.memory.fresh ch c)) free))
    (there-after ch left.memory j site there)
    (ap (λ (d : Cont). is_keyed d.form) (cont_at-after-own ch left.memory j c site there) ∙ free)
  where
    c : Cont
    c = cont_at left.memory j

    ch : Change
    ch = change_of (insertion_class (cont_at left.memory j).form) (cont_at left.memory j)
        (insertion (cont_at left.memory j) (size (cont_at left.memory j)) (item x ∷ []) left.picks)

-- ## New containers

-- the keys of new elements
new_keys : (next : ℕ) (xs : List (ℤ × ℤ))
    → map (λ (x : Cell). x.key) (new_cells next xs) ≡ map (λ (x : ℤ × ℤ). converted t.Int x.0) xs
new_keys next [] = refl
new_keys next (x ∷ xs) = ap (λ l. converted t.Int x.0 ∷ l) (new_keys (next + 1) xs)

-- they hold ints
new_ints : (next : ℕ) (xs : List (ℤ × ℤ)) → Each HoldsInts (new_cells next xs)
new_ints next [] = tt
new_ints next (x ∷ xs) = ((converted-fits x.0, converted-fits x.1), new_ints (next + 1) xs)

-- a new container of keys in order
made-orderly : (form : Form) (room : ℕ) (xs : List (ℤ × ℤ)) (m : Memory) → IsOrderly m
    → AreInOrder form (map (λ (x : ℤ × ℤ). converted t.Int x.0) xs) → IsOrderly (made form room xs m)
made-orderly form room xs m orderly order j c at = ⊎_elim
    (λ (low : j < length m.conts). orderly j c (sym (get_left m.conts (fresh_cont form room xs m ∷ []) j low) ∙ at))
    (λ (high : length m.conts ≤ j).
    let r = last_one m.conts (fresh_cont form room xs m) c j high at in
    subst IsOrderlyCont r.1 (record { order = subst (AreInOrder form) (sym (new_keys (m.fresh + 1) xs)) order; ints = new_ints (m.fresh + 1) xs }))
    (cases_lt j (length m.conts))

-- ## Two containers

-- one of two after a tidy trade
side-orderly : (ch : Change) (base next : ℕ) (c d : Cont) → IsOrderlyCont c → IsOrderlyCont d
    → (is_keyed c.form ≡ false) ⊎ ((c.form ≡ d.form) × (ch.sources ≡ theirs_from 0 (size d))) → IsOrderlyCont (rebuilt base next ch c d)
side-orderly ch base next c d p q tidy = record {
  order = subst (AreInOrder c.form) (sym (keys_from ch base c d next ch.sources)) (by_case tidy);
  ints = sources-ints ch base c d p.ints q.ints next ch.sources;
}
  where
    by_case : (is_keyed c.form ≡ false) ⊎ ((c.form ≡ d.form) × (ch.sources ≡ theirs_from 0 (size d)))
        → AreInOrder c.form (map (key_from c d) ch.sources)
    by_case (inl free) = any_order c.form (map (key_from c d) ch.sources) free
    by_case (inr h) = subst (λ xs. AreInOrder c.form (map (key_from c d) xs)) (sym h.1)
        (subst (AreInOrder c.form) (sym (their-keys c d (numbers 0 (size d)) ∙ all_keys d))
        (subst (λ form. AreInOrder form (keys d)) (sym h.0) q.order))

-- both of two
trade-orderly : (ch dh : Change) (m : Memory) (j i : ℕ) (c d : Cont) (site : ℕ) → j ≢ i → slice_get m.conts j ≡ Some c
    → slice_get m.conts i ≡ Some d → IsOrderly m → IsTidyTrade c d ch dh → IsOrderly (after_two ch dh m j c i d site)
trade-orderly ch dh m j i c d site differ there there' orderly tidy n x at = ⊎_elim
    (λ (e : j ≡ n). in_place first (first-there ch dh m j i c d site differ there there') e
    (side-orderly ch m.fresh (next_of_two m.fresh c d) c d (orderly j c there) (orderly i d there') (first_tidy tidy)))
    (λ (a : j ≢ n). ⊎_elim
    (λ (e : i ≡ n). in_place second (second-there ch dh m j i c d site differ there there') e
    (side-orderly dh (m.fresh + size c + 1) (next_of_two m.fresh c d + length ch.sources) d c (orderly i d there') (orderly j c there)
    (second_tidy tidy)))
    (λ (b : i ≢ n). orderly n x
    (sym (get_set_other (slice_set m.conts j first) i n second b ∙ get_set_other m.conts j n first a) ∙ at))
    (cases_eq i n))
    (cases_eq j n)
  where
    first : Cont
    first = rebuilt m.fresh (next_of_two m.fresh c d) ch c d

    second : Cont
    second = rebuilt (m.fresh + size c + 1) (next_of_two m.fresh c d + length ch.sources) dh d c

    in_place : (y : Cont) {k : ℕ} → slice_get (after_two ch dh m j c i d site).conts k ≡ Some y → k ≡ n → IsOrderlyCont y → IsOrderlyCont x
    in_place y {k} h e o =
        let a : Some y ≡ Some x = sym h ∙ (ap (slice_get (after_two ch dh m j c i d site).conts) e ∙ at) in
        let q : y ≡ x = cc in
        subst IsOrderlyCont q o

    first_tidy : IsTidyTrade c d ch dh → (is_keyed c.form ≡ false) ⊎ ((c.form ≡ d.form) × (ch.sources ≡ theirs_from 0 (size d)))
    first_tidy (inl h) = inl h.0
    first_tidy (inr h) = inr (h.0, h.1)

    second_tidy : IsTidyTrade c d ch dh → (is_keyed d.form ≡ false) ⊎ ((d.form ≡ c.form) × (dh.sources ≡ theirs_from 0 (size c)))
    second_tidy (inl h) = inl h.1
    second_tidy (inr h) = inr (sym h.0, h.2)

-- ## Each effect

-- a fine and tidy effect leaves an orderly memory orderly
pub does-orderly : (form : Form) (class : Class) (s : Situation) (e : Effect) → IsOrderly s.memory → IsFine class s e → IsTidy form s e
    → IsOrderly (does form class s e).memory
does-orderly form class s keeps orderly h tidy = orderly
does-orderly form class s (edits n e) orderly h tidy =
    after-orderly (change_of class (own s) e) s.memory s.object (own s) s.site orderly h.0
    (by_sources (change_of class (own s) e) s.memory.fresh (own s)
    (edit-order class (own s) e (orderly s.object (own s) h.0).order (counts-fair (own s) (change_of class (own s) e) h.1).inside tidy))
does-orderly form class s (changes n j ch) orderly h tidy =
    after-orderly ch s.memory j (cont_at s.memory j) s.site orderly h.0
    (by_sources ch s.memory.fresh (cont_at s.memory j)
    (change-order (cont_at s.memory j) ch (orderly j (cont_at s.memory j) h.0).order tidy))
does-orderly form class s (trades j ch dh) orderly h tidy =
    trade-orderly ch dh s.memory s.object j (own s) (cont_at s.memory j) s.site h.differ h.own_there h.other_there orderly tidy
does-orderly form class s (inserts xs) orderly h tidy =
    insert_all-orderly class s.site s.object xs (record { memory = s.memory; picks = after_picks 0 s.picks }) orderly h.0 tidy
does-orderly form class s (appends j xs) orderly h tidy =
    append_all-orderly s.site j xs (record { memory = s.memory; picks = after_picks 0 s.picks }) orderly h.0 tidy
does-orderly form class s (makes n room xs) orderly h tidy = made-orderly form room xs s.memory orderly tidy
does-orderly form class s (makes_by_keys n room xs) orderly h tidy =
    let at : slice_get (made form room [] s.memory).conts s.object ≡ Some _ =
    ap (slice_get (made form room [] s.memory).conts) h.0 ∙ made-there form room [] s.memory in
    let is = cont_of_there (made form room [] s.memory) s.object _ at in
    insert_all-orderly class s.site s.object xs (record { memory = made form room [] s.memory; picks = after_picks n s.picks })
    (made-orderly form room [] s.memory orderly tt) (at ∙ ap (λ (x : Cont). Some x) (sym is)) tidy

-- ## Other changes of a memory

-- a key or value that is written
write-ints : (cells : List Cell) (k : ℕ) (part : Part) (z : ℤ) (x : Cell) → Each HoldsInts cells → slice_get cells k ≡ Some x
    → Each HoldsInts (slice_set cells k (with_part part (converted t.Int z) x))
write-ints [] k part z x h e = absurd (cc)
write-ints (y ∷ ys) zero part z x h e = let q : y ≡ x = cc in (by_part part (subst HoldsInts q h.0), h.1)
  where
    by_part : (part : Part) → HoldsInts x → HoldsInts (with_part part (converted t.Int z) x)
    by_part key_part g = (converted-fits z, g.1)
    by_part value_part g = (g.0, converted-fits z)
write-ints (y ∷ ys) (suc k) part z x h e = (h.0, write-ints ys k part z x h.1 e)

-- a value that is written leaves the keys
value-keys : (cells : List Cell) (k : ℕ) (z : ℤ) (x : Cell) → slice_get cells k ≡ Some x
    → map (λ (y : Cell). y.key) (slice_set cells k (with_part value_part z x)) ≡ map (λ (y : Cell). y.key) cells
value-keys [] k z x e = absurd (cc)
value-keys (y ∷ ys) zero z x e = let q : y ≡ x = cc in ap (λ (w : Cell). w.key ∷ map (λ (y : Cell). y.key) ys) (sym q)
value-keys (y ∷ ys) (suc k) z x e = ap (λ l. y.key ∷ l) (value-keys ys k z x e)

-- a container with a number written
cont_with-orderly : (c : Cont) (k : ℕ) (part : Part) (z : ℤ) → IsOrderlyCont c → IsOrderlyCont (cont_with c k part z)
cont_with-orderly c k part z h = by_test (is_writable c.form part) refl (slice_get c.cells k) refl
  where
    by_part : (part : Part) (x : Cell) → is_writable c.form part ≡ true → slice_get c.cells k ≡ Some x
        → AreInOrder c.form (map (λ (y : Cell). y.key) (slice_set c.cells k (with_part part (converted t.Int z) x)))
    by_part key_part x e at = any_order c.form _ (not-true (is_keyed c.form) e)
    by_part value_part x e at = subst (AreInOrder c.form) (sym (value-keys c.cells k (converted t.Int z) x at)) h.order

    by_test : (b : Bool) → is_writable c.form part ≡ b → (o : Option Cell) → slice_get c.cells k ≡ o → IsOrderlyCont (if b
        then record c { cells = elim o as (λ _. List Cell) [ None ↦ c.cells | Some x ↦ slice_set c.cells k (with_part part (converted t.Int z) x) ] }
        else c)
    by_test false e o at = h
    by_test true e None at = record { order = h.order; ints = h.ints }
    by_test true e (Some x) at = record { order = by_part part x e at; ints = write-ints c.cells k part z x h.ints at }

-- a number that is written leaves an orderly memory orderly
pub write-orderly : (m : Memory) (j k : ℕ) (part : Part) (z : ℤ) → IsOrderly m → IsOrderly (write_element m j k part z)
write-orderly m j k part z orderly = by_cont (slice_get m.conts j) refl
  where
    by_cont : (o : Option Cont) → slice_get m.conts j ≡ o
        → IsOrderly (elim o as (λ _. Memory) [ None ↦ m | Some c ↦ record m { conts = slice_set m.conts j (cont_with c k part z) } ])
    by_cont None e = orderly
    by_cont (Some c) e = λ i d at. ⊎_elim
        (λ (q : j ≡ i).
        let a : Some (cont_with c k part z) ≡ Some d = sym (get_set_same m.conts j (cont_with c k part z) (get_within m.conts j c e))
        ∙ (ap (slice_get (slice_set m.conts j (cont_with c k part z))) q ∙ at) in
        let r : cont_with c k part z ≡ d = cc in
        subst IsOrderlyCont r (cont_with-orderly c k part z (orderly j c e)))
        (λ (n : j ≢ i). orderly i d (sym (get_set_other m.conts j i (cont_with c k part z) n) ∙ at))
        (cases_eq j i)

-- containers that end leave the others orderly
pub end-orderly : (site n : ℕ) (m : Memory) → IsOrderly m → IsOrderly (end_from site n m)
end-orderly site n m orderly j c at = orderly j c (get_take n m.conts j c at).1

-- the memory without containers is orderly
pub empty-orderly : IsOrderly empty_memory
empty-orderly j c at = absurd (cc)
