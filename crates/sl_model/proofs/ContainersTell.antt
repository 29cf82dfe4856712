-- Each call on a container tells its shape and whether it makes a container, and an iterator that it gives stands in its object.
use Rattle.std.proofs.Common.{◌≡◌, ℕ, ◌+◌, ◌-◌, ◌<◌, ◌≤◌, ◌==◌, Bool, true, false, List, [], ◌∷◌, Option, Some, None, length, map, refl, ap}
use Rattle.std.proofs.Common.{arith, if◌then◌else◌, ◌∙◌}
use Rattle.std.specs.Prelude.{ℤ, int_lt, int_le, nat_lt, take, drop}
use Rattle.std.proofs.lemmas.List.{length-map}
use Rattle.sl_base.specs.declared.form.Form.{Form}
use Rattle.sl_base.specs.declared.form.Form.TheVariants as f
use Rattle.sl_specs.specs.declared.class.Class.{Class}
use Rattle.sl_specs.specs.Forms.{is_hash}
use Rattle.sl_specs.specs.ContainerLines.{container_lines}
use Rattle.sl_specs.specs.MultiLines.{multi_lines}
use Rattle.sl_model.specs.Memory.Containers.{Cont, Memory, size, keys}
use Rattle.sl_model.specs.Memory.Classes.{Edit}
use Rattle.sl_model.specs.Memory.Edits.{old, new, numbers, change_of, after}
use Rattle.sl_model.specs.Memory.Forms.{holds_equal_keys}
use Rattle.sl_model.specs.Memory.Orders.{index_of_key}
use Rattle.sl_model.specs.Memory.Schedule.{scattered, hash_place, after_picks, pick, pick_at}
use Rattle.sl_model.specs.LibraryCalls.Situation.{Situation, own, own_size, their, their_size, container_of, index, range_size, int_of, count_of, item}
use Rattle.sl_model.specs.LibraryCalls.Actions.{Effect, keeps, edits, changes, trades, inserts, gives_place, gives_place_and}
use Rattle.sl_model.specs.LibraryCalls.Effects.{Left, is_full, ordered_place, key_order, key_place, key_change, key_picks, known_key, insert_key, does}
use Rattle.sl_model.specs.LibraryCalls.MakeActions.{filled}
use Rattle.sl_model.specs.LibraryCalls.AccessActions.{untouched, rehashed, reserved, swap}
use Rattle.sl_model.specs.LibraryCalls.ListActions.{merged, merge, splices}
use Rattle.sl_model.specs.Memory.Rearrangements.{arranged, exchanged, received, given, moved_order}
use Rattle.sl_model.specs.LibraryCalls.KeyActions.{key_index, place_or, key_after, is_new, inserted, below, up_to}
use Rattle.sl_model.specs.LibraryCalls.Rows.{of_form}
use Rattle.sl_model.specs.LibraryCalls.Values.{Shape, a_stamp, a_pair}
use Rattle.sl_model.proofs.Called.{HasObject, own_within, own_form}
use Rattle.sl_model.proofs.Growing.{makes_one}
use Rattle.sl_model.proofs.Placing.{HasPlace, IsPlaced, after-place, edit-place, hash_place-low}
use Rattle.sl_model.proofs.Placing.{how_many-low}
use Rattle.sl_model.proofs.Placing.{first_of_key-low, keys-length}
use Rattle.sl_model.proofs.Tells.{shape_of_answer, tells, LineTells, AllOf, all_parts}
use Rattle.sl_model.proofs.Counts.{length-scattered, length-put, length-numbers}

-- a new container is made, whatever its form
filled-makes : (form : Form) (xs : List (ℤ × ℤ)) (picks : List ℕ) → makes_one (filled form xs picks) ≡ true
filled-makes f.Vector xs picks = refl
filled-makes f.Deque xs picks = refl
filled-makes f.List xs picks = refl
filled-makes f.Set xs picks = refl
filled-makes f.Map xs picks = refl
filled-makes f.HashSet xs picks = refl
filled-makes f.HashMap xs picks = refl
filled-makes f.MultiSet xs picks = refl
filled-makes f.MultiMap xs picks = refl

-- one of two effects makes none where neither does
either-makes : (b : Bool) (e d : Effect) → makes_one e ≡ false → makes_one d ≡ false → makes_one (if b then e else d) ≡ false
either-makes true e d p q = p
either-makes false e d p q = q

-- neither does `reserve` make one
reserved-makes : (j : ℕ) (c : Cont) (n : ℕ) (picks : List ℕ) → makes_one (reserved j c n picks) ≡ false
reserved-makes j c n picks = either-makes (is_hash c.form) (changes (size c + 1) j (rehashed c n picks))
    (if nat_lt c.room n then edits 1 (untouched (n + pick picks)) else edits 0 (untouched c.room)) refl
    (either-makes (nat_lt c.room n) (edits 1 (untouched (n + pick picks))) (edits 0 (untouched c.room)) refl refl)

-- nor `swap`
swap-makes : (s : Situation) → makes_one (swap.effect s) ≡ false
swap-makes s = either-makes (container_of s 1 == s.object) (edits 0 (untouched (own s).room))
    (trades (container_of s 1) (exchanged (own s) (their s 1)) (exchanged (their s 1) (own s))) refl refl

-- nor `merge`
merge-makes : (s : Situation) → makes_one (merge.effect s) ≡ false
merge-makes s = either-makes (container_of s 1 == s.object) keeps
    (trades (container_of s 1) (merged (own s) (their s 1)) (given 0 (their_size s 1) (their s 1))) refl refl

-- nor `splice`
splices-makes : (s : Situation) (from count : ℕ) → makes_one (splices s from count) ≡ false
splices-makes s from count =
    either-makes (container_of s 2 == s.object) (changes 0 s.object (arranged (moved_order (own_size s) (index s 1) from count) (own s)))
    (trades (container_of s 2) (received (index s 1) from count (own s)) (given from count (their s 2))) refl refl

-- a place of the object as it stands
own_place : (form : Form) (s : Situation) (k : ℕ) → HasObject (of_form form) s → k ≤ own_size s → HasPlace s.memory s.object k
own_place form s k there low = record { there = own_within form s there; within = low }

-- the place of a key, or the end
place_or-low : (o : Option ℕ) (n : ℕ) → ((k : ℕ) → o ≡ Some k → k < n) → place_or n o ≤ n
place_or-low None n h = omega arith
place_or-low (Some k) n h = let r : k < n = h k refl in omega arith

-- the place of a key in the object
pub key_index-low : (s : Situation) (z : ℤ) (k : ℕ) → key_index s z ≡ Some k → k < own_size s
key_index-low s z k e = let r = first_of_key-low z 0 (keys (own s)) k e in let q = keys-length (own s) in omega arith

-- how many keys are below, or up to, a number
below-low : (s : Situation) (z : ℤ) → below s z ≤ own_size s
below-low s z = let r = how_many-low (λ y. int_lt y z) (keys (own s)) in let q = keys-length (own s) in omega arith

up_to-low : (s : Situation) (z : ℤ) → up_to s z ≤ own_size s
up_to-low s z = let r = how_many-low (λ y. int_le y z) (keys (own s)) in let q = keys-length (own s) in omega arith

-- the old elements in the order in which a new key finds them are as many
pub key_order-length : (c : Cont) (picks : List ℕ) → length (key_order c picks) ≡ size c
key_order-length c picks = by_hash (is_hash c.form) (is_full c 1)
  where
    by_hash : (h full : Bool) → length (if h
        then (if full then scattered (after_picks 1 picks) (numbers 0 (size c)) else numbers 0 (size c))
        else numbers 0 (size c)) ≡ size c
    by_hash true true = length-scattered (after_picks 1 picks) (numbers 0 (size c)) ∙ length-numbers 0 (size c)
    by_hash true false = length-numbers 0 (size c)
    by_hash false full = length-numbers 0 (size c)

-- the place of a new key is one of the container with it
pub key_place-low : (c : Cont) (z : ℤ) (picks : List ℕ) → key_place c z picks ≤ size c
key_place-low c z picks = by_hash (is_hash c.form)
  where
    ordered : ordered_place c z ≤ size c
    ordered = let r = how_many-low (λ x. if holds_equal_keys c.form then int_le x z else int_lt x z) (keys c) in let q = keys-length c in omega arith

    by_hash : (h : Bool) → (if h then hash_place (size c) (pick_at (key_picks c - 1) picks) else ordered_place c z) ≤ size c
    by_hash true = hash_place-low (size c) (pick_at (key_picks c - 1) picks)
    by_hash false = ordered

-- a key that keeps an equal one out has a place in the container
pub known_key-low : (c : Cont) (z : ℤ) (k : ℕ) → known_key c z ≡ Some k → k < size c
known_key-low c z k e = by_equal (holds_equal_keys c.form) e
  where
    by_equal : (b : Bool) → (if b then None else index_of_key z (keys c)) ≡ Some k → k < size c
    by_equal true h = absurd (cc)
    by_equal false h = let r = first_of_key-low z 0 (keys c) k h in let q = keys-length c in omega arith

-- a key that is put in has a place among the sources
pub key_sources : (class : Class) (s : Situation) (x : ℤ × ℤ) (picks : List ℕ)
    → key_place (own s) x.0 picks + 1 ≤ length (key_change class (own s) x picks).sources
key_sources class s x picks =
    let p = length-put (key_place (own s) x.0 picks) (new x.0 x.1) (map (λ k. old k) (key_order (own s) picks)) in
    let q = length-map (key_order (own s) picks) (λ k. old k) in
    let r = key_order-length (own s) picks in
    let t = key_place-low (own s) x.0 picks in
    omega arith

-- a key that is put in has a place then
key_placed : (class : Class) (s : Situation) (x : ℤ × ℤ) (picks : List ℕ) → s.object < length s.memory.conts
    → HasPlace (insert_key class s.site s.object (own s) x (record { memory = s.memory; picks = picks })).memory s.object
    (place_or (key_place (own s) x.0 picks) (known_key (own s) x.0))
key_placed class s x picks low = by_known (known_key (own s) x.0) refl
  where
    sources : key_place (own s) x.0 picks ≤ length (key_change class (own s) x picks).sources
    sources = let r = key_sources class s x picks in omega arith

    by_known : (o : Option ℕ) → known_key (own s) x.0 ≡ o
        → HasPlace (elim o as (λ _. Left) [
          | None ↦ record {
            memory = after (key_change class (own s) x picks) s.memory s.object (own s) s.site;
            picks = after_picks (key_picks (own s)) picks;
          }
          | Some k ↦ record { memory = s.memory; picks = picks }
        ]).memory s.object (place_or (key_place (own s) x.0 picks) o)
    by_known None e = after-place (key_change class (own s) x picks) s.memory s.object (own s) s.site (key_place (own s) x.0 picks) low sources
    by_known (Some k) e = record { there = low; within = let r = known_key-low (own s) x.0 k e in omega arith }

-- what the insertion of a key gives has a shape by the form, and it stands where the key does
inserted-told : (m : Memory) (form : Form) (equal : Bool) (s : Situation) (z : ℤ) → HasObject (of_form form) s → holds_equal_keys form ≡ equal
    → HasPlace m s.object (key_after s z)
    → (shape_of_answer (inserted s z) ≡ (if equal then a_stamp else a_pair)) × IsPlaced m (inserted s z)
inserted-told m form equal s z there e h =
    (by_equal (holds_equal_keys (own s).form) ∙ ap shape_if (ap holds_equal_keys (own_form form s there) ∙ e), placed (holds_equal_keys (own s).form))
  where
    shape_if : Bool → Shape
    shape_if b = if b then a_stamp else a_pair

    by_equal : (b : Bool) → shape_of_answer
        (if b then gives_place s.object (key_after s z) else gives_place_and s.object (key_after s z) (is_new s z))
        ≡ (if b then a_stamp else a_pair)
    by_equal true = refl
    by_equal false = refl

    placed : (b : Bool) → IsPlaced m (if b then gives_place s.object (key_after s z) else gives_place_and s.object (key_after s z) (is_new s z))
    placed true = h
    placed false = h

-- a key that is put in
key_told : (form : Form) (equal : Bool) (class : Class) (s : Situation) (x : ℤ × ℤ) → holds_equal_keys form ≡ equal → HasObject (of_form form) s
    → (shape_of_answer (inserted s x.0) ≡ (if equal then a_stamp else a_pair)) × IsPlaced (does form class s (inserts (x ∷ []))).memory
    (inserted s x.0)
key_told form equal class s x e there = inserted-told (does form class s (inserts (x ∷ []))).memory form equal s x.0 there e
    (key_placed class s x s.picks (own_within form s there))

-- the place at which an edit of the object begins
begins_there : (form : Form) (class : Class) (s : Situation) (e : Edit) → HasObject (of_form form) s
    → HasPlace (after (change_of class (own s) e) s.memory s.object (own s) s.site) s.object e.from
begins_there form class s e there = edit-place class s.memory s.object (own s) e s.site e.from (own_within form s there) (omega arith)

-- each call on a container but a multiset or multimap
pub container-tells : AllOf (LineTells false) container_lines
container-tells = all_parts (LineTells false) 7 container_lines makings (all_parts (LineTells false) 10 (drop 7 container_lines) accesses
    (all_parts (LineTells false) 13 (drop 17 container_lines) edits (all_parts (LineTells false) 10 (drop 30 container_lines) others lists)))
  where
    makings : AllOf (LineTells false) (take 7 container_lines)
    makings = (
      (λ form e kills s h n. tells (filled-makes form _ s.picks) refl tt),
      (
        (λ form e kills s h n. tells (filled-makes form _ s.picks) refl tt),
        (
          (λ form e kills s h n. tells refl refl tt),
          (
            (λ form e kills s h n. tells (filled-makes form _ s.picks) refl tt),
            (
              (λ form e kills s h n. tells (filled-makes form _ s.picks) refl tt),
              ((λ form e kills s h n. tells (filled-makes form _ s.picks) refl tt), ((λ form e kills s h n. tells refl refl tt), tt)),
            ),
          ),
        ),
      ),
    )

    accesses : AllOf (LineTells false) (take 10 (drop 7 container_lines))
    accesses = (
      (λ form e kills s h n. tells refl refl (own_place form s 0 h.object (omega arith))),
      (
        (λ form e kills s h n. tells refl refl (own_place form s (own_size s) h.object (omega arith))),
        (
          (λ form e kills s h n. tells refl refl tt),
          (
            (λ form e kills s h n. tells refl refl tt),
            (
              (λ form e kills s h n. tells refl refl tt),
              (
                (λ form e kills s h n. tells refl refl tt),
                (
                  (λ form e kills s h n. tells refl refl tt),
                  (
                    (λ form e kills s h n. tells refl refl tt),
                    ((λ form e kills s h n. tells refl refl tt), ((λ form e kills s h n. tells refl refl tt), tt)),
                  ),
                ),
              ),
            ),
          ),
        ),
      ),
    )

    edits : AllOf (LineTells false) (take 13 (drop 17 container_lines))
    edits = (
      (λ form e kills s h n. tells refl refl tt),
      (
        (λ form e kills s h n. tells refl refl tt),
        (
          (λ form e kills s h n. tells refl refl tt),
          (
            (λ form e kills s h n. tells refl refl tt),
            (
              (λ form e kills s h n. tells refl refl (begins_there form kills s _ h.object)),
              (
                (λ form e kills s h n. tells refl refl (begins_there form kills s _ h.object)),
                (
                  (λ form e kills s h n. tells refl refl (begins_there form kills s _ h.object)),
                  (
                    (λ form e kills s h n. let t = key_told form _ kills s (item (int_of s 1)) e h.object in tells refl t.0 t.1),
                    (
                      (λ form e kills s h n. tells refl refl tt),
                      (
                        (λ form e kills s h n. let t = key_told form _ kills s (int_of s 1, int_of s 2) e h.object in tells refl t.0 t.1),
                        (
                          (λ form e kills s h n. tells refl refl (begins_there form kills s _ h.object)),
                          ((λ form e kills s h n. tells refl refl (begins_there form kills s _ h.object)), ((λ form e kills s h n. tells refl refl tt), tt)),
                        ),
                      ),
                    ),
                  ),
                ),
              ),
            ),
          ),
        ),
      ),
    )

    others : AllOf (LineTells false) (take 10 (drop 30 container_lines))
    others = (
      (λ form e kills s h n. tells refl refl tt),
      (
        (λ form e kills s h n. tells refl refl tt),
        (
          (λ form e kills s h n. tells refl refl tt),
          (
            (λ form e kills s h n. tells refl refl tt),
            (
              (λ form e kills s h n. tells (reserved-makes s.object (own s) (count_of s 1) s.picks) refl tt),
              (
                (λ form e kills s h n. tells (swap-makes s) refl tt),
                (
                  (λ form e kills s h n. tells refl refl
                      (own_place form s _ h.object (place_or-low (key_index s (int_of s 1)) (own_size s) (key_index-low s (int_of s 1))))),
                  (
                    (λ form e kills s h n. tells refl refl tt),
                    (
                      (λ form e kills s h n. tells refl refl (own_place form s _ h.object (below-low s (int_of s 1)))),
                      ((λ form e kills s h n. tells refl refl (own_place form s _ h.object (up_to-low s (int_of s 1)))), tt),
                    ),
                  ),
                ),
              ),
            ),
          ),
        ),
      ),
    )

    lists : AllOf (LineTells false) (drop 40 container_lines)
    lists = (
      (λ form e kills s h n. tells refl refl tt),
      (
        (λ form e kills s h n. tells refl refl tt),
        (
          (λ form e kills s h n. tells refl refl tt),
          (
            (λ form e kills s h n. tells refl refl tt),
            (
              (λ form e kills s h n. tells (merge-makes s) refl tt),
              (
                (λ form e kills s h n. tells (splices-makes s 0 (their_size s 2)) refl tt),
                (
                  (λ form e kills s h n. tells (splices-makes s (index s 3) 1) refl tt),
                  ((λ form e kills s h n. tells (splices-makes s (index s 3) (range_size s 3)) refl tt), tt),
                ),
              ),
            ),
          ),
        ),
      ),
    )

-- each call on a multiset or multimap
pub multi-tells : AllOf (LineTells true) multi_lines
multi-tells = all_parts (LineTells true) 9 multi_lines first (all_parts (LineTells true) 8 (drop 9 multi_lines) edits searches)
  where
    first : AllOf (LineTells true) (take 9 multi_lines)
    first = (
      (λ form e kills s h n. tells (filled-makes form _ s.picks) refl tt),
      (
        (λ form e kills s h n. tells refl refl tt),
        (
          (λ form e kills s h n. tells (filled-makes form _ s.picks) refl tt),
          (
            (λ form e kills s h n. tells (filled-makes form _ s.picks) refl tt),
            (
              (λ form e kills s h n. tells refl refl tt),
              (
                (λ form e kills s h n. tells refl refl (own_place form s 0 h.object (omega arith))),
                (
                  (λ form e kills s h n. tells refl refl (own_place form s (own_size s) h.object (omega arith))),
                  ((λ form e kills s h n. tells refl refl tt), ((λ form e kills s h n. tells refl refl tt), tt)),
                ),
              ),
            ),
          ),
        ),
      ),
    )

    edits : AllOf (LineTells true) (take 8 (drop 9 multi_lines))
    edits = (
      (λ form e kills s h n. let t = key_told form _ kills s (item (int_of s 1)) e h.object in tells refl t.0 t.1),
      (
        (λ form e kills s h n. tells refl refl tt),
        (
          (λ form e kills s h n. let t = key_told form _ kills s (int_of s 1, int_of s 2) e h.object in tells refl t.0 t.1),
          (
            (λ form e kills s h n. tells refl refl (begins_there form kills s _ h.object)),
            (
              (λ form e kills s h n. tells refl refl (begins_there form kills s _ h.object)),
              (
                (λ form e kills s h n. tells refl refl tt),
                ((λ form e kills s h n. tells refl refl tt), ((λ form e kills s h n. tells (swap-makes s) refl tt), tt)),
              ),
            ),
          ),
        ),
      ),
    )

    searches : AllOf (LineTells true) (drop 17 multi_lines)
    searches = (
      (λ form e kills s h n. tells refl refl
          (own_place form s _ h.object (place_or-low (key_index s (int_of s 1)) (own_size s) (key_index-low s (int_of s 1))))),
      (
        (λ form e kills s h n. tells refl refl tt),
        (
          (λ form e kills s h n. tells refl refl (own_place form s _ h.object (below-low s (int_of s 1)))),
          (
            (λ form e kills s h n. tells refl refl (own_place form s _ h.object (up_to-low s (int_of s 1)))),
            (
              (λ form e kills s h n. tells refl refl
                  (own_place form s _ h.object (below-low s (int_of s 1)), own_place form s _ h.object (up_to-low s (int_of s 1)))),
              tt,
            ),
          ),
        ),
      ),
    )
