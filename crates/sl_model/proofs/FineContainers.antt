-- Each call on a container is fine: what it takes out and puts in lies in its object or in its operands, and not too much comes.
use Rattle.std.proofs.Common.{◌≡◌, ◌≢◌, ℕ, zero, suc, ◌+◌, ◌-◌, ◌<◌, ◌≤◌, ◌==◌, ◌&&◌, Bool, true, false, not, List, [], ◌∷◌, ◌++◌, Option, Some, None}
use Rattle.std.proofs.Common.{length, replicate, reverse, refl, ap, sym, subst, ◌∙◌, arith, if◌then◌else◌}
use Rattle.std.specs.Prelude.{ℤ, pos, nat_lt, take, drop, min, slice_index_or, filter}
use Rattle.std.specs.List.{slice_get}
use Rattle.std.proofs.lemmas.Bool.{eqb-true, eqb-false}
use Rattle.sl_base.specs.declared.form.Form.{Form}
use Rattle.sl_base.specs.declared.form.Form.TheVariants as f
use Rattle.sl_base.specs.declared.limits.TheConstants.{ELEMENTS}
use Rattle.sl_specs.specs.declared.class.Class.{Class}
use Rattle.sl_specs.specs.Forms.{is_hash}
use Rattle.sl_specs.specs.ContainerLines.{container_lines}
use Rattle.sl_specs.specs.MultiLines.{multi_lines}
use Rattle.sl_model.specs.Memory.Classes.{Edit, Fits}
use Rattle.sl_model.specs.Memory.Containers.{Cell, Cont, Memory, size, cont_at, keys, items}
use Rattle.sl_model.specs.Memory.Edits.{numbers}
use Rattle.sl_model.specs.LibraryCalls.Needs.{is_range, is_position_inside, fails_if, place_fails, element_fails, range_fails, first_failure}
use Rattle.sl_model.specs.LibraryCalls.Operands.{Sort, an_iterator, a_container, are_of}
use Rattle.sl_model.specs.Memory.Orders.{same, first_of_key, how_many, sorted_places, first_places, other_places}
use Rattle.sl_model.specs.Memory.Rearrangements.{arranged, exchanged, received, given, moved_order}
use Rattle.sl_model.specs.Memory.Schedule.{pick, after_picks}
use Rattle.sl_base.specs.declared.failures.TheConstants.{WRONG_CONTAINER, END_ITERATOR, EMPTY_CONTAINER, OVERLAP}
use Rattle.sl_model.specs.LibraryCalls.Situation.{Situation, own, own_size, argument, place_of, index, index_in, container_of, container_of_value, their, their_size, int_of, count_of, item}
use Rattle.sl_model.specs.LibraryCalls.Situation.{as_items, listed, range_keys, range_size}
use Rattle.sl_model.specs.LibraryCalls.Values.{Value, nothing as no_result}
use Rattle.sl_model.specs.LibraryCalls.Actions.{keeps, edits, changes, trades, inserts, never, too_many}
use Rattle.sl_model.specs.LibraryCalls.AccessActions.{untouched, resized, rehashed, reserved, swap}
use Rattle.sl_model.specs.LibraryCalls.Effects.{insertion, picks_with, room_with}
use Rattle.sl_model.specs.LibraryCalls.KeyActions.{new_keys, place_or, key_index, key_count}
use Rattle.sl_model.specs.LibraryCalls.ListActions.{merged, merge, splices, too_many_theirs}
use Rattle.sl_model.specs.LibraryCalls.MakeActions.{filled, copied, refilled, copy_items, copy_picks, copy_room}
use Rattle.sl_model.specs.LibraryCalls.SequenceActions.{puts, drops}
use Rattle.sl_model.specs.Runs.Good.{IsSound}
use Rattle.sl_model.proofs.Called.{own_there}
use Rattle.std.proofs.lemmas.List.{reverse-append, length-reverse, length-map}
use Rattle.sl_model.proofs.Counts.{times-append}
use Rattle.sl_model.proofs.Counts.{moved_length, times-sorted_places, length-sorted_places, times-moved, length-scattered, length-numbers}
use Rattle.sl_model.proofs.FairChanges.{BuriesGone, edit-fair, IsOrder, arranged-fair, rehashed-fair}
use Rattle.sl_model.proofs.FairRearrangements.{first_places-picked, other_places-picked, ArePicked, retained-fair, exchanged-fair, received-fair, given-fair}
use Rattle.sl_model.proofs.FairRearrangements.{merged-fair, gives-fair}
use Rattle.sl_model.proofs.FineEffects.{IsThere, IsFine, keys_in}
use Rattle.sl_model.proofs.FineRows.{buries, class_buries, LineIsFine, no_fails, not_too_many}
use Rattle.sl_model.proofs.Places.{times}
use Rattle.sl_model.proofs.Placing.{keys-length, how_many-low}
use Rattle.sl_model.proofs.Tells.{AllOf, all_parts}
use Rattle.sl_model.proofs.AlgorithmsTell.{no_failure, none_left, none_right, place_there}
use Rattle.sl_model.proofs.OperandForms.{cont_there, first_of_form, second_of_form}

-- no container has too many elements
pub any_small : (m : Memory) (j : ℕ) → IsSound m → size (cont_at m j) ≤ ELEMENTS
any_small m j sound = by_cont (slice_get m.conts j) refl
  where
    missing : Cont
    missing = record { form = f.Vector; cells = []; end = m.fresh; room = 0 }

    by_cont : (o : Option Cont) → slice_get m.conts j ≡ o → size (cont_at m j) ≤ ELEMENTS
    by_cont None e = let q : size (cont_at m j) ≡ 0 = ap (λ (c : Cont). size c) (not_there m.conts j missing e) in omega arith
      where
        not_there : {A : Type 0} (xs : List A) (j : ℕ) (d : A) → slice_get xs j ≡ None → slice_index_or xs j d ≡ d
        not_there [] j d h = refl
        not_there (x ∷ xs) zero d h = absurd (cc)
        not_there (x ∷ xs) (suc j) d h = not_there xs j d h
    by_cont (Some c) e =
        let q : size (cont_at m j) ≡ size c = ap (λ (c : Cont). size c) (get_there m.conts j c missing e) in
        let r : size c ≤ ELEMENTS = sound.small j c e in
        omega arith
      where
        get_there : {A : Type 0} (xs : List A) (j : ℕ) (x d : A) → slice_get xs j ≡ Some x → slice_index_or xs j d ≡ x
        get_there [] j x d h = absurd (cc)
        get_there (y ∷ xs) zero x d h = cc
        get_there (y ∷ xs) (suc j) x d h = get_there xs j x d h

-- ## Edits of the object

-- an edit that fits is fine
pub edit-fine : (class : Class) (s : Situation) (n : ℕ) (e : Edit) → IsThere s.memory s.object → Fits e (own_size s) → BuriesGone class (own s) e
    → own_size s + length e.come ≤ ELEMENTS + e.gone → IsFine class s (edits n e)
edit-fine class s n e there fits gone few = (there, edit-fair class (own s) e fits gone few)

-- nothing goes where nothing is taken out
pub none_goes : (class : Class) (c : Cont) (from : ℕ) (come : List (ℤ × ℤ)) (room : ℕ)
    → BuriesGone class c (record { from = from; gone = 0; come = come; room = room })
none_goes class c from come room k low high = absurd (omega arith)

-- elements that come into the object
pub puts-fine : (class : Class) (s : Situation) (k : ℕ) (xs : List (ℤ × ℤ)) → IsThere s.memory s.object → k ≤ own_size s
    → own_size s + length xs ≤ ELEMENTS → IsFine class s (puts s k xs)
puts-fine class s k xs there low few =
    edit-fine class s (picks_with (own s).form (own s) (length xs)) (insertion (own s) k xs s.picks) there (no_more k (own_size s) low)
    (none_goes class (own s) k xs (room_with (own s).form (own s) (length xs) s.picks)) (omega arith)
  where
    no_more : (k n : ℕ) → k ≤ n → k + 0 ≤ n
    no_more k n h = omega arith

-- elements that go from the object
pub drops-fine : (class : Class) (s : Situation) (k gone : ℕ) → IsSound s.memory → buries class ≡ true → IsThere s.memory s.object
    → k + gone ≤ own_size s → IsFine class s (drops s k gone)
drops-fine class s k gone sound b there low =
    edit-fine class s 0 (record { from = k; gone = gone; come = []; room = (own s).room }) there low
    (class_buries class b (own s) (record { from = k; gone = gone; come = []; room = (own s).room }))
    (let m : own_size s ≤ ELEMENTS = any_small s.memory s.object sound in omega arith)

-- the object as it is
pub untouched-fine : (class : Class) (s : Situation) (n room : ℕ) → IsSound s.memory → IsThere s.memory s.object → IsFine class s (edits n (untouched room))
untouched-fine class s n room sound there =
    edit-fine class s n (untouched room) there (omega arith) (none_goes class (own s) 0 [] room)
    (let m : own_size s ≤ ELEMENTS = any_small s.memory s.object sound in omega arith)

-- copied elements are as many
copy_items-length : (form : Form) (xs : List (ℤ × ℤ)) (picks : List ℕ) → length (copy_items form xs picks) ≡ length xs
copy_items-length f.Vector xs picks = refl
copy_items-length f.Deque xs picks = refl
copy_items-length f.List xs picks = refl
copy_items-length f.Set xs picks = refl
copy_items-length f.Map xs picks = refl
copy_items-length f.HashSet xs picks = length-scattered (after_picks 1 picks) xs
copy_items-length f.HashMap xs picks = length-scattered (after_picks 1 picks) xs
copy_items-length f.MultiSet xs picks = refl
copy_items-length f.MultiMap xs picks = refl

-- a replacement of all elements
pub refilled-fine : (class : Class) (s : Situation) (xs : List (ℤ × ℤ)) → buries class ≡ true → IsThere s.memory s.object → length xs ≤ ELEMENTS
    → IsFine class s (refilled (own s).form (size (own s)) xs s.picks)
refilled-fine class s xs b there few =
    edit-fine class s (copy_picks (own s).form (length xs)) (record {
      from = 0;
      gone = size (own s);
      come = copy_items (own s).form xs s.picks;
      room = copy_room (own s).form (length xs) s.picks;
    }) there (omega arith)
    (class_buries class b (own s) (record {
      from = 0;
      gone = size (own s);
      come = copy_items (own s).form xs s.picks;
      room = copy_room (own s).form (length xs) s.picks;
    }))
    (let l : length (copy_items (own s).form xs s.picks) ≡ length xs = copy_items-length (own s).form xs s.picks in omega arith)

-- the elements of a container are as many as it has
items-length : (c : Cont) → length (items c) ≡ size c
items-length c = length-map c.cells (λ (x : Cell). (x.key, x.value))

-- ## New containers

-- a new container of elements
pub filled-fine : (class : Class) (form : Form) (s : Situation) (xs : List (ℤ × ℤ)) → s.object ≡ length s.memory.conts → length xs ≤ ELEMENTS
    → IsFine class s (filled form xs s.picks)
filled-fine class f.Vector s xs at few = few
filled-fine class f.Deque s xs at few = few
filled-fine class f.List s xs at few = few
filled-fine class f.Set s xs at few = (at, few)
filled-fine class f.Map s xs at few = (at, few)
filled-fine class f.HashSet s xs at few = (at, few)
filled-fine class f.HashMap s xs at few = (at, few)
filled-fine class f.MultiSet s xs at few = (at, few)
filled-fine class f.MultiMap s xs at few = (at, few)

-- a copy
pub copied-fine : (class : Class) (form : Form) (s : Situation) (xs : List (ℤ × ℤ)) → length xs ≤ ELEMENTS → IsFine class s (copied form xs s.picks)
copied-fine class form s xs few = let l : length (copy_items form xs s.picks) ≡ length xs = copy_items-length form xs s.picks in omega arith

-- what is listed and what is repeated
replicate-length : {A : Type 0} (n : ℕ) (x : A) → length (replicate n x) ≡ n
replicate-length zero x = refl
replicate-length (suc n) x = ap suc (replicate-length n x)

-- ## Places that needs tell

-- an iterator that has to stand in a container stands there
in_container : (s : Situation) (a b j : ℕ) → place_fails j (place_of s a) b ≡ [] → index s a ≤ size (cont_at s.memory j)
in_container s a b j h = by_place (place_of s a) refl h
  where
    by_place : (o : Option (ℕ × ℕ)) → place_of s a ≡ o → place_fails j o b ≡ [] → index_in o ≤ size (cont_at s.memory j)
    by_place None e g = absurd (cc)
    by_place (Some p) e g = by_test (p.0 == j) refl g
      where
        by_test : (t : Bool) → (p.0 == j) ≡ t → fails_if (not t) WRONG_CONTAINER b ≡ [] → p.1 ≤ size (cont_at s.memory j)
        by_test true t g = subst (λ (i : ℕ). p.1 ≤ size (cont_at s.memory i)) (eqb-true p.0 j t) (place_there s.memory (argument s a) p e).within
        by_test false t g = absurd (cc)

-- an iterator that has to stand on an element stands there
on_element : (s : Situation) (a b j : ℕ) → element_fails j (size (cont_at s.memory j)) (place_of s a) b ≡ [] → index s a < size (cont_at s.memory j)
on_element s a b j h = by_place (place_of s a) refl h
  where
    by_place : (o : Option (ℕ × ℕ)) → place_of s a ≡ o → element_fails j (size (cont_at s.memory j)) o b ≡ []
        → index_in o < size (cont_at s.memory j)
    by_place None e g = absurd (cc)
    by_place (Some p) e g = by_test (p.0 == j) refl g
      where
        by_end : (t : Bool) → (p.1 == size (cont_at s.memory j)) ≡ t → fails_if t END_ITERATOR b ≡ [] → p.1 ≤ size (cont_at s.memory j)
            → p.1 < size (cont_at s.memory j)
        by_end true t g low = absurd (cc)
        by_end false t g low = let q = eqb-false p.1 (size (cont_at s.memory j)) t in omega arith

        by_test : (t : Bool) → (p.0 == j) ≡ t
            → (if t then fails_if (p.1 == size (cont_at s.memory j)) END_ITERATOR b else (WRONG_CONTAINER, b) ∷ []) ≡ []
            → p.1 < size (cont_at s.memory j)
        by_test true t g = by_end (p.1 == size (cont_at s.memory j)) refl g
            (subst (λ (i : ℕ). p.1 ≤ size (cont_at s.memory i)) (eqb-true p.0 j t) (place_there s.memory (argument s a) p e).within)
        by_test false t g = absurd (cc)

-- what comes between two places of a container fits in it
between : (s : Situation) (a b j : ℕ) → range_fails j (place_of s a) (place_of s (a + 1)) b ≡ []
    → index s a + (index s (a + 1) - index s a) ≤ size (cont_at s.memory j)
between s a b j h =
    let p : place_fails j (place_of s a) b ≡ [] = none_left (place_fails j (place_of s a) b) _ h in
    let rest = none_right (place_fails j (place_of s a) b) _ h in
    let q : place_fails j (place_of s (a + 1)) (b + 1) ≡ [] = none_left (place_fails j (place_of s (a + 1)) (b + 1)) _ rest in
    let x = in_container s a b j p in
    let y = in_container s (a + 1) (b + 1) j q in
    omega arith

-- a container that has an element
pub filled_one : (s : Situation) → fails_if (own_size s == 0) EMPTY_CONTAINER 0 ≡ [] → 0 < own_size s
filled_one s h = let e = no_fails (own_size s == 0) EMPTY_CONTAINER 0 h in let n = eqb-false (own_size s) 0 e in omega arith

-- the failures of a first and a second need
pub first_need : (xs ys : List (ℕ × ℕ)) → first_failure (xs ++ ys) ≡ None → xs ≡ []
first_need xs ys h = none_left xs ys (no_failure (xs ++ ys) h)

second_need : (xs ys zs : List (ℕ × ℕ)) → first_failure (xs ++ (ys ++ zs)) ≡ None → ys ≡ []
second_need xs ys zs h = none_left ys zs (none_right xs (ys ++ zs) (no_failure (xs ++ (ys ++ zs)) h))

-- ## Keys

-- a key stands together with its equals behind its first place, as far as they are counted
equals_fit : (x : ℤ) (i k : ℕ) (xs : List ℤ) → first_of_key x i xs ≡ Some k → k + how_many (same x) xs ≤ i + length xs
equals_fit x i k [] h = absurd (cc)
equals_fit x i k (y ∷ ys) h = by_test (same x y) h (equals_fit x (i + 1) k ys)
  where
    most : how_many (same x) ys ≤ length ys
    most = how_many-low (same x) ys

    by_test : (b : Bool) → (if b then Some i else first_of_key x (i + 1) ys) ≡ Some k
        → (first_of_key x (i + 1) ys ≡ Some k → k + how_many (same x) ys ≤ (i + 1) + length ys)
        → k + length (if b then y ∷ filter (same x) ys else filter (same x) ys) ≤ i + suc (length ys)
    by_test true e rest = let q : i ≡ k = cc in let m = most in omega arith
    by_test false e rest = let r = rest e in omega arith

-- the elements with a key lie in the object
key_fits : (s : Situation) (z : ℤ) → place_or 0 (key_index s z) + key_count s z ≤ own_size s
key_fits s z = by_place (key_index s z) refl
  where
    by_place : (o : Option ℕ) → key_index s z ≡ o → place_or 0 o + key_count s z ≤ own_size s
    by_place None e = let m = how_many-low (same z) (keys (own s)) in let l = keys-length (own s) in omega arith
    by_place (Some k) e = let r = equals_fit z 0 k (keys (own s)) e in let l = keys-length (own s) in omega arith

-- the keys of ints that are put in
keys_of_items : (xs : List ℤ) → keys_in (as_items xs) ≡ xs
keys_of_items [] = refl
keys_of_items (x ∷ xs) = ap (λ l. x ∷ l) (keys_of_items xs)

-- ints one by one
insert_keys-fine : (class : Class) (s : Situation) (xs : List ℤ) → IsThere s.memory s.object → own_size s + new_keys (own s) xs ≤ ELEMENTS
    → IsFine class s (inserts (as_items xs))
insert_keys-fine class s xs there few =
    (there, subst (λ l. size (own s) + new_keys (own s) l ≤ ELEMENTS) (sym (keys_of_items xs)) few)

-- ## Operands that are containers

-- the first operand is a container
first_container : (m : Memory) (form : Form) (sorts : List Sort) (vs : List Value) → are_of m (a_container form ∷ sorts) vs ≡ true
    → IsThere m (container_of_value m (slice_index_or vs 0 no_result))
first_container m form sorts vs h = cont_there m form (container_of_value m (slice_index_or vs 0 no_result)) (first_of_form m form sorts vs h)

-- the second operand behind an iterator is one
second_container : (m : Memory) (form : Form) (sorts : List Sort) (vs : List Value) → are_of m (an_iterator ∷ a_container form ∷ sorts) vs ≡ true
    → IsThere m (container_of_value m (slice_index_or vs 1 no_result))
second_container m form sorts vs h = cont_there m form (container_of_value m (slice_index_or vs 1 no_result)) (second_of_form m form sorts vs h)

-- two numbers that aren't one
not_same : (a b : ℕ) → (a == b) ≡ false → b ≢ a
not_same a b h e = eqb-false a b h (sym e)

-- ## Each call that does more than edit

-- reserve
reserved-fine : (class : Class) (s : Situation) (n : ℕ) → IsSound s.memory → IsThere s.memory s.object
    → IsFine class s (reserved s.object (own s) n s.picks)
reserved-fine class s n sound there = by_hash (is_hash (own s).form) (nat_lt (own s).room n)
  where
    by_hash : (h b : Bool) → IsFine class s (if h
        then changes (size (own s) + 1) s.object (rehashed (own s) n s.picks)
        else if b then edits 1 (untouched (n + pick s.picks)) else edits 0 (untouched (own s).room))
    by_hash true b = (there, rehashed-fair (own s) n s.picks (any_small s.memory s.object sound))
    by_hash false true = untouched-fine class s 1 (n + pick s.picks) sound there
    by_hash false false = untouched-fine class s 0 (own s).room sound there

-- swap
swap-fine : (class : Class) (s : Situation) → IsSound s.memory → IsThere s.memory s.object → IsThere s.memory (container_of s 1)
    → IsFine class s (swap.effect s)
swap-fine class s sound there other = by_same (container_of s 1 == s.object) refl
  where
    by_same : (b : Bool) → (container_of s 1 == s.object) ≡ b → IsFine class s (if b
        then edits 0 (untouched (own s).room)
        else trades (container_of s 1) (exchanged (own s) (their s 1)) (exchanged (their s 1) (own s)))
    by_same true e = untouched-fine class s 0 (own s).room sound there
    by_same false e = record {
      own_there = there;
      other_there = other;
      differ = not_same (container_of s 1) s.object e;
      first = exchanged-fair (own s) (their s 1) (any_small s.memory (container_of s 1) sound);
      second = exchanged-fair (their s 1) (own s) (any_small s.memory s.object sound);
    }

-- merge
merge-fine : (class : Class) (s : Situation) → IsSound s.memory → IsThere s.memory s.object → IsThere s.memory (container_of s 1)
    → too_many_theirs s 1 (their_size s 1) ≡ never → IsFine class s (merge.effect s)
merge-fine class s sound there other go = by_same (container_of s 1 == s.object) refl
  where
    few : (b : Bool) → (container_of s 1 == s.object) ≡ b → own_size s + (if b then 0 else their_size s 1) ≤ ELEMENTS
    few b e = subst (λ (t : Bool). own_size s + (if t then 0 else their_size s 1) ≤ ELEMENTS) e
        (not_too_many (own_size s + (if container_of s 1 == s.object then 0 else their_size s 1)) go)

    by_same : (b : Bool) → (container_of s 1 == s.object) ≡ b → IsFine class s (if b
        then keeps
        else trades (container_of s 1) (merged (own s) (their s 1)) (given 0 (their_size s 1) (their s 1)))
    by_same true e = tt
    by_same false e = record {
      own_there = there;
      other_there = other;
      differ = not_same (container_of s 1) s.object e;
      first = merged-fair (own s) (their s 1) (few false e);
      second = gives-fair (own s) (their s 1);
    }

-- splice
splices-fine : (class : Class) (s : Situation) (from count : ℕ) → IsSound s.memory → IsThere s.memory s.object → IsThere s.memory (container_of s 2)
    → index s 1 ≤ own_size s → from + count ≤ their_size s 2 → too_many_theirs s 2 count ≡ never → IsFine class s (splices s from count)
splices-fine class s from count sound there other low fits go = by_same (container_of s 2 == s.object) refl
  where
    few : (b : Bool) → (container_of s 2 == s.object) ≡ b → own_size s + (if b then 0 else count) ≤ ELEMENTS
    few b e = subst (λ (t : Bool). own_size s + (if t then 0 else count) ≤ ELEMENTS) e
        (not_too_many (own_size s + (if container_of s 2 == s.object then 0 else count)) go)

    own_fits : (container_of s 2 == s.object) ≡ true → from + count ≤ own_size s
    own_fits e = subst (λ (j : ℕ). from + count ≤ size (cont_at s.memory j)) (eqb-true (container_of s 2) s.object e) fits

    by_same : (b : Bool) → (container_of s 2 == s.object) ≡ b → IsFine class s (if b
        then changes 0 s.object (arranged (moved_order (own_size s) (index s 1) from count) (own s))
        else trades (container_of s 2) (received (index s 1) from count (own s)) (given from count (their s 2)))
    by_same true e = (
      there,
      arranged-fair (own s) (moved_order (own_size s) (index s 1) from count)
          (moved_length (own_size s) (index s 1) from count (own_fits e), λ k. times-moved k (own_size s) (index s 1) from count (own_fits e))
          (any_small s.memory s.object sound),
    )
    by_same false e = record {
      own_there = there;
      other_there = other;
      differ = not_same (container_of s 2) s.object e;
      first = received-fair (own s) (their s 2) (index s 1) from count low fits (few false e);
      second = given-fair (own s) (their s 2) (index s 1) from count low fits (any_small s.memory (container_of s 2) sound);
    }

-- resize
resized-fine : (class : Class) (s : Situation) (n : ℕ) (x : ℤ) → IsSound s.memory → buries class ≡ true → IsThere s.memory s.object
    → n ≤ ELEMENTS → IsFine class s (resized (own s) n x s.picks)
resized-fine class s n x sound b there few =
    edit-fine class s (picks_with (own s).form (own s) (n - size (own s))) e there fits (class_buries class b (own s) e)
    (let l : length (replicate (n - size (own s)) (item x)) ≡ n - size (own s) = replicate-length (n - size (own s)) (item x) in
    let m : own_size s ≤ ELEMENTS = any_small s.memory s.object sound in omega arith)
  where
    e : Edit
    e = record {
      from = min n (size (own s));
      gone = size (own s) - n;
      come = replicate (n - size (own s)) (item x);
      room = room_with (own s).form (own s) (n - size (own s)) s.picks;
    }

    fits : min n (size (own s)) + (size (own s) - n) ≤ size (own s)
    fits = omega arith

-- the places of a list in reverse
times_reverse : (k : ℕ) (xs : List ℕ) → times k (reverse xs) ≡ times k xs
times_reverse k [] = refl
times_reverse k (x ∷ xs) =
    let a : times k (reverse xs ++ x ∷ []) ≡ times k (reverse xs) + times k (x ∷ []) = times-append k (reverse xs) (x ∷ []) in
    let e : reverse (x ∷ xs) ≡ reverse xs ++ x ∷ [] = reverse-append (x ∷ []) xs in
    let r = times_reverse k xs in
    ap (times k) e ∙ (let q : times k (reverse xs ++ x ∷ []) ≡ times k (x ∷ xs) = omega arith in q)

-- all places in reverse
reversed_all : (n : ℕ) → IsOrder n (reverse (numbers 0 n))
reversed_all n = (length-reverse (numbers 0 n) ∙ length-numbers 0 n, λ k. times_reverse k (numbers 0 n))

-- all places in order of keys
sorted_all : (c : Cont) → IsOrder (size c) (sorted_places (keys c))
sorted_all c = (
  length-sorted_places (keys c) ∙ keys-length c,
  λ k. times-sorted_places k (keys c) ∙ ap (λ n. times k (numbers 0 n)) (keys-length c),
)

-- the places that are picked of a container
picked_of : (c : Cont) (order : List ℕ) → ArePicked 0 (length (keys c)) order → ArePicked 0 (size c) order
picked_of c order p = subst (λ n. ArePicked 0 n order) (keys-length c) p

-- the elements of the other container
copied_few : (s : Situation) (a : ℕ) → IsSound s.memory → length (items (their s a)) ≤ ELEMENTS
copied_few s a sound = let l = items-length (their s a) in let m = any_small s.memory (container_of s a) sound in omega arith

-- ints as elements are as many
as_items-length : (xs : List ℤ) → length (as_items xs) ≡ length xs
as_items-length xs = length-map xs item

listed-length : (vs : List Value) → length (listed vs) ≡ length vs
listed-length [] = refl
listed-length (v ∷ vs) = ap suc (listed-length vs)

-- n equal elements
repeated : (n : ℕ) (x : ℤ × ℤ) → too_many n ≡ never → length (replicate n x) ≤ ELEMENTS
repeated n x go = let l = replicate-length n x in let m = not_too_many n go in omega arith

-- the failure of a position that stands in the range that goes over
abbrev inner_position : Situation → List (ℕ × ℕ)
inner_position s = fails_if ((is_range s 3 && container_of s 2 == s.object) && is_position_inside s) OVERLAP 1

-- each call on a container but a multiset or multimap
pub containers-fine : AllOf LineIsFine container_lines
containers-fine = all_parts LineIsFine 7 container_lines makings (all_parts LineIsFine 10 (drop 7 container_lines) accesses
    (all_parts LineIsFine 13 (drop 17 container_lines) changings (all_parts LineIsFine 10 (drop 30 container_lines) others lists)))
  where
    makings : AllOf LineIsFine (take 7 container_lines)
    makings = (
      (λ form class b s sound h none go. filled-fine class form s [] h.object (omega arith)),
      (
        (λ form class b s sound h none go. filled-fine class form s (listed s.values) h.object
            (let l = listed-length s.values in let m = not_too_many (length s.values) go in omega arith)),
        (
          (λ form class b s sound h none go. copied-fine class form s (items (their s 1)) (copied_few s 1 sound)),
          (
            (λ form class b s sound h none go. filled-fine class form s (replicate (count_of s 1) (item (pos 0))) h.object (repeated (count_of s 1) _ go)),
            (
              (λ form class b s sound h none go. filled-fine class form s (replicate (count_of s 1) (item (int_of s 2))) h.object
                  (repeated (count_of s 1) _ go)),
              (
                (λ form class b s sound h none go. filled-fine class form s (as_items (range_keys s 1)) h.object
                    (let l = as_items-length (range_keys s 1) in let m = not_too_many (length (range_keys s 1)) go in omega arith)),
                (
                  (λ form class b s sound h none go. refilled-fine class s (items (their s 1)) (b refl) (own_there form s h.object) (copied_few s 1 sound)),
                  tt,
                ),
              ),
            ),
          ),
        ),
      ),
    )

    accesses : AllOf LineIsFine (take 10 (drop 7 container_lines))
    accesses = (
      (λ form class b s sound h none go. tt),
      (
        (λ form class b s sound h none go. tt),
        (
          (λ form class b s sound h none go. tt),
          (
            (λ form class b s sound h none go. tt),
            (
              (λ form class b s sound h none go. tt),
              (
                (λ form class b s sound h none go. tt),
                (
                  (λ form class b s sound h none go. tt),
                  (
                    (λ form class b s sound h none go. tt),
                    (
                      (λ form class b s sound h none go. tt),
                      (
                        (λ form class b s sound h none go. (own_there form s h.object, not_too_many _ go)),
                        tt,
                      ),
                    ),
                  ),
                ),
              ),
            ),
          ),
        ),
      ),
    )

    changings : AllOf LineIsFine (take 13 (drop 17 container_lines))
    changings = (
      (λ form class b s sound h none go. puts-fine class s (own_size s) _ (own_there form s h.object) (omega arith) (not_too_many _ go)),
      (
        (λ form class b s sound h none go. puts-fine class s 0 _ (own_there form s h.object) (omega arith) (not_too_many _ go)),
        (
          (λ form class b s sound h none go. drops-fine class s (own_size s - 1) 1 sound (b refl) (own_there form s h.object)
              (let p = filled_one s (first_need _ _ none) in omega arith)),
          (
            (λ form class b s sound h none go. drops-fine class s 0 1 sound (b refl) (own_there form s h.object)
                (let p = filled_one s (first_need _ _ none) in omega arith)),
            (
              (λ form class b s sound h none go. puts-fine class s (index s 1) _ (own_there form s h.object)
                  (in_container s 1 1 s.object (first_need _ _ none)) (not_too_many _ go)),
              (
                (λ form class b s sound h none go. puts-fine class s (index s 1) _ (own_there form s h.object)
                    (in_container s 1 1 s.object (first_need _ _ none)) (let l = replicate-length (count_of s 2) (item (int_of s 3)) in let m = not_too_many (own_size s + count_of s 2) go in omega arith)),
                (
                  (λ form class b s sound h none go. puts-fine class s (index s 1) _ (own_there form s h.object)
                      (in_container s 1 1 s.object (first_need _ _ none)) (let l = as_items-length (range_keys s 2) in let m = not_too_many (own_size s + length (range_keys s 2)) go in omega arith)),
                  (
                    (λ form class b s sound h none go. (own_there form s h.object, not_too_many _ go)),
                    (
                      (λ form class b s sound h none go. insert_keys-fine class s (range_keys s 1) (own_there form s h.object) (not_too_many _ go)),
                      (
                        (λ form class b s sound h none go. (own_there form s h.object, not_too_many _ go)),
                        (
                          (λ form class b s sound h none go. drops-fine class s (index s 1) 1 sound (b refl) (own_there form s h.object)
                              (let p = on_element s 1 1 s.object (first_need _ _ none) in omega arith)),
                          (
                            (λ form class b s sound h none go. drops-fine class s (index s 1) (range_size s 1) sound (b refl) (own_there form s h.object)
                                (between s 1 1 s.object (first_need _ _ none))),
                            (
                              (λ form class b s sound h none go. drops-fine class s _ _ sound (b refl) (own_there form s h.object) (key_fits s (int_of s 1))),
                              tt,
                            ),
                          ),
                        ),
                      ),
                    ),
                  ),
                ),
              ),
            ),
          ),
        ),
      ),
    )

    others : AllOf LineIsFine (take 10 (drop 30 container_lines))
    others = (
      (λ form class b s sound h none go. drops-fine class s 0 (own_size s) sound (b refl) (own_there form s h.object) (omega arith)),
      (
        (λ form class b s sound h none go. resized-fine class s (count_of s 1) (pos 0) sound (b refl) (own_there form s h.object) (not_too_many _ go)),
        (
          (λ form class b s sound h none go. resized-fine class s (count_of s 1) (int_of s 2) sound (b refl) (own_there form s h.object)
              (not_too_many _ go)),
          (
            (λ form class b s sound h none go. refilled-fine class s (replicate (count_of s 1) (item (int_of s 2))) (b refl) (own_there form s h.object)
                (repeated (count_of s 1) _ go)),
            (
              (λ form class b s sound h none go. reserved-fine class s (count_of s 1) sound (own_there form s h.object)),
              (
                (λ form class b s sound h none go. swap-fine class s sound (own_there form s h.object) (first_container s.memory form [] s.values h.operands)),
                (
                  (λ form class b s sound h none go. tt),
                  (
                    (λ form class b s sound h none go. tt),
                    (
                      (λ form class b s sound h none go. tt),
                      (
                        (λ form class b s sound h none go. tt),
                        tt,
                      ),
                    ),
                  ),
                ),
              ),
            ),
          ),
        ),
      ),
    )

    lists : AllOf LineIsFine (drop 40 container_lines)
    lists = (
      (λ form class b s sound h none go. (
        own_there form s h.object,
        arranged-fair (own s) (sorted_places (keys (own s))) (sorted_all (own s)) (any_small s.memory s.object sound),
      )),
      (
        (λ form class b s sound h none go. (
          own_there form s h.object,
          arranged-fair (own s) (reverse (numbers 0 (own_size s))) (reversed_all (own_size s)) (any_small s.memory s.object sound),
        )),
        (
          (λ form class b s sound h none go. (
            own_there form s h.object,
            retained-fair (own s) (first_places (keys (own s))) (picked_of (own s) _ (first_places-picked (keys (own s))))
                (any_small s.memory s.object sound),
          )),
          (
            (λ form class b s sound h none go. (
              own_there form s h.object,
              retained-fair (own s) (other_places (int_of s 1) 0 (keys (own s))) (picked_of (own s) _ (other_places-picked (int_of s 1) 0 (keys (own s))))
                  (any_small s.memory s.object sound),
            )),
            (
              (λ form class b s sound h none go. merge-fine class s sound (own_there form s h.object) (first_container s.memory form [] s.values h.operands) go),
              (
                (λ form class b s sound h none go. splices-fine class s 0 (their_size s 2) sound (own_there form s h.object)
                    (second_container s.memory form [] s.values h.operands) (in_container s 1 1 s.object (first_need _ _ none)) (omega arith) go),
                (
                  (λ form class b s sound h none go. splices-fine class s (index s 3) 1 sound (own_there form s h.object)
                      (second_container s.memory form (an_iterator ∷ []) s.values h.operands) (in_container s 1 1 s.object (first_need _ _ none))
                      (let p : index s 3 < their_size s 2 = on_element s 3 3 (container_of s 2) (second_need (place_fails s.object (place_of s 1) 1)
                      (element_fails (container_of s 2) (their_size s 2) (place_of s 3) 3) [] none) in omega arith) go),
                  (
                    (λ form class b s sound h none go. splices-fine class s (index s 3) (range_size s 3) sound (own_there form s h.object)
                        (second_container s.memory form (an_iterator ∷ an_iterator ∷ []) s.values h.operands) (in_container s 1 1 s.object (first_need _ _ none))
                        (between s 3 3 (container_of s 2) (none_left (range_fails (container_of s 2) (place_of s 3) (place_of s 4) 3) (inner_position s)
                        (second_need (place_fails s.object (place_of s 1) 1)
                        (range_fails (container_of s 2) (place_of s 3) (place_of s 4) 3 ++ inner_position s) [] none))) go),
                    tt,
                  ),
                ),
              ),
            ),
          ),
        ),
      ),
    )

-- each call on a multiset or multimap
pub multis-fine : AllOf LineIsFine multi_lines
multis-fine = all_parts LineIsFine 9 multi_lines first (all_parts LineIsFine 8 (drop 9 multi_lines) changings searches)
  where
    first : AllOf LineIsFine (take 9 multi_lines)
    first = (
      (λ form class b s sound h none go. filled-fine class form s [] h.object (omega arith)),
      (
        (λ form class b s sound h none go. copied-fine class form s (items (their s 1)) (copied_few s 1 sound)),
        (
          (λ form class b s sound h none go. filled-fine class form s (listed s.values) h.object
              (let l = listed-length s.values in let m = not_too_many (length s.values) go in omega arith)),
          (
            (λ form class b s sound h none go. filled-fine class form s (as_items (range_keys s 1)) h.object
                (let l = as_items-length (range_keys s 1) in let m = not_too_many (length (range_keys s 1)) go in omega arith)),
            (
              (λ form class b s sound h none go. refilled-fine class s (items (their s 1)) (b refl) (own_there form s h.object) (copied_few s 1 sound)),
              (
                (λ form class b s sound h none go. tt),
                (
                  (λ form class b s sound h none go. tt),
                  (
                    (λ form class b s sound h none go. tt),
                    (
                      (λ form class b s sound h none go. tt),
                      tt,
                    ),
                  ),
                ),
              ),
            ),
          ),
        ),
      ),
    )

    changings : AllOf LineIsFine (take 8 (drop 9 multi_lines))
    changings = (
      (λ form class b s sound h none go. (own_there form s h.object, not_too_many _ go)),
      (
        (λ form class b s sound h none go. insert_keys-fine class s (range_keys s 1) (own_there form s h.object) (not_too_many _ go)),
        (
          (λ form class b s sound h none go. (own_there form s h.object, not_too_many _ go)),
          (
            (λ form class b s sound h none go. drops-fine class s (index s 1) 1 sound (b refl) (own_there form s h.object)
                (let p = on_element s 1 1 s.object (first_need _ _ none) in omega arith)),
            (
              (λ form class b s sound h none go. drops-fine class s (index s 1) (range_size s 1) sound (b refl) (own_there form s h.object)
                  (between s 1 1 s.object (first_need _ _ none))),
              (
                (λ form class b s sound h none go. drops-fine class s _ _ sound (b refl) (own_there form s h.object) (key_fits s (int_of s 1))),
                (
                  (λ form class b s sound h none go. drops-fine class s 0 (own_size s) sound (b refl) (own_there form s h.object) (omega arith)),
                  (
                    (λ form class b s sound h none go. swap-fine class s sound (own_there form s h.object) (first_container s.memory form [] s.values h.operands)),
                    tt,
                  ),
                ),
              ),
            ),
          ),
        ),
      ),
    )

    searches : AllOf LineIsFine (drop 17 multi_lines)
    searches = (
      (λ form class b s sound h none go. tt),
      (
        (λ form class b s sound h none go. tt),
        (
          (λ form class b s sound h none go. tt),
          (
            (λ form class b s sound h none go. tt),
            (
              (λ form class b s sound h none go. tt),
              tt,
            ),
          ),
        ),
      ),
    )
