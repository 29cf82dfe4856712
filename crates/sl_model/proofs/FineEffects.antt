-- What an effect of a call has to be, so that it leaves a sound memory sound and no mark vanishes.
use Rattle.std.proofs.Common.{◌≡◌, ◌≢◌, ℕ, suc, ◌+◌, ◌-◌, ◌<◌, ◌≤◌, Bool, true, false, List, [], ◌∷◌, Option, Some, None, length, map, refl}
use Rattle.std.proofs.Common.{ap, sym, ◌∙◌, arith, ◌⊎◌, inl, inr, ℤ, if◌then◌else◌}
use Rattle.std.specs.List.{slice_get}
use Rattle.std.proofs.lemmas.List.{length-map}
use Rattle.sl_base.specs.declared.form.Form.{Form}
use Rattle.sl_base.specs.declared.limits.TheConstants.{ELEMENTS}
use Rattle.sl_specs.specs.declared.class.Class.{Class}
use Rattle.sl_model.specs.Memory.Classes.{Edit}
use Rattle.sl_model.specs.Memory.Containers.{Cont, Grave, Memory, cont_at, size, stamps, refers, keys, made, IsGrave}
use Rattle.sl_model.specs.Memory.Edits.{Change, change_of, changed, buried, after}
use Rattle.sl_model.specs.Memory.Schedule.{after_picks}
use Rattle.sl_model.specs.LibraryCalls.Situation.{Situation, own, item}
use Rattle.sl_model.specs.LibraryCalls.Actions.{Effect, keeps, edits, changes, trades, inserts, appends, makes, makes_by_keys}
use Rattle.sl_model.specs.LibraryCalls.Effects.{Left, insertion_class, insertion, append, append_all, known_key, key_change, key_picks, insert_key, insert_all, does}
use Rattle.sl_base.specs.declared.scalar.Scalar.TheVariants as t
use Rattle.sl_model.specs.Numbers.{converted}
use Rattle.sl_model.specs.Memory.Orders.{has}
use Rattle.sl_model.specs.Memory.Forms.{holds_equal_keys}
use Rattle.sl_model.specs.LibraryCalls.KeyActions.{count_new, new_keys}
use Rattle.sl_model.specs.Runs.Good.{Stands, IsSound}
use Rattle.sl_model.proofs.After.{Leaves, get-after-own, cont_at-after-own, cont_of_there, size-changed, change-leaves}
use Rattle.sl_model.proofs.AfterTwo.{trade-leaves}
use Rattle.sl_model.proofs.Making.{made-leaves, made-there, fresh-size}
use Rattle.sl_model.proofs.OneChange.{still_grave}
use Rattle.sl_model.proofs.Places.{CountsFair, counts-fair, CountsFairSide, counts-fair_side}
use Rattle.sl_model.proofs.FairChanges.{edit-fair, edit-length}
use Rattle.sl_model.proofs.FairRearrangements.{key_change-fair, key_change-length}
use Rattle.sl_model.proofs.KeyCounts.{new_keys-next, new_keys-known}

-- a container is there
abbrev pub IsThere : Memory → ℕ → Type 0
IsThere m j = slice_get m.conts j ≡ Some (cont_at m j)

-- the keys of what is put in
abbrev pub keys_in : List (ℤ × ℤ) → List ℤ
keys_in xs = map (λ (x : ℤ × ℤ). x.0) xs

-- two changes that exchange elements of the object and of another container
pub record IsFineTrade (s : Situation) (j : ℕ) (ch dh : Change) : Type 0 where
  pub own_there : IsThere s.memory s.object
  pub other_there : IsThere s.memory j
  pub differ : s.object ≢ j
  pub first : CountsFairSide (own s) (cont_at s.memory j) ch dh
  pub second : CountsFairSide (cont_at s.memory j) (own s) dh ch

-- What an effect by a class has to be: its containers are there, its changes are fair, and not too many elements come.
abbrev pub IsFine : Class → Situation → Effect → Type 0
IsFine class s keeps = Unit {0}
IsFine class s (edits n e) = IsThere s.memory s.object × CountsFair (own s) (change_of class (own s) e)
IsFine class s (changes n j ch) = IsThere s.memory j × CountsFair (cont_at s.memory j) ch
IsFine class s (trades j ch dh) = IsFineTrade s j ch dh
IsFine class s (inserts xs) = IsThere s.memory s.object × (size (own s) + new_keys (own s) (keys_in xs) ≤ ELEMENTS)
IsFine class s (appends j xs) = IsThere s.memory j × (size (cont_at s.memory j) + length xs ≤ ELEMENTS)
IsFine class s (makes n room xs) = length xs ≤ ELEMENTS
IsFine class s (makes_by_keys n room xs) = (s.object ≡ length s.memory.conts) × (length xs ≤ ELEMENTS)

-- a memory leaves itself
pub left-alone : (m : Memory) (site : ℕ) → IsSound m → Leaves m site m
left-alone m site sound = record {
  sound = sound;
  none = record { stamps_stand = λ j k s h. inl (j, k, h); refers_stand = λ j k s h. inl (j, k, h) };
}

-- graves stay when more come in front
pub record KeepsGraves (m t : Memory) : Type 0 where
  pub graves : (s site : ℕ) → IsGrave m.graves s site → IsGrave t.graves s site
  pub lost : (s site : ℕ) → IsGrave m.lost s site → IsGrave t.lost s site

-- a change keeps graves
after-graves : (ch : Change) (m : Memory) (j : ℕ) (c : Cont) (site : ℕ) → KeepsGraves m (after ch m j c site)
after-graves ch m j c site = record {
  graves = λ s t g. still_grave (buried ch.kill site 0 (stamps c)) m.graves s t g;
  lost = λ s t g. still_grave (buried ch.lose site 0 (refers c)) m.lost s t g;
}

-- what is left after two calls in turn, at one site
pub leaves-then : (m t u : Memory) (site : ℕ) → Leaves m site t → Leaves t site u → KeepsGraves t u → Leaves m site u
leaves-then m t u site a b g = record {
  sound = b.sound;
  none = record {
    stamps_stand = λ j k s h. then_stands (map stamps u.conts) (map stamps t.conts) t.graves u.graves s b.none.stamps_stand (g.graves s site)
        (a.none.stamps_stand j k s h);
    refers_stand = λ j k s h. then_stands (map refers u.conts) (map refers t.conts) t.lost u.lost s b.none.refers_stand (g.lost s site)
        (a.none.refers_stand j k s h);
  };
}
  where
    then_stands : (later between : List (List ℕ)) (gs hs : List Grave) (s : ℕ)
        → ((j k s : ℕ) → Stands between j k s → ((i : ℕ) × (h : ℕ) × Stands later i h s) ⊎ IsGrave hs s site)
        → (IsGrave gs s site → IsGrave hs s site) → ((i : ℕ) × (h : ℕ) × Stands between i h s) ⊎ IsGrave gs s site
        → ((i : ℕ) × (h : ℕ) × Stands later i h s) ⊎ IsGrave hs s site
    then_stands later between gs hs s go keep (inl r) = go r.0 r.1 s r.2
    then_stands later between gs hs s go keep (inr d) = inr (keep d)

-- graves that are kept twice are kept
keeps-then : (m t u : Memory) → KeepsGraves m t → KeepsGraves t u → KeepsGraves m u
keeps-then m t u a b = record {
  graves = λ s site g. b.graves s site (a.graves s site g);
  lost = λ s site g. b.lost s site (a.lost s site g);
}

keeps-none : (m : Memory) → KeepsGraves m m
keeps-none m = record { graves = λ s site g. g; lost = λ s site g. g }

-- a container that is there after a change of it
still_there : (ch : Change) (m : Memory) (j : ℕ) (site : ℕ) → IsThere m j
    → (cont_at (after ch m j (cont_at m j) site) j ≡ changed m.fresh ch (cont_at m j)) × IsThere (after ch m j (cont_at m j) site) j
still_there ch m j site there =
    let e : cont_at (after ch m j (cont_at m j) site) j ≡ changed m.fresh ch (cont_at m j) = cont_at-after-own ch m j (cont_at m j) site there in
    (e, get-after-own ch m j (cont_at m j) site there ∙ ap (λ (x : Cont). Some x) (sym e))

-- ## Elements one by one at the end

-- nothing goes where elements come in at the end
append_edit : (c : Cont) (x : ℤ) (picks : List ℕ) → Edit
append_edit c x picks = insertion c (size c) (item x ∷ []) picks

append-fair : (c : Cont) (x : ℤ) (picks : List ℕ) → size c + 1 ≤ ELEMENTS
    → CountsFair c (change_of (insertion_class c.form) c (insertion c (size c) (item x ∷ []) picks))
append-fair c x picks few = edit-fair (insertion_class c.form) c (insertion c (size c) (item x ∷ []) picks) (at_end (size c))
    (λ k low high. absurd (none_goes (size c) k low high)) (let l : length (item x ∷ []) ≡ 1 = refl in omega arith)
  where
    at_end : (n : ℕ) → n + 0 ≤ n
    at_end n = omega arith

    none_goes : (n k : ℕ) → n ≤ k → k < n + 0 → ⊥
    none_goes n k low high = omega arith

append-size : (c : Cont) (x : ℤ) (picks : List ℕ) (fresh : ℕ)
    → size (changed fresh (change_of (insertion_class c.form) c (insertion c (size c) (item x ∷ []) picks)) c) ≡ size c + 1
append-size c x picks fresh =
    size-changed (change_of (insertion_class c.form) c (insertion c (size c) (item x ∷ []) picks)) fresh c
    ∙ (edit-length (insertion_class c.form) c (insertion c (size c) (item x ∷ []) picks) (at_end (size c)) ∙ one_more (size c))
  where
    at_end : (n : ℕ) → n + 0 ≤ n
    at_end n = omega arith

    one_more : (n : ℕ) → (n + length (item x ∷ [])) - 0 ≡ n + 1
    one_more n = let l : length (item x ∷ []) ≡ 1 = refl in omega arith

-- elements that are put at the end one by one
append_all-leaves : (site j : ℕ) (xs : List ℤ) (left : Left) → IsSound left.memory → IsThere left.memory j
    → size (cont_at left.memory j) + length xs ≤ ELEMENTS
    → Leaves left.memory site (append_all site j xs left).memory × KeepsGraves left.memory (append_all site j xs left).memory
append_all-leaves site j [] left sound there few = (left-alone left.memory site sound, keeps-none left.memory)
append_all-leaves site j (x ∷ xs) left sound there few =
    let first = change-leaves ch left.memory j c site sound there (counts-fair c ch (append-fair c x left.picks (omega arith))) in
    let is = still_there ch left.memory j site there in
    let n : size (cont_at (append site j c x left).memory j) ≡ size c + 1 =
    ap (λ (d : Cont). size d) is.0 ∙ append-size c x left.picks left.memory.fresh in
    let rest = append_all-leaves site j xs (append site j c x left) first.sound is.1 (omega arith) in (
      leaves-then left.memory (append site j c x left).memory (append_all site j xs (append site j c x left)).memory site first rest.0 rest.1,
      keeps-then left.memory (append site j c x left).memory (append_all site j xs (append site j c x left)).memory
          (after-graves ch left.memory j c site) rest.1,
    )
  where
    c : Cont
    c = cont_at left.memory j

    ch : Change
    ch = change_of (insertion_class (cont_at left.memory j).form) (cont_at left.memory j)
        (insertion (cont_at left.memory j) (size (cont_at left.memory j)) (item x ∷ []) left.picks)

-- ## Keys one by one

-- no more come in than there are
count_most : (ks xs : List ℤ) → count_new ks xs ≤ length xs
count_most ks [] = omega arith
count_most ks (x ∷ xs) = by_test (has x ks) (count_most ks xs) (count_most (converted t.Int x ∷ ks) xs)
  where
    by_test : (b : Bool) → count_new ks xs ≤ length xs → count_new (converted t.Int x ∷ ks) xs ≤ length xs
        → (if b then count_new ks xs else 1 + count_new (converted t.Int x ∷ ks) xs) ≤ suc (length xs)
    by_test true p q = omega arith
    by_test false p q = omega arith

-- nor into a container
new_keys-most : (c : Cont) (xs : List ℤ) → new_keys c xs ≤ length xs
new_keys-most c xs = by_equal (holds_equal_keys c.form)
  where
    by_equal : (b : Bool) → (if b then length xs else count_new (keys c) xs) ≤ length xs
    by_equal true = omega arith
    by_equal false = count_most (keys c) xs

-- a key that is put in leaves room for the others
insert_key-leaves : (class : Class) (site j : ℕ) (x : ℤ × ℤ) (xs : List ℤ) (left : Left) → IsSound left.memory → IsThere left.memory j
    → size (cont_at left.memory j) + new_keys (cont_at left.memory j) (x.0 ∷ xs) ≤ ELEMENTS
    → (IsThere (insert_key class site j (cont_at left.memory j) x left).memory j
    × (size (cont_at (insert_key class site j (cont_at left.memory j) x left).memory j)
    + new_keys (cont_at (insert_key class site j (cont_at left.memory j) x left).memory j) xs ≤ ELEMENTS))
    × (Leaves left.memory site (insert_key class site j (cont_at left.memory j) x left).memory
    × KeepsGraves left.memory (insert_key class site j (cont_at left.memory j) x left).memory)
insert_key-leaves class site j x xs left sound there few = by_known (known_key c x.0) refl
  where
    c : Cont
    c = cont_at left.memory j

    ch : Change
    ch = key_change class (cont_at left.memory j) x left.picks

    next : Left
    next = record { memory = after ch left.memory j c site; picks = after_picks (key_picks c) left.picks }

    by_known : (o : Option ℕ) → known_key c x.0 ≡ o
        → (IsThere (elim o as (λ _. Left) [ None ↦ next | Some k ↦ left ]).memory j
        × (size (cont_at (elim o as (λ _. Left) [ None ↦ next | Some k ↦ left ]).memory j)
        + new_keys (cont_at (elim o as (λ _. Left) [ None ↦ next | Some k ↦ left ]).memory j) xs ≤ ELEMENTS))
        × (Leaves left.memory site (elim o as (λ _. Left) [ None ↦ next | Some k ↦ left ]).memory
        × KeepsGraves left.memory (elim o as (λ _. Left) [ None ↦ next | Some k ↦ left ]).memory)
    by_known (Some k) e = (
      (there, let n : new_keys c xs ≡ new_keys c (x.0 ∷ xs) = new_keys-known c x.0 xs k e in omega arith),
      (left-alone left.memory site sound, keeps-none left.memory),
    )
    by_known None e =
        let n : 1 + new_keys (changed left.memory.fresh ch c) xs ≡ new_keys c (x.0 ∷ xs) =
        new_keys-next class left.memory.fresh c x left.picks xs e in
        let is = still_there ch left.memory j site there in
        let l : size (changed left.memory.fresh ch c) ≡ size c + 1 =
        size-changed ch left.memory.fresh c ∙ key_change-length class c x left.picks in
        let z : size (cont_at (after ch left.memory j c site) j) ≡ size c + 1 = ap (λ (d : Cont). size d) is.0 ∙ l in
        let w : new_keys (cont_at (after ch left.memory j c site) j) xs ≡ new_keys (changed left.memory.fresh ch c) xs =
        ap (λ (d : Cont). new_keys d xs) is.0 in (
          (is.1, omega arith),
          (
            change-leaves ch left.memory j c site sound there (counts-fair c ch (key_change-fair class c x left.picks (omega arith))),
            after-graves ch left.memory j c site,
          ),
        )

-- keys one by one
insert_all-leaves : (class : Class) (site j : ℕ) (xs : List (ℤ × ℤ)) (left : Left) → IsSound left.memory → IsThere left.memory j
    → size (cont_at left.memory j) + new_keys (cont_at left.memory j) (keys_in xs) ≤ ELEMENTS
    → Leaves left.memory site (insert_all class site j xs left).memory × KeepsGraves left.memory (insert_all class site j xs left).memory
insert_all-leaves class site j [] left sound there few = (left-alone left.memory site sound, keeps-none left.memory)
insert_all-leaves class site j (x ∷ xs) left sound there few =
    let first = insert_key-leaves class site j x (keys_in xs) left sound there few in
    let next = insert_key class site j (cont_at left.memory j) x left in
    let rest = insert_all-leaves class site j xs next first.1.0.sound first.0.0 first.0.1 in (
      leaves-then left.memory next.memory (insert_all class site j xs next).memory site first.1.0 rest.0 rest.1,
      keeps-then left.memory next.memory (insert_all class site j xs next).memory first.1.1 rest.1,
    )

-- ## Each effect

-- a fine effect leaves a sound memory as a call has to
pub does-leaves : (form : Form) (class : Class) (s : Situation) (e : Effect) → IsSound s.memory → IsFine class s e
    → Leaves s.memory s.site (does form class s e).memory
does-leaves form class s keeps sound h = left-alone s.memory s.site sound
does-leaves form class s (edits n e) sound h =
    change-leaves (change_of class (own s) e) s.memory s.object (own s) s.site sound h.0 (counts-fair (own s) (change_of class (own s) e) h.1)
does-leaves form class s (changes n j ch) sound h =
    change-leaves ch s.memory j (cont_at s.memory j) s.site sound h.0 (counts-fair (cont_at s.memory j) ch h.1)
does-leaves form class s (trades j ch dh) sound h =
    trade-leaves ch dh s.memory s.object j (own s) (cont_at s.memory j) s.site sound h.differ h.own_there h.other_there
    (counts-fair_side (own s) (cont_at s.memory j) ch dh h.first h.second) (counts-fair_side (cont_at s.memory j) (own s) dh ch h.second h.first)
does-leaves form class s (inserts xs) sound h =
    (insert_all-leaves class s.site s.object xs (record { memory = s.memory; picks = after_picks 0 s.picks }) sound h.0 h.1).0
does-leaves form class s (appends j xs) sound h =
    (append_all-leaves s.site j xs (record { memory = s.memory; picks = after_picks 0 s.picks }) sound h.0 h.1).0
does-leaves form class s (makes n room xs) sound h = made-leaves form room xs s.memory sound s.site h
does-leaves form class s (makes_by_keys n' room xs) sound h =
    let first = made-leaves form room [] s.memory sound s.site (omega arith) in
    let there = made-there form room [] s.memory in
    let at : slice_get (made form room [] s.memory).conts s.object ≡ Some _ = ap (slice_get (made form room [] s.memory).conts) h.0 ∙ there in
    let is = cont_of_there (made form room [] s.memory) s.object _ at in
    let z : size (cont_at (made form room [] s.memory) s.object) ≡ 0 = ap (λ (d : Cont). size d) is ∙ fresh-size form room [] s.memory in
    let n : new_keys (cont_at (made form room [] s.memory) s.object) (keys_in xs) ≤ length (keys_in xs) =
    new_keys-most (cont_at (made form room [] s.memory) s.object) (keys_in xs) in
    let l : length (keys_in xs) ≡ length xs = length-map xs (λ (x : ℤ × ℤ). x.0) in
    let rest = insert_all-leaves class s.site s.object xs (record { memory = made form room [] s.memory; picks = after_picks n' s.picks })
    first.sound (at ∙ ap (λ (x : Cont). Some x) (sym is)) (let g : length xs ≤ ELEMENTS = h.1 in omega arith) in
    leaves-then s.memory (made form room [] s.memory) (does form class s (makes_by_keys n' room xs)).memory s.site first rest.0 rest.1
