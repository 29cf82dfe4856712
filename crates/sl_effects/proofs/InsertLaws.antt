-- Keys that come one by one: which are kept out, where the others go, and what all of them leave.
use Rattle.std.proofs.Common.{◌≡◌, ℕ, ◌+◌, ◌<◌, ◌≤◌, Bool, true, false, List, [], ◌∷◌, Option, Some, None, length, map, drop, get_or, refl, ap, sym}
use Rattle.std.proofs.Common.{◌∙◌, arith, ℤ, pos, subst, if◌then◌else◌}
use Rattle.std.specs.Option.{is_some}
use Rattle.std.proofs.lemmas.List.{at_drop_more, length-map, get_or-map, drop_all}
use Rattle.sl_base.specs.declared.limits.TheConstants.{ELEMENTS}
use Rattle.sl_specs.specs.declared.class.Class.{Class}
use Rattle.sl_model.specs.Memory.Containers.{Cont, cont_at, size, keys}
use Rattle.sl_model.specs.Memory.Edits.{Change, after, changed}
use Rattle.sl_model.specs.Memory.Forms.{holds_equal_keys}
use Rattle.sl_model.specs.Memory.Orders.{how_many, index_of_key}
use Rattle.sl_model.specs.Runs.State.{Pointer}
use Rattle.sl_model.specs.LibraryCalls.Values.{Value}
use Rattle.sl_model.specs.LibraryCalls.Effects.{Left, ordered_place, known_key, key_change, insert_key, insert_all}
use Rattle.sl_model.specs.LibraryCalls.KeyActions.{new_keys}
use Rattle.sl_model.proofs.After.{cont_at-after-own, size-changed}
use Rattle.sl_model.proofs.FairRearrangements.{key_change-length}
use Rattle.sl_model.proofs.FineEffects.{IsThere, keys_in}
use Rattle.sl_model.proofs.KeyCounts.{new_keys-next, new_keys-known}
use Rattle.sl_slots.specs.declared.container.Element.{Element}
use Rattle.sl_slots.specs.declared.store.Store.{Store}
use Rattle.sl_slots.specs.Shown.{new_element}
use Rattle.sl_effects.specs.declared.picks.Picks.{Picks}
use Rattle.sl_effects.specs.Carried.{Carries, AreKeyed, is_key_class}
use Rattle.sl_effects.specs.Means.Keys.{keys_of, goes_before, added}
use Rattle.sl_effects.proofs.Stores.{shown_there}

-- ## Where keys stand and go

-- where equal keys may be, none is kept out
pub known_nowhere : (c : Cont) (k : ℤ) → holds_equal_keys c.form ≡ true → None ≡ known_key c k
known_nowhere c k e = sym (ap (λ (b : Bool). if b then None else index_of_key k (keys c)) e)

-- else the first equal one keeps it out
pub known_found : (c : Cont) (k k' : ℤ) (es : List Element) (r : Option ℕ) → holds_equal_keys c.form ≡ false → keys_of es ≡ keys c → k' ≡ k
    → r ≡ index_of_key k' (keys_of es) → r ≡ known_key c k
known_found c k k' es r e shown same found =
    found
    ∙ (ap (λ (z : ℤ). index_of_key z (keys_of es)) same
    ∙ (ap (index_of_key k) shown
    ∙ sym (ap (λ (b : Bool). if b then None else index_of_key k (keys c)) e)))

-- the place in the order of keys
pub counted_place : (c : Cont) (k k' : ℤ) (es : List Element) (equal : Bool) (r : ℕ) → equal ≡ holds_equal_keys c.form → keys_of es ≡ keys c → k' ≡ k
    → r ≡ how_many (goes_before equal k') (keys_of es) → r ≡ ordered_place c k
counted_place c k k' es equal r e shown same counted =
    counted
    ∙ (ap (λ (z : ℤ). how_many (goes_before equal z) (keys_of es)) same
    ∙ (ap (how_many (goes_before equal k)) shown
    ∙ ap (λ (b : Bool). how_many (goes_before b k) (keys c)) e))

-- ## One key

-- a new key comes in
pub inserted_new : (class : Class) (site j : ℕ) (c : Cont) (x : ℤ × ℤ) (left : Left) → known_key c x.0 ≡ None
    → insert_key class site j c x left ≡ added class site j c x left
inserted_new class site j c x left e = ap (λ (o : Option ℕ). elim o as (λ _. Left) [ None ↦ added class site j c x left | Some k ↦ left ]) e

-- one that is kept out changes nothing
pub inserted_known : (class : Class) (site j : ℕ) (c : Cont) (x : ℤ × ℤ) (left : Left) (k : ℕ) → known_key c x.0 ≡ Some k
    → insert_key class site j c x left ≡ left
inserted_known class site j c x left k e = ap (λ (o : Option ℕ). elim o as (λ _. Left) [ None ↦ added class site j c x left | Some k ↦ left ]) e

-- what was found keeps it out
pub keeps_out : (class : Class) (site j : ℕ) (c : Cont) (x : ℤ × ℤ) (left : Left) (r : Option ℕ) → r ≡ known_key c x.0 → is_some r ≡ true
    → insert_key class site j c x left ≡ left
keeps_out class site j c x left None e found = absurd (cc)
keeps_out class site j c x left (Some k) e found = inserted_known class site j c x left k (sym e)

-- nothing was found
pub comes_in : (c : Cont) (k : ℤ) (r : Option ℕ) → r ≡ known_key c k → is_some r ≡ false → known_key c k ≡ None
comes_in c k None e found = sym e
comes_in c k (Some i) e found = absurd (cc)

-- a new key is one element more
pub room_for_one : (class : Class) (c : Cont) (x : ℤ × ℤ) (ks : List ℤ) → known_key c x.0 ≡ None → size c + new_keys c (x.0 ∷ ks) ≤ ELEMENTS
    → size c + 1 ≤ ELEMENTS
room_for_one class c x ks e few =
    let n : 1 + new_keys (changed 0 (key_change class c x []) c) ks ≡ new_keys c (x.0 ∷ ks) = new_keys-next class 0 c x [] ks e in
    omega arith

-- the others fit as before
few_next : (class : Class) (site j : ℕ) (x : ℤ × ℤ) (ks : List ℤ) (left : Left) → IsThere left.memory j
    → size (cont_at left.memory j) + new_keys (cont_at left.memory j) (x.0 ∷ ks) ≤ ELEMENTS
    → size (cont_at (insert_key class site j (cont_at left.memory j) x left).memory j)
    + new_keys (cont_at (insert_key class site j (cont_at left.memory j) x left).memory j) ks ≤ ELEMENTS
few_next class site j x ks left there few = by_known (known_key c x.0) refl
  where
    c : Cont
    c = cont_at left.memory j

    ch : Change
    ch = key_change class (cont_at left.memory j) x left.picks

    fits : Left → Type 0
    fits l = size (cont_at l.memory j) + new_keys (cont_at l.memory j) ks ≤ ELEMENTS

    by_known : (o : Option ℕ) → known_key c x.0 ≡ o → fits (insert_key class site j c x left)
    by_known (Some k) e =
        let n : new_keys c ks ≡ new_keys c (x.0 ∷ ks) = new_keys-known c x.0 ks k e in
        subst fits (sym (inserted_known class site j c x left k e)) (omega arith)
    by_known None e =
        let n : 1 + new_keys (changed left.memory.fresh ch c) ks ≡ new_keys c (x.0 ∷ ks) =
        new_keys-next class left.memory.fresh c x left.picks ks e in
        let is : cont_at (after ch left.memory j c site) j ≡ changed left.memory.fresh ch c = cont_at-after-own ch left.memory j c site there in
        let l : size (changed left.memory.fresh ch c) ≡ size c + 1 =
        size-changed ch left.memory.fresh c ∙ key_change-length class c x left.picks in
        let z : size (cont_at (after ch left.memory j c site) j) ≡ size c + 1 = ap (λ (d : Cont). size d) is ∙ l in
        let w : new_keys (cont_at (after ch left.memory j c site) j) ks ≡ new_keys (changed left.memory.fresh ch c) ks =
        ap (λ (d : Cont). new_keys d ks) is in
        subst fits (sym (inserted_new class site j c x left e)) (omega arith)

-- ## Many

-- The store carries what is left after the first i of these keys: what the others then do is what all do.
pub record InsertsFrom (class : Class) (site j : ℕ) (xs : List (ℤ × ℤ)) (left : Left) (i : ℕ) (st : Store) (picks : Picks) (ps : List Pointer)
    (vs : List Value) : Type 0 where
  pub mid : Left
  pub carried : Carries st picks mid ps vs
  pub rest : insert_all class site j (drop i xs) mid ≡ insert_all class site j xs left
  pub few : size (cont_at mid.memory j) + new_keys (cont_at mid.memory j) (keys_in (drop i xs)) ≤ ELEMENTS

-- what the insertion of one key shows
abbrev pub InsertShows : Store → Picks → Store → Picks → Class → ℕ → ℕ → Element → Type 0
InsertShows old before new later class j site element =
    (left : Left) (ps : List Pointer) (vs : List Value) (x : ℤ × ℤ) (ks : List ℤ) → is_key_class class ≡ true → new_element x ≡ element
    → x.0 ≡ element.key → size (cont_at left.memory j) + new_keys (cont_at left.memory j) (x.0 ∷ ks) ≤ ELEMENTS → Carries old before left ps vs
    → Carries new later (insert_key class site j (cont_at left.memory j) x left) ps vs

-- one key more
pub insert_next : (class : Class) (site j : ℕ) (xs : List (ℤ × ℤ)) (elements : List Element) (left : Left) (i : ℕ) (old new : Store)
    (before later : Picks) (element d : Element) (ps : List Pointer) (vs : List Value) → is_key_class class ≡ true
    → InsertShows old before new later class j site element → AreKeyed xs elements → i < length elements → element ≡ get_or elements i d
    → j < length old.containers.items → InsertsFrom class site j xs left i old before ps vs → InsertsFrom class site j xs left (i + 1) new later ps vs
insert_next class site j xs elements left i old new before later element d ps vs key shows all low is there r = record {
  mid = insert_key class site j (cont_at r.mid.memory j) x r.mid;
  carried = shows r.mid ps vs x (keys_in (drop (i + 1) xs)) key same same_key few' r.carried;
  rest = sym (ap (λ (l : List (ℤ × ℤ)). insert_all class site j l r.mid) next) ∙ r.rest;
  few = few_next class site j x (keys_in (drop (i + 1) xs)) r.mid (shown_there old r.mid.memory ps vs r.carried.holds j there) few';
}
  where
    none : ℤ × ℤ
    none = (pos 0, pos 0)

    x : ℤ × ℤ
    x = get_or xs i (pos 0, pos 0)

    within : i < length xs
    within = let e : length (map new_element xs) ≡ length elements = ap (λ (l : List Element). length l) all.elements in
        let l : length (map new_element xs) ≡ length xs = length-map xs new_element in omega arith

    next : drop i xs ≡ x ∷ drop (i + 1) xs
    next = at_drop_more (λ (l : List (ℤ × ℤ)). l) xs i none within

    few' : size (cont_at r.mid.memory j) + new_keys (cont_at r.mid.memory j) (x.0 ∷ keys_in (drop (i + 1) xs)) ≤ ELEMENTS
    few' = subst (λ (l : List (ℤ × ℤ)). size (cont_at r.mid.memory j) + new_keys (cont_at r.mid.memory j) (keys_in l) ≤ ELEMENTS) next r.few

    same : new_element x ≡ element
    same = sym (get_or-map new_element xs i none d within) ∙ (ap (λ (l : List Element). get_or l i d) all.elements ∙ sym is)

    same_key : x.0 ≡ element.key
    same_key = sym (get_or-map (λ (y : ℤ × ℤ). y.0) xs i none d.key within)
        ∙ (ap (λ (l : List ℤ). get_or l i d.key) all.keys
        ∙ (get_or-map (λ (y : Element). y.key) elements i d d.key low ∙ ap (λ (y : Element). y.key) (sym is)))

-- after the last
pub insert_end : (class : Class) (site j : ℕ) (xs : List (ℤ × ℤ)) (left : Left) (i : ℕ) (st : Store) (picks : Picks) (ps : List Pointer)
    (vs : List Value) → length xs ≤ i → InsertsFrom class site j xs left i st picks ps vs
    → Carries st picks (insert_all class site j xs left) ps vs
insert_end class site j xs left i st picks ps vs high r = subst (λ (l : Left). Carries st picks l ps vs)
    (ap (λ (l : List (ℤ × ℤ)). insert_all class site j l r.mid) (sym (drop_all i xs high)) ∙ r.rest) r.carried
