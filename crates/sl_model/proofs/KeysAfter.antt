-- Which keys a container has after a change, and that they stand in an order of its form's: where elements go, where a key is put in,
-- where a hash form puts its elements in again, and where two containers exchange theirs.
use Rattle.std.proofs.Common.{◌≡◌, ℕ, zero, suc, ◌+◌, ◌-◌, ◌<◌, ◌≤◌, ◌&&◌, Bool, true, false, not, IsTrue, List, [], ◌∷◌, ◌++◌, Option, Some, None}
use Rattle.std.proofs.Common.{length, map, refl, ap, sym, ◌∙◌, arith, ◌⊎◌, inl, inr, subst, ℤ, pos, int_le}
use Rattle.std.specs.List.{slice_get}
use Rattle.sl_base.specs.declared.form.Form.{Form}
use Rattle.sl_base.specs.declared.form.Form.TheVariants as f
use Rattle.sl_base.specs.declared.scalar.Scalar.TheVariants as t
use Rattle.sl_specs.specs.declared.class.Class.{Class}
use Rattle.sl_specs.specs.Forms.{is_hash, is_keyed}
use Rattle.sl_model.specs.Memory.Classes.{Edit}
use Rattle.sl_model.specs.Memory.Containers.{Cell, Cont, size, keys}
use Rattle.sl_model.specs.Memory.Edits.{Source, old, written, theirs, new, Change, numbers, olds, news, stayed, from_source, from_sources}
use Rattle.sl_model.specs.Memory.Edits.{mark_after, change_of}
use Rattle.sl_model.specs.Numbers.{converted}
use Rattle.sl_model.specs.Memory.Orders.{same}
use Rattle.sl_model.specs.Memory.Orderly.{may_precede, Each, AreInOrder, HoldsInts}
use Rattle.sl_model.specs.Memory.Schedule.{scattered}
use Rattle.sl_model.proofs.AsInts.{converted-fits}
use Rattle.sl_model.proofs.Columns.{AllInside}
use Rattle.sl_model.proofs.Getting.{get_some, get_map}
use Rattle.sl_model.proofs.KeyCounts.{key_at, key_from}
use Rattle.sl_model.proofs.Moved.{blank}
use Rattle.sl_model.proofs.Pairs.{each-map, each-mapped, each-all, each-at, pairs-append, pairs-map, pairs-mapped}
use Rattle.sl_model.proofs.Pairs.{pairs-all, pairs-at, each-scattered, pairs-scattered}

-- ## Elements are ints

module _ (ch : Change) (base : ℕ) (own other : Cont) (ints_own : Each HoldsInts own.cells) (ints_other : Each HoldsInts other.cells) where
  -- an element that stays
  stayed-ints : (n k : ℕ) → HoldsInts (stayed ch base own (blank n) k)
  stayed-ints n k = by_cell (slice_get own.cells k) refl
    where
      by_cell : (o : Option Cell) → slice_get own.cells k ≡ o → HoldsInts (elim o as (λ _. Cell) [
        | None ↦ blank n
        | Some x ↦ record x { stamp = mark_after ch.kill base k x.stamp; refer = mark_after ch.lose base k x.refer }
      ])
      by_cell None e = (refl, refl)
      by_cell (Some x) e = each-at HoldsInts own.cells k x ints_own e

  -- an element of the other container
  theirs-ints : (n k : ℕ) → HoldsInts (from_source ch base own other (blank n) (theirs k))
  theirs-ints n k = by_cell (slice_get other.cells k) refl
    where
      by_cell : (o : Option Cell) → slice_get other.cells k ≡ o → HoldsInts (elim o as (λ _. Cell) [ None ↦ blank n | Some x ↦ x ])
      by_cell None e = (refl, refl)
      by_cell (Some x) e = each-at HoldsInts other.cells k x ints_other e

  -- an element from any source
  source-ints : (n : ℕ) (x : Source) → HoldsInts (from_source ch base own other (blank n) x)
  source-ints n (old k) = stayed-ints n k
  source-ints n (written k z) = (converted-fits z, (stayed-ints n k).1)
  source-ints n (theirs k) = theirs-ints n k
  source-ints n (new x y) = (converted-fits x, converted-fits y)

  -- the elements from sources
  pub sources-ints : (next : ℕ) (xs : List Source) → Each HoldsInts (from_sources ch base own other next xs)
  sources-ints next [] = tt
  sources-ints next (x ∷ xs) = (source-ints next x, sources-ints (next + 1) xs)

-- ## Keys by their places

-- a mapped list of the numbers one further on
map-shift : {B : Type 0} (g : ℕ → B) (i n : ℕ) → map g (numbers (i + 1) n) ≡ map (λ k. g (k + 1)) (numbers i n)
map-shift g i zero = refl
map-shift g i (suc n) = ap (λ l. g (i + 1) ∷ l) (map-shift g (i + 1) n)

-- lists of what is the same
map-alike : {A B : Type 0} (g h : A → B) (xs : List A) → ((x : A) → g x ≡ h x) → map g xs ≡ map h xs
map-alike g h [] e = refl
map-alike g h (x ∷ xs) e = ap (λ y. y ∷ map g xs) (e x) ∙ ap (λ l. h x ∷ l) (map-alike g h xs e)

-- the key at a place of these
abbrev key_in : List Cell → ℕ → ℤ
key_in cells k = elim (slice_get cells k) as (λ _. ℤ) [ None ↦ pos 0 | Some x ↦ x.key ]

-- all keys, by their places
keys-places : (cells : List Cell) → map (key_in cells) (numbers 0 (length cells)) ≡ map (λ (x : Cell). x.key) cells
keys-places [] = refl
keys-places (x ∷ cells) =
    ap (λ l. x.key ∷ l)
    (map-shift (key_in (x ∷ cells)) 0 (length cells)
    ∙ (map-alike (λ k. key_in (x ∷ cells) (k + 1)) (key_in cells) (numbers 0 (length cells)) (λ k. ap (key_in (x ∷ cells)) (one_more k))
    ∙ keys-places cells))
  where
    one_more : (k : ℕ) → k + 1 ≡ suc k
    one_more k = omega arith

-- all keys of a container
pub all_keys : (c : Cont) → map (key_at c) (numbers 0 (size c)) ≡ keys c
all_keys c = keys-places c.cells

-- the keys of old elements
pub old-keys : (c d : Cont) (order : List ℕ) → map (key_from c d) (map (λ k. old k) order) ≡ map (key_at c) order
old-keys c d [] = refl
old-keys c d (k ∷ order) = ap (λ l. key_at c k ∷ l) (old-keys c d order)

-- and those of the other container's
pub their-keys : (c d : Cont) (order : List ℕ) → map (key_from c d) (map (λ k. theirs k) order) ≡ map (key_at d) order
their-keys c d [] = refl
their-keys c d (k ∷ order) = ap (λ l. key_at d k ∷ l) (their-keys c d order)

-- the keys of new elements
pub new-keys : (c d : Cont) (xs : List (ℤ × ℤ)) → map (key_from c d) (news xs) ≡ map (λ (x : ℤ × ℤ). converted t.Int x.0) xs
new-keys c d [] = refl
new-keys c d (x ∷ xs) = ap (λ l. converted t.Int x.0 ∷ l) (new-keys c d xs)

-- joined lists of keys
map-joined : {A B : Type 0} (g : A → B) (xs ys : List A) → map g (xs ++ ys) ≡ map g xs ++ map g ys
map-joined g [] ys = refl
map-joined g (x ∷ xs) ys = ap (λ l. g x ∷ l) (map-joined g xs ys)

-- ## The order of a form

-- keys of a sequence stand in any order
pub any_order : (form : Form) (xs : List ℤ) → is_keyed form ≡ false → AreInOrder form xs
any_order f.Vector xs e = pairs-all (λ x y. IsTrue (may_precede f.Vector x y)) xs (λ x y. refl)
any_order f.Deque xs e = pairs-all (λ x y. IsTrue (may_precede f.Deque x y)) xs (λ x y. refl)
any_order f.List xs e = pairs-all (λ x y. IsTrue (may_precede f.List x y)) xs (λ x y. refl)
any_order f.Set xs e = absurd (cc)
any_order f.Map xs e = absurd (cc)
any_order f.HashSet xs e = absurd (cc)
any_order f.HashMap xs e = absurd (cc)
any_order f.MultiSet xs e = absurd (cc)
any_order f.MultiMap xs e = absurd (cc)

-- two numbers are the same either way round
same-turns : (x y : ℤ) → IsTrue (not (same x y)) → IsTrue (not (same y x))
same-turns x y h = by_sides (int_le x y) (int_le y x) h
  where
    by_sides : (a b : Bool) → IsTrue (not (a && b)) → IsTrue (not (b && a))
    by_sides true true h = h
    by_sides true false h = refl
    by_sides false true h = refl
    by_sides false false h = refl

-- in a hash form keys may change places
pub hash-turns : (form : Form) → is_hash form ≡ true → (x y : ℤ) → IsTrue (may_precede form x y) → IsTrue (may_precede form y x)
hash-turns f.Vector e x y h = absurd (cc)
hash-turns f.Deque e x y h = absurd (cc)
hash-turns f.List e x y h = absurd (cc)
hash-turns f.Set e x y h = absurd (cc)
hash-turns f.Map e x y h = absurd (cc)
hash-turns f.HashSet e x y h = same-turns x y h
hash-turns f.HashMap e x y h = same-turns x y h
hash-turns f.MultiSet e x y h = absurd (cc)
hash-turns f.MultiMap e x y h = absurd (cc)

-- the keys of a hash form in a picked order
pub scattered-order : (c : Cont) (picks : List ℕ) → is_hash c.form ≡ true → AreInOrder c.form (keys c)
    → AreInOrder c.form (map (key_at c) (scattered picks (numbers 0 (size c))))
scattered-order c picks hash h =
    pairs-map (λ x y. IsTrue (may_precede c.form x y)) (key_at c) (scattered picks (numbers 0 (size c)))
    (pairs-scattered (λ k i. IsTrue (may_precede c.form (key_at c k) (key_at c i)))
    (λ k i g. hash-turns c.form hash (key_at c k) (key_at c i) g) picks (numbers 0 (size c))
    (pairs-mapped (λ x y. IsTrue (may_precede c.form x y)) (key_at c) (numbers 0 (size c)) (subst (AreInOrder c.form) (sym (all_keys c)) h)))

-- what holds of each key holds of each in a picked order
pub scattered-each : (P : ℤ → Type 0) (c : Cont) (picks : List ℕ) → Each P (keys c)
    → Each P (map (key_at c) (scattered picks (numbers 0 (size c))))
scattered-each P c picks h = each-map P (key_at c) (scattered picks (numbers 0 (size c)))
    (each-scattered (λ k. P (key_at c k)) picks (numbers 0 (size c))
    (each-mapped P (key_at c) (numbers 0 (size c)) (subst (Each P) (sym (all_keys c)) h)))

-- ## Elements that go

-- two keys of a container in the order of their places
ordered-at : (c : Cont) (k h : ℕ) → AreInOrder c.form (keys c) → k < h → h < size c → IsTrue (may_precede c.form (key_at c k) (key_at c h))
ordered-at c k h order low high =
    let a = get_some c.cells k (omega arith) in
    let b = get_some c.cells h high in
    let p : key_at c k ≡ a.0.key = ap (λ (o : Option Cell). elim o as (λ _. ℤ) [ None ↦ pos 0 | Some x ↦ x.key ]) a.1 in
    let q : key_at c h ≡ b.0.key = ap (λ (o : Option Cell). elim o as (λ _. ℤ) [ None ↦ pos 0 | Some x ↦ x.key ]) b.1 in
    subst (λ x. IsTrue (may_precede c.form x (key_at c h))) (sym p)
    (subst (λ y. IsTrue (may_precede c.form a.0.key y)) (sym q)
    (pairs-at (λ x y. IsTrue (may_precede c.form x y)) (keys c) k h a.0.key b.0.key order low
    (get_key c.cells k a.0 a.1) (get_key c.cells h b.0 b.1)))
  where
    get_key : (cells : List Cell) (i : ℕ) (x : Cell) → slice_get cells i ≡ Some x → slice_get (map (λ (y : Cell). y.key) cells) i ≡ Some x.key
    get_key cells i x e = get_map (λ (y : Cell). y.key) cells i x e

module _ (c d : Cont) (n' : ℕ) (order : AreInOrder c.form (keys c)) where
  -- old elements in turn stand behind an earlier one
  pub olds-behind : (k i n : ℕ) → k < i → AllInside (size c) n' (olds i n)
      → Each (λ y. IsTrue (may_precede c.form (key_at c k) y)) (map (key_from c d) (olds i n))
  olds-behind k i zero low inside = tt
  olds-behind k i (suc n) low inside = (ordered-at c k i order low inside.0, olds-behind k (i + 1) n (omega arith) inside.1)

  -- and in order
  pub olds-order : (i n : ℕ) → AllInside (size c) n' (olds i n) → AreInOrder c.form (map (key_from c d) (olds i n))
  olds-order i zero inside = tt
  olds-order i (suc n) inside = (olds-behind i (i + 1) n (omega arith) inside.1, olds-order (i + 1) n inside.1)

  -- the first ones and later ones
  olds-apart : (i n j m : ℕ) → i + n ≤ j → AllInside (size c) n' (olds j m)
      → Each (λ x. Each (λ y. IsTrue (may_precede c.form x y)) (map (key_from c d) (olds j m))) (map (key_from c d) (olds i n))
  olds-apart i zero j m low inside = tt
  olds-apart i (suc n) j m low inside = (olds-behind i j m (omega arith) inside, olds-apart (i + 1) n j m (omega arith) inside)

  -- these with a part that went between them
  pub gone-order : (i n j m : ℕ) → i + n ≤ j → AllInside (size c) n' (olds i n) → AllInside (size c) n' (olds j m)
      → AreInOrder c.form (map (key_from c d) (olds i n ++ olds j m))
  gone-order i n j m low inside inside' = subst (AreInOrder c.form) (sym (map-joined (key_from c d) (olds i n) (olds j m)))
      (pairs-append (λ x y. IsTrue (may_precede c.form x y)) (map (key_from c d) (olds i n)) (map (key_from c d) (olds j m))
      (olds-order i n inside) (olds-order j m inside') (olds-apart i n j m low inside'))

-- the first part of sources that are inside
inside-left : (n n' : ℕ) (xs ys : List Source) → AllInside n n' (xs ++ ys) → AllInside n n' xs
inside-left n n' [] ys h = tt
inside-left n n' (x ∷ xs) ys h = (h.0, inside-left n n' xs ys h.1)

-- and the second
inside-right : (n n' : ℕ) (xs ys : List Source) → AllInside n n' (xs ++ ys) → AllInside n n' ys
inside-right n n' [] ys h = h
inside-right n n' (x ∷ xs) ys h = inside-right n n' xs ys h.1

-- what edits may bring into a container of a form with keys: nothing, or all its keys anew, in order
abbrev pub IsTidyEdit : Cont → Edit → Type 0
IsTidyEdit c e =
    (is_keyed c.form ≡ false)
    ⊎ ((e.come ≡ [])
    ⊎ ((e.from ≡ 0) × (size c ≤ e.gone) × AreInOrder c.form (map (λ (x : ℤ × ℤ). converted t.Int x.0) e.come)))

-- the keys stand in order after such an edit
pub edit-order : (class : Class) (c : Cont) (e : Edit) → AreInOrder c.form (keys c) → AllInside (size c) 0 (change_of class c e).sources
    → IsTidyEdit c e → AreInOrder c.form (map (key_from c c) (change_of class c e).sources)
edit-order class c e order inside (inl free) = any_order c.form (map (key_from c c) (change_of class c e).sources) free
edit-order class c e order inside (inr (inl none)) = by_come e.come none inside
  where
    by_come : (come : List (ℤ × ℤ)) → come ≡ []
        → AllInside (size c) 0 (olds 0 e.from ++ (news come ++ olds (e.from + e.gone) (size c - (e.from + e.gone))))
        → AreInOrder c.form (map (key_from c c) (olds 0 e.from ++ (news come ++ olds (e.from + e.gone) (size c - (e.from + e.gone)))))
    by_come [] q inside = gone-order c c 0 order 0 e.from (e.from + e.gone) (size c - (e.from + e.gone)) (omega arith)
        (inside-left (size c) 0 (olds 0 e.from) (olds (e.from + e.gone) (size c - (e.from + e.gone))) inside)
        (inside-right (size c) 0 (olds 0 e.from) (olds (e.from + e.gone) (size c - (e.from + e.gone))) inside)
    by_come (x ∷ xs) q inside = absurd (cc)
edit-order class c e order inside (inr (inr anew)) = by_from e.from (size c - (e.from + e.gone)) anew.0
    (let z : e.from ≡ 0 = anew.0 in let g : size c ≤ e.gone = anew.1 in omega arith)
  where
    by_from : (from rest : ℕ) → from ≡ 0 → rest ≡ 0
        → AreInOrder c.form (map (key_from c c) (olds 0 from ++ (news e.come ++ olds (e.from + e.gone) rest)))
    by_from zero zero p q = subst (AreInOrder c.form)
        (sym (map-joined (key_from c c) (news e.come) [] ∙ ap (λ l. l ++ []) (new-keys c c e.come)))
        (pairs-append (λ x y. IsTrue (may_precede c.form x y)) (map (λ (x : ℤ × ℤ). converted t.Int x.0) e.come) [] anew.2 tt
        (each-all (λ x. Each (λ y. IsTrue (may_precede c.form x y)) []) (map (λ (x : ℤ × ℤ). converted t.Int x.0) e.come) (λ x. tt)))
    by_from zero (suc r) p q = absurd (omega arith)
    by_from (suc n) r p q = absurd (omega arith)
