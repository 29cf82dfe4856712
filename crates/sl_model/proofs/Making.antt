-- A new container leaves a memory sound and everything where it was.
use Rattle.std.proofs.Common.{◌≡◌, ℕ, zero, suc, ◌+◌, ◌-◌, ◌<◌, ◌≤◌, List, [], ◌∷◌, ◌++◌, Some, length, map, refl, ap, sym, ◌∙◌, arith, ◌⊎◌, inl, inr}
use Rattle.std.proofs.Common.{⊎_elim, ℤ, subst}
use Rattle.std.specs.List.{slice_get}
use Rattle.std.proofs.lemmas.Bool.{cases_lt}
use Rattle.sl_base.specs.declared.form.Form.{Form}
use Rattle.sl_base.specs.declared.limits.TheConstants.{ELEMENTS}
use Rattle.sl_model.specs.Memory.Containers.{Cell, Cont, Grave, Memory, size, stamps, refers, killer, made, new_cells, IsGrave}
use Rattle.sl_model.specs.Runs.Good.{Stands, AreKeptApart, IsAt, IsSound, NoneVanishFrom, NoneVanishes}
use Rattle.sl_model.proofs.Getting.{get_left, get_right, get_within}
use Rattle.sl_model.proofs.Apart.{IsDistinct}
use Rattle.sl_model.proofs.After.{Leaves}

-- the last of a list with one more
pub last_one : {A : Type 0} (xs : List A) (x y : A) (j : ℕ) → length xs ≤ j → slice_get (xs ++ x ∷ []) j ≡ Some y → (j ≡ length xs) × (x ≡ y)
last_one xs x y j above h = by_place (j - length xs) refl (sym (get_right xs (x ∷ []) j above) ∙ h)
  where
    by_place : (d : ℕ) → j - length xs ≡ d → slice_get (x ∷ []) d ≡ Some y → (j ≡ length xs) × (x ≡ y)
    by_place zero e g = (omega arith, (cc))
    by_place (suc d) e g = absurd (cc)

-- a mapped list with one more
pub map_last : {A B : Type 0} (f : A → B) (xs : List A) (x : A) → map f (xs ++ x ∷ []) ≡ map f xs ++ f x ∷ []
map_last f [] x = refl
map_last f (y ∷ xs) x = ap (λ l. f y ∷ l) (map_last f xs x)

module _ (lists : List (List ℕ)) (graves : List Grave) (fresh top : ℕ) (xs : List ℕ) (apart : AreKeptApart lists graves fresh)
    (distinct : IsDistinct xs) (between : (k s : ℕ) → slice_get xs k ≡ Some s → (fresh ≤ s) × (s < top)) (up : fresh ≤ top) where
  -- what stands afterwards stood before, or it stands in the new list
  abbrev After : ℕ → ℕ → ℕ → Type 0
  After j k s = Stands lists j k s ⊎ ((j ≡ length lists) × (slice_get xs k ≡ Some s))

  after : (j k s : ℕ) → Stands (lists ++ xs ∷ []) j k s → After j k s
  after j k s h = ⊎_elim
      (λ (low : j < length lists). inl (h.0, sym (get_left lists (xs ∷ []) j low) ∙ h.1, h.2))
      (λ (high : length lists ≤ j). let r = last_one lists xs h.0 j high h.1 in inr (r.0, ap (λ (l : List ℕ). slice_get l k) r.1 ∙ h.2))
      (cases_lt j (length lists))

  -- what is new wasn't used
  not_used : (j k h s : ℕ) → Stands lists j k s → slice_get xs h ≡ Some s → ⊥
  not_used j k h s a b = let u : s < fresh = apart.used j k s a in let v : fresh ≤ s = (between h s b).0 in omega arith

  once_after : (j k i h s : ℕ) → After j k s → After i h s → (j ≡ i) × (k ≡ h)
  once_after j k i h s (inl a) (inl b) = apart.once j k i h s a b
  once_after j k i h s (inl a) (inr b) = absurd (not_used j k h s a b.1)
  once_after j k i h s (inr a) (inl b) = absurd (not_used i h k s b a.1)
  once_after j k i h s (inr a) (inr b) = (a.0 ∙ sym b.0, distinct k h s a.1 b.1)

  used_after : (j k s : ℕ) → After j k s → s < top
  used_after j k s (inl a) = let u : s < fresh = apart.used j k s a in let v : fresh ≤ top = up in omega arith
  used_after j k s (inr a) = (between k s a.1).1

  dead_after : (j k s site : ℕ) → IsGrave graves s site → After j k s → ⊥
  dead_after j k s site g (inl a) = apart.dead j k s site a g
  dead_after j k s site g (inr a) = let u : s < fresh = apart.dropped s site g in let v : fresh ≤ s = (between k s a.1).0 in omega arith

  -- the numbers stay apart
  pub added-apart : AreKeptApart (lists ++ xs ∷ []) graves top
  added-apart = record {
    once = λ j k i h s a b. once_after j k i h s (after j k s a) (after i h s b);
    used = λ j k s a. used_after j k s (after j k s a);
    dropped = λ s site g. let u : s < fresh = apart.dropped s site g in let v : fresh ≤ top = up in omega arith;
    dead = λ j k s site a g. dead_after j k s site g (after j k s a);
  }

  -- none vanishes
  pub added-none : (site : ℕ) → NoneVanishFrom lists site (lists ++ xs ∷ []) graves
  added-none site j k s h = inl (j, k, (h.0, get_left lists (xs ∷ []) j (get_within lists j h.0 h.1) ∙ h.1, h.2))

-- the marks of new elements are numbers in turn
new_stamps : (next : ℕ) (xs : List (ℤ × ℤ)) (k s : ℕ) → slice_get (map (λ (x : Cell). x.stamp) (new_cells next xs)) k ≡ Some s
    → (s ≡ next + k) × (k < length xs)
new_stamps next [] k s h = absurd (cc)
new_stamps next (x ∷ xs) zero s h = let e : next ≡ s = cc in (omega arith, omega arith)
new_stamps next (x ∷ xs) (suc k) s h = let r = new_stamps (next + 1) xs k s h in let e : s ≡ (next + 1) + k = r.0 in let w : k < length xs = r.1 in
    (omega arith, omega arith)

new_refers : (next : ℕ) (xs : List (ℤ × ℤ)) (k s : ℕ) → slice_get (map (λ (x : Cell). x.refer) (new_cells next xs)) k ≡ Some s
    → (s ≡ next + k) × (k < length xs)
new_refers next [] k s h = absurd (cc)
new_refers next (x ∷ xs) zero s h = let e : next ≡ s = cc in (omega arith, omega arith)
new_refers next (x ∷ xs) (suc k) s h = let r = new_refers (next + 1) xs k s h in let e : s ≡ (next + 1) + k = r.0 in let w : k < length xs = r.1 in
    (omega arith, omega arith)

-- there are as many
new_count : (next : ℕ) (xs : List (ℤ × ℤ)) → length (map (λ (x : Cell). x.stamp) (new_cells next xs)) ≡ length xs
new_count next [] = refl
new_count next (x ∷ xs) = ap suc (new_count (next + 1) xs)

new_size : (next : ℕ) (xs : List (ℤ × ℤ)) → length (new_cells next xs) ≡ length xs
new_size next [] = refl
new_size next (x ∷ xs) = ap suc (new_size (next + 1) xs)

-- the new container
abbrev pub fresh_cont : Form → ℕ → List (ℤ × ℤ) → Memory → Cont
fresh_cont form room xs m = record { form = form; cells = new_cells (m.fresh + 1) xs; end = m.fresh; room = room }

-- it has as many elements as it is made with
pub fresh-size : (form : Form) (room : ℕ) (xs : List (ℤ × ℤ)) (m : Memory) → size (fresh_cont form room xs m) ≡ length xs
fresh-size form room xs m = new_size (m.fresh + 1) xs

-- its stamps: those of the elements behind that of the end
abbrev pub FreshStamp : Memory → ℕ → ℕ → ℕ → Type 0
FreshStamp m n k s = ((s ≡ (m.fresh + 1) + k) × (k < n)) ⊎ ((s ≡ m.fresh) × (k ≡ n))

pub fresh_stamps : (form : Form) (room : ℕ) (xs : List (ℤ × ℤ)) (m : Memory) (k s : ℕ) → slice_get (stamps (fresh_cont form room xs m)) k ≡ Some s
    → FreshStamp m (length xs) k s
fresh_stamps form room xs m k s h = ⊎_elim
    (λ (low : k < length (map (λ (x : Cell). x.stamp) (new_cells (m.fresh + 1) xs))).
    inl (new_stamps (m.fresh + 1) xs k s (sym (get_left (map (λ (x : Cell). x.stamp) (new_cells (m.fresh + 1) xs)) (m.fresh ∷ []) k low) ∙ h)))
    (λ (high : length (map (λ (x : Cell). x.stamp) (new_cells (m.fresh + 1) xs)) ≤ k).
    let r = last_one (map (λ (x : Cell). x.stamp) (new_cells (m.fresh + 1) xs)) m.fresh s k high h in
    let c : length (map (λ (x : Cell). x.stamp) (new_cells (m.fresh + 1) xs)) ≡ length xs = new_count (m.fresh + 1) xs in
    inr (sym r.1, r.0 ∙ c))
    (cases_lt k (length (map (λ (x : Cell). x.stamp) (new_cells (m.fresh + 1) xs))))

fresh_stamps-once : (m : Memory) (n k h s : ℕ) → FreshStamp m n k s → FreshStamp m n h s → k ≡ h
fresh_stamps-once m n k h s (inl a) (inl b) = let e : s ≡ (m.fresh + 1) + k = a.0 in let g : s ≡ (m.fresh + 1) + h = b.0 in omega arith
fresh_stamps-once m n k h s (inl a) (inr b) = let e : s ≡ (m.fresh + 1) + k = a.0 in let g : s ≡ m.fresh = b.0 in absurd (omega arith)
fresh_stamps-once m n k h s (inr a) (inl b) = let e : s ≡ m.fresh = a.0 in let g : s ≡ (m.fresh + 1) + h = b.0 in absurd (omega arith)
fresh_stamps-once m n k h s (inr a) (inr b) = a.1 ∙ sym b.1

pub fresh_stamps-between : (m : Memory) (n k s : ℕ) → FreshStamp m n k s → (m.fresh ≤ s) × (s < (m.fresh + 1) + n)
fresh_stamps-between m n k s (inl a) = let e : s ≡ (m.fresh + 1) + k = a.0 in let w : k < n = a.1 in (omega arith, omega arith)
fresh_stamps-between m n k s (inr a) = let e : s ≡ m.fresh = a.0 in (omega arith, omega arith)

-- what stands keeps standing when a container is made
pub made-at : (form : Form) (room : ℕ) (xs : List (ℤ × ℤ)) (m : Memory) (j k s : ℕ) → IsAt m j k s → IsAt (made form room xs m) j k s
made-at form room xs m j k s h = record {
  cont = h.cont;
  there = get_left m.conts (fresh_cont form room xs m ∷ []) j (get_within m.conts j h.cont h.there) ∙ h.there;
  stands = h.stands;
}

-- the new container is there
pub made-there : (form : Form) (room : ℕ) (xs : List (ℤ × ℤ)) (m : Memory)
    → slice_get (made form room xs m).conts (length m.conts) ≡ Some (fresh_cont form room xs m)
made-there form room xs m = get_right m.conts (fresh_cont form room xs m ∷ []) (length m.conts) (omega arith)
    ∙ ap (slice_get (fresh_cont form room xs m ∷ [])) (none_left (length m.conts))
  where
    none_left : (n : ℕ) → n - n ≡ 0
    none_left n = omega arith

-- nothing is dropped when a container is made
pub made-killer : (form : Form) (room : ℕ) (xs : List (ℤ × ℤ)) (m : Memory) (s : ℕ) → killer (made form room xs m) s ≡ killer m s
made-killer form room xs m s = refl

module _ (form : Form) (room : ℕ) (xs : List (ℤ × ℤ)) (m : Memory) (sound : IsSound m) where
  -- the new stamps and refers
  stamps_distinct : IsDistinct (stamps (fresh_cont form room xs m))
  stamps_distinct k h s a b = fresh_stamps-once m (length xs) k h s (fresh_stamps form room xs m k s a) (fresh_stamps form room xs m h s b)

  stamps_between : (k s : ℕ) → slice_get (stamps (fresh_cont form room xs m)) k ≡ Some s → (m.fresh ≤ s) × (s < (m.fresh + 1) + length xs)
  stamps_between k s a = fresh_stamps-between m (length xs) k s (fresh_stamps form room xs m k s a)

  refers_distinct : IsDistinct (refers (fresh_cont form room xs m))
  refers_distinct k h s a b =
      let e : s ≡ (m.fresh + 1) + k = (new_refers (m.fresh + 1) xs k s a).0 in
      let g : s ≡ (m.fresh + 1) + h = (new_refers (m.fresh + 1) xs h s b).0 in
      omega arith

  refers_between : (k s : ℕ) → slice_get (refers (fresh_cont form room xs m)) k ≡ Some s → (m.fresh ≤ s) × (s < (m.fresh + 1) + length xs)
  refers_between k s a =
      let r = new_refers (m.fresh + 1) xs k s a in
      let e : s ≡ (m.fresh + 1) + k = r.0 in
      let w : k < length xs = r.1 in
      (omega arith, omega arith)

  -- the lists of marks afterwards
  stamp_lists : map stamps (made form room xs m).conts ≡ map stamps m.conts ++ stamps (fresh_cont form room xs m) ∷ []
  stamp_lists = map_last (λ (x : Cont). stamps x) m.conts (fresh_cont form room xs m)

  refer_lists : map refers (made form room xs m).conts ≡ map refers m.conts ++ refers (fresh_cont form room xs m) ∷ []
  refer_lists = map_last (λ (x : Cont). refers x) m.conts (fresh_cont form room xs m)

  -- a memory with a new container of not too many elements is sound
  pub made-sound : length xs ≤ ELEMENTS → IsSound (made form room xs m)
  made-sound few = record {
    stamps_apart = subst (λ l. AreKeptApart l m.graves ((m.fresh + 1) + length xs)) (sym stamp_lists)
        (added-apart (map stamps m.conts) m.graves m.fresh ((m.fresh + 1) + length xs) (stamps (fresh_cont form room xs m)) sound.stamps_apart
        stamps_distinct stamps_between (omega arith));
    refers_apart = subst (λ l. AreKeptApart l m.lost ((m.fresh + 1) + length xs)) (sym refer_lists)
        (added-apart (map refers m.conts) m.lost m.fresh ((m.fresh + 1) + length xs) (refers (fresh_cont form room xs m)) sound.refers_apart
        refers_distinct refers_between (omega arith));
    small = λ j c e. ⊎_elim
        (λ (low : j < length m.conts). sound.small j c (sym (get_left m.conts (fresh_cont form room xs m ∷ []) j low) ∙ e))
        (λ (high : length m.conts ≤ j).
        let r = last_one m.conts (fresh_cont form room xs m) c j high e in
        let q : size (fresh_cont form room xs m) ≡ size c = ap (λ (x : Cont). size x) r.1 in
        let n : size (fresh_cont form room xs m) ≡ length xs = fresh-size form room xs m in
        omega arith)
        (cases_lt j (length m.conts));
  }

  -- no mark vanishes
  pub made-none : (site : ℕ) → NoneVanishes m site (made form room xs m)
  made-none site = record {
    stamps_stand = subst (λ l. NoneVanishFrom (map stamps m.conts) site l m.graves) (sym stamp_lists)
        (added-none (map stamps m.conts) m.graves m.fresh ((m.fresh + 1) + length xs) (stamps (fresh_cont form room xs m)) sound.stamps_apart
        stamps_distinct stamps_between (omega arith) site);
    refers_stand = subst (λ l. NoneVanishFrom (map refers m.conts) site l m.lost) (sym refer_lists)
        (added-none (map refers m.conts) m.lost m.fresh ((m.fresh + 1) + length xs) (refers (fresh_cont form room xs m)) sound.refers_apart
        refers_distinct refers_between (omega arith) site);
  }

  -- it is left as a call has to leave it
  pub made-leaves : (site : ℕ) → length xs ≤ ELEMENTS → Leaves m site (made form room xs m)
  made-leaves site few = record { sound = made-sound few; none = made-none site }
