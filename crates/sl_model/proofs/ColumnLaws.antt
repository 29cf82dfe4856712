-- The marks after a change are kept apart: in one container, and in two that exchange elements.
use Rattle.std.proofs.Common.{◌≡◌, ℕ, ◌+◌, ◌<◌, ◌≤◌, Bool, false, List, Some, length, arith, ◌⊎◌, inl, inr}
use Rattle.std.specs.List.{slice_get}
use Rattle.sl_model.specs.Memory.Edits.{Source, old, written, theirs, new}
use Rattle.sl_model.proofs.Apart.{IsDistinct, AllBelow, HaveNone}
use Rattle.sl_model.proofs.Columns.{TakesOwn, TakesTheirs, IsNew, AllInside, marks_from, Entry, stays_one, renewed_one, comes_one, new_one, entry_at}

-- no place is taken twice by these sources
pub record TakenOnce (xs : List Source) : Type 0 where
  pub own : (p q k : ℕ) (a b : Source) → slice_get xs p ≡ Some a → slice_get xs q ≡ Some b → TakesOwn a k → TakesOwn b k → p ≡ q
  pub their : (p q k : ℕ) (a b : Source) → slice_get xs p ≡ Some a → slice_get xs q ≡ Some b → TakesTheirs a k → TakesTheirs b k → p ≡ q

-- a place of the container is taken by one of these sources
abbrev pub IsTaken : List Source → ℕ → Type 0
IsTaken xs k = (p : ℕ) × (x : Source) × (slice_get xs p ≡ Some x) × TakesOwn x k

-- a place of the other container is taken by one of these sources
abbrev pub IsTakenOver : List Source → ℕ → Type 0
IsTakenOver xs k = (p : ℕ) × (x : Source) × (slice_get xs p ≡ Some x) × TakesTheirs x k

-- What the marks of a container and of another one and these sources have to be: all differ and are below `fresh`, the numbers that
-- renew places and those of new elements lie above, and no place is taken twice.
pub record IsColumn (own other : List ℕ) (fresh base next limit : ℕ) (xs : List Source) : Type 0 where
  pub own_distinct : IsDistinct own
  pub own_below : AllBelow own fresh
  pub other_distinct : IsDistinct other
  pub other_below : AllBelow other fresh
  pub none : HaveNone own other
  pub base_up : fresh ≤ base
  pub next_up : base + length own ≤ next
  pub limit_up : next ≤ limit
  pub inside : AllInside (length own) (length other) xs
  pub once : TakenOnce xs
  pub news : (p : ℕ) (x : Source) → slice_get xs p ≡ Some x → IsNew x → next + p < limit

-- two sources that are new ones stand at one place where their numbers are one
same_number : (next p q s : ℕ) → s ≡ next + p → s ≡ next + q → p ≡ q
same_number next p q s a b = omega arith

module _ (renewed : ℕ → Bool) (own other : List ℕ) (fresh base next limit : ℕ) (xs : List Source)
    (is : IsColumn own other fresh base next limit xs) where
  -- the marks after the change
  abbrev column : List ℕ
  column = marks_from renewed base own other next xs

  -- a new source takes no place
  takes_none : (x : Source) (k : ℕ) → IsNew x → TakesOwn x k → ⊥
  takes_none (old i) k n t = n
  takes_none (written i z) k n t = n
  takes_none (theirs i) k n t = n
  takes_none (new a b) k n t = t

  -- where a mark that was used was before
  abbrev pub CameFrom : ℕ → Type 0
  CameFrom s = ((k : ℕ) × (slice_get own k ≡ Some s) × (renewed k ≡ false)) ⊎ ((k : ℕ) × (slice_get other k ≡ Some s) × IsTakenOver xs k)

  -- a mark that was used comes from a place that isn't renewed, or from one of the other container that is taken over
  pub column-came : (p s : ℕ) → slice_get column p ≡ Some s → s < fresh → CameFrom s
  column-came p s at used = let r = entry_at renewed base own other next xs p s is.inside at in by_entry r.0 r.1 r.2
    where
      by_entry : (x : Source) → slice_get xs p ≡ Some x → Entry renewed base own other (next + p) x s → CameFrom s
      by_entry x there (stays_one k t h r) = inl (k, h, r)
      by_entry x there (renewed_one k t w r e) = absurd (let u : fresh ≤ base = is.base_up in omega arith)
      by_entry x there (comes_one k t h) = inr (k, h, (p, x, there, t))
      by_entry x there (new_one n e) = absurd (let u : fresh ≤ base = is.base_up in let v : base + length own ≤ next = is.next_up in omega arith)

  -- each mark is below the limit
  pub column-below : (p s : ℕ) → slice_get column p ≡ Some s → s < limit
  column-below p s at = let r = entry_at renewed base own other next xs p s is.inside at in by_entry r.0 r.1 r.2
    where
      up : fresh ≤ limit
      up = let u : fresh ≤ base = is.base_up in let v : base + length own ≤ next = is.next_up in let w : next ≤ limit = is.limit_up in omega arith

      by_entry : (x : Source) → slice_get xs p ≡ Some x → Entry renewed base own other (next + p) x s → s < limit
      by_entry x there (stays_one k t h r) = let b : s < fresh = is.own_below k s h in let u : fresh ≤ limit = up in omega arith
      by_entry x there (renewed_one k t w r e) = let v : base + length own ≤ next = is.next_up in let u : next ≤ limit = is.limit_up in omega arith
      by_entry x there (comes_one k t h) = let b : s < fresh = is.other_below k s h in let u : fresh ≤ limit = up in omega arith
      by_entry x there (new_one n e) = let b : next + p < limit = is.news p x there n in omega arith

  -- no mark stands twice
  pub column-distinct : IsDistinct column
  column-distinct p q s at at' =
      let r = entry_at renewed base own other next xs p s is.inside at in
      let t = entry_at renewed base own other next xs q s is.inside at' in
      by_entries r.0 t.0 r.1 t.1 r.2 t.2
    where
      low : fresh ≤ base
      low = is.base_up

      high : base + length own ≤ next
      high = is.next_up

      own_low : (k : ℕ) → slice_get own k ≡ Some s → s < fresh
      own_low k h = is.own_below k s h

      other_low : (k : ℕ) → slice_get other k ≡ Some s → s < fresh
      other_low k h = is.other_below k s h

      by_entries : (a b : Source) → slice_get xs p ≡ Some a → slice_get xs q ≡ Some b → Entry renewed base own other (next + p) a s
          → Entry renewed base own other (next + q) b s → p ≡ q
      by_entries a b x y (stays_one k t h r) (stays_one k' t' h' r') =
          is.once.own p q k' a b x y (let e : k ≡ k' = is.own_distinct k k' s h h' in rw (← e) t) t'
      by_entries a b x y (stays_one k t h r) (renewed_one k' t' w' r' e') = absurd (let u : s < fresh = own_low k h in let l : fresh ≤ base = low in omega arith)
      by_entries a b x y (stays_one k t h r) (comes_one k' t' h') = absurd (is.none k k' s h h')
      by_entries a b x y (stays_one k t h r) (new_one n' e') = absurd (let u : s < fresh = own_low k h in let l : fresh ≤ base = low in let m : base + length own ≤ next = high in omega arith)
      by_entries a b x y (renewed_one k t w r e) (stays_one k' t' h' r') = absurd (let u : s < fresh = own_low k' h' in let l : fresh ≤ base = low in omega arith)
      by_entries a b x y (renewed_one k t w r e) (renewed_one k' t' w' r' e') =
          is.once.own p q k' a b x y (let d : k ≡ k' = omega arith in rw (← d) t) t'
      by_entries a b x y (renewed_one k t w r e) (comes_one k' t' h') = absurd (let u : s < fresh = other_low k' h' in let l : fresh ≤ base = low in omega arith)
      by_entries a b x y (renewed_one k t w r e) (new_one n' e') = absurd (let m : base + length own ≤ next = high in omega arith)
      by_entries a b x y (comes_one k t h) (stays_one k' t' h' r') = absurd (is.none k' k s h' h)
      by_entries a b x y (comes_one k t h) (renewed_one k' t' w' r' e') = absurd (let u : s < fresh = other_low k h in let l : fresh ≤ base = low in omega arith)
      by_entries a b x y (comes_one k t h) (comes_one k' t' h') =
          is.once.their p q k' a b x y (let e : k ≡ k' = is.other_distinct k k' s h h' in rw (← e) t) t'
      by_entries a b x y (comes_one k t h) (new_one n' e') = absurd (let u : s < fresh = other_low k h in let l : fresh ≤ base = low in let m : base + length own ≤ next = high in omega arith)
      by_entries a b x y (new_one n e) (stays_one k' t' h' r') = absurd (let u : s < fresh = own_low k' h' in let l : fresh ≤ base = low in let m : base + length own ≤ next = high in omega arith)
      by_entries a b x y (new_one n e) (renewed_one k' t' w' r' e') = absurd (let m : base + length own ≤ next = high in omega arith)
      by_entries a b x y (new_one n e) (comes_one k' t' h') = absurd (let u : s < fresh = other_low k' h' in let l : fresh ≤ base = low in let m : base + length own ≤ next = high in omega arith)
      by_entries a b x y (new_one n e) (new_one n' e') = same_number next p q s e e'

-- no place of a container is taken by the sources of both
abbrev pub TakenByOne : List Source → List Source → Type 0
TakenByOne xs ys = (p q k : ℕ) (a b : Source) → slice_get xs p ≡ Some a → slice_get ys q ≡ Some b → TakesOwn a k → TakesTheirs b k → ⊥

-- two containers that exchange elements have no mark in common afterwards
pub columns-apart : (renewed renewed' : ℕ → Bool) (own other : List ℕ) (fresh base base' next next' limit limit' : ℕ) (xs ys : List Source)
    → IsColumn own other fresh base next limit xs → IsColumn other own fresh base' next' limit' ys
    → TakenByOne xs ys → TakenByOne ys xs → base + length own ≤ base' → base' + length other ≤ next → limit ≤ next'
    → HaveNone (marks_from renewed base own other next xs) (marks_from renewed' base' other own next' ys)
columns-apart renewed renewed' own other fresh base base' next next' limit limit' xs ys is is' by_one by_other bases nexts limits p q s at at' =
    let r = entry_at renewed base own other next xs p s is.inside at in
    let t = entry_at renewed' base' other own next' ys q s is'.inside at' in
    by_entries r.0 t.0 r.1 t.1 r.2 t.2
  where
    low : fresh ≤ base
    low = is.base_up

    own_low : (k : ℕ) → slice_get own k ≡ Some s → s < fresh
    own_low k h = is.own_below k s h

    other_low : (k : ℕ) → slice_get other k ≡ Some s → s < fresh
    other_low k h = is.other_below k s h

    ups : next ≤ limit
    ups = is.limit_up

    by_entries : (a b : Source) → slice_get xs p ≡ Some a → slice_get ys q ≡ Some b → Entry renewed base own other (next + p) a s
        → Entry renewed' base' other own (next' + q) b s → ⊥
    by_entries a b x y (stays_one k t h r) (stays_one k' t' h' r') = is.none k k' s h h'
    by_entries a b x y (stays_one k t h r) (renewed_one k' t' w' r' e') = let u : s < fresh = own_low k h in let l : fresh ≤ base = low in omega arith
    by_entries a b x y (stays_one k t h r) (comes_one k' t' h') =
        by_one p q k' a b x y (let e : k ≡ k' = is.own_distinct k k' s h h' in rw (← e) t) t'
    by_entries a b x y (stays_one k t h r) (new_one n' e') = let u : s < fresh = own_low k h in let l : fresh ≤ base = low in let w : next ≤ limit = ups in omega arith
    by_entries a b x y (renewed_one k t w r e) (stays_one k' t' h' r') = let u : s < fresh = other_low k' h' in let l : fresh ≤ base = low in omega arith
    by_entries a b x y (renewed_one k t w r e) (renewed_one k' t' w' r' e') = omega arith
    by_entries a b x y (renewed_one k t w r e) (comes_one k' t' h') = let u : s < fresh = own_low k' h' in let l : fresh ≤ base = low in omega arith
    by_entries a b x y (renewed_one k t w r e) (new_one n' e') = let v : next ≤ limit = ups in omega arith
    by_entries a b x y (comes_one k t h) (stays_one k' t' h' r') =
        by_other q p k b a y x (let e : k ≡ k' = is.other_distinct k k' s h h' in rw e t') t
    by_entries a b x y (comes_one k t h) (renewed_one k' t' w' r' e') = let u : s < fresh = other_low k h in let l : fresh ≤ base = low in omega arith
    by_entries a b x y (comes_one k t h) (comes_one k' t' h') = is.none k' k s h' h
    by_entries a b x y (comes_one k t h) (new_one n' e') = let u : s < fresh = other_low k h in let l : fresh ≤ base = low in let w : next ≤ limit = ups in omega arith
    by_entries a b x y (new_one n e) (stays_one k' t' h' r') = let u : s < fresh = other_low k' h' in let l : fresh ≤ base = low in omega arith
    by_entries a b x y (new_one n e) (renewed_one k' t' w' r' e') = omega arith
    by_entries a b x y (new_one n e) (comes_one k' t' h') = let u : s < fresh = own_low k' h' in let l : fresh ≤ base = low in omega arith
    by_entries a b x y (new_one n e) (new_one n' e') = let v : next + p < limit = is.news p a x n in omega arith
