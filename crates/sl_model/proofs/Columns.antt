-- The marks of a container after a change as a list of numbers: stamps with the end behind them, or refers. Each comes from a
-- place of the container, from a place of the other one, or is a new number.
use Rattle.std.proofs.Common.{◌≡◌, ℕ, zero, suc, ◌+◌, ◌<◌, Bool, true, false, List, [], ◌∷◌, ◌++◌, Option, Some, None, length, map, refl, ap, sym, ◌∙◌}
use Rattle.std.proofs.Common.{arith, if◌then◌else◌, pos}
use Rattle.std.specs.List.{slice_get}
use Rattle.std.proofs.lemmas.List.{length-map}
use Rattle.sl_model.specs.Memory.Containers.{Cell, Cont, size, stamps, refers}
use Rattle.sl_model.specs.Memory.Edits.{Source, old, written, theirs, new, Change, mark_after, stayed, from_source, from_sources, rebuilt}
use Rattle.sl_model.proofs.Getting.{get_left, get_behind, get_within, get_some, get_map}

-- a source takes place k of the container itself
abbrev pub TakesOwn : Source → ℕ → Type 0
TakesOwn (old i) k = i ≡ k
TakesOwn (written i z) k = i ≡ k
TakesOwn (theirs i) k = ⊥
TakesOwn (new x y) k = ⊥

-- a source takes place k of the other container
abbrev pub TakesTheirs : Source → ℕ → Type 0
TakesTheirs (old i) k = ⊥
TakesTheirs (written i z) k = ⊥
TakesTheirs (theirs i) k = i ≡ k
TakesTheirs (new x y) k = ⊥

-- a source takes no place
abbrev pub IsNew : Source → Type 0
IsNew (old i) = ⊥
IsNew (written i z) = ⊥
IsNew (theirs i) = ⊥
IsNew (new x y) = Unit {0}

-- the places that a source takes are there, in containers of n and n' places
abbrev pub IsInside : ℕ → ℕ → Source → Type 0
IsInside n n' (old i) = i < n
IsInside n n' (written i z) = i < n
IsInside n n' (theirs i) = i < n'
IsInside n n' (new x y) = Unit {0}

-- so it is of each of these sources
abbrev pub AllInside : ℕ → ℕ → List Source → Type 0
AllInside n n' [] = Unit {0}
AllInside n n' (x ∷ xs) = IsInside n n' x × AllInside n n' xs

-- a mark of a place after a change, `next` where there is none
abbrev pub mark_of_place : (ℕ → Bool) → ℕ → List ℕ → ℕ → ℕ → ℕ
mark_of_place renewed base own next k = elim (slice_get own k) [ None ↦ next | Some s ↦ mark_after renewed base k s ]

-- a mark of a place of the other container
abbrev pub mark_of_other : List ℕ → ℕ → ℕ → ℕ
mark_of_other other next k = elim (slice_get other k) [ None ↦ next | Some s ↦ s ]

-- the mark that comes from a source
abbrev pub mark_from : (ℕ → Bool) → ℕ → List ℕ → List ℕ → ℕ → Source → ℕ
mark_from renewed base own other next (old k) = mark_of_place renewed base own next k
mark_from renewed base own other next (written k z) = mark_of_place renewed base own next k
mark_from renewed base own other next (theirs k) = mark_of_other other next k
mark_from renewed base own other next (new x y) = next

-- the marks that come from these sources
abbrev pub marks_from : (ℕ → Bool) → ℕ → List ℕ → List ℕ → ℕ → List Source → List ℕ
marks_from renewed base own other next [] = []
marks_from renewed base own other next (x ∷ xs) = mark_from renewed base own other next x ∷ marks_from renewed base own other (next + 1) xs

-- as many marks come as there are sources
pub marks-length : (renewed : ℕ → Bool) (base : ℕ) (own other : List ℕ) (next : ℕ) (xs : List Source)
    → length (marks_from renewed base own other next xs) ≡ length xs
marks-length renewed base own other next [] = refl
marks-length renewed base own other next (x ∷ xs) = ap suc (marks-length renewed base own other (next + 1) xs)

-- where a mark that stands at place p after a change comes from
pub data Entry (renewed : ℕ → Bool) (base : ℕ) (own other : List ℕ) (number : ℕ) (x : Source) (s : ℕ) : Type 0 where
  stays_one : (k : ℕ) → TakesOwn x k → slice_get own k ≡ Some s → renewed k ≡ false → Entry renewed base own other number x s
  renewed_one : (k : ℕ) → TakesOwn x k → k < length own → renewed k ≡ true → s ≡ base + k → Entry renewed base own other number x s
  comes_one : (k : ℕ) → TakesTheirs x k → slice_get other k ≡ Some s → Entry renewed base own other number x s
  new_one : IsNew x → s ≡ number → Entry renewed base own other number x s

-- a place of the container gives its mark, or a new one where it is renewed
entry_of_place : (renewed : ℕ → Bool) (base : ℕ) (own other : List ℕ) (number : ℕ) (x : Source) (k s : ℕ) → TakesOwn x k → k < length own
    → mark_of_place renewed base own number k ≡ s → Entry renewed base own other number x s
entry_of_place renewed base own other number x k s takes inside h = by_mark (get_some own k inside)
  where
    by_renewed : (t : ℕ) (b : Bool) → slice_get own k ≡ Some t → renewed k ≡ b → (if b then base + k else t) ≡ s
        → Entry renewed base own other number x s
    by_renewed t true at r e = renewed_one k takes inside r (sym e)
    by_renewed t false at r e = stays_one k takes (at ∙ ap (λ n. Some n) e) r

    by_mark : (t : ℕ) × (slice_get own k ≡ Some t) → Entry renewed base own other number x s
    by_mark r = by_renewed r.0 (renewed k) r.1 refl
        (sym (ap (λ (o : Option ℕ). elim o as (λ _. ℕ) [ None ↦ number | Some t ↦ mark_after renewed base k t ]) r.1) ∙ h)

-- a place of the other container gives its mark
entry_of_other : (renewed : ℕ → Bool) (base : ℕ) (own other : List ℕ) (number k s : ℕ) → k < length other
    → mark_of_other other number k ≡ s → Entry renewed base own other number (theirs k) s
entry_of_other renewed base own other number k s inside h = by_mark (get_some other k inside)
  where
    by_mark : (t : ℕ) × (slice_get other k ≡ Some t) → Entry renewed base own other number (theirs k) s
    by_mark r =
        let e : mark_of_other other number k ≡ r.0 = ap (λ (o : Option ℕ). elim o as (λ _. ℕ) [ None ↦ number | Some t ↦ t ]) r.1 in
        comes_one k refl (r.1 ∙ ap (λ n. Some n) (sym e ∙ h))

-- what a source gives comes from where it says
entry_of : (renewed : ℕ → Bool) (base : ℕ) (own other : List ℕ) (number : ℕ) (x : Source) (s : ℕ) → IsInside (length own) (length other) x
    → mark_from renewed base own other number x ≡ s → Entry renewed base own other number x s
entry_of renewed base own other number (old k) s inside h = entry_of_place renewed base own other number (old k) k s refl inside h
entry_of renewed base own other number (written k z) s inside h = entry_of_place renewed base own other number (written k z) k s refl inside h
entry_of renewed base own other number (theirs k) s inside h = entry_of_other renewed base own other number k s inside h
entry_of renewed base own other number (new x y) s inside h = new_one tt (sym h)

-- where the mark at place p comes from
pub entry_at : (renewed : ℕ → Bool) (base : ℕ) (own other : List ℕ) (next : ℕ) (xs : List Source) (p s : ℕ)
    → AllInside (length own) (length other) xs → slice_get (marks_from renewed base own other next xs) p ≡ Some s
    → (x : Source) × (slice_get xs p ≡ Some x) × Entry renewed base own other (next + p) x s
entry_at renewed base own other next [] p s inside h = absurd (cc)
entry_at renewed base own other next (x ∷ xs) zero s inside h =
    let e : mark_from renewed base own other next x ≡ s = cc in
    let n : next + 0 ≡ next = omega arith in
    (x, refl, entry_of renewed base own other (next + 0) x s inside.0 (ap (λ i. mark_from renewed base own other i x) n ∙ e))
entry_at renewed base own other next (x ∷ xs) (suc p) s inside h =
    let r = entry_at renewed base own other (next + 1) xs p s inside.1 h in
    let n : (next + 1) + p ≡ next + suc p = omega arith in
    (r.0, r.1, numbered r.0 n r.2)
  where
    numbered : (y : Source) {a b : ℕ} → a ≡ b → Entry renewed base own other a y s → Entry renewed base own other b y s
    numbered y {a} {b} e entry = rw (← e) entry

-- a place that is taken and not renewed gives its mark to the place that takes it
pub stays_at : (renewed : ℕ → Bool) (base : ℕ) (own other : List ℕ) (next : ℕ) (xs : List Source) (p k s : ℕ) (x : Source)
    → slice_get xs p ≡ Some x → TakesOwn x k → slice_get own k ≡ Some s → renewed k ≡ false
    → slice_get (marks_from renewed base own other next xs) p ≡ Some s
stays_at renewed base own other next [] p k s x at takes there r = absurd (cc)
stays_at renewed base own other next (y ∷ xs) zero k s x at takes there r =
    let e : y ≡ x = cc in
    ap (λ z. Some (mark_from renewed base own other next z)) e ∙ ap (λ n. Some n) (by_source x takes)
  where
    of_place : (i : ℕ) → i ≡ k → mark_of_place renewed base own next i ≡ s
    of_place i e =
        ap (mark_of_place renewed base own next) e
        ∙ (ap (λ (o : Option ℕ). elim o as (λ _. ℕ) [ None ↦ next | Some t ↦ mark_after renewed base k t ]) there
        ∙ ap (λ (b : Bool). if b then base + k else s) r)

    by_source : (z : Source) → TakesOwn z k → mark_from renewed base own other next z ≡ s
    by_source (old i) e = of_place i e
    by_source (written i z) e = of_place i e
    by_source (theirs i) e = absurd e
    by_source (new a b) e = absurd e
stays_at renewed base own other next (y ∷ xs) (suc p) k s x at takes there r =
    stays_at renewed base own other (next + 1) xs p k s x at takes there r

-- a place of the other container gives its mark to the place that takes it
pub comes_at : (renewed : ℕ → Bool) (base : ℕ) (own other : List ℕ) (next : ℕ) (xs : List Source) (p k s : ℕ) (x : Source)
    → slice_get xs p ≡ Some x → TakesTheirs x k → slice_get other k ≡ Some s
    → slice_get (marks_from renewed base own other next xs) p ≡ Some s
comes_at renewed base own other next [] p k s x at takes there = absurd (cc)
comes_at renewed base own other next (y ∷ xs) zero k s x at takes there =
    let e : y ≡ x = cc in
    ap (λ z. Some (mark_from renewed base own other next z)) e ∙ ap (λ n. Some n) (by_source x takes)
  where
    by_source : (z : Source) → TakesTheirs z k → mark_from renewed base own other next z ≡ s
    by_source (old i) e = absurd e
    by_source (written i z) e = absurd e
    by_source (theirs i) e =
        ap (mark_of_other other next) e ∙ ap (λ (o : Option ℕ). elim o as (λ _. ℕ) [ None ↦ next | Some t ↦ t ]) there
    by_source (new a b) e = absurd e
comes_at renewed base own other next (y ∷ xs) (suc p) k s x at takes there = comes_at renewed base own other (next + 1) xs p k s x at takes there

-- ## The columns of a container after a change

-- the stamp at the place of an element
pub stamp_there : (c : Cont) (k : ℕ) (x : Cell) → slice_get c.cells k ≡ Some x → slice_get (stamps c) k ≡ Some x.stamp
stamp_there c k x at =
    let within : k < length c.cells = get_within c.cells k x at in
    let l : length (map (λ (y : Cell). y.stamp) c.cells) ≡ length c.cells = length-map c.cells (λ (y : Cell). y.stamp) in
    get_left (map (λ (y : Cell). y.stamp) c.cells) (c.end ∷ []) k (omega arith) ∙ get_map (λ (y : Cell). y.stamp) c.cells k x at

-- the stamp at the end
pub stamp_of_end : (c : Cont) → slice_get (stamps c) (size c) ≡ Some c.end
stamp_of_end c =
    ap (slice_get (stamps c)) (by_end c.cells)
    ∙ get_behind (map (λ (y : Cell). y.stamp) c.cells) (c.end ∷ []) 0
  where
    by_end : (xs : List Cell) → length xs ≡ length (map (λ (y : Cell). y.stamp) xs) + 0
    by_end [] = refl
    by_end (y ∷ xs) = let e : length xs ≡ length (map (λ (y : Cell). y.stamp) xs) + 0 = by_end xs in omega arith

-- there is a stamp more than there are elements
pub stamps-length : (c : Cont) → length (stamps c) ≡ size c + 1
stamps-length c = by_cells c.cells
  where
    by_cells : (xs : List Cell) → length (map (λ (y : Cell). y.stamp) xs ++ c.end ∷ []) ≡ length xs + 1
    by_cells [] = refl
    by_cells (y ∷ xs) = let e : length (map (λ (z : Cell). z.stamp) xs ++ c.end ∷ []) ≡ length xs + 1 = by_cells xs in omega arith

-- there are as many refers as elements
pub refers-length : (c : Cont) → length (refers c) ≡ size c
refers-length c = length-map c.cells (λ (y : Cell). y.refer)

module _ (ch : Change) (base : ℕ) (own other : Cont) where
  -- the stamp of the element that comes from an old place
  stamp_stayed : (missing : Cell) (k : ℕ) → k < size own
      → (stayed ch base own missing k).stamp ≡ mark_of_place ch.kill base (stamps own) missing.stamp k
  stamp_stayed missing k inside = by_cell (get_some own.cells k inside)
    where
      by_cell : (x : Cell) × (slice_get own.cells k ≡ Some x)
          → (stayed ch base own missing k).stamp ≡ mark_of_place ch.kill base (stamps own) missing.stamp k
      by_cell r =
          ap (λ (o : Option Cell). (elim o as (λ _. Cell) [
            | None ↦ missing
            | Some x ↦ record x {
              stamp = mark_after ch.kill base k x.stamp;
              refer = mark_after ch.lose base k x.refer;
            }
          ]).stamp) r.1
          ∙ sym (ap (λ (o : Option ℕ). elim o as (λ _. ℕ) [ None ↦ missing.stamp | Some s ↦ mark_after ch.kill base k s ])
          (stamp_there own k r.0 r.1))

  -- its refer
  refer_stayed : (missing : Cell) (k : ℕ) → k < size own
      → (stayed ch base own missing k).refer ≡ mark_of_place ch.lose base (refers own) missing.refer k
  refer_stayed missing k inside = by_cell (get_some own.cells k inside)
    where
      by_cell : (x : Cell) × (slice_get own.cells k ≡ Some x)
          → (stayed ch base own missing k).refer ≡ mark_of_place ch.lose base (refers own) missing.refer k
      by_cell r =
          ap (λ (o : Option Cell). (elim o as (λ _. Cell) [
            | None ↦ missing
            | Some x ↦ record x {
              stamp = mark_after ch.kill base k x.stamp;
              refer = mark_after ch.lose base k x.refer;
            }
          ]).refer) r.1
          ∙ sym (ap (λ (o : Option ℕ). elim o as (λ _. ℕ) [ None ↦ missing.refer | Some s ↦ mark_after ch.lose base k s ])
          (get_map (λ (y : Cell). y.refer) own.cells k r.0 r.1))

  -- the element that comes from the other container, its stamp
  stamp_theirs : (missing : Cell) (k : ℕ) → k < size other
      → (from_source ch base own other missing (theirs k)).stamp ≡ mark_of_other (stamps other) missing.stamp k
  stamp_theirs missing k inside = by_cell (get_some other.cells k inside)
    where
      by_cell : (x : Cell) × (slice_get other.cells k ≡ Some x)
          → (from_source ch base own other missing (theirs k)).stamp ≡ mark_of_other (stamps other) missing.stamp k
      by_cell r =
          ap (λ (o : Option Cell). (elim o as (λ _. Cell) [ None ↦ missing | Some x ↦ x ]).stamp) r.1
          ∙ sym (ap (λ (o : Option ℕ). elim o as (λ _. ℕ) [ None ↦ missing.stamp | Some s ↦ s ]) (stamp_there other k r.0 r.1))

  -- and its refer
  refer_theirs : (missing : Cell) (k : ℕ) → k < size other
      → (from_source ch base own other missing (theirs k)).refer ≡ mark_of_other (refers other) missing.refer k
  refer_theirs missing k inside = by_cell (get_some other.cells k inside)
    where
      by_cell : (x : Cell) × (slice_get other.cells k ≡ Some x)
          → (from_source ch base own other missing (theirs k)).refer ≡ mark_of_other (refers other) missing.refer k
      by_cell r =
          ap (λ (o : Option Cell). (elim o as (λ _. Cell) [ None ↦ missing | Some x ↦ x ]).refer) r.1
          ∙ sym (ap (λ (o : Option ℕ). elim o as (λ _. ℕ) [ None ↦ missing.refer | Some s ↦ s ])
          (get_map (λ (y : Cell). y.refer) other.cells k r.0 r.1))

  -- the stamp that comes from a source
  stamp_from : (missing : Cell) (x : Source) → IsInside (size own) (size other) x
      → (from_source ch base own other missing x).stamp ≡ mark_from ch.kill base (stamps own) (stamps other) missing.stamp x
  stamp_from missing (old k) inside = stamp_stayed missing k inside
  stamp_from missing (written k z) inside = stamp_stayed missing k inside
  stamp_from missing (theirs k) inside = stamp_theirs missing k inside
  stamp_from missing (new x y) inside = refl

  -- the refer that comes from a source
  refer_from : (missing : Cell) (x : Source) → IsInside (size own) (size other) x
      → (from_source ch base own other missing x).refer ≡ mark_from ch.lose base (refers own) (refers other) missing.refer x
  refer_from missing (old k) inside = refer_stayed missing k inside
  refer_from missing (written k z) inside = refer_stayed missing k inside
  refer_from missing (theirs k) inside = refer_theirs missing k inside
  refer_from missing (new x y) inside = refl

  -- two lists of numbers are equal where their parts are
  same_list : (a b : ℕ) (xs ys : List ℕ) → a ≡ b → xs ≡ ys → a ∷ xs ≡ b ∷ ys
  same_list a b xs ys p q = ap (λ n. n ∷ xs) p ∙ ap (λ l. b ∷ l) q

  -- the stamps of the elements that come from these sources, and of the end behind them
  stamps_from : (next : ℕ) (xs : List Source) → AllInside (size own) (size other) xs
      → map (λ (y : Cell). y.stamp) (from_sources ch base own other next xs) ++ mark_after ch.kill base (size own) own.end ∷ []
      ≡ marks_from ch.kill base (stamps own) (stamps other) next (xs ++ old (size own) ∷ [])
  stamps_from next [] inside =
      same_list (mark_after ch.kill base (size own) own.end) (mark_of_place ch.kill base (stamps own) next (size own)) [] []
      (sym (ap (λ (o : Option ℕ). elim o as (λ _. ℕ) [ None ↦ next | Some s ↦ mark_after ch.kill base (size own) s ]) (stamp_of_end own))) refl
  stamps_from next (x ∷ xs) inside =
      same_list (from_source ch base own other (record { stamp = next; refer = next; key = pos 0; value = pos 0 }) x).stamp
      (mark_from ch.kill base (stamps own) (stamps other) next x)
      (map (λ (y : Cell). y.stamp) (from_sources ch base own other (next + 1) xs) ++ mark_after ch.kill base (size own) own.end ∷ [])
      (marks_from ch.kill base (stamps own) (stamps other) (next + 1) (xs ++ old (size own) ∷ []))
      (stamp_from (record { stamp = next; refer = next; key = pos 0; value = pos 0 }) x inside.0) (stamps_from (next + 1) xs inside.1)

  -- the refers of the elements that come from these sources
  refers_from : (next : ℕ) (xs : List Source) → AllInside (size own) (size other) xs
      → map (λ (y : Cell). y.refer) (from_sources ch base own other next xs)
      ≡ marks_from ch.lose base (refers own) (refers other) next xs
  refers_from next [] inside = refl
  refers_from next (x ∷ xs) inside =
      same_list (from_source ch base own other (record { stamp = next; refer = next; key = pos 0; value = pos 0 }) x).refer
      (mark_from ch.lose base (refers own) (refers other) next x)
      (map (λ (y : Cell). y.refer) (from_sources ch base own other (next + 1) xs))
      (marks_from ch.lose base (refers own) (refers other) (next + 1) xs)
      (refer_from (record { stamp = next; refer = next; key = pos 0; value = pos 0 }) x inside.0) (refers_from (next + 1) xs inside.1)

  -- the stamps after a change
  pub rebuilt-stamps : (next : ℕ) → AllInside (size own) (size other) ch.sources
      → stamps (rebuilt base next ch own other) ≡ marks_from ch.kill base (stamps own) (stamps other) next (ch.sources ++ old (size own) ∷ [])
  rebuilt-stamps next inside = stamps_from next ch.sources inside

  -- the refers after a change
  pub rebuilt-refers : (next : ℕ) → AllInside (size own) (size other) ch.sources
      → refers (rebuilt base next ch own other) ≡ marks_from ch.lose base (refers own) (refers other) next ch.sources
  rebuilt-refers next inside = refers_from next ch.sources inside

  -- as many elements come as there are sources
  pub rebuilt-size : (next : ℕ) → size (rebuilt base next ch own other) ≡ length ch.sources
  rebuilt-size next = by_sources next ch.sources
    where
      by_sources : (next : ℕ) (xs : List Source) → length (from_sources ch base own other next xs) ≡ length xs
      by_sources next [] = refl
      by_sources next (x ∷ xs) = ap suc (by_sources (next + 1) xs)
