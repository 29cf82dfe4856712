-- Where the marks of elements stand after a change: at the places that the elements go to, in their container or in the other one.
use Rattle.std.proofs.Common.{◌≡◌, ◌≢◌, ℕ, zero, suc, ◌+◌, ◌<◌, ◌≤◌, Bool, true, false, List, [], ◌∷◌, Option, Some, None, length, refl}
use Rattle.std.proofs.Common.{ap, sym, ◌∙◌, arith, ◌⊎◌, inl, inr, ⊎_elim, pos, if◌then◌else◌}
use Rattle.std.specs.List.{slice_get, slice_set}
use Rattle.std.proofs.lemmas.Bool.{cases_eq, cases_lt, both_ways}
use Rattle.sl_model.specs.Memory.Containers.{Cell, Cont, Memory, size, stamps, refers}
use Rattle.sl_model.specs.Memory.Edits.{Source, old, written, theirs, new, Change, mark_after, stayed, from_source, from_sources, rebuilt, changed}
use Rattle.sl_model.specs.Memory.Edits.{next_of_two, after, after_two}
use Rattle.sl_model.specs.Memory.Origins.{ComesFrom, ComesOver, TakesNoneOver}
use Rattle.sl_model.specs.Runs.Good.{IsAt, RefersTo, IsSound}
use Rattle.sl_model.proofs.Getting.{get_within, get_some, get_map, got_map, get_set_same, get_set_other}
use Rattle.sl_model.proofs.Located.{at_stands, refers_stands}
use Rattle.sl_model.proofs.After.{get-after-own, get-after-other}
use Rattle.sl_model.proofs.Columns.{stamp_of_end, stamp_there, stamps-length}

-- ## Elements and their marks

-- the element at the place of a stamp
pub stamp-cell : (c : Cont) (k s : ℕ) → slice_get (stamps c) k ≡ Some s → k < size c → (x : Cell) × (slice_get c.cells k ≡ Some x) × (x.stamp ≡ s)
stamp-cell c k s at within =
    let r = get_some c.cells k within in
    let e : Some r.0.stamp ≡ Some s = sym (stamp_there c k r.0 r.1) ∙ at in
    (r.0, r.1, (cc))

-- a stamp stands at an element or at the end
pub element_or_end : (c : Cont) (k s : ℕ) → slice_get (stamps c) k ≡ Some s → (k < size c) ⊎ ((k ≡ size c) × (c.end ≡ s))
element_or_end c k s at = by_place (cases_lt k (size c))
  where
    count : length (stamps c) ≡ size c + 1
    count = stamps-length c

    by_place : (k < size c) ⊎ (size c ≤ k) → (k < size c) ⊎ ((k ≡ size c) × (c.end ≡ s))
    by_place (inl low) = inl low
    by_place (inr high) =
        let w : k < length (stamps c) = get_within (stamps c) k s at in
        let l : length (stamps c) ≡ size c + 1 = count in
        let e : size c ≡ k = omega arith in
        let q : Some c.end ≡ Some s = sym (stamp_of_end c) ∙ (ap (slice_get (stamps c)) e ∙ at) in
        inr (sym e, (cc))

-- what stands in the container that is there, stands in it
pub in_cont : (m : Memory) (j k s : ℕ) (c : Cont) → slice_get m.conts j ≡ Some c → IsAt m j k s → slice_get (stamps c) k ≡ Some s
in_cont m j k s c there at =
    let e : Some at.cont ≡ Some c = sym at.there ∙ there in
    let q : at.cont ≡ c = cc in
    ap (λ (d : Cont). slice_get (stamps d) k) (sym q) ∙ at.stands

-- and what is referred to
pub refer_in_cont : (m : Memory) (j k r : ℕ) (c : Cont) → slice_get m.conts j ≡ Some c → RefersTo m j k r → slice_get (refers c) k ≡ Some r
refer_in_cont m j k r c there at =
    let e : Some at.cont ≡ Some c = sym at.there ∙ there in
    let q : at.cont ≡ c = cc in
    ap (λ (d : Cont). slice_get (refers d) k) (sym q) ∙ at.stands

-- the element at the place of a refer
pub refer-cell : (c : Cont) (k r : ℕ) → slice_get (refers c) k ≡ Some r → (x : Cell) × (slice_get c.cells k ≡ Some x) × (x.refer ≡ r)
refer-cell c k r at = got_map (λ (x : Cell). x.refer) c.cells k r at

-- ## Elements and their sources

-- an element that nothing is known of but its marks
abbrev pub blank : ℕ → Cell
blank next = record { stamp = next; refer = next; key = pos 0; value = pos 0 }

-- the element that comes from the source at a place
pub sources-get : (ch : Change) (base : ℕ) (own other : Cont) (next : ℕ) (xs : List Source) (p : ℕ) (x : Source) → slice_get xs p ≡ Some x
    → slice_get (from_sources ch base own other next xs) p ≡ Some (from_source ch base own other (blank (next + p)) x)
sources-get ch base own other next [] p x h = absurd (cc)
sources-get ch base own other next (y ∷ xs) zero x h =
    let e : y ≡ x = cc in
    let n : next ≡ next + 0 = omega arith in
    ap (λ z. Some (from_source ch base own other (blank next) z)) e ∙ ap (λ i. Some (from_source ch base own other (blank i) x)) n
sources-get ch base own other next (y ∷ xs) (suc p) x h =
    let n : (next + 1) + p ≡ next + suc p = omega arith in
    sources-get ch base own other (next + 1) xs p x h ∙ ap (λ i. Some (from_source ch base own other (blank i) x)) n

-- the source from which the element at a place comes
pub sources-got : (ch : Change) (base : ℕ) (own other : Cont) (next : ℕ) (xs : List Source) (p : ℕ) (y : Cell)
    → slice_get (from_sources ch base own other next xs) p ≡ Some y
    → (x : Source) × (slice_get xs p ≡ Some x) × (from_source ch base own other (blank (next + p)) x ≡ y)
sources-got ch base own other next [] p y h = absurd (cc)
sources-got ch base own other next (x ∷ xs) zero y h =
    let n : next + 0 ≡ next = omega arith in
    let e : from_source ch base own other (blank next) x ≡ y = cc in
    (x, refl, ap (λ i. from_source ch base own other (blank i) x) n ∙ e)
sources-got ch base own other next (x ∷ xs) (suc p) y h =
    let r = sources-got ch base own other (next + 1) xs p y h in
    let n : next + suc p ≡ (next + 1) + p = omega arith in
    (r.0, r.1, ap (λ i. from_source ch base own other (blank i) r.0) n ∙ r.2)

-- the marks of an element that stays
pub stayed-marks : (ch : Change) (base : ℕ) (c : Cont) (missing : Cell) (k : ℕ) (y : Cell) → slice_get c.cells k ≡ Some y
    → ((stayed ch base c missing k).stamp ≡ mark_after ch.kill base k y.stamp)
    × ((stayed ch base c missing k).refer ≡ mark_after ch.lose base k y.refer)
stayed-marks ch base c missing k y at = (
  ap (λ (o : Option Cell). (elim o as (λ _. Cell) [
    | None ↦ missing
    | Some x ↦ record x { stamp = mark_after ch.kill base k x.stamp; refer = mark_after ch.lose base k x.refer }
  ]).stamp) at,
  ap (λ (o : Option Cell). (elim o as (λ _. Cell) [
    | None ↦ missing
    | Some x ↦ record x { stamp = mark_after ch.kill base k x.stamp; refer = mark_after ch.lose base k x.refer }
  ]).refer) at,
)

-- a place that isn't renewed keeps its mark
kept-mark : (renewed : ℕ → Bool) (base k mark : ℕ) → renewed k ≡ false → mark_after renewed base k mark ≡ mark
kept-mark renewed base k mark e = ap (λ (b : Bool). if b then base + k else mark) e

module _ (ch : Change) (base next : ℕ) (own other : Cont) where
  -- the container afterwards
  abbrev later : Cont
  later = rebuilt base next ch own other

  -- the element that comes from an own place, and its marks
  from_own : (h k : ℕ) (y : Cell) → ComesFrom ch h k → slice_get own.cells k ≡ Some y
      → (z : Cell) × (slice_get later.cells h ≡ Some z)
      × (z.stamp ≡ mark_after ch.kill base k y.stamp) × (z.refer ≡ mark_after ch.lose base k y.refer)
  from_own h k y (inl at) there =
      let r = stayed-marks ch base own (blank (next + h)) k y there in
      (stayed ch base own (blank (next + h)) k, sources-get ch base own other next ch.sources h (old k) at, r.0, r.1)
  from_own h k y (inr w) there =
      let r = stayed-marks ch base own (blank (next + h)) k y there in (
        from_source ch base own other (blank (next + h)) (written k w.0),
        sources-get ch base own other next ch.sources h (written k w.0) w.1,
        r.0,
        r.1,
      )

  -- an iterator goes with its element
  pub iterator-stays : (h k s : ℕ) → ComesFrom ch h k → k < size own → ch.kill k ≡ false → slice_get (stamps own) k ≡ Some s
      → slice_get (stamps later) h ≡ Some s
  iterator-stays h k s from within lives at =
      let y = stamp-cell own k s at within in
      let z = from_own h k y.0 from y.1 in
      stamp_there later h z.0 z.1 ∙ ap (λ n. Some n) (z.2 ∙ (kept-mark ch.kill base k y.0.stamp lives ∙ y.2))

  -- so does a reference
  pub reference-stays : (h k r : ℕ) → ComesFrom ch h k → ch.lose k ≡ false → slice_get (refers own) k ≡ Some r
      → slice_get (refers later) h ≡ Some r
  reference-stays h k r from lives at =
      let y = refer-cell own k r at in
      let z = from_own h k y.0 from y.1 in
      get_map (λ (x : Cell). x.refer) later.cells h z.0 z.1 ∙ ap (λ n. Some n) (z.3 ∙ (kept-mark ch.lose base k y.0.refer lives ∙ y.2))

  -- and the iterator at the end stays at the end
  pub end-stays : (s : ℕ) → ch.kill (size own) ≡ false → slice_get (stamps own) (size own) ≡ Some s
      → slice_get (stamps later) (size later) ≡ Some s
  end-stays s lives at =
      let e : Some own.end ≡ Some s = sym (stamp_of_end own) ∙ at in
      let q : own.end ≡ s = cc in
      stamp_of_end later ∙ ap (λ n. Some n) (kept-mark ch.kill base (size own) own.end lives ∙ q)

  -- the element that comes over is the one that it was
  from_other : (h k : ℕ) (y : Cell) → ComesOver ch h k → slice_get other.cells k ≡ Some y → slice_get later.cells h ≡ Some y
  from_other h k y at there =
      sources-get ch base own other next ch.sources h (theirs k) at
      ∙ ap (λ (o : Option Cell). Some (elim o as (λ _. Cell) [ None ↦ blank (next + h) | Some x ↦ x ])) there

  -- an iterator goes over with its element
  pub iterator-comes : (h k s : ℕ) → ComesOver ch h k → k < size other → slice_get (stamps other) k ≡ Some s → slice_get (stamps later) h ≡ Some s
  iterator-comes h k s from within at =
      let y = stamp-cell other k s at within in
      stamp_there later h y.0 (from_other h k y.0 from y.1) ∙ ap (λ n. Some n) y.2

  -- so does a reference
  pub reference-comes : (h k r : ℕ) → ComesOver ch h k → slice_get (refers other) k ≡ Some r → slice_get (refers later) h ≡ Some r
  reference-comes h k r from at =
      let y = refer-cell other k r at in
      get_map (λ (x : Cell). x.refer) later.cells h y.0 (from_other h k y.0 from y.1) ∙ ap (λ n. Some n) y.2

-- ## Marks that were used before

module _ (ch : Change) (fresh : ℕ) (c : Cont) (none : TakesNoneOver ch) where
  -- a mark that was used, where the place is not renewed
  used_mark : (renewed : ℕ → Bool) (k mark s : ℕ) → mark_after renewed fresh k mark ≡ s → s < fresh → (mark ≡ s) × (renewed k ≡ false)
  used_mark renewed k mark s e used = by_test (renewed k) refl e
    where
      by_test : (b : Bool) → renewed k ≡ b → (if b then fresh + k else mark) ≡ s → (mark ≡ s) × (renewed k ≡ false)
      by_test true t g = absurd (omega arith)
      by_test false t g = (g, t)

  -- an element whose stamp was used stood at a place that keeps it
  used_stamp : (p : ℕ) (x : Source) (s : ℕ) → slice_get ch.sources p ≡ Some x
      → (from_source ch fresh c c (blank ((fresh + size c + 1) + p)) x).stamp ≡ s → s < fresh
      → (k : ℕ) × (slice_get (stamps c) k ≡ Some s) × (ch.kill k ≡ false)
  used_stamp p x s at e used = by_source x at e
    where
      of_place : (k : ℕ) → (stayed ch fresh c (blank ((fresh + size c + 1) + p)) k).stamp ≡ s
          → (k : ℕ) × (slice_get (stamps c) k ≡ Some s) × (ch.kill k ≡ false)
      of_place k g = by_cell (slice_get c.cells k) refl
        where
          by_cell : (o : Option Cell) → slice_get c.cells k ≡ o → (k : ℕ) × (slice_get (stamps c) k ≡ Some s) × (ch.kill k ≡ false)
          by_cell None t =
              let q : (stayed ch fresh c (blank ((fresh + size c + 1) + p)) k).stamp ≡ (fresh + size c + 1) + p =
              ap (λ (o : Option Cell). (elim o as (λ _. Cell) [
                | None ↦ blank ((fresh + size c + 1) + p)
                | Some y ↦ record y { stamp = mark_after ch.kill fresh k y.stamp; refer = mark_after ch.lose fresh k y.refer }
              ]).stamp) t in
              absurd (omega arith)
          by_cell (Some y) t =
              let m = used_mark ch.kill k y.stamp s (sym (stayed-marks ch fresh c (blank ((fresh + size c + 1) + p)) k y t).0 ∙ g) used in
              (k, stamp_there c k y t ∙ ap (λ n. Some n) m.0, m.1)

      by_source : (z : Source) → slice_get ch.sources p ≡ Some z → (from_source ch fresh c c (blank ((fresh + size c + 1) + p)) z).stamp ≡ s
          → (k : ℕ) × (slice_get (stamps c) k ≡ Some s) × (ch.kill k ≡ false)
      by_source (old k) t g = of_place k g
      by_source (written k v) t g = of_place k g
      by_source (theirs k) t g = absurd (none p k t)
      by_source (new a b) t g = absurd (omega arith)

  -- so it is with a refer
  used_refer : (p : ℕ) (x : Source) (s : ℕ) → slice_get ch.sources p ≡ Some x
      → (from_source ch fresh c c (blank ((fresh + size c + 1) + p)) x).refer ≡ s → s < fresh
      → (k : ℕ) × (slice_get (refers c) k ≡ Some s) × (ch.lose k ≡ false)
  used_refer p x s at e used = by_source x at e
    where
      of_place : (k : ℕ) → (stayed ch fresh c (blank ((fresh + size c + 1) + p)) k).refer ≡ s
          → (k : ℕ) × (slice_get (refers c) k ≡ Some s) × (ch.lose k ≡ false)
      of_place k g = by_cell (slice_get c.cells k) refl
        where
          by_cell : (o : Option Cell) → slice_get c.cells k ≡ o → (k : ℕ) × (slice_get (refers c) k ≡ Some s) × (ch.lose k ≡ false)
          by_cell None t =
              let q : (stayed ch fresh c (blank ((fresh + size c + 1) + p)) k).refer ≡ (fresh + size c + 1) + p =
              ap (λ (o : Option Cell). (elim o as (λ _. Cell) [
                | None ↦ blank ((fresh + size c + 1) + p)
                | Some y ↦ record y { stamp = mark_after ch.kill fresh k y.stamp; refer = mark_after ch.lose fresh k y.refer }
              ]).refer) t in
              absurd (omega arith)
          by_cell (Some y) t =
              let m = used_mark ch.lose k y.refer s (sym (stayed-marks ch fresh c (blank ((fresh + size c + 1) + p)) k y t).1 ∙ g) used in
              (k, get_map (λ (z : Cell). z.refer) c.cells k y t ∙ ap (λ n. Some n) m.0, m.1)

      by_source : (z : Source) → slice_get ch.sources p ≡ Some z → (from_source ch fresh c c (blank ((fresh + size c + 1) + p)) z).refer ≡ s
          → (k : ℕ) × (slice_get (refers c) k ≡ Some s) × (ch.lose k ≡ false)
      by_source (old k) t g = of_place k g
      by_source (written k v) t g = of_place k g
      by_source (theirs k) t g = absurd (none p k t)
      by_source (new a b) t g = absurd (omega arith)

  -- a stamp that stands in the changed container and was used stood in it before, at a place that isn't invalidated
  pub stamp-stood : (p s : ℕ) → slice_get (stamps (changed fresh ch c)) p ≡ Some s → s < fresh
      → (k : ℕ) × (slice_get (stamps c) k ≡ Some s) × (ch.kill k ≡ false)
  stamp-stood p s at used = by_place (element_or_end (changed fresh ch c) p s at)
    where
      by_place : (p < size (changed fresh ch c)) ⊎ ((p ≡ size (changed fresh ch c)) × ((changed fresh ch c).end ≡ s))
          → (k : ℕ) × (slice_get (stamps c) k ≡ Some s) × (ch.kill k ≡ false)
      by_place (inl within) =
          let y = stamp-cell (changed fresh ch c) p s at within in
          let x = sources-got ch fresh c c (fresh + size c + 1) ch.sources p y.0 y.1 in
          used_stamp p x.0 s x.1 (ap (λ (z : Cell). z.stamp) x.2 ∙ y.2) used
      by_place (inr e) =
          let m = used_mark ch.kill (size c) c.end s e.1 used in
          (size c, stamp_of_end c ∙ ap (λ n. Some n) m.0, m.1)

  -- so it is with a refer
  pub refer-stood : (p s : ℕ) → slice_get (refers (changed fresh ch c)) p ≡ Some s → s < fresh
      → (k : ℕ) × (slice_get (refers c) k ≡ Some s) × (ch.lose k ≡ false)
  refer-stood p s at used =
      let y = refer-cell (changed fresh ch c) p s at in
      let x = sources-got ch fresh c c (fresh + size c + 1) ch.sources p y.0 y.1 in
      used_refer p x.0 s x.1 (ap (λ (z : Cell). z.refer) x.2 ∙ y.2) used

module _ (ch : Change) (m : Memory) (j : ℕ) (c : Cont) (site : ℕ) (sound : IsSound m) (there : slice_get m.conts j ≡ Some c)
    (none : TakesNoneOver ch) where
  -- a stamp that is invalidated stands nowhere afterwards
  pub stamp-gone : (k s : ℕ) → ch.kill k ≡ true → IsAt m j k s → (i h : ℕ) → IsAt (after ch m j c site) i h s → ⊥
  stamp-gone k s dies at i h later = ⊎_elim
      (λ (e : j ≡ i).
      let in_own : slice_get (stamps (changed m.fresh ch c)) h ≡ Some s =
      in_cont (after ch m j c site) j h s (changed m.fresh ch c) (get-after-own ch m j c site there)
      (record { cont = later.cont; there = ap (slice_get (after ch m j c site).conts) e ∙ later.there; stands = later.stands }) in
      let r = stamp-stood ch m.fresh c none h s in_own (sound.stamps_apart.used j k s (at_stands m j k s at)) in
      let q : r.0 ≡ k = (sound.stamps_apart.once j r.0 j k s (at_stands m j r.0 s (record { cont = c; there = there; stands = r.1 }))
      (at_stands m j k s at)).1 in
      both_ways (ch.kill k) (ap ch.kill (sym q) ∙ r.2) dies)
      (λ (n : j ≢ i).
      let before : IsAt m i h s =
      record { cont = later.cont; there = sym (get-after-other ch m j i c site n) ∙ later.there; stands = later.stands } in
      n (sound.stamps_apart.once j k i h s (at_stands m j k s at) (at_stands m i h s before)).0)
      (cases_eq j i)

  -- nor does a refer
  pub refer-gone : (k s : ℕ) → ch.lose k ≡ true → RefersTo m j k s → (i h : ℕ) → RefersTo (after ch m j c site) i h s → ⊥
  refer-gone k s dies at i h later = ⊎_elim
      (λ (e : j ≡ i).
      let in_own : slice_get (refers (changed m.fresh ch c)) h ≡ Some s =
      refer_in_cont (after ch m j c site) j h s (changed m.fresh ch c) (get-after-own ch m j c site there)
      (record { cont = later.cont; there = ap (slice_get (after ch m j c site).conts) e ∙ later.there; stands = later.stands }) in
      let r = refer-stood ch m.fresh c none h s in_own (sound.refers_apart.used j k s (refers_stands m j k s at)) in
      let q : r.0 ≡ k = (sound.refers_apart.once j r.0 j k s (refers_stands m j r.0 s (record { cont = c; there = there; stands = r.1 }))
      (refers_stands m j k s at)).1 in
      both_ways (ch.lose k) (ap ch.lose (sym q) ∙ r.2) dies)
      (λ (n : j ≢ i).
      let before : RefersTo m i h s =
      record { cont = later.cont; there = sym (get-after-other ch m j i c site n) ∙ later.there; stands = later.stands } in
      n (sound.refers_apart.once j k i h s (refers_stands m j k s at) (refers_stands m i h s before)).0)
      (cases_eq j i)

-- ## Two containers

module _ (ch dh : Change) (m : Memory) (j i : ℕ) (c d : Cont) (site : ℕ) (differ : j ≢ i)
    (there : slice_get m.conts j ≡ Some c) (there' : slice_get m.conts i ≡ Some d) where
  -- the two afterwards
  abbrev pub first : Cont
  first = rebuilt m.fresh (next_of_two m.fresh c d) ch c d

  abbrev pub second : Cont
  second = rebuilt (m.fresh + size c + 1) (next_of_two m.fresh c d + length ch.sources) dh d c

  -- the first of the two
  pub first-there : slice_get (after_two ch dh m j c i d site).conts j ≡ Some first
  first-there = get_set_other (slice_set m.conts j first) i j second (λ e. differ (sym e))
      ∙ get_set_same m.conts j first (get_within m.conts j c there)

  -- and the second
  pub second-there : slice_get (after_two ch dh m j c i d site).conts i ≡ Some second
  second-there = get_set_same (slice_set m.conts j first) i second
      (get_within (slice_set m.conts j first) i d (get_set_other m.conts j i first differ ∙ there'))

  -- an iterator that stands in the first afterwards
  at_first : (h s : ℕ) → slice_get (stamps first) h ≡ Some s → IsAt (after_two ch dh m j c i d site) j h s
  at_first h s at = record { cont = first; there = first-there; stands = at }

  -- in the second
  at_second : (h s : ℕ) → slice_get (stamps second) h ≡ Some s → IsAt (after_two ch dh m j c i d site) i h s
  at_second h s at = record { cont = second; there = second-there; stands = at }

  -- a reference, in the first
  to_first : (h r : ℕ) → slice_get (refers first) h ≡ Some r → RefersTo (after_two ch dh m j c i d site) j h r
  to_first h r at = record { cont = first; there = first-there; stands = at }

  -- and in the second
  to_second : (h r : ℕ) → slice_get (refers second) h ≡ Some r → RefersTo (after_two ch dh m j c i d site) i h r
  to_second h r at = record { cont = second; there = second-there; stands = at }

  -- the number from which invalidated places of the second have their marks
  abbrev base' : ℕ
  base' = m.fresh + size c + 1

  -- the number from which new elements of the first have theirs
  abbrev next : ℕ
  next = next_of_two m.fresh c d

  -- and those of the second
  abbrev next' : ℕ
  next' = next + length ch.sources

  -- what goes over to the first stands where it went
  pub goes_to_first : (h k : ℕ) → ComesOver ch h k → k < size d
      → ((s : ℕ) → IsAt m i k s → IsAt (after_two ch dh m j c i d site) j h s)
      × ((r : ℕ) → RefersTo m i k r → RefersTo (after_two ch dh m j c i d site) j h r)
  goes_to_first h k from within = (
    λ s at. at_first h s (iterator-comes ch m.fresh next c d h k s from within (in_cont m i k s d there' at)),
    λ r at. to_first h r (reference-comes ch m.fresh next c d h k r from (refer_in_cont m i k r d there' at)),
  )

  -- and what goes over to the second
  pub goes_to_second : (h k : ℕ) → ComesOver dh h k → k < size c
      → ((s : ℕ) → IsAt m j k s → IsAt (after_two ch dh m j c i d site) i h s)
      × ((r : ℕ) → RefersTo m j k r → RefersTo (after_two ch dh m j c i d site) i h r)
  goes_to_second h k from within = (
    λ s at. at_second h s (iterator-comes dh base' next' d c h k s from within (in_cont m j k s c there at)),
    λ r at. to_second h r (reference-comes dh base' next' d c h k r from (refer_in_cont m j k r c there at)),
  )

  -- what stays in the first stands where it went
  pub stays_in_first : (h k : ℕ) → ComesFrom ch h k → k < size c
      → ((s : ℕ) → ch.kill k ≡ false → IsAt m j k s → IsAt (after_two ch dh m j c i d site) j h s)
      × ((r : ℕ) → ch.lose k ≡ false → RefersTo m j k r → RefersTo (after_two ch dh m j c i d site) j h r)
  stays_in_first h k from within = (
    λ s lives at. at_first h s (iterator-stays ch m.fresh next c d h k s from within lives (in_cont m j k s c there at)),
    λ r lives at. to_first h r (reference-stays ch m.fresh next c d h k r from lives (refer_in_cont m j k r c there at)),
  )

  -- and what stays in the second
  pub stays_in_second : (h k : ℕ) → ComesFrom dh h k → k < size d
      → ((s : ℕ) → dh.kill k ≡ false → IsAt m i k s → IsAt (after_two ch dh m j c i d site) i h s)
      × ((r : ℕ) → dh.lose k ≡ false → RefersTo m i k r → RefersTo (after_two ch dh m j c i d site) i h r)
  stays_in_second h k from within = (
    λ s lives at. at_second h s (iterator-stays dh base' next' d c h k s from within lives (in_cont m i k s d there' at)),
    λ r lives at. to_second h r (reference-stays dh base' next' d c h k r from lives (refer_in_cont m i k r d there' at)),
  )
