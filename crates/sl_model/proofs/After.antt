-- A change of one container, at a site, in a memory: what it leaves where it was, that it leaves the memory sound, and that no mark
-- vanishes.
use Rattle.std.proofs.Common.{◌≡◌, ◌≢◌, ℕ, ◌+◌, ◌<◌, ◌≤◌, true, List, [], Some, length, map, ap, sym, ◌∙◌, arith, ◌⊎◌, inl, inr, None, Option}
use Rattle.std.proofs.Common.{⊎_elim, subst, unwrap_or}
use Rattle.std.specs.List.{slice_get, slice_set}
use Rattle.std.proofs.Math.ListN.{length-set}
use Rattle.std.proofs.lemmas.Bool.{cases_eq, cases_lt}
use Rattle.std.proofs.lemmas.Option.{get_or_from_slice_get, unwrap_or-slice_get}
use Rattle.sl_base.specs.declared.form.Form.TheVariants as f
use Rattle.sl_base.specs.declared.limits.TheConstants.{ELEMENTS}
use Rattle.sl_model.specs.Memory.Containers.{Cont, Memory, size, cont_at, stamps, refers}
use Rattle.sl_model.specs.Memory.Edits.{Source, Change, changed, used, after}
use Rattle.sl_model.specs.Runs.Good.{AreKeptApart, IsSound, NoneVanishFrom, NoneVanishes}
use Rattle.sl_model.proofs.Getting.{get_set_same, get_set_other, get_within, get_map, map_set}
use Rattle.sl_model.proofs.Apart.{list_distinct, list_below}
use Rattle.sl_model.proofs.Columns.{AllInside, marks_from, rebuilt-stamps, rebuilt-refers, rebuilt-size, stamps-length, refers-length}
use Rattle.sl_model.proofs.ColumnLaws.{TakenOnce, IsTaken, IsColumn}
use Rattle.sl_model.proofs.OneChange.{AllTaken, one-apart, one-none}
use Rattle.sl_model.proofs.WithEnd.{with_end, all_inside_more, with_end-inside, with_end-once, new_within, still_taken, end_taken, alone-marks}

-- What a change of a container alone has to be: its sources are places of the container, none taken twice; each element is taken, or
-- its marks are dropped; and there are not too many.
pub record IsFair (c : Cont) (ch : Change) : Type 0 where
  pub inside : AllInside (size c) 0 ch.sources
  pub once : TakenOnce ch.sources
  pub taken : (k : ℕ) → k < size c → IsTaken ch.sources k ⊎ ((ch.kill k ≡ true) × (ch.lose k ≡ true))
  pub few : length ch.sources ≤ ELEMENTS

-- What a call leaves of a memory, at a site: a sound memory, in which nothing that stood before has vanished.
pub record Leaves (m : Memory) (site : ℕ) (t : Memory) : Type 0 where
  pub sound : IsSound t
  pub none : NoneVanishes m site t

-- the other containers stay as they are
pub get-after-other : (ch : Change) (m : Memory) (j i : ℕ) (c : Cont) (site : ℕ) → j ≢ i
    → slice_get (after ch m j c site).conts i ≡ slice_get m.conts i
get-after-other ch m j i c site apart = get_set_other m.conts j i (changed m.fresh ch c) apart

-- the container is the changed one
pub get-after-own : (ch : Change) (m : Memory) (j : ℕ) (c : Cont) (site : ℕ) → slice_get m.conts j ≡ Some c
    → slice_get (after ch m j c site).conts j ≡ Some (changed m.fresh ch c)
get-after-own ch m j c site there = get_set_same m.conts j (changed m.fresh ch c) (get_within m.conts j c there)

-- there are as many containers as before
pub count-after : (ch : Change) (m : Memory) (j : ℕ) (c : Cont) (site : ℕ) → length (after ch m j c site).conts ≡ length m.conts
count-after ch m j c site = length-set m.conts j (changed m.fresh ch c)

-- the container has as many elements as the change has sources
pub size-changed : (ch : Change) (fresh : ℕ) (c : Cont) → size (changed fresh ch c) ≡ length ch.sources
size-changed ch fresh c = rebuilt-size ch fresh c c (fresh + size c + 1)

-- what is said to be there is the container
pub cont_of_there : (m : Memory) (j : ℕ) (c : Cont) → slice_get m.conts j ≡ Some c → cont_at m j ≡ c
cont_of_there m j c there = get_or_from_slice_get m.conts j c (record { form = f.Vector; cells = []; end = m.fresh; room = 0 }) there

-- where none is there, the container is one without elements
pub cont_of_none : (m : Memory) (j : ℕ) → slice_get m.conts j ≡ None
    → cont_at m j ≡ record { form = f.Vector; cells = []; end = m.fresh; room = 0 }
cont_of_none m j none = sym (unwrap_or-slice_get m.conts j missing) ∙ ap (λ (o : Option Cont). unwrap_or o missing) none
  where
    missing : Cont
    missing = record { form = f.Vector; cells = []; end = m.fresh; room = 0 }

-- the container with the number is the changed one
pub cont_at-after-own : (ch : Change) (m : Memory) (j : ℕ) (c : Cont) (site : ℕ) → slice_get m.conts j ≡ Some c
    → cont_at (after ch m j c site) j ≡ changed m.fresh ch c
cont_at-after-own ch m j c site there = cont_of_there (after ch m j c site) j (changed m.fresh ch c) (get-after-own ch m j c site there)

-- a container with another number is the one that it was
pub cont_at-after-other : (ch : Change) (m : Memory) (j i : ℕ) (c d : Cont) (site : ℕ) → j ≢ i → slice_get m.conts i ≡ Some d
    → cont_at (after ch m j c site) i ≡ d
cont_at-after-other ch m j i c d site apart there = cont_of_there (after ch m j c site) i d (get-after-other ch m j i c site apart ∙ there)

module _ (ch : Change) (m : Memory) (j : ℕ) (c : Cont) (site : ℕ)
    (sound : IsSound m) (there : slice_get m.conts j ≡ Some c) (fair : IsFair c ch) where
  -- the stamps of the container are a list of the memory's
  stamps_there : slice_get (map stamps m.conts) j ≡ Some (stamps c)
  stamps_there = get_map (λ (x : Cont). stamps x) m.conts j c there

  refers_there : slice_get (map refers m.conts) j ≡ Some (refers c)
  refers_there = get_map (λ (x : Cont). refers x) m.conts j c there

  -- the number from which new elements have their marks
  abbrev next : ℕ
  next = m.fresh + size c + 1

  -- the least number that is unused afterwards
  abbrev limit : ℕ
  limit = used m.fresh ch c

  -- the sources with the end
  abbrev sources : List Source
  sources = with_end (size c) ch.sources

  -- the stamps afterwards
  new_stamps : stamps (changed m.fresh ch c) ≡ marks_from ch.kill m.fresh (stamps c) [] next sources
  new_stamps = rebuilt-stamps ch m.fresh c c next (all_inside_more (size c) 0 (size c) (size c) ch.sources (omega arith) (omega arith) fair.inside)
      ∙ alone-marks ch.kill m.fresh (stamps c) (stamps c) next (size c + 1) sources
      (with_end-inside (size c) 0 (size c + 1) 0 ch.sources (omega arith) (omega arith) fair.inside)

  -- the refers afterwards
  new_refers : refers (changed m.fresh ch c) ≡ marks_from ch.lose m.fresh (refers c) [] next ch.sources
  new_refers = rebuilt-refers ch m.fresh c c next (all_inside_more (size c) 0 (size c) (size c) ch.sources (omega arith) (omega arith) fair.inside)
      ∙ alone-marks ch.lose m.fresh (refers c) (refers c) next (size c) ch.sources fair.inside

  -- what has no numbers has none in common
  none_in_empty : (xs : List ℕ) (k h s : ℕ) → slice_get xs k ≡ Some s → slice_get [] h ≡ Some s → ⊥
  none_in_empty xs k h s a b = cc

  -- numbers behind a limit
  up_to : (n k : ℕ) → n + k ≡ k + n
  up_to n k = omega arith

  -- the stamps are a column
  stamp_column : IsColumn (stamps c) [] m.fresh m.fresh next limit sources
  stamp_column = record {
    own_distinct = list_distinct (map stamps m.conts) m.graves m.fresh sound.stamps_apart j (stamps c) stamps_there;
    own_below = list_below (map stamps m.conts) m.graves m.fresh sound.stamps_apart j (stamps c) stamps_there;
    other_distinct = λ k h s a b. absurd (cc);
    other_below = λ k s a. absurd (cc);
    none = λ k h s a b. none_in_empty (stamps c) k h s a b;
    base_up = omega arith;
    next_up = let l : length (stamps c) ≡ size c + 1 = stamps-length c in omega arith;
    limit_up = omega arith;
    inside = let l : length (stamps c) ≡ size c + 1 = stamps-length c in
        rw l (with_end-inside (size c) 0 (size c + 1) 0 ch.sources (omega arith) (omega arith) fair.inside);
    once = with_end-once (size c) 0 ch.sources fair.inside fair.once;
    news = λ p x at new. let w : p < length ch.sources = new_within (size c) ch.sources p x at new in omega arith;
  }

  -- the refers are a column
  refer_column : IsColumn (refers c) [] m.fresh m.fresh next limit ch.sources
  refer_column = record {
    own_distinct = list_distinct (map refers m.conts) m.lost m.fresh sound.refers_apart j (refers c) refers_there;
    own_below = list_below (map refers m.conts) m.lost m.fresh sound.refers_apart j (refers c) refers_there;
    other_distinct = λ k h s a b. absurd (cc);
    other_below = λ k s a. absurd (cc);
    none = λ k h s a b. none_in_empty (refers c) k h s a b;
    base_up = omega arith;
    next_up = let l : length (refers c) ≡ size c = refers-length c in omega arith;
    limit_up = omega arith;
    inside = let l : length (refers c) ≡ size c = refers-length c in rw l fair.inside;
    once = fair.once;
    news = λ p x at new. let w : p < length ch.sources = get_within ch.sources p x at in omega arith;
  }

  -- the lists of stamps afterwards
  stamp_lists : map stamps (after ch m j c site).conts ≡ slice_set (map stamps m.conts) j (marks_from ch.kill m.fresh (stamps c) [] next sources)
  stamp_lists = map_set (λ (x : Cont). stamps x) m.conts j (changed m.fresh ch c) ∙ ap (λ l. slice_set (map stamps m.conts) j l) new_stamps

  -- the lists of refers afterwards
  refer_lists : map refers (after ch m j c site).conts ≡ slice_set (map refers m.conts) j (marks_from ch.lose m.fresh (refers c) [] next ch.sources)
  refer_lists = map_set (λ (x : Cont). refers x) m.conts j (changed m.fresh ch c) ∙ ap (λ l. slice_set (map refers m.conts) j l) new_refers

  -- no container has too many elements
  small_after : (i : ℕ) (d : Cont) → slice_get (after ch m j c site).conts i ≡ Some d → (j ≡ i) ⊎ j ≢ i → size d ≤ ELEMENTS
  small_after i d h (inl e) =
      let a : slice_get (after ch m j c site).conts j ≡ Some d = ap (slice_get (after ch m j c site).conts) e ∙ h in
      let b : Some (changed m.fresh ch c) ≡ Some d = sym (get-after-own ch m j c site there) ∙ a in
      let q : changed m.fresh ch c ≡ d = cc in
      let n : size (changed m.fresh ch c) ≡ size d = ap (λ (x : Cont). size x) q in
      let l : size (changed m.fresh ch c) ≡ length ch.sources = size-changed ch m.fresh c in
      let few : length ch.sources ≤ ELEMENTS = fair.few in
      omega arith
  small_after i d h (inr n) = sound.small i d (sym (get-after-other ch m j i c site n) ∙ h)

  -- the memory is sound after the change
  pub change-sound : IsSound (after ch m j c site)
  change-sound = record {
    stamps_apart = subst (λ l. AreKeptApart l (after ch m j c site).graves limit) (sym stamp_lists)
        (one-apart ch.kill (map stamps m.conts) m.graves m.fresh m.fresh next limit j (stamps c) sources site sound.stamps_apart stamps_there
        stamp_column);
    refers_apart = subst (λ l. AreKeptApart l (after ch m j c site).lost limit) (sym refer_lists)
        (one-apart ch.lose (map refers m.conts) m.lost m.fresh m.fresh next limit j (refers c) ch.sources site sound.refers_apart refers_there
        refer_column);
    small = λ i d h. small_after i d h (cases_eq j i);
  }

  -- each place is taken, or its stamp is dropped
  stamps_taken : AllTaken ch.kill (length (stamps c)) sources
  stamps_taken k low = ⊎_elim
      (λ (inner : k < size c). by_taken k (fair.taken k inner))
      (λ (high : size c ≤ k).
      let l : length (stamps c) ≡ size c + 1 = stamps-length c in
      let e : size c ≡ k = omega arith in
      inl (subst (λ n. IsTaken sources n) e (end_taken (size c) ch.sources)))
      (cases_lt k (size c))
    where
      by_taken : (k : ℕ) → IsTaken ch.sources k ⊎ ((ch.kill k ≡ true) × (ch.lose k ≡ true)) → IsTaken sources k ⊎ (ch.kill k ≡ true)
      by_taken k (inl t) = inl (still_taken (size c) ch.sources k t)
      by_taken k (inr d) = inr d.0

  -- each element is taken, or its refer is dropped
  refers_taken : AllTaken ch.lose (length (refers c)) ch.sources
  refers_taken k low = let l : length (refers c) ≡ size c = refers-length c in by_taken (fair.taken k (omega arith))
    where
      by_taken : IsTaken ch.sources k ⊎ ((ch.kill k ≡ true) × (ch.lose k ≡ true)) → IsTaken ch.sources k ⊎ (ch.lose k ≡ true)
      by_taken (inl t) = inl t
      by_taken (inr d) = inr d.1

  -- no mark vanishes in the change
  pub change-none : NoneVanishes m site (after ch m j c site)
  change-none = record {
    stamps_stand = subst (λ l. NoneVanishFrom (map stamps m.conts) site l (after ch m j c site).graves) (sym stamp_lists)
        (one-none ch.kill (map stamps m.conts) m.graves m.fresh m.fresh next limit j (stamps c) sources site sound.stamps_apart stamps_there
        stamp_column stamps_taken);
    refers_stand = subst (λ l. NoneVanishFrom (map refers m.conts) site l (after ch m j c site).lost) (sym refer_lists)
        (one-none ch.lose (map refers m.conts) m.lost m.fresh m.fresh next limit j (refers c) ch.sources site sound.refers_apart refers_there
        refer_column refers_taken);
  }

  -- a fair change leaves the memory as a call has to
  pub change-leaves : Leaves m site (after ch m j c site)
  change-leaves = record { sound = change-sound; none = change-none }
