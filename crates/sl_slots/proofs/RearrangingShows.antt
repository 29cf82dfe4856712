-- A store in which a container was put together anew shows the memory after the change of the model that is so.
use Rattle.std.proofs.Common.{◌≡◌, ℕ, ◌+◌, ◌<◌, ◌≤◌, Bool, true, false, List, Option, Some, None, length, map, refl, ap, sym, ◌∙◌, arith, ◌⊎◌, inl, inr, ⊎_elim}
use Rattle.std.proofs.Common.{subst, if◌then◌else◌}
use Rattle.std.specs.List.{slice_get, slice_set}
use Rattle.std.specs.Prelude.{nat_lt}
use Rattle.std.proofs.lemmas.Bool.{both_ways, cases_lt}
use Rattle.std.proofs.lemmas.Bool.Decides.{nat_tests}
use Rattle.std.proofs.lemmas.List.{length-map}
use Rattle.sl_base.specs.declared.form.Form.{Form}
use Rattle.sl_model.specs.Memory.Containers.{Cont, Memory, size, cont_at}
use Rattle.sl_model.specs.Memory.Edits.{Change, old, written, changed, after}
use Rattle.sl_model.specs.Memory.Origins.{ComesFrom}
use Rattle.sl_model.specs.Runs.State.{Pointer}
use Rattle.sl_model.specs.LibraryCalls.Values.{Value}
use Rattle.sl_model.proofs.After.{change-sound}
use Rattle.sl_model.proofs.ColumnLaws.{IsTaken}
use Rattle.sl_model.proofs.Getting.{map_set}
use Rattle.sl_model.proofs.Places.{times, own_places, CountsFair, counts-fair}
use Rattle.sl_slots.specs.declared.container.Element.{Element}
use Rattle.sl_slots.specs.declared.rearrangement.Rearrangement.{Rearrangement}
use Rattle.sl_slots.specs.declared.source.Source.{Source as SourceCode}
use Rattle.sl_slots.specs.declared.store.Store.{Store}
use Rattle.sl_slots.specs.declared.motion.Motion.TheVariants.{Rearranges}
use Rattle.sl_slots.specs.Rearranging.{source_code, element_from, place_taken, is_lost, loses_in, kills_in, place_or, place_in, IsRearranged}
use Rattle.sl_slots.specs.Shown.{Plain, plain, contents, element_of, Holds}
use Rattle.sl_slots.specs.Stored.{contents_at, elements_at, rearranged, Rearranged}
use Rattle.sl_slots.proofs.ChangeLaws.{IsCarried, change-follow}
use Rattle.sl_slots.proofs.Elements.{sources_same, codes_give}
use Rattle.sl_slots.proofs.Following.{moved_holds}
use Rattle.sl_slots.proofs.ReadingShows.{contents_shown}
use Rattle.sl_slots.proofs.Taking.{IsOldAt, place_comes, none_takes}

-- a test of a number below another one, and of one that isn't
pub if_low : {A : Type 0} (k n : ℕ) (a b : A) → k < n → (if nat_lt k n then a else b) ≡ a
if_low k n a b h = grind (arith, nat_tests)

pub if_high : {A : Type 0} (k n : ℕ) (a b : A) → n ≤ k → (if nat_lt k n then a else b) ≡ b
if_high k n a b h = grind (arith, nat_tests)

-- an element that comes from an old place takes it
old_takes : (ch : Change) (p k : ℕ) → IsOldAt ch.sources p k → IsTaken ch.sources k
old_takes ch p k (inl a) = (p, old k, a, refl)
old_takes ch p k (inr b) = (p, written k b.0, b.1, refl)

module _ (old_store new_store : Store) (by : Rearrangement) (is : Rearranged by old_store new_store)
    (low : by.container < length old_store.containers.items) (sized : by.size ≡ length (elements_at old_store by.container))
    (m : Memory) (ps : List Pointer) (vs : List Value) (ch : Change) (same : IsRearranged by (cont_at m by.container) ch)
    (fair : CountsFair (cont_at m by.container) ch) (h : Holds old_store m ps vs) where
  abbrev j : ℕ
  j = by.container

  abbrev c : Cont
  c = cont_at m by.container

  there : slice_get m.conts j ≡ Some c
  there = (contents_shown old_store m ps vs h j low).0

  shown : contents_at old_store j ≡ plain c
  shown = (contents_shown old_store m ps vs h j low).1

  sizes : by.size ≡ size c
  sizes = sized ∙ (ap (λ (x : Plain). length x.elements) shown ∙ length-map c.cells element_of)

  -- where the store finds an element taken
  taken_same : (k : ℕ) → place_taken by.sources.items k ≡ place_taken (map source_code ch.sources) k
  taken_same k = ap (λ (l : List SourceCode). place_taken l k) same.sources

  -- references are invalidated where no source takes the element, and so are iterators
  loses_same : (k : ℕ) → k < size c → loses_in by k ≡ ch.lose k
  loses_same k inner = ap is_lost (taken_same k) ∙ by_place (place_taken (map source_code ch.sources) k) refl
    where
      by_place : (o : Option ℕ) → place_taken (map source_code ch.sources) k ≡ o → is_lost o ≡ ch.lose k
      by_place None e = sym (fair.dies k inner (none_takes ch.sources k e)).1
      by_place (Some p) e = sym (same.references k inner (old_takes ch p k (place_comes ch.sources k p e)))

  lost_same : by.all ≡ false → (k : ℕ) → k < size c → loses_in by k ≡ ch.kill k
  lost_same some k inner = ap is_lost (taken_same k) ∙ by_place (place_taken (map source_code ch.sources) k) refl
    where
      by_place : (o : Option ℕ) → place_taken (map source_code ch.sources) k ≡ o → is_lost o ≡ ch.kill k
      by_place None e = sym (fair.dies k inner (none_takes ch.sources k e)).0
      by_place (Some p) e = sym (same.iterators some k inner (old_takes ch p k (place_comes ch.sources k p e)))

  kills_same : (k : ℕ) → k ≤ size c → kills_in by k ≡ ch.kill k
  kills_same k within = by_all by.all refl
    where
      at_end : size c ≤ k → ch.kill k ≡ by.all
      at_end high = let e : k ≡ size c = omega arith in ap ch.kill e ∙ same.end

      by_all : (b : Bool) → by.all ≡ b → (if b then true else if nat_lt k by.size then loses_in by k else false) ≡ ch.kill k
      by_all true e = ⊎_elim (λ (inner : k < size c). sym (same.all_die e k inner)) (λ (high : size c ≤ k). sym (at_end high ∙ e)) (cases_lt k (size c))
      by_all false e = ⊎_elim
          (λ (inner : k < size c). if_low k by.size (loses_in by k) false (let s : by.size ≡ size c = sizes in omega arith) ∙ lost_same e k inner)
          (λ (high : size c ≤ k). if_high k by.size (loses_in by k) false (let s : by.size ≡ size c = sizes in omega arith) ∙ sym (at_end high ∙ e))
          (cases_lt k (size c))

  -- what isn't invalidated comes from where it was
  comes : (k : ℕ) → k < size c → (ch.kill k ≡ false) ⊎ (ch.lose k ≡ false) → ComesFrom ch (place_in by k) k
  comes k inner lives = by_place (place_taken (map source_code ch.sources) k) refl
    where
      place_same : place_in by k ≡ place_or (place_taken (map source_code ch.sources) k) k
      place_same =
          if_low k by.size (place_or (place_taken by.sources.items k) k) (length by.sources.items) (let s : by.size ≡ size c = sizes in omega arith)
          ∙ ap (λ (o : Option ℕ). place_or o k) (taken_same k)

      dead : times k (own_places ch.sources) ≡ 0 → (ch.kill k ≡ false) ⊎ (ch.lose k ≡ false) → ⊥
      dead z (inl a) = both_ways (ch.kill k) a (fair.dies k inner z).0
      dead z (inr a) = both_ways (ch.lose k) a (fair.dies k inner z).1

      by_place : (o : Option ℕ) → place_taken (map source_code ch.sources) k ≡ o → ComesFrom ch (place_in by k) k
      by_place None e = absurd (dead (none_takes ch.sources k e) lives)
      by_place (Some p) e =
          subst (λ n. ComesFrom ch n k) (sym (place_same ∙ ap (λ (o : Option ℕ). place_or o k) e)) (place_comes ch.sources k p e)

  carried : IsCarried ch c (kills_in by) (loses_in by) (place_in by)
  carried = record {
    kill = kills_same;
    lose = loses_same;
    moves_by = record {
      iterators = λ k inner lives. comes k inner (inl lives);
      references = λ k inner lives. comes k inner (inr lives);
      end = λ lives.
          if_high (size c) by.size (place_or (place_taken by.sources.items (size c)) (size c)) (length by.sources.items)
          (let s : by.size ≡ size c = sizes in omega arith)
          ∙ (ap (λ (l : List SourceCode). length l) same.sources ∙ length-map ch.sources source_code);
    };
  }

  -- the container afterwards
  abbrev as_plain : Form → List Element → ℕ → Plain
  as_plain form elements room = record { form = form; elements = elements; room = room }

  shown_after : rearranged by (contents_at old_store j) ≡ plain (changed m.fresh ch c)
  shown_after =
      let es : List Element = map element_of c.cells in
      ap (rearranged by) shown
      ∙ (ap (λ (l : List SourceCode). as_plain c.form (map (element_from es es) l) by.room) same.sources
      ∙ (ap (λ (n : ℕ). as_plain c.form (map (element_from es es) (map source_code ch.sources)) n) same.room
      ∙ ap (λ (l : List Element). as_plain c.form l ch.room)
      (codes_give c c ch.sources ∙ sym (sources_same ch m.fresh (m.fresh + size c + 1) c c ch.sources))))

  containers_shown : map contents new_store.containers.items ≡ map plain (after ch m j c by.site).conts
  containers_shown = is.containers
      ∙ (ap (slice_set (map contents old_store.containers.items) j) shown_after
      ∙ (ap (λ (l : List Plain). slice_set l j (plain (changed m.fresh ch c))) h.shows.containers
      ∙ sym (map_set plain m.conts j (changed m.fresh ch c))))

  -- the store shows the memory after the change
  pub rearranged_holds : Holds new_store (after ch m j c by.site) ps vs
  rearranged_holds = moved_holds old_store new_store m (after ch m j c by.site) (Rearranges by) ps vs h is.moved
      (change-sound ch m j c by.site h.sound there (counts-fair c ch fair)) (grows m.fresh (size c) (length ch.sources))
      (change-follow ch m j c by.site (kills_in by) (loses_in by) (place_in by) h.sound there (counts-fair c ch fair) carried)
      containers_shown
    where
      grows : (a b d : ℕ) → a ≤ a + b + 1 + d
      grows a b d = omega arith
