-- What changes of a memory do to the forms of containers: each container keeps its form, a stamp that was used stands only where one stood
-- before, in a container of the same form, and so it fits what it fitted.
use Rattle.std.proofs.Common.{◌≡◌, ℕ, zero, suc, ◌+◌, ◌<◌, ◌≤◌, Bool, true, false, List, [], ◌∷◌, ◌++◌, Option, Some, None, length, map, take, refl}
use Rattle.std.proofs.Common.{ap, sym, ◌∙◌, arith, ◌⊎◌, inl, inr, ⊎_elim, subst, ℤ, if◌then◌else◌, append-nil, append_assoc}
use Rattle.std.specs.List.{slice_get, slice_set}
use Rattle.std.specs.Prelude.{slice_index_or}
use Rattle.std.proofs.lemmas.Bool.{cases_lt}
use Rattle.sl_base.specs.declared.form.Form.{Form}
use Rattle.sl_base.specs.declared.form.Form.TheVariants as f
use Rattle.sl_model.specs.Memory.Containers.{Cell, Cont, Memory, size, stamps, cont_at, made, Part, is_writable, cells_with, cont_with, write_element}
use Rattle.sl_model.specs.Memory.Containers.{end_from}
use Rattle.sl_model.specs.Memory.Edits.{Source, old, written, theirs, new, Change, mark_after, stayed, from_source, rebuilt, changed, next_of_two, after}
use Rattle.sl_model.specs.Memory.Edits.{after_two}
use Rattle.sl_model.proofs.After.{cont_of_there, cont_of_none}
use Rattle.sl_model.proofs.Ending.{map_take}
use Rattle.sl_model.proofs.Fitting.{forms_of, StampFits, KeepsForms}
use Rattle.sl_model.proofs.Getting.{get_left, get_take, map_set}
use Rattle.sl_model.proofs.Making.{last_one, map_last, fresh_cont, fresh_stamps, fresh_stamps-between}
use Rattle.sl_model.proofs.Moved.{stamp-cell, element_or_end, blank, sources-got}
use Rattle.sl_model.proofs.Writing.{cont_with-same}
use Rattle.sl_model.proofs.Columns.{stamp_of_end, stamp_there}

-- ## Stamps that stood before

-- a stamp stands in a container of a form
pub record Stood (m : Memory) (form : Form) (stamp : ℕ) : Type 0 where
  pub container : ℕ
  pub place : ℕ
  pub cont : Cont
  pub there : slice_get m.conts container ≡ Some cont
  pub stands : slice_get (stamps cont) place ≡ Some stamp
  pub same : cont.form ≡ form

-- each stamp that was used and stands in the later memory stood before, in a container of the same form
abbrev pub StoodBefore : Memory → Memory → Type 0
StoodBefore m later = (stamp : ℕ) → stamp < m.fresh → (j k : ℕ) (c : Cont) → slice_get later.conts j ≡ Some c → slice_get (stamps c) k ≡ Some stamp
    → Stood m c.form stamp

-- so it fits what it fitted
pub still_fits : (m later : Memory) → StoodBefore m later → (form : Form) (stamp : ℕ) → stamp < m.fresh → StampFits m form stamp
    → StampFits later form stamp
still_fits m later stood form stamp low fits j k c at here =
    let o : Stood m c.form stamp = stood stamp low j k c at here in
    sym o.same ∙ fits o.container o.place o.cont o.there o.stands

-- the stamps of a container that were used stand in containers of its form
abbrev AreHeld : Memory → Cont → Type 0
AreHeld m c = (k stamp : ℕ) → stamp < m.fresh → slice_get (stamps c) k ≡ Some stamp → Stood m c.form stamp

-- those of a container that is there
held-there : (m : Memory) (j : ℕ) (c : Cont) → slice_get m.conts j ≡ Some c → AreHeld m c
held-there m j c there k stamp low at = record { container = j; place = k; cont = c; there = there; stands = at; same = refl }

-- and those of the container with a number, which has none that was used where there is none
held-at : (m : Memory) (j : ℕ) → AreHeld m (cont_at m j)
held-at m j k stamp low at = by_cont (slice_get m.conts j) refl
  where
    missing : Cont
    missing = record { form = f.Vector; cells = []; end = m.fresh; room = 0 }

    end_alone : (i : ℕ) → slice_get (m.fresh ∷ []) i ≡ Some stamp → m.fresh ≡ stamp
    end_alone zero h = cc
    end_alone (suc i) h = absurd (cc)

    by_cont : (o : Option Cont) → slice_get m.conts j ≡ o → Stood m (cont_at m j).form stamp
    by_cont None e =
        let q : cont_at m j ≡ missing = cont_of_none m j e in
        let h : slice_get (stamps missing) k ≡ Some stamp = subst (λ (d : Cont). slice_get (stamps d) k ≡ Some stamp) q at in
        let r : m.fresh ≡ stamp = end_alone k h in
        absurd (omega arith)
    by_cont (Some c) e =
        let q : cont_at m j ≡ c = cont_of_there m j c e in
        subst (λ (d : Cont). Stood m d.form stamp) (sym q)
        (held-there m j c e k stamp low (subst (λ (d : Cont). slice_get (stamps d) k ≡ Some stamp) q at))

-- ## Lists in which one is written

-- what is in a list in which one was written is the written one, or was there
set_got : {A : Type 0} (xs : List A) (j : ℕ) (x : A) (i : ℕ) (y : A) → slice_get (slice_set xs j x) i ≡ Some y
    → (x ≡ y) ⊎ (slice_get xs i ≡ Some y)
set_got [] j x i y h = absurd (cc)
set_got (z ∷ xs) zero x zero y h = inl (cc)
set_got (z ∷ xs) zero x (suc i) y h = inr h
set_got (z ∷ xs) (suc j) x zero y h = inr h
set_got (z ∷ xs) (suc j) x (suc i) y h = set_got xs j x i y h

-- the forms are the same where one of its form is written
set_form : (xs : List Cont) (j : ℕ) (d x : Cont) → x.form ≡ (slice_index_or xs j d).form
    → map (λ (c : Cont). c.form) (slice_set xs j x) ≡ map (λ (c : Cont). c.form) xs
set_form [] j d x h = refl
set_form (y ∷ xs) zero d x h = ap (λ (g : Form). g ∷ map (λ (c : Cont). c.form) xs) h
set_form (y ∷ xs) (suc j) d x h = ap (λ l. y.form ∷ l) (set_form xs j d x h)

-- ## Where the stamps of a changed container come from

module _ (ch : Change) (base next fresh : ℕ) (own other : Cont) (base_up : fresh ≤ base) (next_up : fresh ≤ next) where
  -- a stamp stood in one of the two containers
  abbrev Came : ℕ → Type 0
  Came s = ((k : ℕ) × (slice_get (stamps own) k ≡ Some s)) ⊎ ((k : ℕ) × (slice_get (stamps other) k ≡ Some s))

  -- a mark that was used is no new one
  used_mark : (k mark s : ℕ) → mark_after ch.kill base k mark ≡ s → s < fresh → mark ≡ s
  used_mark k mark s e low = by_test (ch.kill k) e
    where
      by_test : (b : Bool) → (if b then base + k else mark) ≡ s → mark ≡ s
      by_test true g = absurd (omega arith)
      by_test false g = g

  -- the stamp of an element that stays
  stay_came : (p k s : ℕ) → (stayed ch base own (blank (next + p)) k).stamp ≡ s → s < fresh → Came s
  stay_came p k s g low = by_cell (slice_get own.cells k) refl g
    where
      by_cell : (o : Option Cell) → slice_get own.cells k ≡ o → (elim o as (λ _. Cell) [
        | None ↦ blank (next + p)
        | Some x ↦ record x { stamp = mark_after ch.kill base k x.stamp; refer = mark_after ch.lose base k x.refer }
      ]).stamp ≡ s → Came s
      by_cell None e h = absurd (omega arith)
      by_cell (Some x) e h = inl (k, stamp_there own k x e ∙ ap (λ (n : ℕ). Some n) (used_mark k x.stamp s h low))

  -- and of one that comes over
  over_came : (p k s : ℕ) → (elim (slice_get other.cells k) as (λ _. Cell) [ None ↦ blank (next + p) | Some x ↦ x ]).stamp ≡ s → s < fresh → Came s
  over_came p k s g low = by_cell (slice_get other.cells k) refl g
    where
      by_cell : (o : Option Cell) → slice_get other.cells k ≡ o → (elim o as (λ _. Cell) [ None ↦ blank (next + p) | Some x ↦ x ]).stamp ≡ s → Came s
      by_cell None e h = absurd (omega arith)
      by_cell (Some x) e h = inr (k, stamp_there other k x e ∙ ap (λ (n : ℕ). Some n) h)

  -- the stamp of each element
  source_came : (p : ℕ) (x : Source) (s : ℕ) → (from_source ch base own other (blank (next + p)) x).stamp ≡ s → s < fresh → Came s
  source_came p (old k) s g low = stay_came p k s g low
  source_came p (written k z) s g low = stay_came p k s g low
  source_came p (theirs k) s g low = over_came p k s g low
  source_came p (new x y) s g low = absurd (omega arith)

  -- each stamp that was used
  came : (k s : ℕ) → slice_get (stamps (rebuilt base next ch own other)) k ≡ Some s → s < fresh → Came s
  came k s at low = by_place (element_or_end (rebuilt base next ch own other) k s at)
    where
      by_place : (k < size (rebuilt base next ch own other)) ⊎ ((k ≡ size (rebuilt base next ch own other))
          × ((rebuilt base next ch own other).end ≡ s)) → Came s
      by_place (inl within) =
          let y = stamp-cell (rebuilt base next ch own other) k s at within in
          let x = sources-got ch base own other next ch.sources k y.0 y.1 in
          source_came k x.0 s (ap (λ (z : Cell). z.stamp) x.2 ∙ y.2) low
      by_place (inr e) = inl (size own, stamp_of_end own ∙ ap (λ (n : ℕ). Some n) (used_mark (size own) own.end s e.1 low))

-- where both are of one form, it stood in a container of that form
rebuilt-held : (m : Memory) (ch : Change) (base next : ℕ) (own other : Cont) → m.fresh ≤ base → m.fresh ≤ next → own.form ≡ other.form
    → AreHeld m own → AreHeld m other → AreHeld m (rebuilt base next ch own other)
rebuilt-held m ch base next own other base_up next_up one held held' k stamp low at =
    by_side (came ch base next m.fresh own other base_up next_up k stamp at low)
  where
    by_side : ((k : ℕ) × (slice_get (stamps own) k ≡ Some stamp)) ⊎ ((k : ℕ) × (slice_get (stamps other) k ≡ Some stamp)) → Stood m own.form stamp
    by_side (inl h) = held h.0 stamp low h.1
    by_side (inr h) = subst (λ (form : Form). Stood m form stamp) (sym one) (held' h.0 stamp low h.1)

-- what stands in one of the containers that were written
written-stood : (m : Memory) (x c : Cont) (k stamp : ℕ) → AreHeld m x → x ≡ c → stamp < m.fresh → slice_get (stamps c) k ≡ Some stamp
    → Stood m c.form stamp
written-stood m x c k stamp held e low at = subst (λ (d : Cont). AreHeld m d) e held k stamp low at

-- ## A memory as it is, and two changes in turn

-- a memory keeps the forms that it has
pub forms-same : (m : Memory) → KeepsForms [] m m
forms-same m = record { forms = sym (append-nil (forms_of m)); stamps_fit = λ form stamp low fits. fits }

-- what is kept twice is kept
pub forms-then : (more more' : List Form) (m t u : Memory) → KeepsForms more m t → KeepsForms more' t u → m.fresh ≤ t.fresh
    → KeepsForms (more ++ more') m u
forms-then more more' m t u a b up = record {
  forms = b.forms ∙ (ap (λ l. l ++ more') a.forms ∙ append_assoc (forms_of m) more more');
  stamps_fit = λ form stamp low fits. b.stamps_fit form stamp (omega arith) (a.stamps_fit form stamp low fits);
}

-- ## A change of one container

-- of one that keeps its form and holds stamps of its own
one_kept : (ch : Change) (m : Memory) (j : ℕ) (c : Cont) (site : ℕ) → c.form ≡ (cont_at m j).form → AreHeld m c
    → KeepsForms [] m (after ch m j c site)
one_kept ch m j c site same held = record {
  forms = set_form m.conts j (record { form = f.Vector; cells = []; end = m.fresh; room = 0 }) (changed m.fresh ch c) same
      ∙ sym (append-nil (forms_of m));
  stamps_fit = still_fits m (after ch m j c site) stood;
}
  where
    stood : StoodBefore m (after ch m j c site)
    stood stamp low i k d at here = by_place (set_got m.conts j (changed m.fresh ch c) i d at)
      where
        by_place : (changed m.fresh ch c ≡ d) ⊎ (slice_get m.conts i ≡ Some d) → Stood m d.form stamp
        by_place (inl e) = written-stood m (changed m.fresh ch c) d k stamp
            (rebuilt-held m ch m.fresh (m.fresh + size c + 1) c c (omega arith) (omega arith) refl held held) e low here
        by_place (inr e) = held-there m i d e k stamp low here

-- the container that is there
pub after-forms : (ch : Change) (m : Memory) (j : ℕ) (c : Cont) (site : ℕ) → slice_get m.conts j ≡ Some c → KeepsForms [] m (after ch m j c site)
after-forms ch m j c site there = one_kept ch m j c site (ap (λ (d : Cont). d.form) (sym (cont_of_there m j c there))) (held-there m j c there)

-- the container with a number, whether there is one or not
pub change-forms : (ch : Change) (m : Memory) (j site : ℕ) → KeepsForms [] m (after ch m j (cont_at m j) site)
change-forms ch m j site = one_kept ch m j (cont_at m j) site refl (held-at m j)

-- ## Changes of two containers of one form

-- of two that keep their forms and hold stamps of their own
two_kept : (ch dh : Change) (m : Memory) (j : ℕ) (c : Cont) (i : ℕ) (d : Cont) (site : ℕ) → c.form ≡ (cont_at m j).form
    → d.form ≡ (cont_at m i).form → c.form ≡ d.form → AreHeld m c → AreHeld m d → KeepsForms [] m (after_two ch dh m j c i d site)
two_kept ch dh m j c i d site same same' one held held' = record {
  forms = map_set (λ (x : Cont). x.form) (slice_set m.conts j first) i second
      ∙ (ap (λ l. slice_set l i d.form) (set_form m.conts j missing first same)
      ∙ (sym (map_set (λ (x : Cont). x.form) m.conts i second) ∙ (set_form m.conts i missing second same' ∙ sym (append-nil (forms_of m)))));
  stamps_fit = still_fits m (after_two ch dh m j c i d site) stood;
}
  where
    missing : Cont
    missing = record { form = f.Vector; cells = []; end = m.fresh; room = 0 }

    first : Cont
    first = rebuilt m.fresh (next_of_two m.fresh c d) ch c d

    second : Cont
    second = rebuilt (m.fresh + size c + 1) (next_of_two m.fresh c d + length ch.sources) dh d c

    stood : StoodBefore m (after_two ch dh m j c i d site)
    stood stamp low n k e at here = by_second (set_got (slice_set m.conts j first) i second n e at)
      where
        by_first : (first ≡ e) ⊎ (slice_get m.conts n ≡ Some e) → Stood m e.form stamp
        by_first (inl q) = written-stood m first e k stamp
            (rebuilt-held m ch m.fresh (next_of_two m.fresh c d) c d (omega arith) (omega arith) one held held') q low here
        by_first (inr q) = held-there m n e q k stamp low here

        by_second : (second ≡ e) ⊎ (slice_get (slice_set m.conts j first) n ≡ Some e) → Stood m e.form stamp
        by_second (inl q) = written-stood m second e k stamp
            (rebuilt-held m dh (m.fresh + size c + 1) (next_of_two m.fresh c d + length ch.sources) d c (omega arith) (omega arith) (sym one)
            held' held) q low here
        by_second (inr q) = by_first (set_got m.conts j first n e q)

-- the two containers that are there
pub after_two-forms : (ch dh : Change) (m : Memory) (j : ℕ) (c : Cont) (i : ℕ) (d : Cont) (site : ℕ) → slice_get m.conts j ≡ Some c
    → slice_get m.conts i ≡ Some d → c.form ≡ d.form → KeepsForms [] m (after_two ch dh m j c i d site)
after_two-forms ch dh m j c i d site there there' one =
    two_kept ch dh m j c i d site (ap (λ (e : Cont). e.form) (sym (cont_of_there m j c there)))
    (ap (λ (e : Cont). e.form) (sym (cont_of_there m i d there'))) one (held-there m j c there) (held-there m i d there')

-- the two containers with these numbers, whether they are there or not
pub trade-forms : (ch dh : Change) (m : Memory) (j i site : ℕ) → (cont_at m j).form ≡ (cont_at m i).form
    → KeepsForms [] m (after_two ch dh m j (cont_at m j) i (cont_at m i) site)
trade-forms ch dh m j i site one = two_kept ch dh m j (cont_at m j) i (cont_at m i) site refl refl one (held-at m j) (held-at m i)

-- ## A number that is written

-- a number written in an element keeps forms
pub write-forms : (m : Memory) (i k : ℕ) (p : Part) (z : ℤ) → KeepsForms [] m (write_element m i k p z)
write-forms m i k p z = by_cont (slice_get m.conts i) refl
  where
    form_same : (c : Cont) → (cont_with c k p z).form ≡ c.form
    form_same c = by_test (is_writable c.form p)
      where
        by_test : (b : Bool) → (if b then record c { cells = cells_with c.cells k p z } else c).form ≡ c.form
        by_test true = refl
        by_test false = refl

    with_held : (c : Cont) → AreHeld m c → AreHeld m (cont_with c k p z)
    with_held c held n stamp low at = subst (λ (form : Form). Stood m form stamp) (sym (form_same c))
        (held n stamp low (ap (λ l. slice_get l n) (sym (cont_with-same c k p z).stamps_same) ∙ at))

    kept : (c : Cont) → slice_get m.conts i ≡ Some c → KeepsForms [] m (record m { conts = slice_set m.conts i (cont_with c k p z) })
    kept c there = record {
      forms = set_form m.conts i (record { form = f.Vector; cells = []; end = m.fresh; room = 0 }) (cont_with c k p z)
          (form_same c ∙ ap (λ (d : Cont). d.form) (sym (cont_of_there m i c there))) ∙ sym (append-nil (forms_of m));
      stamps_fit = still_fits m (record m { conts = slice_set m.conts i (cont_with c k p z) }) stood;
    }
      where
        stood : StoodBefore m (record m { conts = slice_set m.conts i (cont_with c k p z) })
        stood stamp low n h d at here = by_place (set_got m.conts i (cont_with c k p z) n d at)
          where
            by_place : (cont_with c k p z ≡ d) ⊎ (slice_get m.conts n ≡ Some d) → Stood m d.form stamp
            by_place (inl e) = written-stood m (cont_with c k p z) d h stamp (with_held c (held-there m i c there)) e low here
            by_place (inr e) = held-there m n d e h stamp low here

    by_cont : (o : Option Cont) → slice_get m.conts i ≡ o
        → KeepsForms [] m (elim o as (λ _. Memory) [ None ↦ m | Some c ↦ record m { conts = slice_set m.conts i (cont_with c k p z) } ])
    by_cont None e = forms-same m
    by_cont (Some c) e = kept c e

-- ## Containers that end

-- the forms that are left
pub ended-forms : (site n : ℕ) (m : Memory) → forms_of (end_from site n m) ≡ take n (forms_of m)
ended-forms site n m = map_take (λ (c : Cont). c.form) n m.conts

-- each stamp fits what it fitted
pub ended-fits : (site n : ℕ) (m : Memory) (form : Form) (stamp : ℕ) → StampFits m form stamp → StampFits (end_from site n m) form stamp
ended-fits site n m form stamp fits j k c at here = fits j k c (get_take n m.conts j c at).1 here

-- ## A new container

-- a new container of a form
pub made-forms : (form : Form) (room : ℕ) (xs : List (ℤ × ℤ)) (m : Memory) → KeepsForms (form ∷ []) m (made form room xs m)
made-forms form room xs m = record {
  forms = map_last (λ (c : Cont). c.form) m.conts (fresh_cont form room xs m);
  stamps_fit = still_fits m (made form room xs m) stood;
}
  where
    stood : StoodBefore m (made form room xs m)
    stood stamp low j k c at here = ⊎_elim
        (λ (within : j < length m.conts). held-there m j c (sym (get_left m.conts (fresh_cont form room xs m ∷ []) j within) ∙ at) k stamp low here)
        (λ (behind : length m.conts ≤ j).
        let r = last_one m.conts (fresh_cont form room xs m) c j behind at in
        let h : slice_get (stamps (fresh_cont form room xs m)) k ≡ Some stamp =
        ap (λ (d : Cont). slice_get (stamps d) k) r.1 ∙ here in
        let b : (m.fresh ≤ stamp) × (stamp < (m.fresh + 1) + length xs) =
        fresh_stamps-between m (length xs) k stamp (fresh_stamps form room xs m k stamp h) in
        let up : m.fresh ≤ stamp = b.0 in
        absurd (omega arith))
        (cases_lt j (length m.conts))
