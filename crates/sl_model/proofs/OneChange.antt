-- A change of one list of marks among many: they stay apart, and none vanishes.
use Rattle.std.proofs.Common.{◌≡◌, ◌≢◌, ℕ, zero, suc, ◌+◌, ◌<◌, ◌≤◌, Bool, true, false, List, [], ◌∷◌, ◌++◌, Some, length, refl, ap, sym, ◌∙◌, arith}
use Rattle.std.proofs.Common.{◌⊎◌, inl, inr, ⊎_elim}
use Rattle.std.specs.List.{slice_get, slice_set}
use Rattle.std.proofs.lemmas.Bool.{cases_eq, both_ways}
use Rattle.sl_model.specs.Memory.Containers.{Grave, IsGrave}
use Rattle.sl_model.specs.Memory.Edits.{Source, buried}
use Rattle.sl_model.specs.Runs.Good.{Stands, AreKeptApart, NoneVanishFrom}
use Rattle.sl_model.proofs.Getting.{get_set_same, get_set_other, get_within, get_behind}
use Rattle.sl_model.proofs.Apart.{StandsSomewhere, renewed-apart, list_distinct, list_below}
use Rattle.sl_model.proofs.Buried.{grave_cases, buried_stood, buried_has}
use Rattle.sl_model.proofs.Columns.{marks_from, stays_at}
use Rattle.sl_model.proofs.ColumnLaws.{IsTaken, IsTakenOver, IsColumn, column-came, column-below, column-distinct}

-- each of n places is taken by one of these sources, or it is renewed, so that its mark is buried
abbrev pub AllTaken : (ℕ → Bool) → ℕ → List Source → Type 0
AllTaken renewed n xs = (k : ℕ) → k < n → IsTaken xs k ⊎ (renewed k ≡ true)

-- a number was in this list at a place that is renewed
abbrev pub DiesIn : (ℕ → Bool) → List ℕ → ℕ → Type 0
DiesIn renewed own s = (k : ℕ) × (slice_get own k ≡ Some s) × (renewed k ≡ true)

-- what is buried is among the graves
pub buried_grave : (renewed : ℕ → Bool) (site : ℕ) (own : List ℕ) (graves : List Grave) (k s : ℕ) → slice_get own k ≡ Some s → renewed k ≡ true
    → IsGrave (buried renewed site 0 own ++ graves) s site
buried_grave renewed site own graves k s at dies =
    let e : 0 + k ≡ k = omega arith in
    let r = buried_has renewed site 0 own k s at (ap renewed e ∙ dies) in
    (r.0, in_front (buried renewed site 0 own) graves r.0 r.1)
  where
    in_front : {A : Type 0} (xs ys : List A) (i : ℕ) {y : A} → slice_get xs i ≡ Some y → slice_get (xs ++ ys) i ≡ Some y
    in_front [] ys i h = absurd (cc)
    in_front (x ∷ xs) ys zero h = h
    in_front (x ∷ xs) ys (suc i) h = in_front xs ys i h

-- what was among the graves is so still
pub still_grave : (front graves : List Grave) (s site : ℕ) → IsGrave graves s site → IsGrave (front ++ graves) s site
still_grave front graves s site g = (length front + g.0, get_behind front graves g.0 ∙ g.1)

-- what is buried of a list died there
pub buried_dies : (renewed : ℕ → Bool) (site : ℕ) (own : List ℕ) (s t : ℕ) → IsGrave (buried renewed site 0 own) s t → DiesIn renewed own s
buried_dies renewed site own s t g =
    let r = buried_stood renewed site 0 own s t g in
    let e : 0 + r.0 ≡ r.0 = omega arith in
    (r.0, r.1, ap renewed (sym e) ∙ r.2)

module _ (renewed : ℕ → Bool) (lists : List (List ℕ)) (graves : List Grave) (fresh base next limit j : ℕ) (own : List ℕ) (xs : List Source)
    (site : ℕ) (apart : AreKeptApart lists graves fresh) (there : slice_get lists j ≡ Some own)
    (is : IsColumn own [] fresh base next limit xs) where
  -- the list after the change
  abbrev pub new_list : List ℕ
  new_list = marks_from renewed base own [] next xs

  -- the lists after the change
  abbrev pub new_lists : List (List ℕ)
  new_lists = slice_set lists j new_list

  -- the changed list is there
  at_own : slice_get new_lists j ≡ Some new_list
  at_own = get_set_same lists j new_list (get_within lists j own there)

  -- where a number stands after the change: in the changed list, or in another one where it stood before
  abbrev After : ℕ → ℕ → ℕ → Type 0
  After i k s = ((j ≡ i) × (slice_get new_list k ≡ Some s)) ⊎ ((j ≢ i) × Stands lists i k s)

  -- what stands after the change stands in one of the two
  after : (i k s : ℕ) → Stands new_lists i k s → After i k s
  after i k s h = ⊎_elim
      (λ (e : j ≡ i). inl (e, in_own h.0 (ap (slice_get new_lists) e ∙ h.1) h.2))
      (λ (n : j ≢ i). inr (n, (h.0, sym (get_set_other lists j i new_list n) ∙ h.1, h.2)))
      (cases_eq j i)
    where
      in_own : (ys : List ℕ) → slice_get new_lists j ≡ Some ys → slice_get ys k ≡ Some s → slice_get new_list k ≡ Some s
      in_own ys e g = let q : Some new_list ≡ Some ys = sym at_own ∙ e in let r : new_list ≡ ys = cc in ap (λ (l : List ℕ). slice_get l k) r ∙ g

  -- what stands in the changed list and was used stood in it before, at a place that isn't renewed
  stood : (k s : ℕ) → slice_get new_list k ≡ Some s → s < fresh → (h : ℕ) × (slice_get own h ≡ Some s) × (renewed h ≡ false)
  stood k s at used = by_case (column-came renewed own [] fresh base next limit xs is k s at used)
    where
      by_case : ((h : ℕ) × (slice_get own h ≡ Some s) × (renewed h ≡ false)) ⊎ ((h : ℕ) × (slice_get [] h ≡ Some s) × IsTakenOver xs h)
          → (h : ℕ) × (slice_get own h ≡ Some s) × (renewed h ≡ false)
      by_case (inl r) = r
      by_case (inr r) = absurd (let e = r.1 in cc)

  -- a number stands in the list
  in_list : (h s : ℕ) → slice_get own h ≡ Some s → Stands lists j h s
  in_list h s at = (own, there, at)

  -- what stands twice is in one place
  once_after : (i k n h s : ℕ) → After i k s → After n h s → (i ≡ n) × (k ≡ h)
  once_after i k n h s (inl a) (inl b) = (sym a.0 ∙ b.0, column-distinct renewed own [] fresh base next limit xs is k h s a.1 b.1)
  once_after i k n h s (inl a) (inr b) =
      let r = stood k s a.1 (apart.used n h s b.1) in
      absurd (b.0 (apart.once j r.0 n h s (in_list r.0 s r.1) b.1).0)
  once_after i k n h s (inr a) (inl b) =
      let r = stood h s b.1 (apart.used i k s a.1) in
      absurd (a.0 (apart.once j r.0 i k s (in_list r.0 s r.1) a.1).0)
  once_after i k n h s (inr a) (inr b) = apart.once i k n h s a.1 b.1

  -- a number that stands afterwards and was used stood before
  came_after : (i k s : ℕ) → s < fresh → After i k s → StandsSomewhere lists s
  came_after i k s used (inl a) = let r = stood k s a.1 used in (j, r.0, in_list r.0 s r.1)
  came_after i k s used (inr a) = (i, k, a.1)

  -- what stands afterwards didn't die
  alive_after : (i k s : ℕ) → DiesIn renewed own s → After i k s → ⊥
  alive_after i k s d (inl a) =
      let u : s < fresh = list_below lists graves fresh apart j own there d.0 s d.1 in
      let r = stood k s a.1 u in
      let e : r.0 ≡ d.0 = list_distinct lists graves fresh apart j own there r.0 d.0 s r.1 d.1 in
      both_ways (renewed d.0) (ap renewed (sym e) ∙ r.2) d.2
  alive_after i k s d (inr a) = a.0 (apart.once j d.0 i k s (in_list d.0 s d.1) a.1).0

  -- what stands afterwards is below the limit
  below_after : (i k s : ℕ) → After i k s → s < limit
  below_after i k s (inl a) = column-below renewed own [] fresh base next limit xs is k s a.1
  below_after i k s (inr a) =
      let u : s < fresh = apart.used i k s a.1 in
      let b : fresh ≤ base = is.base_up in
      let n : base + length own ≤ next = is.next_up in
      let l : next ≤ limit = is.limit_up in
      omega arith

  -- what is buried afterwards was so before, or it died and stood
  died_after : (s t : ℕ) → IsGrave (buried renewed site 0 own) s t ⊎ IsGrave graves s t
      → IsGrave graves s t ⊎ (DiesIn renewed own s × StandsSomewhere lists s)
  died_after s t (inl g) = let d = buried_dies renewed site own s t g in inr (d, (j, d.0, in_list d.0 s d.1))
  died_after s t (inr g) = inl g

  -- the numbers stay apart
  pub one-apart : AreKeptApart new_lists (buried renewed site 0 own ++ graves) limit
  one-apart = renewed-apart (DiesIn renewed own) lists new_lists graves (buried renewed site 0 own ++ graves) fresh limit (record {
    up = let b : fresh ≤ base = is.base_up in let n : base + length own ≤ next = is.next_up in let l : next ≤ limit = is.limit_up in omega arith;
    came = λ i k s h used. came_after i k s used (after i k s h);
    alive = λ i k s h d. alive_after i k s d (after i k s h);
    below = λ i k s h. below_after i k s (after i k s h);
    once = λ i k n h s a b. once_after i k n h s (after i k s a) (after n h s b);
    died = λ s t g. died_after s t (grave_cases (buried renewed site 0 own) graves s t g);
  }) apart

  -- what stood in the list stands in the changed one, or it is buried
  own_stays : AllTaken renewed (length own) xs → (k s : ℕ) → slice_get own k ≡ Some s
      → ((i : ℕ) × (h : ℕ) × Stands new_lists i h s) ⊎ IsGrave (buried renewed site 0 own ++ graves) s site
  own_stays all k s at = by_renewed (renewed k) refl
    where
      by_taken : renewed k ≡ false → IsTaken xs k ⊎ (renewed k ≡ true)
          → ((i : ℕ) × (h : ℕ) × Stands new_lists i h s) ⊎ IsGrave (buried renewed site 0 own ++ graves) s site
      by_taken stays (inl t) = inl (j, t.0, (new_list, at_own, stays_at renewed base own [] next xs t.0 k s t.1 t.2 t.3 at stays))
      by_taken stays (inr dies) = absurd (both_ways (renewed k) stays dies)

      by_renewed : (b : Bool) → renewed k ≡ b
          → ((i : ℕ) × (h : ℕ) × Stands new_lists i h s) ⊎ IsGrave (buried renewed site 0 own ++ graves) s site
      by_renewed true dies = inr (buried_grave renewed site own graves k s at dies)
      by_renewed false stays = by_taken stays (all k (get_within own k s at))

  -- no number vanishes
  pub one-none : AllTaken renewed (length own) xs → NoneVanishFrom lists site new_lists (buried renewed site 0 own ++ graves)
  one-none all i k s h = ⊎_elim
      (λ (e : j ≡ i).
      let q : Some own ≡ Some h.0 = sym there ∙ (ap (slice_get lists) e ∙ h.1) in
      let r : own ≡ h.0 = cc in
      own_stays all k s (ap (λ (l : List ℕ). slice_get l k) r ∙ h.2))
      (λ (n : j ≢ i). inl (i, k, (h.0, get_set_other lists j i new_list n ∙ h.1, h.2)))
      (cases_eq j i)
