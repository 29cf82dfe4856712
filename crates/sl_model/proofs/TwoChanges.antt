-- A change of two lists of marks that exchange numbers, among many: they stay apart, and none vanishes.
use Rattle.std.proofs.Common.{◌≡◌, ◌≢◌, ℕ, ◌+◌, ◌<◌, ◌≤◌, Bool, true, false, List, ◌++◌, Some, length, refl, ap, sym, ◌∙◌, arith}
use Rattle.std.proofs.Common.{◌⊎◌, inl, inr, ⊎_elim}
use Rattle.std.specs.List.{slice_get, slice_set}
use Rattle.std.proofs.lemmas.Bool.{cases_eq, both_ways}
use Rattle.sl_model.specs.Memory.Containers.{Grave, IsGrave}
use Rattle.sl_model.specs.Memory.Edits.{Source, buried}
use Rattle.sl_model.specs.Runs.Good.{Stands, AreKeptApart, NoneVanishFrom}
use Rattle.sl_model.proofs.Getting.{get_set_same, get_set_other, get_within}
use Rattle.sl_model.proofs.Apart.{StandsSomewhere, renewed-apart, HaveNone, list_distinct}
use Rattle.sl_model.proofs.Buried.{grave_cases}
use Rattle.sl_model.proofs.Columns.{marks_from, stays_at, comes_at}
use Rattle.sl_model.proofs.ColumnLaws.{IsTaken, IsTakenOver, IsColumn, TakenByOne, CameFrom, column-came, column-below, column-distinct, columns-apart}
use Rattle.sl_model.proofs.OneChange.{DiesIn, buried_grave, still_grave, buried_dies}

-- each of n places is taken by one of these sources, or over by one of those, or it is renewed, so that its mark is buried
abbrev pub AllGo : (ℕ → Bool) → ℕ → List Source → List Source → Type 0
AllGo renewed n xs ys = (k : ℕ) → k < n → IsTaken xs k ⊎ (IsTakenOver ys k ⊎ (renewed k ≡ true))

-- what is taken over isn't renewed where it was
abbrev pub NoneTakenDies : (ℕ → Bool) → List Source → Type 0
NoneTakenDies renewed ys = (k : ℕ) → IsTakenOver ys k → renewed k ≡ false

-- What two changes have to be that exchange numbers: that of the list `own` by the sources xs, and that of the list `other` by ys.
pub record IsTrade (renewed renewed' : ℕ → Bool) (own other : List ℕ) (fresh base base' next next' limit limit' : ℕ) (xs ys : List Source) : Type 0 where
  pub first : IsColumn own other fresh base next limit xs
  pub second : IsColumn other own fresh base' next' limit' ys
  pub by_one : TakenByOne xs ys
  pub by_other : TakenByOne ys xs
  pub bases : base + length own ≤ base'
  pub nexts : base' + length other ≤ next
  pub limits : limit ≤ next'
  pub lives : NoneTakenDies renewed ys
  pub lives' : NoneTakenDies renewed' xs

module _ (renewed renewed' : ℕ → Bool) (lists : List (List ℕ)) (graves : List Grave) (fresh base base' next next' limit limit' j i : ℕ)
    (own other : List ℕ) (xs ys : List Source) (site : ℕ) (apart : AreKeptApart lists graves fresh) (differ : j ≢ i)
    (there : slice_get lists j ≡ Some own) (there' : slice_get lists i ≡ Some other)
    (is : IsTrade renewed renewed' own other fresh base base' next next' limit limit' xs ys) where
  -- the lists after the change
  abbrev first_list : List ℕ
  first_list = marks_from renewed base own other next xs

  abbrev second_list : List ℕ
  second_list = marks_from renewed' base' other own next' ys

  abbrev traded : List (List ℕ)
  traded = slice_set (slice_set lists j first_list) i second_list

  -- the graves after the change
  abbrev graves_after : List Grave
  graves_after = buried renewed site 0 own ++ (buried renewed' site 0 other ++ graves)

  -- a number stands in one of the two
  in_first : (h s : ℕ) → slice_get own h ≡ Some s → Stands lists j h s
  in_first h s at = (own, there, at)

  in_second : (h s : ℕ) → slice_get other h ≡ Some s → Stands lists i h s
  in_second h s at = (other, there', at)

  -- the length of the lists stays
  within_second : i < length (slice_set lists j first_list)
  within_second = get_within (slice_set lists j first_list) i other (get_set_other lists j i first_list differ ∙ there')

  -- each changed list is there
  at_first : slice_get traded j ≡ Some first_list
  at_first = get_set_other (slice_set lists j first_list) i j second_list (λ e. differ (sym e))
      ∙ get_set_same lists j first_list (get_within lists j own there)

  at_second : slice_get traded i ≡ Some second_list
  at_second = get_set_same (slice_set lists j first_list) i second_list within_second

  -- each other list stays
  at_other : (n : ℕ) → j ≢ n → i ≢ n → slice_get traded n ≡ slice_get lists n
  at_other n a b = get_set_other (slice_set lists j first_list) i n second_list b ∙ get_set_other lists j n first_list a

  -- where a number stands after the change
  abbrev After : ℕ → ℕ → ℕ → Type 0
  After n k s = ((j ≡ n) × (slice_get first_list k ≡ Some s))
      ⊎ (((i ≡ n) × (slice_get second_list k ≡ Some s)) ⊎ ((j ≢ n) × (i ≢ n) × Stands lists n k s))

  -- what stands after the change stands in one of the three
  after : (n k s : ℕ) → Stands traded n k s → After n k s
  after n k s h = ⊎_elim
      (λ (e : j ≡ n). inl (e, in_list first_list h.0 at_first (ap (slice_get traded) e ∙ h.1) h.2))
      (λ (a : j ≢ n). inr (⊎_elim
      (λ (e : i ≡ n). inl (e, in_list second_list h.0 at_second (ap (slice_get traded) e ∙ h.1) h.2))
      (λ (b : i ≢ n). inr (a, b, (h.0, sym (at_other n a b) ∙ h.1, h.2)))
      (cases_eq i n)))
      (cases_eq j n)
    where
      in_list : (l ms : List ℕ) {o : _} → o ≡ Some l → o ≡ Some ms → slice_get ms k ≡ Some s → slice_get l k ≡ Some s
      in_list l ms a b g = let q : Some l ≡ Some ms = sym a ∙ b in let r : l ≡ ms = cc in ap (λ (x : List ℕ). slice_get x k) r ∙ g

  -- a number stood in one of the two lists and wasn't renewed there
  abbrev Stood : ℕ → Type 0
  Stood s = ((h : ℕ) × (slice_get own h ≡ Some s) × (renewed h ≡ false)) ⊎ ((h : ℕ) × (slice_get other h ≡ Some s) × (renewed' h ≡ false))

  -- so it is with what stands in the first afterwards and was used
  stood_first : (k s : ℕ) → slice_get first_list k ≡ Some s → s < fresh → Stood s
  stood_first k s at used = by_case (column-came renewed own other fresh base next limit xs is.first k s at used)
    where
      by_case : CameFrom renewed own other fresh base next limit xs is.first s → Stood s
      by_case (inl r) = inl r
      by_case (inr r) = inr (r.0, r.1, is.lives' r.0 r.2)

  -- and in the second
  stood_second : (k s : ℕ) → slice_get second_list k ≡ Some s → s < fresh → Stood s
  stood_second k s at used = by_case (column-came renewed' other own fresh base' next' limit' ys is.second k s at used)
    where
      by_case : CameFrom renewed' other own fresh base' next' limit' ys is.second s → Stood s
      by_case (inl r) = inr r
      by_case (inr r) = inl (r.0, r.1, is.lives r.0 r.2)

  -- it stood before
  stood_somewhere : (s : ℕ) → Stood s → StandsSomewhere lists s
  stood_somewhere s (inl r) = (j, r.0, in_first r.0 s r.1)
  stood_somewhere s (inr r) = (i, r.0, in_second r.0 s r.1)

  -- it stands in no other list
  stood_alone : (n h s : ℕ) → Stood s → j ≢ n → i ≢ n → Stands lists n h s → ⊥
  stood_alone n h s (inl r) a b at = a (apart.once j r.0 n h s (in_first r.0 s r.1) at).0
  stood_alone n h s (inr r) a b at = b (apart.once i r.0 n h s (in_second r.0 s r.1) at).0

  -- the two have none in common
  none_in_both : HaveNone first_list second_list
  none_in_both = columns-apart renewed renewed' own other fresh base base' next next' limit limit' xs ys is.first is.second is.by_one is.by_other
      is.bases is.nexts is.limits

  -- what stands twice is in one place
  once_after : (n k m h s : ℕ) → After n k s → After m h s → (n ≡ m) × (k ≡ h)
  once_after n k m h s (inl a) (inl b) =
      (sym a.0 ∙ b.0, column-distinct renewed own other fresh base next limit xs is.first k h s a.1 b.1)
  once_after n k m h s (inl a) (inr (inl b)) = absurd (none_in_both k h s a.1 b.1)
  once_after n k m h s (inl a) (inr (inr b)) =
      absurd (stood_alone m h s (stood_first k s a.1 (apart.used m h s b.2)) b.0 b.1 b.2)
  once_after n k m h s (inr (inl a)) (inl b) = absurd (none_in_both h k s b.1 a.1)
  once_after n k m h s (inr (inl a)) (inr (inl b)) =
      (sym a.0 ∙ b.0, column-distinct renewed' other own fresh base' next' limit' ys is.second k h s a.1 b.1)
  once_after n k m h s (inr (inl a)) (inr (inr b)) =
      absurd (stood_alone m h s (stood_second k s a.1 (apart.used m h s b.2)) b.0 b.1 b.2)
  once_after n k m h s (inr (inr a)) (inl b) =
      absurd (stood_alone n k s (stood_first h s b.1 (apart.used n k s a.2)) a.0 a.1 a.2)
  once_after n k m h s (inr (inr a)) (inr (inl b)) =
      absurd (stood_alone n k s (stood_second h s b.1 (apart.used n k s a.2)) a.0 a.1 a.2)
  once_after n k m h s (inr (inr a)) (inr (inr b)) = apart.once n k m h s a.2 b.2

  -- a number that stands afterwards and was used stood before
  came_after : (n k s : ℕ) → s < fresh → After n k s → StandsSomewhere lists s
  came_after n k s used (inl a) = stood_somewhere s (stood_first k s a.1 used)
  came_after n k s used (inr (inl a)) = stood_somewhere s (stood_second k s a.1 used)
  came_after n k s used (inr (inr a)) = (n, k, a.2)

  -- a number died in one of the two
  abbrev Died : ℕ → Type 0
  Died s = DiesIn renewed own s ⊎ DiesIn renewed' other s

  -- it stood before
  died_somewhere : (s : ℕ) → Died s → StandsSomewhere lists s
  died_somewhere s (inl d) = (j, d.0, in_first d.0 s d.1)
  died_somewhere s (inr d) = (i, d.0, in_second d.0 s d.1)

  -- it was used
  died_used : (s : ℕ) → Died s → s < fresh
  died_used s d = let r = died_somewhere s d in apart.used r.0 r.1 s r.2

  -- what wasn't renewed didn't die
  not_both : (s : ℕ) → Stood s → Died s → ⊥
  not_both s (inl r) (inl d) =
      let e : r.0 ≡ d.0 = list_distinct lists graves fresh apart j own there r.0 d.0 s r.1 d.1 in
      both_ways (renewed d.0) (ap renewed (sym e) ∙ r.2) d.2
  not_both s (inl r) (inr d) = differ (apart.once j r.0 i d.0 s (in_first r.0 s r.1) (in_second d.0 s d.1)).0
  not_both s (inr r) (inl d) = differ (apart.once j d.0 i r.0 s (in_first d.0 s d.1) (in_second r.0 s r.1)).0
  not_both s (inr r) (inr d) =
      let e : r.0 ≡ d.0 = list_distinct lists graves fresh apart i other there' r.0 d.0 s r.1 d.1 in
      both_ways (renewed' d.0) (ap renewed' (sym e) ∙ r.2) d.2

  -- what stands afterwards didn't die
  alive_after : (n k s : ℕ) → Died s → After n k s → ⊥
  alive_after n k s d (inl a) = not_both s (stood_first k s a.1 (died_used s d)) d
  alive_after n k s d (inr (inl a)) = not_both s (stood_second k s a.1 (died_used s d)) d
  alive_after n k s (inl d) (inr (inr a)) = a.0 (apart.once j d.0 n k s (in_first d.0 s d.1) a.2).0
  alive_after n k s (inr d) (inr (inr a)) = a.1 (apart.once i d.0 n k s (in_second d.0 s d.1) a.2).0

  -- the numbers only grow
  grows : fresh ≤ limit'
  grows =
      let a : fresh ≤ base = is.first.base_up in
      let b : base + length own ≤ next = is.first.next_up in
      let c : next ≤ limit = is.first.limit_up in
      let d : limit ≤ next' = is.limits in
      let e : next' ≤ limit' = is.second.limit_up in
      omega arith

  -- what stands afterwards is below the limit
  below_after : (n k s : ℕ) → After n k s → s < limit'
  below_after n k s (inl a) =
      let u : s < limit = column-below renewed own other fresh base next limit xs is.first k s a.1 in
      let d : limit ≤ next' = is.limits in
      let e : next' ≤ limit' = is.second.limit_up in
      omega arith
  below_after n k s (inr (inl a)) = column-below renewed' other own fresh base' next' limit' ys is.second k s a.1
  below_after n k s (inr (inr a)) = let u : s < fresh = apart.used n k s a.2 in let g : fresh ≤ limit' = grows in omega arith

  -- what is buried afterwards was so before, or it died and stood
  died_after : (s t : ℕ) → IsGrave graves_after s t → IsGrave graves s t ⊎ (Died s × StandsSomewhere lists s)
  died_after s t g = ⊎_elim
      (λ (a : IsGrave (buried renewed site 0 own) s t).
      let d : Died s = inl (buried_dies renewed site own s t a) in inr (d, died_somewhere s d))
      (λ (b : IsGrave (buried renewed' site 0 other ++ graves) s t). ⊎_elim
      (λ (a : IsGrave (buried renewed' site 0 other) s t).
      let d : Died s = inr (buried_dies renewed' site other s t a) in inr (d, died_somewhere s d))
      (λ (c : IsGrave graves s t). inl c)
      (grave_cases (buried renewed' site 0 other) graves s t b))
      (grave_cases (buried renewed site 0 own) (buried renewed' site 0 other ++ graves) s t g)

  -- the numbers stay apart
  pub two-apart : AreKeptApart traded graves_after limit'
  two-apart = renewed-apart Died lists traded graves graves_after fresh limit' (record {
    up = grows;
    came = λ n k s h used. came_after n k s used (after n k s h);
    alive = λ n k s h d. alive_after n k s d (after n k s h);
    below = λ n k s h. below_after n k s (after n k s h);
    once = λ n k m h s a b. once_after n k m h s (after n k s a) (after m h s b);
    died = died_after;
  }) apart

  -- where a number is afterwards that stood before
  abbrev Found : ℕ → Type 0
  Found s = ((n : ℕ) × (h : ℕ) × Stands traded n h s) ⊎ IsGrave graves_after s site

  -- what stood in the first list stands in one of the two, or it is buried
  first_stays : AllGo renewed (length own) xs ys → (k s : ℕ) → slice_get own k ≡ Some s → Found s
  first_stays all k s at = by_renewed (renewed k) refl
    where
      by_taken : renewed k ≡ false → IsTaken xs k ⊎ (IsTakenOver ys k ⊎ (renewed k ≡ true)) → Found s
      by_taken stays (inl t) = inl (j, t.0, (first_list, at_first, stays_at renewed base own other next xs t.0 k s t.1 t.2 t.3 at stays))
      by_taken stays (inr (inl t)) = inl (i, t.0, (second_list, at_second, comes_at renewed' base' other own next' ys t.0 k s t.1 t.2 t.3 at))
      by_taken stays (inr (inr dies)) = absurd (both_ways (renewed k) stays dies)

      by_renewed : (b : Bool) → renewed k ≡ b → Found s
      by_renewed true dies = inr (buried_grave renewed site own (buried renewed' site 0 other ++ graves) k s at dies)
      by_renewed false stays = by_taken stays (all k (get_within own k s at))

  -- and what stood in the second
  second_stays : AllGo renewed' (length other) ys xs → (k s : ℕ) → slice_get other k ≡ Some s → Found s
  second_stays all k s at = by_renewed (renewed' k) refl
    where
      by_taken : renewed' k ≡ false → IsTaken ys k ⊎ (IsTakenOver xs k ⊎ (renewed' k ≡ true)) → Found s
      by_taken stays (inl t) = inl (i, t.0, (second_list, at_second, stays_at renewed' base' other own next' ys t.0 k s t.1 t.2 t.3 at stays))
      by_taken stays (inr (inl t)) = inl (j, t.0, (first_list, at_first, comes_at renewed base own other next xs t.0 k s t.1 t.2 t.3 at))
      by_taken stays (inr (inr dies)) = absurd (both_ways (renewed' k) stays dies)

      by_renewed : (b : Bool) → renewed' k ≡ b → Found s
      by_renewed true dies = inr (still_grave (buried renewed site 0 own) (buried renewed' site 0 other ++ graves) s site
          (buried_grave renewed' site other graves k s at dies))
      by_renewed false stays = by_taken stays (all k (get_within other k s at))

  -- no number vanishes
  pub two-none : AllGo renewed (length own) xs ys → AllGo renewed' (length other) ys xs → NoneVanishFrom lists site traded graves_after
  two-none all all' n k s h = ⊎_elim
      (λ (e : j ≡ n). first_stays all k s (in_list own h.0 there (ap (slice_get lists) e ∙ h.1) h.2))
      (λ (a : j ≢ n). ⊎_elim
      (λ (e : i ≡ n). second_stays all' k s (in_list other h.0 there' (ap (slice_get lists) e ∙ h.1) h.2))
      (λ (b : i ≢ n). inl (n, k, (h.0, at_other n a b ∙ h.1, h.2)))
      (cases_eq i n))
      (cases_eq j n)
    where
      in_list : (l ms : List ℕ) {o : _} → o ≡ Some l → o ≡ Some ms → slice_get ms k ≡ Some s → slice_get l k ≡ Some s
      in_list l ms a b g = let q : Some l ≡ Some ms = sym a ∙ b in let r : l ≡ ms = cc in ap (λ (x : List ℕ). slice_get x k) r ∙ g
