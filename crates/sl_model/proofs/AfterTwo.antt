-- Changes of two containers that exchange elements, at a site, in a memory: they leave it sound, and no mark vanishes.
use Rattle.std.proofs.Common.{◌≡◌, ◌≢◌, ℕ, ◌+◌, ◌<◌, ◌≤◌, true, false, List, Some, length, map, ap, sym, ◌∙◌, arith, ◌⊎◌}
use Rattle.std.proofs.Common.{inl, inr, ⊎_elim, subst}
use Rattle.std.specs.List.{slice_get, slice_set}
use Rattle.std.proofs.lemmas.Bool.{cases_eq, cases_lt}
use Rattle.sl_base.specs.declared.limits.TheConstants.{ELEMENTS}
use Rattle.sl_model.specs.Memory.Containers.{Cont, Memory, size, stamps, refers}
use Rattle.sl_model.specs.Memory.Edits.{Source, old, written, theirs, new, Change, rebuilt, next_of_two, after_two}
use Rattle.sl_model.specs.Runs.Good.{AreKeptApart, IsSound, NoneVanishFrom, NoneVanishes}
use Rattle.sl_model.proofs.Getting.{get_set_other, get_within, get_map, map_set}
use Rattle.sl_model.proofs.Apart.{list_distinct, list_below, lists_have_none}
use Rattle.sl_model.proofs.Columns.{TakesTheirs, AllInside, marks_from, rebuilt-stamps, rebuilt-refers, rebuilt-size, stamps-length}
use Rattle.sl_model.proofs.Columns.{refers-length, IsInside}
use Rattle.sl_model.proofs.ColumnLaws.{TakenOnce, IsTaken, IsTakenOver, IsColumn, TakenByOne}
use Rattle.sl_model.proofs.TwoChanges.{AllGo, IsTrade, two-apart, two-none}
use Rattle.sl_model.proofs.WithEnd.{with_end, of_with_end, in_with_end, with_end-inside, with_end-once, new_within, still_taken, end_taken, end_takes}
use Rattle.sl_model.proofs.WithEnd.{end_takes_none, inside_at}
use Rattle.sl_model.proofs.After.{Leaves}
use Rattle.sl_model.proofs.Moved.{first-there, second-there}

-- What one of two changes that exchange elements has to be: its sources are places of the two, none taken twice; what it takes over isn't
-- invalidated by the other change; each element stays, goes over, or its marks are dropped; and there are not too many.
pub record IsFairSide (c d : Cont) (ch dh : Change) : Type 0 where
  pub inside : AllInside (size c) (size d) ch.sources
  pub once : TakenOnce ch.sources
  pub by_one : TakenByOne ch.sources dh.sources
  pub lives : (k : ℕ) → IsTakenOver ch.sources k → (dh.kill k ≡ false) × (dh.lose k ≡ false)
  pub goes : (k : ℕ) → k < size c → IsTaken ch.sources k ⊎ (IsTakenOver dh.sources k ⊎ ((ch.kill k ≡ true) × (ch.lose k ≡ true)))
  pub few : length ch.sources ≤ ELEMENTS

-- places that are taken over are so among the sources with the end, and the other way round
taken_over-end : (n : ℕ) (xs : List Source) (k : ℕ) → IsTakenOver xs k → IsTakenOver (with_end n xs) k
taken_over-end n xs k t = (t.0, t.1, in_with_end n xs t.0 t.1 t.2, t.3)

end-taken_over : (n : ℕ) (xs : List Source) (k : ℕ) → IsTakenOver (with_end n xs) k → IsTakenOver xs k
end-taken_over n xs k t = by_end (of_with_end n xs t.0 t.1 t.2)
  where
    by_end : (slice_get xs t.0 ≡ Some t.1) ⊎ ((t.0 ≡ length xs) × (old n ≡ t.1)) → IsTakenOver xs k
    by_end (inl a) = (t.0, t.1, a, t.3)
    by_end (inr a) = absurd (end_takes_none n t.1 k a.1 t.3)

-- what is taken over lies inside the other container
taken_over-inside : (n n' : ℕ) (xs : List Source) (k : ℕ) → AllInside n n' xs → IsTakenOver xs k → k < n'
taken_over-inside n n' xs k inside t = by_source t.1 (inside_at n n' xs t.0 t.1 inside t.2) t.3
  where
    by_source : (x : Source) → IsInside n n' x → TakesTheirs x k → k < n'
    by_source (old i) h e = absurd e
    by_source (written i z) h e = absurd e
    by_source (theirs i) h e = omega arith
    by_source (new a b) h e = absurd e

module _ (ch dh : Change) (m : Memory) (j i : ℕ) (c d : Cont) (site : ℕ) (sound : IsSound m) (differ : j ≢ i)
    (there : slice_get m.conts j ≡ Some c) (there' : slice_get m.conts i ≡ Some d)
    (fair : IsFairSide c d ch dh) (fair' : IsFairSide d c dh ch) where
  -- the numbers for marks
  abbrev base' : ℕ
  base' = m.fresh + size c + 1

  abbrev next : ℕ
  next = next_of_two m.fresh c d

  abbrev next' : ℕ
  next' = next + length ch.sources

  abbrev limit' : ℕ
  limit' = next' + length dh.sources

  -- the changed containers
  abbrev first : Cont
  first = rebuilt m.fresh next ch c d

  abbrev second : Cont
  second = rebuilt base' next' dh d c

  -- the stamps and refers of the two
  stamps_there : slice_get (map stamps m.conts) j ≡ Some (stamps c)
  stamps_there = get_map (λ (x : Cont). stamps x) m.conts j c there

  stamps_there' : slice_get (map stamps m.conts) i ≡ Some (stamps d)
  stamps_there' = get_map (λ (x : Cont). stamps x) m.conts i d there'

  refers_there : slice_get (map refers m.conts) j ≡ Some (refers c)
  refers_there = get_map (λ (x : Cont). refers x) m.conts j c there

  refers_there' : slice_get (map refers m.conts) i ≡ Some (refers d)
  refers_there' = get_map (λ (x : Cont). refers x) m.conts i d there'

  -- no place is taken by both, with the ends
  by_one-end : (n n' : ℕ) (xs ys : List Source) → AllInside n n' xs → AllInside n' n ys → TakenByOne xs ys
      → TakenByOne (with_end n xs) (with_end n' ys)
  by_one-end n n' xs ys inside inside' by_one p q k a b x y t u = by_ends (of_with_end n xs p a x) (of_with_end n' ys q b y)
    where
      by_ends : (slice_get xs p ≡ Some a) ⊎ ((p ≡ length xs) × (old n ≡ a))
          → (slice_get ys q ≡ Some b) ⊎ ((q ≡ length ys) × (old n' ≡ b)) → ⊥
      by_ends (inl e) (inl g) = by_one p q k a b e g t u
      by_ends e (inr g) = end_takes_none n' b k g.1 u
      by_ends (inr e) (inl g) =
          let low : k < n = taken_over-inside n' n ys k inside' (q, b, g, u) in
          let same : n ≡ k = end_takes n a k e.1 t in
          omega arith

  -- the stamps of one of the two are a column
  stamp_column : (a b : Cont) (x y : ℕ) (ah bh : Change) (base next limit : ℕ) → slice_get (map stamps m.conts) x ≡ Some (stamps a)
      → slice_get (map stamps m.conts) y ≡ Some (stamps b) → x ≢ y → IsFairSide a b ah bh → m.fresh ≤ base → (base + size a) + 1 ≤ next
      → next + length ah.sources ≤ limit → IsColumn (stamps a) (stamps b) m.fresh base next limit (with_end (size a) ah.sources)
  stamp_column a b x y ah bh base next limit at at' other fair low high top = record {
    own_distinct = list_distinct (map stamps m.conts) m.graves m.fresh sound.stamps_apart x (stamps a) at;
    own_below = list_below (map stamps m.conts) m.graves m.fresh sound.stamps_apart x (stamps a) at;
    other_distinct = list_distinct (map stamps m.conts) m.graves m.fresh sound.stamps_apart y (stamps b) at';
    other_below = list_below (map stamps m.conts) m.graves m.fresh sound.stamps_apart y (stamps b) at';
    none = lists_have_none (map stamps m.conts) m.graves m.fresh sound.stamps_apart x y (stamps a) (stamps b) at at' other;
    base_up = low;
    next_up = let l : length (stamps a) ≡ size a + 1 = stamps-length a in omega arith;
    limit_up = omega arith;
    inside = let l : length (stamps a) ≡ size a + 1 = stamps-length a in let l' : length (stamps b) ≡ size b + 1 = stamps-length b in
        rw (l, l') (with_end-inside (size a) (size b) (size a + 1) (size b + 1) ah.sources (omega arith) (omega arith) fair.inside);
    once = with_end-once (size a) (size b) ah.sources fair.inside fair.once;
    news = λ p s here fresh_one. let w : p < length ah.sources = new_within (size a) ah.sources p s here fresh_one in omega arith;
  }

  -- so are the refers
  refer_column : (a b : Cont) (x y : ℕ) (ah bh : Change) (base next limit : ℕ) → slice_get (map refers m.conts) x ≡ Some (refers a)
      → slice_get (map refers m.conts) y ≡ Some (refers b) → x ≢ y → IsFairSide a b ah bh → m.fresh ≤ base → (base + size a) + 1 ≤ next
      → next + length ah.sources ≤ limit → IsColumn (refers a) (refers b) m.fresh base next limit ah.sources
  refer_column a b x y ah bh base next limit at at' other fair low high top = record {
    own_distinct = list_distinct (map refers m.conts) m.lost m.fresh sound.refers_apart x (refers a) at;
    own_below = list_below (map refers m.conts) m.lost m.fresh sound.refers_apart x (refers a) at;
    other_distinct = list_distinct (map refers m.conts) m.lost m.fresh sound.refers_apart y (refers b) at';
    other_below = list_below (map refers m.conts) m.lost m.fresh sound.refers_apart y (refers b) at';
    none = lists_have_none (map refers m.conts) m.lost m.fresh sound.refers_apart x y (refers a) (refers b) at at' other;
    base_up = low;
    next_up = let l : length (refers a) ≡ size a = refers-length a in omega arith;
    limit_up = omega arith;
    inside = let l : length (refers a) ≡ size a = refers-length a in let l' : length (refers b) ≡ size b = refers-length b in rw (l, l') fair.inside;
    once = fair.once;
    news = λ p s here fresh_one. let w : p < length ah.sources = get_within ah.sources p s here in omega arith;
  }

  -- the numbers of the marks follow one another
  low : m.fresh ≤ base'
  low = omega arith

  high : (m.fresh + size c) + 1 ≤ next
  high = omega arith

  high' : (base' + size d) + 1 ≤ next'
  high' = omega arith

  -- the stamps of the two are a trade
  stamp_trade : IsTrade ch.kill dh.kill (stamps c) (stamps d) m.fresh m.fresh base' next next' next' limit' (with_end (size c) ch.sources)
      (with_end (size d) dh.sources)
  stamp_trade = record {
    first = stamp_column c d j i ch dh m.fresh next next' stamps_there stamps_there' differ fair (omega arith) high (omega arith);
    second = stamp_column d c i j dh ch base' next' limit' stamps_there' stamps_there (λ e. differ (sym e)) fair' low high' (omega arith);
    by_one = by_one-end (size c) (size d) ch.sources dh.sources fair.inside fair'.inside fair.by_one;
    by_other = by_one-end (size d) (size c) dh.sources ch.sources fair'.inside fair.inside fair'.by_one;
    bases = let l : length (stamps c) ≡ size c + 1 = stamps-length c in omega arith;
    nexts = let l : length (stamps d) ≡ size d + 1 = stamps-length d in omega arith;
    limits = omega arith;
    lives = λ k t. (fair'.lives k (end-taken_over (size d) dh.sources k t)).0;
    lives' = λ k t. (fair.lives k (end-taken_over (size c) ch.sources k t)).0;
  }

  -- the refers of the two are a trade
  refer_trade : IsTrade ch.lose dh.lose (refers c) (refers d) m.fresh m.fresh base' next next' next' limit' ch.sources dh.sources
  refer_trade = record {
    first = refer_column c d j i ch dh m.fresh next next' refers_there refers_there' differ fair (omega arith) high (omega arith);
    second = refer_column d c i j dh ch base' next' limit' refers_there' refers_there (λ e. differ (sym e)) fair' low high' (omega arith);
    by_one = fair.by_one;
    by_other = fair'.by_one;
    bases = let l : length (refers c) ≡ size c = refers-length c in omega arith;
    nexts = let l : length (refers d) ≡ size d = refers-length d in omega arith;
    limits = omega arith;
    lives = λ k t. (fair'.lives k t).1;
    lives' = λ k t. (fair.lives k t).1;
  }

  -- the lists of stamps afterwards
  stamp_lists : map stamps (after_two ch dh m j c i d site).conts
      ≡ slice_set (slice_set (map stamps m.conts) j (marks_from ch.kill m.fresh (stamps c) (stamps d) next (with_end (size c) ch.sources))) i
      (marks_from dh.kill base' (stamps d) (stamps c) next' (with_end (size d) dh.sources))
  stamp_lists =
      map_set (λ (x : Cont). stamps x) (slice_set m.conts j first) i second
      ∙ (ap (λ l. slice_set l i (stamps second)) (map_set (λ (x : Cont). stamps x) m.conts j first)
      ∙ (ap (λ l. slice_set (slice_set (map stamps m.conts) j l) i (stamps second)) (rebuilt-stamps ch m.fresh c d next fair.inside)
      ∙ ap (λ l. slice_set (slice_set (map stamps m.conts) j
      (marks_from ch.kill m.fresh (stamps c) (stamps d) next (with_end (size c) ch.sources))) i l)
      (rebuilt-stamps dh base' d c next' fair'.inside)))

  -- the lists of refers afterwards
  refer_lists : map refers (after_two ch dh m j c i d site).conts
      ≡ slice_set (slice_set (map refers m.conts) j (marks_from ch.lose m.fresh (refers c) (refers d) next ch.sources)) i
      (marks_from dh.lose base' (refers d) (refers c) next' dh.sources)
  refer_lists =
      map_set (λ (x : Cont). refers x) (slice_set m.conts j first) i second
      ∙ (ap (λ l. slice_set l i (refers second)) (map_set (λ (x : Cont). refers x) m.conts j first)
      ∙ (ap (λ l. slice_set (slice_set (map refers m.conts) j l) i (refers second)) (rebuilt-refers ch m.fresh c d next fair.inside)
      ∙ ap (λ l. slice_set (slice_set (map refers m.conts) j
      (marks_from ch.lose m.fresh (refers c) (refers d) next ch.sources)) i l)
      (rebuilt-refers dh base' d c next' fair'.inside)))

  -- each other container stays
  pub get-third : (n : ℕ) → j ≢ n → i ≢ n → slice_get (after_two ch dh m j c i d site).conts n ≡ slice_get m.conts n
  get-third n a b = get_set_other (slice_set m.conts j first) i n second b ∙ get_set_other m.conts j n first a

  -- no container has too many elements
  small_after : (n : ℕ) (e : Cont) → slice_get (after_two ch dh m j c i d site).conts n ≡ Some e → size e ≤ ELEMENTS
  small_after n e h = ⊎_elim
      (λ (p : j ≡ n). of_size first (rebuilt-size ch m.fresh c d next) fair.few
      (sym (first-there ch dh m j i c d site differ there there') ∙ (ap (slice_get (after_two ch dh m j c i d site).conts) p ∙ h)))
      (λ (a : j ≢ n). ⊎_elim
      (λ (p : i ≡ n). of_size second (rebuilt-size dh base' d c next') fair'.few
      (sym (second-there ch dh m j i c d site differ there there') ∙ (ap (slice_get (after_two ch dh m j c i d site).conts) p ∙ h)))
      (λ (b : i ≢ n). sound.small n e (sym (get-third n a b) ∙ h))
      (cases_eq i n))
      (cases_eq j n)
    where
      of_size : (x : Cont) {k : ℕ} → size x ≡ k → k ≤ ELEMENTS → Some x ≡ Some e → size e ≤ ELEMENTS
      of_size x {k} l few q = let r : x ≡ e = cc in let t : size x ≡ size e = ap (λ (y : Cont). size y) r in omega arith

  -- the memory is sound after the changes
  pub trade-sound : IsSound (after_two ch dh m j c i d site)
  trade-sound = record {
    stamps_apart = subst (λ l. AreKeptApart l (after_two ch dh m j c i d site).graves limit') (sym stamp_lists)
        (two-apart ch.kill dh.kill (map stamps m.conts) m.graves m.fresh m.fresh base' next next' next' limit' j i (stamps c) (stamps d)
        (with_end (size c) ch.sources) (with_end (size d) dh.sources) site sound.stamps_apart differ stamps_there stamps_there' stamp_trade);
    refers_apart = subst (λ l. AreKeptApart l (after_two ch dh m j c i d site).lost limit') (sym refer_lists)
        (two-apart ch.lose dh.lose (map refers m.conts) m.lost m.fresh m.fresh base' next next' next' limit' j i (refers c) (refers d)
        ch.sources dh.sources site sound.refers_apart differ refers_there refers_there' refer_trade);
    small = small_after;
  }

  -- each place of one of the two is taken, or its stamp is dropped
  stamps_go : (a b : Cont) (ah bh : Change) → IsFairSide a b ah bh
      → AllGo ah.kill (length (stamps a)) (with_end (size a) ah.sources) (with_end (size b) bh.sources)
  stamps_go a b ah bh fair k within = ⊎_elim
      (λ (inner : k < size a). by_taken (fair.goes k inner))
      (λ (outer : size a ≤ k).
      let l : length (stamps a) ≡ size a + 1 = stamps-length a in
      let e : size a ≡ k = omega arith in
      inl (subst (λ n. IsTaken (with_end (size a) ah.sources) n) e (end_taken (size a) ah.sources)))
      (cases_lt k (size a))
    where
      by_taken : IsTaken ah.sources k ⊎ (IsTakenOver bh.sources k ⊎ ((ah.kill k ≡ true) × (ah.lose k ≡ true)))
          → IsTaken (with_end (size a) ah.sources) k ⊎ (IsTakenOver (with_end (size b) bh.sources) k ⊎ (ah.kill k ≡ true))
      by_taken (inl t) = inl (still_taken (size a) ah.sources k t)
      by_taken (inr (inl t)) = inr (inl (taken_over-end (size b) bh.sources k t))
      by_taken (inr (inr e)) = inr (inr e.0)

  -- each element of one of the two is taken, or its refer is dropped
  refers_go : (a b : Cont) (ah bh : Change) → IsFairSide a b ah bh → AllGo ah.lose (length (refers a)) ah.sources bh.sources
  refers_go a b ah bh fair k within = let l : length (refers a) ≡ size a = refers-length a in by_taken (fair.goes k (omega arith))
    where
      by_taken : IsTaken ah.sources k ⊎ (IsTakenOver bh.sources k ⊎ ((ah.kill k ≡ true) × (ah.lose k ≡ true)))
          → IsTaken ah.sources k ⊎ (IsTakenOver bh.sources k ⊎ (ah.lose k ≡ true))
      by_taken (inl t) = inl t
      by_taken (inr (inl t)) = inr (inl t)
      by_taken (inr (inr e)) = inr (inr e.1)

  -- no mark vanishes in the changes
  pub trade-none : NoneVanishes m site (after_two ch dh m j c i d site)
  trade-none = record {
    stamps_stand = subst (λ l. NoneVanishFrom (map stamps m.conts) site l (after_two ch dh m j c i d site).graves) (sym stamp_lists)
        (two-none ch.kill dh.kill (map stamps m.conts) m.graves m.fresh m.fresh base' next next' next' limit' j i (stamps c) (stamps d)
        (with_end (size c) ch.sources) (with_end (size d) dh.sources) site sound.stamps_apart differ stamps_there stamps_there' stamp_trade
        (stamps_go c d ch dh fair) (stamps_go d c dh ch fair'));
    refers_stand = subst (λ l. NoneVanishFrom (map refers m.conts) site l (after_two ch dh m j c i d site).lost) (sym refer_lists)
        (two-none ch.lose dh.lose (map refers m.conts) m.lost m.fresh m.fresh base' next next' next' limit' j i (refers c) (refers d)
        ch.sources dh.sources site sound.refers_apart differ refers_there refers_there' refer_trade
        (refers_go c d ch dh fair) (refers_go d c dh ch fair'));
  }

  -- fair changes of two containers leave the memory as a call has to
  pub trade-leaves : Leaves m site (after_two ch dh m j c i d site)
  trade-leaves = record { sound = trade-sound; none = trade-none }
