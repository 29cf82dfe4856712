-- A store in which two containers exchanged elements shows the memory after the changes of the model that are so.
use Rattle.std.proofs.Common.{◌≡◌, ◌≢◌, ℕ, ◌+◌, ◌<◌, ◌≤◌, Bool, true, false, List, Option, Some, None, length, map, refl, ap, sym, ◌∙◌, arith, ◌⊎◌, inl, inr}
use Rattle.std.proofs.Common.{⊎_elim, if◌then◌else◌, ◌++◌}
use Rattle.std.specs.List.{slice_get, slice_set}
use Rattle.std.proofs.lemmas.Bool.{both_ways}
use Rattle.std.proofs.lemmas.List.{length-map}
use Rattle.sl_base.specs.declared.form.Form.{Form}
use Rattle.sl_model.specs.Memory.Containers.{Cont, Grave, Memory, size, cont_at, stamps, refers, killer_of}
use Rattle.sl_model.specs.Memory.Edits.{Change, rebuilt, next_of_two, buried, after_two}
use Rattle.sl_model.specs.Runs.Good.{IsSound}
use Rattle.sl_model.specs.Runs.State.{Pointer}
use Rattle.sl_model.specs.LibraryCalls.Values.{Value}
use Rattle.sl_model.proofs.AfterTwo.{IsFairSide, trade-sound}
use Rattle.sl_model.proofs.Buried.{buried_stood, buried_killer, killer_before, killer_behind}
use Rattle.sl_model.proofs.Columns.{AllInside, marks_from, rebuilt-stamps, rebuilt-refers, rebuilt-size, stamps-length, refers-length}
use Rattle.sl_model.proofs.Getting.{get_map, get_within, map_set}
use Rattle.sl_model.proofs.Located.{at_stands, refers_stands}
use Rattle.sl_model.proofs.Moved.{element_or_end, iterator-stays, reference-stays, end-stays, iterator-comes, reference-comes}
use Rattle.sl_model.proofs.Places.{times, own_places, their_places, CountsFairSide, counts-fair_side}
use Rattle.sl_model.proofs.WithEnd.{with_end, with_end-inside}
use Rattle.sl_slots.specs.declared.container.Element.{Element}
use Rattle.sl_slots.specs.declared.slot.Slot.{Slot}
use Rattle.sl_slots.specs.declared.slot.Slot.TheVariants.{Stands, Gone}
use Rattle.sl_slots.specs.declared.source.Source.{Source as SourceCode}
use Rattle.sl_slots.specs.declared.store.Store.{Store}
use Rattle.sl_slots.specs.declared.trade.Side.{Side}
use Rattle.sl_slots.specs.declared.trade.Trade.{Trade}
use Rattle.sl_slots.specs.declared.motion.Motion.TheVariants.{Trades}
use Rattle.sl_slots.specs.Rearranging.{source_code, element_from, place_taken}
use Rattle.sl_slots.specs.Trading.{place_over, traded_place, traded, trade_fate, IsSide}
use Rattle.sl_slots.specs.Fates.{slot_after}
use Rattle.sl_slots.specs.Shown.{Plain, plain, contents, element_of, slot_in, Holds}
use Rattle.sl_slots.specs.Stored.{contents_at, elements_at, exchanged, Traded}
use Rattle.sl_slots.proofs.Elements.{sources_same, codes_give}
use Rattle.sl_slots.proofs.Following.{SlotsFollow, moved_holds}
use Rattle.sl_slots.proofs.Going.{over_comes, none_over}
use Rattle.sl_slots.proofs.ReadingShows.{contents_shown}
use Rattle.sl_slots.proofs.RearrangingShows.{if_low, if_high}
use Rattle.sl_slots.proofs.SlotLaws.{AreFound, stamps_found, refers_found, slot-gone}
use Rattle.sl_slots.proofs.Taking.{place_comes, none_takes}
use Rattle.sl_slots.proofs.TradeLaws.{IsInEither, column_came, in_first, in_second, slot-traded}

-- ## One of the two

module _ (own other : Side) (ends : Bool) (site : ℕ) (c d : Cont) (ch dh : Change) (is : IsSide own ends c ch) (is' : IsSide other ends d dh)
    (sized : own.size ≡ size c) (fair : CountsFairSide c d ch dh) (base next base' next' : ℕ) (slot : ℕ → Slot) where
  -- where an element goes
  element_goes : (k s : ℕ) → k < size c → ((p : ℕ) → place_taken (map source_code ch.sources) k ≡ Some p → slot s ≡ Stands own.container p)
      → ((p : ℕ) → place_over (map source_code dh.sources) k ≡ Some p → slot s ≡ Stands other.container p)
      → slot s ≡ traded own other ends site k
  element_goes k s low stays goes =
      by_place (place_taken (map source_code ch.sources) k) (place_over (map source_code dh.sources) k) refl refl
      ∙ (ap (λ (l : List SourceCode). traded_place own.container (place_taken l k) other.container
      (place_over (map source_code dh.sources) k) site) (sym is.sources)
      ∙ (ap (λ (l : List SourceCode). traded_place own.container (place_taken own.sources.items k) other.container (place_over l k) site)
      (sym is'.sources)
      ∙ sym (if_low k own.size
      (traded_place own.container (place_taken own.sources.items k) other.container (place_over other.sources.items k) site)
      (if ends then Gone (Some site) else Stands own.container (length own.sources.items))
      (let z : own.size ≡ size c = sized in omega arith))))
    where
      taken : (o u : Option ℕ) → place_taken (map source_code ch.sources) k ≡ None → place_over (map source_code dh.sources) k ≡ None → ⊥
      taken o u e g =
          let a : times k (own_places ch.sources) ≡ 0 = none_takes ch.sources k e in
          let b : times k (their_places dh.sources) ≡ 0 = none_over dh.sources k g in
          both_ways (ch.kill k) (is.iterators k low) (fair.dies k low (omega arith)).0

      by_place : (o u : Option ℕ) → place_taken (map source_code ch.sources) k ≡ o → place_over (map source_code dh.sources) k ≡ u
          → slot s ≡ traded_place own.container (place_taken (map source_code ch.sources) k) other.container
          (place_over (map source_code dh.sources) k) site
      by_place (Some p) u e g = stays p e
          ∙ ap (λ (x : Option ℕ). traded_place own.container x other.container (place_over (map source_code dh.sources) k) site) (sym e)
      by_place None (Some p) e g = goes p g
          ∙ (ap (λ (x : Option ℕ). traded_place own.container None other.container x site) (sym g)
          ∙ ap (λ (x : Option ℕ). traded_place own.container x other.container (place_over (map source_code dh.sources) k) site) (sym e))
      by_place None None e g = absurd (taken None None e g)

  -- what becomes of iterators
  pub stamp_goes : ((k s : ℕ) → slice_get (stamps (rebuilt base next ch c d)) k ≡ Some s → slot s ≡ Stands own.container k)
      → ((k s : ℕ) → slice_get (stamps (rebuilt base' next' dh d c)) k ≡ Some s → slot s ≡ Stands other.container k)
      → ((k s : ℕ) → slice_get (stamps c) k ≡ Some s → ch.kill k ≡ true → slot s ≡ Gone (Some site))
      → (k s : ℕ) → slice_get (stamps c) k ≡ Some s → slot s ≡ traded own other ends site k
  stamp_goes in_own in_other gone k s at = by_end (element_or_end c k s at)
    where
      end_goes : k ≡ size c → (b : Bool) → ends ≡ b
          → slot s ≡ (if ends then Gone (Some site) else Stands own.container (length own.sources.items))
      end_goes e true t = gone k s at (ap ch.kill e ∙ (is.end ∙ t))
          ∙ ap (λ (b : Bool). if b then Gone (Some site) else Stands own.container (length own.sources.items)) (sym t)
      end_goes e false t =
          in_own (size (rebuilt base next ch c d)) s
          (end-stays ch base next c d s (is.end ∙ t) (ap (slice_get (stamps c)) (sym e) ∙ at))
          ∙ (ap (λ n. Stands own.container n)
          (rebuilt-size ch base c d next
          ∙ (sym (length-map ch.sources source_code) ∙ ap (λ (l : List SourceCode). length l) (sym is.sources)))
          ∙ ap (λ (b : Bool). if b then Gone (Some site) else Stands own.container (length own.sources.items)) (sym t))

      by_end : (k < size c) ⊎ ((k ≡ size c) × (c.end ≡ s)) → slot s ≡ traded own other ends site k
      by_end (inl low) = element_goes k s low
          (λ p e. in_own p s (iterator-stays ch base next c d p k s (place_comes ch.sources k p e) low (is.iterators k low) at))
          (λ p e. in_other p s (iterator-comes dh base' next' d c p k s (over_comes dh.sources k p e) low at))
      by_end (inr e) = end_goes e.0 ends refl
          ∙ sym (if_high k own.size
          (traded_place own.container (place_taken own.sources.items k) other.container (place_over other.sources.items k) site)
          (if ends then Gone (Some site) else Stands own.container (length own.sources.items))
          (let z : own.size ≡ size c = sized in let q : k ≡ size c = e.0 in omega arith))

  -- and of references
  pub refer_goes : ((k s : ℕ) → slice_get (refers (rebuilt base next ch c d)) k ≡ Some s → slot s ≡ Stands own.container k)
      → ((k s : ℕ) → slice_get (refers (rebuilt base' next' dh d c)) k ≡ Some s → slot s ≡ Stands other.container k)
      → (k s : ℕ) → slice_get (refers c) k ≡ Some s → slot s ≡ traded own other ends site k
  refer_goes in_own in_other k s at =
      let w : k < length (refers c) = get_within (refers c) k s at in
      let l : length (refers c) ≡ size c = refers-length c in
      let low : k < size c = omega arith in
      element_goes k s low
      (λ p e. in_own p s (reference-stays ch base next c d p k s (place_comes ch.sources k p e) (is.references k low) at))
      (λ p e. in_other p s (reference-comes dh base' next' d c p k s (over_comes dh.sources k p e) at))

-- what stands in a changed container and was used stood in one of the two
stamps_came : (c d : Cont) (ch : Change) (fresh base next p s : ℕ) → AllInside (size c) (size d) ch.sources → fresh ≤ base → fresh ≤ next
    → slice_get (stamps (rebuilt base next ch c d)) p ≡ Some s → s < fresh → IsInEither (stamps c) (stamps d) s
stamps_came c d ch fresh base next p s inside low high at used = column_came ch.kill fresh base next (stamps c) (stamps d)
    (with_end (size c) ch.sources) p s
    (let l : length (stamps c) ≡ size c + 1 = stamps-length c in let l' : length (stamps d) ≡ size d + 1 = stamps-length d in
    rw (l, l') (with_end-inside (size c) (size d) (size c + 1) (size d + 1) ch.sources (omega arith) (omega arith) inside))
    low high (sym (ap (λ l. slice_get l p) (rebuilt-stamps ch base c d next inside)) ∙ at) used

refers_came : (c d : Cont) (ch : Change) (fresh base next p s : ℕ) → AllInside (size c) (size d) ch.sources → fresh ≤ base → fresh ≤ next
    → slice_get (refers (rebuilt base next ch c d)) p ≡ Some s → s < fresh → IsInEither (refers c) (refers d) s
refers_came c d ch fresh base next p s inside low high at used = column_came ch.lose fresh base next (refers c) (refers d) ch.sources p s
    (let l : length (refers c) ≡ size c = refers-length c in let l' : length (refers d) ≡ size d = refers-length d in rw (l, l') inside)
    low high (sym (ap (λ l. slice_get l p) (rebuilt-refers ch base c d next inside)) ∙ at) used

-- in either of two is in either of them
other_way : (xs ys : List ℕ) (s : ℕ) → IsInEither xs ys s → IsInEither ys xs s
other_way xs ys s (inl a) = inr a
other_way xs ys s (inr a) = inl a

-- ## Both

module _ (by : Trade) (m : Memory) (c d : Cont) (ch dh : Change) (sound : IsSound m) (differ : by.first.container ≢ by.second.container)
    (there : slice_get m.conts by.first.container ≡ Some c) (there' : slice_get m.conts by.second.container ≡ Some d)
    (sized : by.first.size ≡ size c) (sized' : by.second.size ≡ size d)
    (is : IsSide by.first by.ends c ch) (is' : IsSide by.second by.ends d dh)
    (fair : CountsFairSide c d ch dh) (fair' : CountsFairSide d c dh ch) where
  abbrev j : ℕ
  j = by.first.container

  abbrev i : ℕ
  i = by.second.container

  abbrev next : ℕ
  next = next_of_two m.fresh c d

  abbrev base' : ℕ
  base' = m.fresh + size c + 1

  abbrev next' : ℕ
  next' = next_of_two m.fresh c d + length ch.sources

  abbrev c' : Cont
  c' = rebuilt m.fresh next ch c d

  abbrev d' : Cont
  d' = rebuilt base' next' dh d c

  abbrev t : Memory
  t = after_two ch dh m j c i d by.site

  side : IsFairSide c d ch dh
  side = counts-fair_side c d ch dh fair fair'

  side' : IsFairSide d c dh ch
  side' = counts-fair_side d c dh ch fair' fair

  pub after_sound : IsSound t
  after_sound = trade-sound ch dh m j i c d by.site sound differ there there' side side'

  abbrev first : ℕ → Slot
  first k = traded by.first by.second by.ends by.site k

  abbrev second : ℕ → Slot
  second k = traded by.second by.first by.ends by.site k

  found : AreFound (map stamps m.conts) m.graves m.fresh
  found = stamps_found m sound

  found' : AreFound (map stamps t.conts) t.graves t.fresh
  found' = stamps_found t after_sound

  lost : AreFound (map refers m.conts) m.lost m.fresh
  lost = refers_found m sound

  lost' : AreFound (map refers t.conts) t.lost t.fresh
  lost' = refers_found t after_sound

  -- an iterator that is invalidated in the first
  gone_first : (k s : ℕ) → slice_get (stamps c) k ≡ Some s → ch.kill k ≡ true → killer_of s t.graves ≡ Some by.site
  gone_first k s at dies = killer_before s (buried ch.kill by.site 0 (stamps c)) (buried dh.kill by.site 0 (stamps d) ++ m.graves) by.site
      (buried_killer ch.kill by.site 0 (stamps c) k s at (let z : 0 + k ≡ k = omega arith in ap ch.kill z ∙ dies))

  -- and one in the second
  gone_second : (k s : ℕ) → slice_get (stamps d) k ≡ Some s → dh.kill k ≡ true → killer_of s t.graves ≡ Some by.site
  gone_second k s at dies =
      killer_behind s (buried ch.kill by.site 0 (stamps c)) (buried dh.kill by.site 0 (stamps d) ++ m.graves)
      (λ u g. let q = buried_stood ch.kill by.site 0 (stamps c) s u g in
      differ (sound.stamps_apart.once j q.0 i k s (at_stands m j q.0 s (record { cont = c; there = there; stands = q.1 }))
      (at_stands m i k s (record { cont = d; there = there'; stands = at }))).0)
      ∙ killer_before s (buried dh.kill by.site 0 (stamps d)) m.graves by.site
      (buried_killer dh.kill by.site 0 (stamps d) k s at (let z : 0 + k ≡ k = omega arith in ap dh.kill z ∙ dies))

  iterators : (s : ℕ) → s < m.fresh → slot_in (map stamps t.conts) t.graves s ≡ slot_after (trade_fate by) (slot_in (map stamps m.conts) m.graves s)
  iterators = slot-traded (λ (x : Cont). stamps x) m.conts m.graves m.fresh t.fresh by.site j i c d c' d' ch.kill dh.kill first second differ
      there there' found found'
      (stamp_goes by.first by.second by.ends by.site c d ch dh is is' sized fair m.fresh next base' next'
      (λ s. slot_in (map stamps t.conts) t.graves s)
      (in_first (λ (x : Cont). stamps x) m.conts m.graves m.fresh t.fresh by.site j i c d c' d' ch.kill dh.kill first second differ there there'
      found found')
      (in_second (λ (x : Cont). stamps x) m.conts m.graves m.fresh t.fresh by.site j i c d c' d' ch.kill dh.kill first second differ there there'
      found found')
      (λ k s at dies. slot-gone (map stamps t.conts) t.graves t.fresh found' s by.site (gone_first k s at dies)))
      (stamp_goes by.second by.first by.ends by.site d c dh ch is' is sized' fair' base' next' m.fresh next
      (λ s. slot_in (map stamps t.conts) t.graves s)
      (in_second (λ (x : Cont). stamps x) m.conts m.graves m.fresh t.fresh by.site j i c d c' d' ch.kill dh.kill first second differ there there'
      found found')
      (in_first (λ (x : Cont). stamps x) m.conts m.graves m.fresh t.fresh by.site j i c d c' d' ch.kill dh.kill first second differ there there'
      found found')
      (λ k s at dies. slot-gone (map stamps t.conts) t.graves t.fresh found' s by.site (gone_second k s at dies)))
      (λ k s at low. stamps_came c d ch m.fresh m.fresh next k s side.inside (omega arith) (omega arith) at low)
      (λ k s at low. other_way (stamps d) (stamps c) s
      (stamps_came d c dh m.fresh base' next' k s side'.inside (omega arith) (omega arith) at low))

  references : (s : ℕ) → s < m.fresh → slot_in (map refers t.conts) t.lost s ≡ slot_after (trade_fate by) (slot_in (map refers m.conts) m.lost s)
  references = slot-traded (λ (x : Cont). refers x) m.conts m.lost m.fresh t.fresh by.site j i c d c' d' ch.lose dh.lose first second differ
      there there' lost lost'
      (refer_goes by.first by.second by.ends by.site c d ch dh is is' sized fair m.fresh next base' next'
      (λ s. slot_in (map refers t.conts) t.lost s)
      (in_first (λ (x : Cont). refers x) m.conts m.lost m.fresh t.fresh by.site j i c d c' d' ch.lose dh.lose first second differ there there'
      lost lost')
      (in_second (λ (x : Cont). refers x) m.conts m.lost m.fresh t.fresh by.site j i c d c' d' ch.lose dh.lose first second differ there there'
      lost lost'))
      (refer_goes by.second by.first by.ends by.site d c dh ch is' is sized' fair' base' next' m.fresh next
      (λ s. slot_in (map refers t.conts) t.lost s)
      (in_second (λ (x : Cont). refers x) m.conts m.lost m.fresh t.fresh by.site j i c d c' d' ch.lose dh.lose first second differ there there'
      lost lost')
      (in_first (λ (x : Cont). refers x) m.conts m.lost m.fresh t.fresh by.site j i c d c' d' ch.lose dh.lose first second differ there there'
      lost lost'))
      (λ k s at low. refers_came c d ch m.fresh m.fresh next k s side.inside (omega arith) (omega arith) at low)
      (λ k s at low. other_way (refers d) (refers c) s
      (refers_came d c dh m.fresh base' next' k s side'.inside (omega arith) (omega arith) at low))

  pub trade-follow : SlotsFollow m t (slot_after (trade_fate by)) (slot_after (trade_fate by))
  trade-follow = record { iterators = iterators; references = references }

-- ## The store

-- a container with these elements
abbrev pub as_plain : Form → List Element → ℕ → Plain
as_plain form elements room = record { form = form; elements = elements; room = room }

-- one of the two afterwards
side_shown : (side : Side) (own other : Plain) (ends : Bool) (c d : Cont) (ch : Change) (base next : ℕ) → IsSide side ends c ch → own ≡ plain c
    → other ≡ plain d → exchanged side own other ≡ plain (rebuilt base next ch c d)
side_shown side own other ends c d ch base next is e g =
    ap (λ (x : Plain). exchanged side x other) e
    ∙ (ap (λ (x : Plain). exchanged side (plain c) x) g
    ∙ (ap (λ (l : List SourceCode). as_plain c.form (map (element_from (map element_of c.cells) (map element_of d.cells)) l) side.room) is.sources
    ∙ (ap (λ (n : ℕ). as_plain c.form (map (element_from (map element_of c.cells) (map element_of d.cells)) (map source_code ch.sources)) n) is.room
    ∙ ap (λ (l : List Element). as_plain c.form l ch.room) (codes_give c d ch.sources ∙ sym (sources_same ch base next c d ch.sources)))))

module _ (old_store new_store : Store) (by : Trade) (is : Traded by old_store new_store)
    (low : by.first.container < length old_store.containers.items) (low' : by.second.container < length old_store.containers.items)
    (differ : by.first.container ≢ by.second.container)
    (sized : by.first.size ≡ length (elements_at old_store by.first.container))
    (sized' : by.second.size ≡ length (elements_at old_store by.second.container))
    (m : Memory) (ps : List Pointer) (vs : List Value) (ch dh : Change)
    (same : IsSide by.first by.ends (cont_at m by.first.container) ch) (same' : IsSide by.second by.ends (cont_at m by.second.container) dh)
    (fair : CountsFairSide (cont_at m by.first.container) (cont_at m by.second.container) ch dh)
    (fair' : CountsFairSide (cont_at m by.second.container) (cont_at m by.first.container) dh ch) (h : Holds old_store m ps vs) where
  abbrev c : Cont
  c = cont_at m by.first.container

  abbrev d : Cont
  d = cont_at m by.second.container

  shown : (slice_get m.conts by.first.container ≡ Some c) × (contents_at old_store by.first.container ≡ plain c)
  shown = contents_shown old_store m ps vs h by.first.container low

  shown' : (slice_get m.conts by.second.container ≡ Some d) × (contents_at old_store by.second.container ≡ plain d)
  shown' = contents_shown old_store m ps vs h by.second.container low'

  sizes : by.first.size ≡ size c
  sizes = sized ∙ (ap (λ (x : Plain). length x.elements) shown.1 ∙ length-map c.cells element_of)

  sizes' : by.second.size ≡ size d
  sizes' = sized' ∙ (ap (λ (x : Plain). length x.elements) shown'.1 ∙ length-map d.cells element_of)

  abbrev afterwards : Memory
  afterwards = after_two ch dh m by.first.container c by.second.container d by.site

  abbrev first_cont : Cont
  first_cont = rebuilt m.fresh (next_of_two m.fresh c d) ch c d

  abbrev second_cont : Cont
  second_cont = rebuilt (m.fresh + size c + 1) (next_of_two m.fresh c d + length ch.sources) dh d c

  containers_shown : map contents new_store.containers.items ≡ map plain afterwards.conts
  containers_shown = is.containers
      ∙ (ap (λ (x : Plain). slice_set (slice_set (map contents old_store.containers.items) by.first.container x) by.second.container
      (exchanged by.second (contents_at old_store by.second.container) (contents_at old_store by.first.container)))
      (side_shown by.first _ _ by.ends c d ch m.fresh (next_of_two m.fresh c d) same shown.1 shown'.1)
      ∙ (ap (λ (x : Plain). slice_set (slice_set (map contents old_store.containers.items) by.first.container (plain first_cont)) by.second.container x)
      (side_shown by.second _ _ by.ends d c dh (m.fresh + size c + 1) (next_of_two m.fresh c d + length ch.sources) same' shown'.1 shown.1)
      ∙ (ap (λ (l : List Plain). slice_set (slice_set l by.first.container (plain first_cont)) by.second.container (plain second_cont)) h.shows.containers
      ∙ (ap (λ (l : List Plain). slice_set l by.second.container (plain second_cont)) (sym (map_set plain m.conts by.first.container first_cont))
      ∙ sym (map_set plain (slice_set m.conts by.first.container first_cont) by.second.container second_cont)))))

  -- the store shows the memory after the changes
  pub traded_holds : Holds new_store (after_two ch dh m by.first.container (cont_at m by.first.container)
      by.second.container (cont_at m by.second.container) by.site) ps vs
  traded_holds = moved_holds old_store new_store m afterwards (Trades by) ps vs h is.moved
      (after_sound by m c d ch dh h.sound differ shown.0 shown'.0 sizes sizes' same same' fair fair')
      (grows m.fresh (size c) (size d) (length ch.sources) (length dh.sources))
      (trade-follow by m c d ch dh h.sound differ shown.0 shown'.0 sizes sizes' same same' fair fair')
      containers_shown
    where
      grows : (a b e f g : ℕ) → a ≤ (((a + b + 1) + e + 1) + f) + g
      grows a b e f g = omega arith
