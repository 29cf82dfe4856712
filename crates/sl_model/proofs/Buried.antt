-- What was dropped and at which site.
use Rattle.std.proofs.Common.{◌≡◌, ℕ, zero, suc, ◌+◌, ◌==◌, Bool, true, false, List, [], ◌∷◌, ◌++◌, Some, refl, ap, sym, ◌∙◌, arith, if◌then◌else◌}
use Rattle.std.proofs.Common.{◌⊎◌, inl, inr, ⊎_elim}
use Rattle.std.specs.List.{slice_get}
use Rattle.std.proofs.lemmas.Bool.{eqb-true, eqb-false}
use Rattle.sl_model.specs.Memory.Containers.{Grave, IsGrave, Memory, killer_of, killer, Dropped}
use Rattle.sl_model.specs.Memory.Edits.{buried}

-- the site beside a stamp is beside it among these
pub killer_is : (s : ℕ) (gs : List Grave) (site : ℕ) → killer_of s gs ≡ Some site → IsGrave gs s site
killer_is s [] site h = absurd (cc)
killer_is s (g ∷ gs) site h = by_test (killer_is s gs site) (g.mark == s) refl h
  where
    by_test : (killer_of s gs ≡ Some site → IsGrave gs s site) → (b : Bool) → (g.mark == s) ≡ b
        → (if b then Some g.site else killer_of s gs) ≡ Some site → IsGrave (g ∷ gs) s site
    by_test rest true t e =
        let a : g.mark ≡ s = eqb-true g.mark s t in
        let b : g.site ≡ site = cc in
        (0, ap (λ (n : ℕ). Some (record { mark = n; site = g.site })) a ∙ ap (λ (n : ℕ). Some (record { mark = s; site = n })) b)
    by_test rest false t e = let r = rest e in (suc r.0, r.1)

-- a stamp that is among these has a site beside it
pub is_killer : (s : ℕ) (gs : List Grave) (site : ℕ) → IsGrave gs s site → (other : ℕ) × (killer_of s gs ≡ Some other)
is_killer s [] site h = absurd (let q = h.1 in cc)
is_killer s (g ∷ gs) site h = by_test (λ r. is_killer s gs site r) (g.mark == s) refl (h.0) (h.1)
  where
    by_test : (IsGrave gs s site → (other : ℕ) × (killer_of s gs ≡ Some other)) → (b : Bool) → (g.mark == s) ≡ b → (i : ℕ)
        → slice_get (g ∷ gs) i ≡ Some (record { mark = s; site = site }) → (other : ℕ) × ((if b then Some g.site else killer_of s gs) ≡ Some other)
    by_test rest true t i e = (g.site, refl)
    by_test rest false t zero e =
        let q : g ≡ record { mark = s; site = site } = cc in
        let a : g.mark ≡ s = ap (λ (x : Grave). x.mark) q in
        absurd (eqb-false g.mark s t a)
    by_test rest false t (suc i) e = rest (i, e)

-- a stamp that is not among the first of these has the site that is beside it behind them
pub killer_behind : (s : ℕ) (gs hs : List Grave) → ((site : ℕ) → IsGrave gs s site → ⊥) → killer_of s (gs ++ hs) ≡ killer_of s hs
killer_behind s [] hs h = refl
killer_behind s (g ∷ gs) hs h = by_test (killer_behind s gs hs (λ site r. h site (suc r.0, r.1))) (g.mark == s) refl
  where
    by_test : killer_of s (gs ++ hs) ≡ killer_of s hs → (b : Bool) → (g.mark == s) ≡ b → (if b then Some g.site else killer_of s (gs ++ hs))
        ≡ killer_of s hs
    by_test rest true t = absurd (h g.site (0, ap (λ (n : ℕ). Some (record { mark = n; site = g.site })) (eqb-true g.mark s t)))
    by_test rest false t = rest

-- a stamp that has a site among the first of these has it among them all
pub killer_before : (s : ℕ) (gs hs : List Grave) (site : ℕ) → killer_of s gs ≡ Some site → killer_of s (gs ++ hs) ≡ Some site
killer_before s [] hs site h = absurd (cc)
killer_before s (g ∷ gs) hs site h = by_test (killer_before s gs hs site) (g.mark == s) h
  where
    by_test : (killer_of s gs ≡ Some site → killer_of s (gs ++ hs) ≡ Some site) → (b : Bool)
        → (if b then Some g.site else killer_of s gs) ≡ Some site → (if b then Some g.site else killer_of s (gs ++ hs)) ≡ Some site
    by_test rest true e = e
    by_test rest false e = rest e

-- what is among joined lists of graves is in one of them
pub grave_cases : (gs hs : List Grave) (s site : ℕ) → IsGrave (gs ++ hs) s site → IsGrave gs s site ⊎ IsGrave hs s site
grave_cases [] hs s site h = inr h
grave_cases (g ∷ gs) hs s site h = by_place (λ r. grave_cases gs hs s site r) (h.0) (h.1)
  where
    by_place : (IsGrave (gs ++ hs) s site → IsGrave gs s site ⊎ IsGrave hs s site) → (i : ℕ)
        → slice_get (g ∷ (gs ++ hs)) i ≡ Some (record { mark = s; site = site }) → IsGrave (g ∷ gs) s site ⊎ IsGrave hs s site
    by_place rest zero e = inl (0, e)
    by_place rest (suc i) e = ⊎_elim (λ (r : IsGrave gs s site). inl (suc r.0, r.1)) (λ r. inr r) (rest (i, e))

-- a stamp stood at a place that is invalidated, counted from i, and the site is that of the change
abbrev pub StoodAt : (ℕ → Bool) → ℕ → ℕ → List ℕ → ℕ → ℕ → Type 0
StoodAt kill at i ss s site = (d : ℕ) × (slice_get ss d ≡ Some s) × (kill (i + d) ≡ true) × (at ≡ site)

-- what a change drops stood at a place that it invalidates, and the site is the change's
pub buried_stood : (kill : ℕ → Bool) (at i : ℕ) (ss : List ℕ) (s site : ℕ) → IsGrave (buried kill at i ss) s site → StoodAt kill at i ss s site
buried_stood kill at i [] s site h = absurd (let q = h.1 in cc)
buried_stood kill at i (x ∷ ss) s site h =
    by_kill (λ g. let r = buried_stood kill at (i + 1) ss s site g in let e : i + suc r.0 ≡ (i + 1) + r.0 = omega arith in
    (suc r.0, r.1, ap kill e ∙ r.2, r.3)) (kill i) refl h
  where
    by_place : (IsGrave (buried kill at (i + 1) ss) s site → StoodAt kill at i (x ∷ ss) s site) → kill i ≡ true → (n : ℕ)
        → slice_get (record { mark = x; site = at } ∷ buried kill at (i + 1) ss) n ≡ Some (record { mark = s; site = site })
        → StoodAt kill at i (x ∷ ss) s site
    by_place further t zero e =
        let q : ◌≡◌ {A = Grave} (record { mark = x; site = at }) (record { mark = s; site = site }) = cc in
        let z : i + 0 ≡ i = omega arith in
        (0, ap (λ (g : Grave). Some g.mark) q, ap kill z ∙ t, ap (λ (g : Grave). g.site) q)
    by_place further t (suc n) e = further (n, e)

    by_kill : (IsGrave (buried kill at (i + 1) ss) s site → StoodAt kill at i (x ∷ ss) s site) → (b : Bool) → kill i ≡ b
        → IsGrave (if b then record { mark = x; site = at } ∷ buried kill at (i + 1) ss else buried kill at (i + 1) ss) s site
        → StoodAt kill at i (x ∷ ss) s site
    by_kill further true t g = by_place further t (g.0) (g.1)
    by_kill further false t g = further g

-- what stood at a place that a change invalidates is dropped
pub buried_has : (kill : ℕ → Bool) (at i : ℕ) (ss : List ℕ) (d s : ℕ) → slice_get ss d ≡ Some s → kill (i + d) ≡ true
    → IsGrave (buried kill at i ss) s at
buried_has kill at i [] d s h t = absurd (cc)
buried_has kill at i (x ∷ ss) zero s h t =
    let z : i ≡ i + 0 = omega arith in
    let q : kill i ≡ true = ap kill z ∙ t in
    let e : x ≡ s = cc in
    let here : slice_get (record { mark = x; site = at } ∷ buried kill at (i + 1) ss) 0 ≡ Some (record { mark = s; site = at }) =
    ap (λ (n : ℕ). Some (record { mark = n; site = at })) e in (
      0,
      ap (λ (b : Bool). slice_get (if b then record { mark = x; site = at } ∷ buried kill at (i + 1) ss else buried kill at (i + 1) ss) 0) q
          ∙ here,
    )
buried_has kill at i (x ∷ ss) (suc d) s h t =
    by_kill (buried_has kill at (i + 1) ss d s h (ap kill (next_one i d) ∙ t)) (kill i)
  where
    next_one : (i d : ℕ) → (i + 1) + d ≡ i + suc d
    next_one i d = omega arith

    by_kill : IsGrave (buried kill at (i + 1) ss) s at → (b : Bool)
        → IsGrave (if b then record { mark = x; site = at } ∷ buried kill at (i + 1) ss else buried kill at (i + 1) ss) s at
    by_kill r true = (suc r.0, r.1)
    by_kill r false = r

-- the site beside what stood at a place that a change invalidates is that of the change
pub buried_killer : (kill : ℕ → Bool) (at i : ℕ) (ss : List ℕ) (d s : ℕ) → slice_get ss d ≡ Some s → kill (i + d) ≡ true
    → killer_of s (buried kill at i ss) ≡ Some at
buried_killer kill at i ss d s h t =
    let r = is_killer s (buried kill at i ss) at (buried_has kill at i ss d s h t) in
    let q = buried_stood kill at i ss s r.0 (killer_is s (buried kill at i ss) r.0 r.1) in
    r.1 ∙ ap (λ n. Some n) (sym q.3)

-- a site beside a stamp tells that it was dropped there
pub dropped-killer : (m : Memory) (s site : ℕ) → killer m s ≡ Some site → Dropped m s site
dropped-killer m s site h = killer_is s m.graves site h

-- a stamp that was dropped has a site beside it
pub killer-dropped : (m : Memory) (s site : ℕ) → Dropped m s site → (other : ℕ) × (killer m s ≡ Some other)
killer-dropped m s site h = is_killer s m.graves site h
