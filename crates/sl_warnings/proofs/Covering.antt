-- A report that covers a trap covers it after one warning more, and then covers what that warning tells of.
use Rattle.std.proofs.Common.{arith, ◌≡◌, ℕ, zero, suc, List, [], ◌∷◌, Some, refl, sym, subst, ◌∙◌}
use Rattle.std.specs.Prelude.{slice_get}
use Rattle.sl_model.specs.Reports.Covers.{Warning, Tells, Covers}
use Rattle.sl_model.specs.Runs.Ends.{Trap}
use Rattle.sl_warnings.specs.Reports.{warning_cmp, with_killers, added, Agrees, IsSameNeed}
use Rattle.sl_warnings.proofs.Spots.{IsSameSpot, same_spot}
use Rattle.sl_warnings.proofs.Adding.{by_order, added-less, added-equal, added-greater}
use Rattle.sl_warnings.proofs.Sites.{joined-first, joined-second}

-- a warning with more killers tells of no less
pub tells_more : (names : List (List ℕ)) (v : Warning) (t : Trap) (more : List ℕ) → Tells names v t → Tells names (with_killers v more) t
tells_more names v t more h =
    record {
      place = h.place;
      kind = h.kind;
      call = h.call;
      argument = h.argument;
      name = h.name;
      killer = λ site e. joined-first site v.killers more (h.killer site e);
    }

-- a warning that gets the killers of one of the same need tells of what that one tells of
tells_joined : (names : List (List ℕ)) (v w : Warning) (t : Trap) → IsSameSpot v w → IsSameNeed v w → Tells names w t
    → Tells names (with_killers v w.killers) t
tells_joined names v w t spot need h = record {
  place = spot.place ∙ h.place;
  kind = spot.kind ∙ h.kind;
  call = need.call ∙ h.call;
  argument = spot.argument ∙ h.argument;
  name = need.name ∙ h.name;
  killer = λ site e. joined-second site v.killers w.killers (h.killer site e);
}

-- a report covers what its first warning tells of
covers_first : (names : List (List ℕ)) (w : Warning) (ws : List Warning) (t : Trap) → Tells names w t → Covers names (w ∷ ws) t
covers_first names w ws t h = record { index = 0; warning = w; there = refl; tells = h }

-- a report covers what its other warnings cover
covers_rest : (names : List (List ℕ)) (w : Warning) (ws : List Warning) (t : Trap) → Covers names ws t → Covers names (w ∷ ws) t
covers_rest names w ws t h = record { index = suc h.index; warning = h.warning; there = h.there; tells = h.tells }

-- what a warning at an index tells of is covered after one warning more
covers_at : (names : List (List ℕ)) (w : Warning) (t : Trap) (vs : List Warning) (i : ℕ) (x : Warning) → slice_get vs i ≡ Some x → Tells names x t
    → Covers names (added w vs) t
covers_at names w t [] i x there tells = absurd cc
covers_at names w t (v ∷ vs) zero x there tells =
    let C : List Warning → Type 0 = λ l. Covers names l t in
    let same : v ≡ x = cc in
    let told : Tells names v t = subst (λ u. Tells names u t) (sym same) tells in
    by_order (C (added w (v ∷ vs))) (warning_cmp v w)
    (λ h. subst C (sym (added-less w v vs h)) (covers_first names v (added w vs) t told))
    (λ h. subst C (sym (added-equal w v vs h)) (covers_first names (with_killers v w.killers) vs t (tells_more names v t w.killers told)))
    (λ h. subst C (sym (added-greater w v vs h)) (covers_rest names w (v ∷ vs) t (covers_first names v vs t told)))
covers_at names w t (v ∷ vs) (suc i) x there tells =
    let C : List Warning → Type 0 = λ l. Covers names l t in
    let rest : C vs = record { index = i; warning = x; there = there; tells = tells } in
    by_order (C (added w (v ∷ vs))) (warning_cmp v w)
    (λ h. subst C (sym (added-less w v vs h)) (covers_rest names v (added w vs) t (covers_at names w t vs i x there tells)))
    (λ h. subst C (sym (added-equal w v vs h)) (covers_rest names (with_killers v w.killers) vs t rest))
    (λ h. subst C (sym (added-greater w v vs h)) (covers_rest names w (v ∷ vs) t (covers_rest names v vs t rest)))

-- what was covered is covered after one warning more
pub covers_old : (names : List (List ℕ)) (w : Warning) (ws : List Warning) (t : Trap) → Covers names ws t → Covers names (added w ws) t
covers_old names w ws t h = covers_at names w t ws h.index h.warning h.there h.tells

-- what the new warning tells of is covered, where those with its place, kind and argument are of its need
pub covers_new : (names : List (List ℕ)) (w : Warning) (ws : List Warning) (t : Trap) → Agrees w ws → Tells names w t → Covers names (added w ws) t
covers_new names w [] t agrees h = covers_first names w [] t h
covers_new names w (v ∷ vs) t agrees h =
    let C : List Warning → Type 0 = λ l. Covers names l t in
    by_order (C (added w (v ∷ vs))) (warning_cmp v w)
    (λ e. subst C (sym (added-less w v vs e))
    (covers_rest names v (added w vs) t (covers_new names w vs t (λ k d lt. agrees (suc k) d (omega arith)) h)))
    (λ e. subst C (sym (added-equal w v vs e))
    (covers_first names (with_killers v w.killers) vs t (tells_joined names v w t (same_spot v w e) (agrees 0 v (omega arith) e) h)))
    (λ e. subst C (sym (added-greater w v vs e)) (covers_first names w (v ∷ vs) t h))
