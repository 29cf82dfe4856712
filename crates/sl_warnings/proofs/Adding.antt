-- A report after one warning more.
use Rattle.std.proofs.Common.{arith, ◌≡◌, ℕ, zero, suc, ◌<◌, ◌≤◌, List, [], ◌∷◌, length, get_or, insert, refl, sym, ap, subst, ◌∙◌}
use Rattle.std.specs.Prelude.{All}
use Rattle.std.specs.List.{AllByRecursion}
use Rattle.std.specs.List.Sorted.{IsStrictlySortedBy}
use Rattle.std.specs.declared.cmp.Ordering.{Ordering}
use Rattle.std.specs.declared.cmp.Ordering.TheVariants.{Less, Equal, Greater}
use Rattle.std.proofs.lemmas.Map.Keys.{Less-from_sorted, sorted_tail}
use Rattle.sl_model.specs.Reports.Covers.{Warning}
use Rattle.sl_warnings.specs.Reports.{warning_cmp, IsAscending, with_killers, with_killers_at, added}
use Rattle.sl_warnings.proofs.Spots.{warning_cmp_total, like_right, greater_first}

module _ (w v : Warning) (vs : List Warning) where
  pub added-less : warning_cmp v w ≡ Less → added w (v ∷ vs) ≡ v ∷ added w vs
  added-less h = rw (h, added) refl

  pub added-equal : warning_cmp v w ≡ Equal → added w (v ∷ vs) ≡ with_killers v w.killers ∷ vs
  added-equal h = rw (h, added) refl

  pub added-greater : warning_cmp v w ≡ Greater → added w (v ∷ vs) ≡ w ∷ v ∷ vs
  added-greater h = rw (h, added) refl

-- where one with the same place, kind and argument is there
pub added-at : (w : Warning) (ws : List Warning) (i : ℕ) (d : Warning) → IsAscending ws → i < length ws → warning_cmp (get_or ws i d) w ≡ Equal
    → added w ws ≡ with_killers_at ws i w.killers
added-at w [] i d asc lt e = absurd (omega arith)
added-at w (v ∷ vs) zero d asc lt e = added-equal w v vs e
added-at w (v ∷ vs) (suc i) d asc lt e =
    let before : warning_cmp v (get_or vs i d) ≡ Less = Less-from_sorted warning_cmp (v ∷ vs) 0 (suc i) d asc (omega arith) lt in
    added-less w v vs (like_right v (get_or vs i d) w e before)
    ∙ ap (λ l. v ∷ l) (added-at w vs i d (sorted_tail warning_cmp v vs asc) (omega arith) e)

-- where it is new
pub added-between : (w : Warning) (ws : List Warning) (i : ℕ) (d : Warning) → i ≤ length ws
    → ((j : ℕ) → j < i → warning_cmp (get_or ws j d) w ≡ Less)
    → (i < length ws → warning_cmp (get_or ws i d) w ≡ Greater) → added w ws ≡ insert ws i w
added-between w [] zero d le below above = refl
added-between w [] (suc i) d le below above = absurd (omega arith)
added-between w (v ∷ vs) zero d le below above = added-greater w v vs (above (omega arith))
added-between w (v ∷ vs) (suc i) d le below above =
    added-less w v vs (below 0 (omega arith))
    ∙ ap (λ l. v ∷ l) (added-between w vs i d (omega arith) (λ j lt. below (suc j) (omega arith)) (λ lt. above (omega arith)))

-- the three cases of the order
pub by_order : (P : Type 0) (o : Ordering) → (o ≡ Less → P) → (o ≡ Equal → P) → (o ≡ Greater → P) → P
by_order P Less less equal greater = less refl
by_order P Equal less equal greater = equal refl
by_order P Greater less equal greater = greater refl

-- what comes before each of a report, and before one warning more, comes before each of the two together
after_added : (u w : Warning) (vs : List Warning) → warning_cmp u w ≡ Less → AllByRecursion (λ y. warning_cmp u y ≡ Less) vs
    → AllByRecursion (λ y. warning_cmp u y ≡ Less) (added w vs)
after_added u w [] first rest = (first, tt)
after_added u w (v ∷ vs) first rest =
    let P = AllByRecursion (λ y. warning_cmp u y ≡ Less) in
    by_order (P (added w (v ∷ vs))) (warning_cmp v w)
    (λ h. subst P (sym (added-less w v vs h)) (rest.0, after_added u w vs first rest.1))
    (λ h. subst P (sym (added-equal w v vs h)) (rest.0, rest.1))
    (λ h. subst P (sym (added-greater w v vs h)) (first, rest))

-- what comes before a warning comes before each behind that one
after_through : (w v : Warning) (vs : List Warning) → warning_cmp w v ≡ Less → AllByRecursion (λ y. warning_cmp v y ≡ Less) vs
    → AllByRecursion (λ y. warning_cmp w y ≡ Less) vs
after_through w v [] h rest = tt
after_through w v (u ∷ us) h rest = (warning_cmp_total.trans w v u h rest.0, after_through w v us h rest.1)

-- further killers change no place in the order
after_joined : (v : Warning) (more : List ℕ) (vs : List Warning) → AllByRecursion (λ y. warning_cmp v y ≡ Less) vs
    → AllByRecursion (λ y. warning_cmp (with_killers v more) y ≡ Less) vs
after_joined v more vs h = h

-- the report stays in order
pub added-ascending : (w : Warning) (ws : List Warning) → IsAscending ws → IsAscending (added w ws)
unfolding IsStrictlySortedBy
added-ascending w [] asc = (tt, tt)
added-ascending w (v ∷ vs) asc = by_order (IsAscending (added w (v ∷ vs))) (warning_cmp v w)
    (λ h. subst IsAscending (sym (added-less w v vs h)) (after_added v w vs h asc.0, added-ascending w vs asc.1))
    (λ h. subst IsAscending (sym (added-equal w v vs h)) (after_joined v w.killers vs asc.0, asc.1))
    (λ h. subst IsAscending (sym (added-greater w v vs h)) ((greater_first v w h, after_through w v vs (greater_first v w h) asc.0), asc))

-- what holds of the first and of each other one holds of all
all-cons : (P : Warning → Type 0) (w : Warning) (ws : List Warning) → P w → All P ws → All P (w ∷ ws)
all-cons P w ws h rest zero d lt = h
all-cons P w ws h rest (suc k) d lt = rest k d (omega arith)

-- what holds of each warning of a report and of one more, and whatever the killers, holds of each warning after it
pub each-added : (P : Warning → Type 0) → ((v : Warning) (more : List ℕ) → P v → P (with_killers v more)) → (w : Warning) (ws : List Warning) → P w
    → All P ws → All P (added w ws)
each-added P joins w [] h all = all-cons P w [] h all
each-added P joins w (v ∷ vs) h all =
    let first : P v = all 0 v (omega arith) in
    let rest : All P vs = λ k d lt. all (suc k) d (omega arith) in
    by_order (All P (added w (v ∷ vs))) (warning_cmp v w)
    (λ e. subst (All P) (sym (added-less w v vs e)) (all-cons P v (added w vs) first (each-added P joins w vs h rest)))
    (λ e. subst (All P) (sym (added-equal w v vs e)) (all-cons P (with_killers v w.killers) vs (joins v w.killers first) rest))
    (λ e. subst (All P) (sym (added-greater w v vs e)) (all-cons P w (v ∷ vs) h all))
