-- The order of spots and of warnings.
use Rattle.std.proofs.Common.{arith, ◌≡◌, ◌+◌, List, [], ◌∷◌, get_or, map, nat_eq, Bool, true, false, ◌&&◌, refl, sym, ap, ◌∙◌}
use Rattle.std.specs.Ordering.{nat_cmp, ordering_then, ordering_reverse, is_lt}
use Rattle.std.specs.Cmp.{IsTotalOrder, ranked, nat_cmp_is}
use Rattle.std.specs.List.{AllByRecursion}
use Rattle.std.specs.List.Sorted.{IsStrictlySortedBy, IsSorted}
use Rattle.std.specs.declared.cmp.Ordering.{Ordering}
use Rattle.std.specs.declared.cmp.Ordering.TheVariants.{Less, Equal, Greater}
use Rattle.std.proofs.lemmas.Cmp.{then_total, on_total, nat_cmp_total}
use Rattle.std.proofs.lemmas.Bool.{eqb-true}
use Rattle.std.proofs.lemmas.Map.Keys.{Less-from_sorted}
use Rattle.sl_base.specs.declared.place.Place.{Place}
use Rattle.sl_model.specs.Reports.Covers.{Warning}
use Rattle.sl_warnings.specs.declared.spot.Spot.{Spot}
use Rattle.sl_warnings.specs.Reports.{warning_cmp, IsAscending}
use Rattle.sl_warnings.specs.Means.Kept.{spot_cmp, spot_of}

-- the order of spots is total
pub spot_cmp_total : IsTotalOrder spot_cmp
spot_cmp_total =
    then_total (on_total (λ (s : Spot). s.line) nat_cmp_total)
    (then_total (on_total (λ (s : Spot). s.col) nat_cmp_total)
    (then_total (on_total (λ (s : Spot). s.kind) nat_cmp_total) (on_total (λ (s : Spot). s.argument) nat_cmp_total)))

-- the order of warnings is total
pub warning_cmp_total : IsTotalOrder warning_cmp
warning_cmp_total = on_total spot_of spot_cmp_total

-- equal answers on the right
pub like_right : (v x w : Warning) → warning_cmp x w ≡ Equal → warning_cmp v x ≡ Less → warning_cmp v w ≡ Less
like_right v x w e h =
    let o = warning_cmp_total in
    o.antisymm v w ∙ ap ordering_reverse (sym (o.congr x w v e)) ∙ sym (o.antisymm v x) ∙ h

-- the other way round
pub greater_first : (v w : Warning) → warning_cmp v w ≡ Greater → warning_cmp w v ≡ Less
greater_first v w h = warning_cmp_total.antisymm w v ∙ ap ordering_reverse h

-- two spots that are one are one the other way round
pub equal_flipped : (s t : Spot) → spot_cmp s t ≡ Equal → spot_cmp t s ≡ Equal
equal_flipped s t h = spot_cmp_total.antisymm t s ∙ ap ordering_reverse h

-- of two comparisons one after the other that find no difference, the first finds none
then-first : (r s : Ordering) → ordering_then r s ≡ Equal → r ≡ Equal
then-first Less s h = absurd cc
then-first Equal s h = refl
then-first Greater s h = absurd cc

-- nor does the second
then-second : (r s : Ordering) → ordering_then r s ≡ Equal → s ≡ Equal
then-second Less s h = absurd cc
then-second Equal s h = h
then-second Greater s h = absurd cc

-- warnings that the order doesn't part have the same place, kind and argument
pub record IsSameSpot (v w : Warning) : Type 0 where
  pub place : v.place ≡ w.place
  pub kind : v.kind ≡ w.kind
  pub argument : v.argument ≡ w.argument

-- two places with one line and one column are one
places : (p q : Place) → p.line ≡ q.line → p.col ≡ q.col → p ≡ q
places p q e f = λ j. record { line = e j; col = f j }

-- two warnings between which the order finds no difference have one place, kind and argument
pub same_spot : (v w : Warning) → warning_cmp v w ≡ Equal → IsSameSpot v w
same_spot v w h =
    let line = ranked v.place.line w.place.line Equal (sym (then-first _ _ h)) in
    let rest = then-second (nat_cmp v.place.line w.place.line) _ h in
    let col = ranked v.place.col w.place.col Equal (sym (then-first _ _ rest)) in
    let last = then-second (nat_cmp v.place.col w.place.col) _ rest in
    record {
      place = places v.place w.place line col;
      kind = ranked v.kind w.kind Equal (sym (then-first _ _ last));
      argument = ranked v.argument w.argument Equal (sym (then-second (nat_cmp v.kind w.kind) _ last));
    }

-- what comes before each warning has a spot before each of theirs
spots_after : (w : Warning) (ws : List Warning) → AllByRecursion (λ v. warning_cmp w v ≡ Less) ws
    → AllByRecursion (λ s. spot_cmp (spot_of w) s ≡ Less) (map spot_of ws)
spots_after w [] h = tt
spots_after w (v ∷ vs) h = (h.0, spots_after w vs h.1)

-- the spots of warnings in order are in order
pub spots_ascend : (ws : List Warning) → IsAscending ws → IsStrictlySortedBy spot_cmp (map spot_of ws)
unfolding IsStrictlySortedBy
spots_ascend [] h = tt
spots_ascend (w ∷ ws) h = (spots_after w ws h.0, spots_ascend ws h.1)

-- what a search asks for
pub spots_sorted : (ss : List Spot) → IsStrictlySortedBy spot_cmp ss → IsSorted spot_cmp ss
spots_sorted ss h = λ k d low high.
    let up : spot_cmp (get_or ss k d) (get_or ss (k + 1) d) ≡ Less = Less-from_sorted spot_cmp ss k (k + 1) d h (omega arith) high in
    ap is_lt (spot_cmp_total.antisymm (get_or ss (k + 1) d) (get_or ss k d) ∙ ap ordering_reverse up)

-- the test for equal spots
unfoldable pub spot_eq : Spot → Spot → Bool
spot_eq s t = nat_eq s.line t.line && (nat_eq s.col t.col && (nat_eq s.kind t.kind && nat_eq s.argument t.argument))

-- both parts of a conjunction that is true are true
both-true : (a b : Bool) → (a && b) ≡ true → (a ≡ true) × (b ≡ true)
both-true true b h = (refl, h)
both-true false b h = absurd cc

-- equal spots are one to the order
pub spot_eq-cmp : (s t : Spot) → spot_eq s t ≡ true → spot_cmp t s ≡ Equal
unfolding spot_eq
spot_eq-cmp s t h =
    let one = both-true (nat_eq s.line t.line) _ h in
    let two = both-true (nat_eq s.col t.col) _ one.1 in
    let three = both-true (nat_eq s.kind t.kind) _ two.1 in
    rw (
      sym (nat_cmp_is t.line s.line Equal (sym (eqb-true s.line t.line one.0))),
      sym (nat_cmp_is t.col s.col Equal (sym (eqb-true s.col t.col two.0))),
      sym (nat_cmp_is t.kind s.kind Equal (sym (eqb-true s.kind t.kind three.0))),
      sym (nat_cmp_is t.argument s.argument Equal (sym (eqb-true s.argument t.argument three.1))),
    ) refl
