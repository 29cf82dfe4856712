use Rattle.std.proofs.Common.{◌≡◌, ℕ, ℤ, ◌+◌, ◌≤◌, List, length, map, ap, sym, ◌∙◌, subst, arith, w32, FitsSigned, rules}
use Rattle.std.specs.List.{insert}
use Rattle.std.proofs.lemmas.Int.{to_z-of_z}
use Rattle.sl_slots.specs.declared.container.Element.{Element}
use Rattle.sl_slots.specs.declared.source.Source.TheVariants.{Old, New}
use Rattle.sl_model.specs.Memory.Containers.{cont_at}
use Rattle.sl_model.specs.Memory.Edits.{numbers}
use Rattle.sl_model.specs.Memory.Schedule.{after_picks, scattered}
use Rattle.sl_model.specs.LibraryCalls.Effects.{key_place, key_change}
use Rattle.sl_model.proofs.Counts.{length-scattered, length-numbers}
use Rattle.sl_model.proofs.FairRearrangements.{key_change-fair}
use Rattle.sl_effects.proofs.HashLaws.{sources_long, is_growth}
use Rattle.sl_effects.proofs.Stores.{grew_rearranged, size_rearranged}
use Rattle.sl_effects.proofs.rebuilding.rebuild_with.Goals as goal

pub sources_with-requires : goal.sources_with-requires
sources_with-requires c =
    let a : length c.deref.result.now ≡ c.size-size.result =
    ap (λ (l : List ℕ). length l) (c.deref.ensures.value ∙ c.in_ok-order.ensures)
    ∙ (length-scattered _ (numbers 0 c.size-size.result) ∙ length-numbers 0 c.size-size.result) in
    let b = c.key_place-place.ensures.within in
    let d = c.size-size.ensures.value in
    omega arith

pub returns : goal.returns
returns c =
    let old = c.args.store.now in
    let order = c.in_ok-order.order.items in
    let place = c.key_place-place.result in
    let sources = c.in_ok-sources_with.ensures
    ∙ ap (λ (l : List ℕ). insert (map (λ (k : ℕ). Old k) l) place (New c.args.element)) c.deref.ensures.value in
    let low : place ≤ c.size-size.result = subst (λ (n : ℕ). place ≤ n) (sym c.size-size.ensures.value) c.key_place-place.ensures.within in
    let long = sources_long order _ place c.size-size.result c.args.element _ c.in_ok-order.ensures low sources in record {
      grew = grew_rearranged old c.rearrange.new.self _ c.in_ok-rearrange.ensures.rearranged;
      size = size_rearranged old c.rearrange.new.self _ c.in_ok-rearrange.ensures.rearranged c.requires.there
          ∙ (long ∙ ap (λ (n : ℕ). n + 1) c.size-size.ensures.value);
      shows = λ left ps vs x class scatter is key few h.
          let fits : FitsSigned w32 c.args.element.key = search rules in
          let d = cont_at left.memory c.args.container in
          c.in_ok-rearrange.ensures.shows left.memory ps vs (key_change c.args.class d x left.picks)
          (is_growth c.args.class d x left.picks _ order place class scatter
          (c.in_ok-order.ensures
          ∙ (ap (λ (l : List ℕ). scattered (after_picks 1 l) (numbers 0 c.size-size.result)) h.schedule
          ∙ ap (λ (n : ℕ). scattered (after_picks 1 left.picks) (numbers 0 n)) (c.size-size.ensures.shows left.memory ps vs h.holds)))
          (c.key_place-place.ensures.shows left ps vs h
          ∙ ap (λ (k : ℤ). key_place d k left.picks) (to_z-of_z w32 c.args.element.key fits ∙ sym key))
          (sources ∙ ap (λ (e : Element). insert (map (λ (k : ℕ). Old k) order) place (New e)) (sym is))
          (c.key_room.ensures left ps vs h) c.growth_invalidates.ensures)
          (key_change-fair c.args.class d x left.picks few) h.holds;
    }
