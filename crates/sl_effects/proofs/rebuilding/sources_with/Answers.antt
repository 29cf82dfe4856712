use Rattle.std.proofs.Common.{◌≡◌, ℕ, List, length, map, ap, ◌∙◌, arith}
use Rattle.std.specs.List.{insert}
use Rattle.std.proofs.lemmas.List.{take_all, length-map}
use Rattle.sl_slots.specs.declared.source.Source.{Source}
use Rattle.sl_slots.specs.declared.source.Source.TheVariants.{Old, New}
use Rattle.sl_effects.proofs.rebuilding.sources_with.Goals as goal

pub insert-requires : goal.insert-requires
insert-requires c =
    let all = c.loop-from.invariant ∙ ap (map (λ (k : ℕ). Old k)) (take_all c.loop-from.from-index c.args.order.now c.loop-from-test.false) in
    let a : length c.loop-from.sources.items ≡ length c.args.order.now =
    ap (λ (l : List Source). length l) all ∙ length-map c.args.order.now (λ (k : ℕ). Old k) in
    let r = c.requires in
    omega (arith, c.loop-from.sources.ok.0)

pub returns : goal.returns
returns c = c.in_ok-insert.ensures.items
    ∙ ap (λ (l : List Source). insert l c.args.place (New c.args.element))
    (c.loop-from.invariant ∙ ap (map (λ (k : ℕ). Old k)) (take_all c.loop-from.from-index c.args.order.now c.loop-from-test.false))
