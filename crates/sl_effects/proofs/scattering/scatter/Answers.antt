use Rattle.std.proofs.Common.{◌≡◌, ℕ, sym, ◌∙◌, ap, arith, drop}
use Rattle.std.proofs.lemmas.List.{drop-drop}
use Rattle.sl_model.specs.Memory.Schedule.{hash_place, pick}
use Rattle.sl_effects.specs.Carried.{left_in}
use Rattle.sl_effects.proofs.Putting.{put_next}
use Rattle.sl_effects.proofs.scattering.scatter.Goals as goal

pub loop-place-preserved : goal.loop-place-preserved
loop-place-preserved c =
    let l = c.in_ok-insert.ensures.len in
    let k = c.len.ensures in
    let a = c.loop-place.invariant.long in
    let left = left_in c.args.picks.now in
    let same : c.len.result ≡ c.loop-place.place = omega (arith, c.loop-place.order.ok.0) in record {
      long = omega (arith, c.loop-place.order.ok.0);
      rest = put_next c.loop-place.order.items c.insert.new.self.items (drop c.loop-place.place (drop c.args.after left)) _ _ c.loop-place.place
          c.args.count c.hash_place-at.result c.peek.result c.loop-place-test.true c.loop-place.invariant.long c.loop-place.invariant.rest
          (c.peek.ensures ∙ ap pick (sym (drop-drop c.loop-place.place c.args.after left)))
          (sym (drop-drop 1 c.loop-place.place (drop c.args.after left)))
          (c.hash_place-at.ensures.value ∙ ap (λ (n : ℕ). hash_place n c.peek.result) same) c.in_ok-insert.ensures.items;
    }
