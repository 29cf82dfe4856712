use Rattle.std.proofs.Common.{◌≡◌, ℤ, inr, ⊎_elim, refl, sym, ◌∙◌, subst, arith}
use Rattle.std.proofs.lemmas.Int.{ints}
use Rattle.sl_intervals.specs.Intervals.{Holds, IsEmpty, IsFilled}
use Rattle.sl_intervals.specs.Stops.{IsStopAbove, IsStopBelow}
use Rattle.sl_intervals.proofs.Joined.{held_wider, within_of, no_filled, no_member}
use Rattle.sl_intervals.proofs.Outer.{least_of, most_of}
use Rattle.sl_intervals.proofs.Stopping.{IsWidenedLow, IsWidenedHigh, widened_low_of, widened_high_of}
use Rattle.sl_intervals.proofs.widening.widen.Goals as goal

pub widened_low-requires : goal.widened_low-requires
widened_low-requires c =
    let w = within_of c.args.ty c.args.new (omega (arith, ints)) c.requires.new in
    let h = w.high in
    record { low = w.low; high = omega (arith, ints) }

pub widened_high-requires : goal.widened_high-requires
widened_high-requires c =
    let w = within_of c.args.ty c.args.new (omega (arith, ints)) c.requires.new in
    let l = w.low in
    record { low = omega (arith, ints); high = w.high }

pub returns-then-old : goal.returns-then-old
returns-then-old c =
    let none : IsEmpty c.args.old = grind (arith, ints) in
    record {
      old_empty = λ e. refl;
      new_empty = λ f e. absurd (no_filled c.args.old none f);
      low_kept = λ f g h. absurd (no_filled c.args.old none f);
      low_fallen = λ f g h. absurd (no_filled c.args.old none f);
      high_kept = λ f g h. absurd (no_filled c.args.old none f);
      high_grown = λ f g h. absurd (no_filled c.args.old none f);
      holds = λ z h. ⊎_elim (λ (p : Holds c.args.old z). absurd (no_member c.args.old z none p)) (λ (p : Holds c.args.new z). p) h;
      at_least = λ z one p q. q;
      at_most = λ z one p q. q;
      within = c.requires.new;
    }

pub returns-then-new : goal.returns-then-new
returns-then-new c =
    let none : IsEmpty c.args.new = grind (arith, ints) in
    let some : IsFilled c.args.old = omega (arith, ints) in
    record {
      old_empty = λ e. absurd (no_filled c.args.old e some);
      new_empty = λ f e. refl;
      low_kept = λ f g h. absurd (no_filled c.args.new none g);
      low_fallen = λ f g h. absurd (no_filled c.args.new none g);
      high_kept = λ f g h. absurd (no_filled c.args.new none g);
      high_grown = λ f g h. absurd (no_filled c.args.new none g);
      holds = λ z h. ⊎_elim (λ (p : Holds c.args.old z). p) (λ (p : Holds c.args.new z). absurd (no_member c.args.new z none p)) h;
      at_least = λ z one p q. p;
      at_most = λ z one p q. p;
      within = c.requires.old;
    }

pub returns : goal.returns
returns c =
    let f : IsFilled c.args.old = omega (arith, ints) in
    let g : IsFilled c.args.new = omega (arith, ints) in
    let e : c.widened_low.result ≡ c.between.result.low = omega (arith, ints) in
    let k : c.widened_high.result ≡ c.between.result.high = omega (arith, ints) in
    let l = subst (λ (v : ℤ). IsWidenedLow c.args.ty c.args.constants.now c.args.old.low c.args.new.low v) e
    (widened_low_of c.args.ty c.args.constants.now c.args.old.low c.args.new.low c.widened_low.result c.widened_low.ensures.kept
    c.widened_low.ensures.fallen) in
    let r = subst (λ (v : ℤ). IsWidenedHigh c.args.ty c.args.constants.now c.args.old.high c.args.new.high v) k
    (widened_high_of c.args.ty c.args.constants.now c.args.old.high c.args.new.high c.widened_high.result c.widened_high.ensures.kept
    c.widened_high.ensures.grown) in
    let w = within_of c.args.ty c.args.old f c.requires.old in
    record {
      old_empty = λ n. absurd (no_filled c.args.old n f);
      new_empty = λ p n. absurd (no_filled c.args.new n g);
      low_kept = λ p q h. sym e ∙ c.widened_low.ensures.kept h;
      low_fallen = λ p q h. subst (λ (v : ℤ). IsStopBelow c.args.ty c.args.constants.now c.args.new.low v) e (c.widened_low.ensures.fallen h);
      high_kept = λ p q h. sym k ∙ c.widened_high.ensures.kept h;
      high_grown = λ p q h. subst (λ (v : ℤ). IsStopAbove c.args.ty c.args.constants.now c.args.new.high v) k (c.widened_high.ensures.grown h);
      holds = λ z h. ⊎_elim
          (λ (p : Holds c.args.old z). held_wider c.args.old c.between.result z l.under_old r.over_old p)
          (λ (p : Holds c.args.new z). held_wider c.args.new c.between.result z l.under_new r.over_new p)
          h;
      at_least = λ z one p q. inr (l.keeps z one (least_of c.args.old z f p) (least_of c.args.new z g q));
      at_most = λ z one p q. inr (r.keeps z one (most_of c.args.old z f p) (most_of c.args.new z g q));
      within = inr (record { low = l.within w.low; high = r.within w.high });
    }
