use Rattle.std.proofs.Common.{◌≡◌, ◌<◌, ◌≤◌, ◌/◌, ◌%◌, get_or, bit_or, length, arith, ⊎_elim, ◌∙◌, sym, length-set, get_or-set_same, get_or-set_other}
use Rattle.std.proofs.Common.{◌≢◌, ap, refl}
use Rattle.std.proofs.lemmas.Bool.{cases_lt, cases_eq}
use Rattle.std.proofs.lemmas.List.{get_or_past}
use Rattle.sl_kind.specs.Kills.{has_bit}
use Rattle.sl_kind.proofs.Sets.{in_or, has-either}
use Rattle.sl_kind.proofs.kills.Kills.union.Goals as goal

pub loop-i-preserved : goal.loop-i-preserved
loop-i-preserved c =
    let len : c.loop-i.i < length c.loop-i.both.words = omega arith in
    record {
      len = length-set c.loop-i.both.words c.loop-i.i _ ∙ c.loop-i.invariant.len;
      done = λ k h. ⊎_elim
          (λ (same : k ≡ c.loop-i.i). rw (same, get_or-set_same, c.loop-i.invariant.rest c.loop-i.i (omega arith)) refl)
          (λ (apart : k ≢ c.loop-i.i). rw get_or-set_other (c.loop-i.invariant.done k (omega arith)))
          (cases_eq k c.loop-i.i);
      rest = λ k h. let apart : k ≢ c.loop-i.i = omega arith in rw get_or-set_other (c.loop-i.invariant.rest k (omega arith));
    }

pub returns : goal.returns
unfolding has_bit
returns c = λ s.
    let k = s / 64 in
    let word : get_or c.loop-i.both.words k 0 ≡ bit_or (get_or c.args.self.now.words k 0) (get_or c.args.other.now.words k 0) =
    ⊎_elim
    (λ (low : k < 64). c.loop-i.invariant.done k (omega arith))
    (λ (high : 64 ≤ k).
    c.loop-i.invariant.rest k (omega arith)
    ∙ (get_or_past c.args.self.now.words k 0 (omega arith)
    ∙ sym (ap (λ n. bit_or n (get_or c.args.other.now.words k 0)) (get_or_past c.args.self.now.words k 0 (omega arith))
    ∙ ap (bit_or 0) (get_or_past c.args.other.now.words k 0 (omega arith)))))
    (cases_lt k 64)
    in
    has-either c.args.self.now c.args.other.now _ s (rw word (in_or _ _ (s % 64)))
