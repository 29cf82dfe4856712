use Rattle.std.proofs.Common.{◌+◌, ◌*◌, ◌≡◌, ◌≢◌, ◌<◌, get_or, length, arith, ⊎_elim, ◌∙◌, length-set, get_or-set_same, get_or-set_other, ap, ◌&&◌}
use Rattle.std.proofs.lemmas.Bool.{cases_eq}
use Rattle.sl_intervals.specs.SizeTable.{told, tells}
use Rattle.sl_intervals.specs.declared.size_fact.SizeFact.TheVariants.{Nothing}
use Rattle.sl_intervals.proofs.size_facts.SizeFacts.join.Goals as goal

pub loop-i-preserved : goal.loop-i-preserved
loop-i-preserved c =
    let len : c.loop-i.i < length c.loop-i.both.entries = omega arith in
    record {
      len = length-set c.loop-i.both.entries c.loop-i.i _ ∙ c.loop-i.invariant.len;
      done = λ k fact h. ⊎_elim
          (λ (same : k ≡ c.loop-i.i). rw (same, get_or-set_same)
          (c.shared.ensures fact ∙ ap (λ v. tells v fact && tells (get_or c.args.other.now.entries c.loop-i.i Nothing) fact)
          (c.loop-i.invariant.rest c.loop-i.i (omega arith))))
          (λ (apart : k ≢ c.loop-i.i). rw get_or-set_other (c.loop-i.invariant.done k fact (omega arith)))
          (cases_eq k c.loop-i.i);
      rest = λ k h. let apart : k ≢ c.loop-i.i = omega arith in rw get_or-set_other (c.loop-i.invariant.rest k (omega arith));
    }

pub returns : goal.returns
unfolding told
returns c = λ x d fact p q. c.loop-i.invariant.done (x * 16 + d) fact (omega arith)
