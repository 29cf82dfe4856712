use Rattle.std.proofs.Common.{refl, arith, ◌∙◌}
use Rattle.sl_kind.proofs.Sets.{in_set_same, in_set_other, has-bit, has-same}
use Rattle.sl_kind.proofs.kills.Kills.with.Goals as goal

pub returns-clause-same : goal.returns-clause-same
returns-clause-same c =
    rw (c.from.ensures, c.number-number.ensures.value)
    (has-bit _ c.args.site (omega arith) ∙ in_set_same c.args.self.now.words _ c.args.site (omega arith) refl)

pub returns-clause-others : goal.returns-clause-others
returns-clause-others c = λ s ne.
    rw (c.from.ensures, c.number-number.ensures.value)
    (has-same _ c.args.self.now s (in_set_other c.args.self.now.words _ c.args.site s (omega arith) refl ne))
