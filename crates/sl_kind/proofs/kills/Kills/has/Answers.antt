use Rattle.std.proofs.Common.{ap, nat_eq, arith}
use Rattle.std.proofs.lemmas.Nat.Bits.{shr_and_one}
use Rattle.sl_kind.specs.Kills.{has_bit}
use Rattle.sl_kind.proofs.Sets.{has-bit}
use Rattle.sl_kind.proofs.kills.Kills.has.Goals as goal

pub returns : goal.returns
unfolding has_bit
returns c =
    rw (has-bit c.args.self.now c.args.site (omega arith), c.from.ensures, c.number-number.ensures.value)
    (ap (λ b. nat_eq b 1) (shr_and_one _ _))
