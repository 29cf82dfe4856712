use Rattle.std.proofs.Common.{arith}
use Rattle.std.proofs.lemmas.Int.{ints}
use Rattle.sl_intervals.proofs.Verdicts.{verdict, signed_settled}
use Rattle.sl_intervals.proofs.settling.clamped.Goals as goal

pub returns-clause-settled : goal.returns-clause-settled
returns-clause-settled c = λ signed. signed_settled c.args.ty c.args.s _ signed
    (verdict c.args.ty c.args.s _ signed c.requires c.outside.ensures.never c.outside.ensures.under c.outside.ensures.over
    c.outside.ensures.low c.outside.ensures.high)
    (λ z. (
      λ h. let p = (c.meet.ensures.holds z).0 h in let k = p.1 in let l = k.low in let m = k.high in
          (p.0, (omega (arith, ints), omega (arith, ints))),
      λ h. (c.meet.ensures.holds z).1 (h.0, (let l = h.1.0 in let m = h.1.1 in record { low = omega (arith, ints); high = omega (arith, ints) })),
    ))
