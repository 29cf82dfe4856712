use Rattle.std.proofs.Common.{None, arith, refl, sym, ◌∙◌}
use Rattle.sl_numbering.proofs.TrimmedNames.{kept-told, kept-untold}
use Rattle.sl_numbering.proofs.heads.trimmed.Goals as goal
use Rattle.sl_numbering.proofs.heads.trimmed.Goals.{then-is_some, else-is_some}

pub loop-i-preserved : goal.loop-i-preserved
loop-i-preserved c =
    let xs = c.args.names.now in
    let i = c.loop-i.i in
    let within = c.loop-i-test.true in
    let test = sym c.is_some.ensures in
    elim c.if-is_some.branch [
      | then-is_some w ↦ record {
        within = omega arith;
        kept = rw w.end-is (kept-told xs i None _ within refl (test ∙ w.if-is_some.true));
      }
      | else-is_some w ↦ record {
        within = omega arith;
        kept = rw w.end-is (kept-untold xs i None _ within refl (test ∙ w.if-is_some.false) ∙ c.loop-i.invariant.kept);
      }
    ]
