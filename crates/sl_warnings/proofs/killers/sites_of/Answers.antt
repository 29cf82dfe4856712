use Rattle.std.proofs.Common.{arith}
use Rattle.sl_warnings.specs.Views.{sites_in}
use Rattle.sl_warnings.proofs.Sites.{sites_from-start, sites_from-step, sites_from-all}
use Rattle.sl_warnings.proofs.killers.sites_of.Goals as goal

pub loop-number-init : goal.loop-number-init
loop-number-init c = rw c.new-sites.ensures (sites_from-start c.args.killers.now)

pub loop-number-preserved : goal.loop-number-preserved
loop-number-preserved c =
    rw (c.in_ok-push_killer.ensures, c.new.ensures)
    (sites_from-step c.args.killers.now c.loop-number.number c.loop-number.sites (sites_in c.args.killers.now) c.loop-number-test.true
    c.loop-number.invariant)

pub returns : goal.returns
returns c = sites_from-all c.args.killers.now c.loop-number.number c.loop-number.sites (omega arith) c.loop-number.invariant
