use Rattle.sl_rules.proofs.WalkLaws.{LooksSoFar}
use Rattle.sl_rules.proofs.walk.+look.Given as goal

abbrev pub invariant-look_at_all-loop-i : goal.invariant-look_at_all-loop-i
invariant-look_at_all-loop-i l = LooksSoFar l.scope l.before l.last l.xs l.i l.fault l.types l.sites
