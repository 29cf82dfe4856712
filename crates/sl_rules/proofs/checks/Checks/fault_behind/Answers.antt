use Rattle.std.proofs.Common.{refl}
use Rattle.sl_rules.proofs.CheckLaws.{own-checks}
use Rattle.sl_rules.proofs.checks.Checks.fault_behind.Goals as goal

pub returns : goal.returns
returns c g n how e at is = rw (c.or.ensures, c.first_fault.ensures, own-checks g n how e, is, at) refl
