-- The library leaves of a memory what it has to.
use Rattle.std.proofs.Common.{subst}
use Rattle.sl_model.proofs.Keeps.{InAnswer}
use Rattle.sl_model.proofs.After.{Leaves}
use Rattle.sl_model.proofs.LibrarySound.{lib-leaves}
use Rattle.sl_model.proofs.laws.none_vanishes.Goals as goal

pub returns : goal.returns
returns c = λ callee a m later picks left v sound e. (subst (InAnswer (Leaves m a.site)) e (lib-leaves callee a m picks sound)).none
