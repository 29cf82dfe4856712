-- There are no more functions and sites than there may be.
use Rattle.std.proofs.Common.{◌≡◌, true, length}
use Rattle.std.proofs.lemmas.Bool.{and_from, le-leb}
use Rattle.std.specs.Prelude.{nat_le}
use Rattle.sl_base.specs.declared.limits.TheConstants.{FUNCTIONS, SITES}
use Rattle.sl_syntax.specs.Tree.{Program}
use Rattle.sl_syntax.specs.Typed as t
use Rattle.sl_typing.specs.Typing.{Typed}
use Rattle.sl_model.specs.Typing.WellTyped.{has_few}
use Rattle.sl_number_limits.proofs.Programs.{functions_fit, sites_fit}

pub few_stand : (p : Program) (u : t.Typed) → Typed p u → has_few u ≡ true
few_stand p u x =
    and_from (nat_le (length u.functions) FUNCTIONS) (nat_le (length u.sites) SITES)
    (le-leb (length u.functions) FUNCTIONS (functions_fit p u x)) (le-leb (length u.sites) SITES (sites_fit p u x))
