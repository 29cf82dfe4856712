use Rattle.std.proofs.Common.{◌≡◌, ◌++◌, drop}
use Rattle.std.specs.Prelude.{flat_map}
use Rattle.sl_model.specs.Reports.Texts.{warning_line}
use Rattle.sl_warnings.proofs.rendering.push_warnings.Given as goal

abbrev pub invariant-loop-i : goal.invariant-loop-i
invariant-loop-i l =
    l.out ++ flat_map (warning_line l.name l.sites) (drop l.i l.r) ≡ l.initial.out ++ flat_map (warning_line l.name l.sites) l.r
