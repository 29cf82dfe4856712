use Rattle.std.proofs.Common.{◌-◌, ◌+◌, ◌≤◌, vec_len}
use Rattle.std.specs.Io.KnownBytes.{Consumes}
use Rattle.sl_base.specs.Outside.{NoFault, OthersKept}
use Rattle.sl_base.proofs.outside.reading.read_all.Given as goal

abbrev pub invariant-loop-block : goal.invariant-loop-block
invariant-loop-block g l =
    let left = g.F.Files.left in
    record {
      held : vec_len l.held ≤ l.limit + 1;
      consumed : Consumes (left l.initial.files l.name) (left l.files l.name) l.held.items;
      others : OthersKept (left l.initial.files) (left l.files) l.name;
      steady : NoFault (g.F.Files.faults l.initial.files) (g.F.Files.faults l.files) (g.F.Files.blamed l.initial.files) (g.F.Files.blamed l.files);
    }

abbrev pub decreases-loop-block : goal.decreases-loop-block
decreases-loop-block g l = l.limit + 1 - vec_len l.held
