use Rattle.std.proofs.Common.{◌≡◌, ◌≤◌, ◌+◌, ◌++◌, length, take}
use Rattle.arrayvec.specs.ArrayVec.{array_vec_len}
use Rattle.sl_cells.proofs.window.append.Given as goal

abbrev pub invariant-loop-item : goal.invariant-loop-item
invariant-loop-item g l = record {
  room : array_vec_len l.initial.known + length l.items ≤ g.row.N;
  same : l.known.items ≡ l.initial.known.items ++ take l.item-index l.items;
}
