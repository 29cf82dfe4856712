use Rattle.std.proofs.Common.{◌≤◌, ◌+◌, ◌++◌, List, ℕ, take}
use Rattle.sl_base.specs.Places.{IsAfter}
use Rattle.sl_base.proofs.place.Place.after.Given as goal

abbrev pub invariant-loop-byte : goal.invariant-loop-byte
invariant-loop-byte l = record {
  lines : l.line ≤ l.fn.self.line + l.byte-index;
  cols : l.col ≤ l.fn.self.col + l.byte-index;
  place : (front : List ℕ) → IsAfter front l.fn.self → IsAfter (front ++ take l.byte-index l.bytes) (record { line = l.line; col = l.col });
}
