use Rattle.std.proofs.Common.{◌≡◌, ℕ, ◌≤◌, ◌<◌, length, get_or}
use Rattle.sl_cells.specs.declared.item.Item.{Item}
use Rattle.sl_cells.specs.Ranges.{IsUnion}
use Rattle.sl_cells.proofs.window.joined.Given as goal

abbrev pub invariant-loop-i : goal.invariant-loop-i
invariant-loop-i g l = record {
  room : length l.firsts ≤ g.row.N;
  same : length l.firsts ≡ length l.seconds;
  many : length l.known.items ≡ l.i;
  keys : (k : ℕ) (d : Item) → k < l.i → IsUnion (get_or l.firsts k d).key (get_or l.seconds k d).key (get_or l.known.items k d).key;
  values : (k : ℕ) (d : Item) → k < l.i → IsUnion (get_or l.firsts k d).value (get_or l.seconds k d).value (get_or l.known.items k d).value;
}
