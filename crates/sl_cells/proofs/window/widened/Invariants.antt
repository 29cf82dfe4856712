use Rattle.std.proofs.Common.{◌≡◌, ℕ, ◌≤◌, ◌<◌, length, get_or}
use Rattle.std.specs.List.{AllByRecursion}
use Rattle.sl_cells.specs.declared.item.Item.{Item}
use Rattle.sl_cells.specs.Ranges.{IsWidening}
use Rattle.sl_cells.specs.Windows.{IsInt}
use Rattle.sl_cells.proofs.window.widened.Given as goal

abbrev pub invariant-loop-i : goal.invariant-loop-i
invariant-loop-i g l = record {
  first : AllByRecursion IsInt l.firsts;
  second : AllByRecursion IsInt l.seconds;
  room : length l.firsts ≤ g.row.N;
  same : length l.firsts ≡ length l.seconds;
  many : length l.known.items ≡ l.i;
  keys : (k : ℕ) (d : Item) → k < l.i
      → IsWidening l.constants (get_or l.firsts k d).key (get_or l.seconds k d).key (get_or l.known.items k d).key;
  values : (k : ℕ) (d : Item) → k < l.i
      → IsWidening l.constants (get_or l.firsts k d).value (get_or l.seconds k d).value (get_or l.known.items k d).value;
}
