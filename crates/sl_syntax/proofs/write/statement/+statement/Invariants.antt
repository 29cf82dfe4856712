use Rattle.std.proofs.Common.{◌≡◌, ◌++◌, drop}
use Rattle.sl_syntax.specs.TreeView.{items_of}
use Rattle.sl_syntax.specs.Written.{words_of, items_written}
use Rattle.sl_syntax.proofs.write.statement.+statement.Given as goal

abbrev pub invariant-write_items-loop-item : goal.invariant-write_items-loop-item
invariant-write_items-loop-item l =
    l.out ++ words_of (items_written (items_of (drop l.item-index l.items))) ≡ l.initial.out ++ words_of (items_written (items_of l.items))
