use Rattle.std.proofs.Common.{◌≡◌, ◌+◌, ◌*◌, ◌≤◌}
use Rattle.sl_base.specs.declared.limits.TheConstants.{SITES}
use Rattle.sl_syntax.specs.TreeView.{exprs_of}
use Rattle.sl_syntax.specs.TypedView as view
use Rattle.sl_typing.specs.Numbering.{operands}
use Rattle.sl_numbering.specs.WaysView.{ways_seen}
use Rattle.sl_numbering.proofs.NodeLaws.{nodes_of, nodes_of_all}
use Rattle.sl_numbering.proofs.OperandLaws.{before_others, from_place}
use Rattle.sl_numbering.proofs.SiteLaws.{count_all}
use Rattle.sl_numbering.proofs.expression.+numbering.Given as goal

abbrev pub invariant-operands-loop-x : goal.invariant-operands-loop-x
invariant-operands-loop-x l = record {
  fits : l.count + count_all l.scope (from_place l.x-index l.xs) ≤ SITES;
  handed_over : before_others (view.operands_of l.values.items) (operands l.scope l.count (ways_seen l.ways) (from_place l.x-index l.xs))
      ≡ operands l.scope l.fn.before (ways_seen l.fn.ways) (exprs_of l.xs);
}

abbrev pub decreases-typed : goal.decreases-typed
decreases-typed l = 2 * nodes_of l.x.now

abbrev pub decreases-typed_operand : goal.decreases-typed_operand
decreases-typed_operand l = 2 * nodes_of l.x.now + 1

abbrev pub decreases-operands : goal.decreases-operands
decreases-operands l = 2 * nodes_of_all l.xs.now
