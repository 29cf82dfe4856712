use Rattle.std.proofs.Common.{◌≡◌, sym, length, arith}
use Rattle.sl_cells.specs.declared.item.Item.{Item}
use Rattle.sl_cells.specs.Ranges.{IsUnion}
use Rattle.sl_cells.proofs.Joins.{push_made}
use Rattle.sl_cells.proofs.window.joined.Goals as goal

pub loop-i-preserved : goal.loop-i-preserved
loop-i-preserved g c =
    let len = c.push.ensures.len in
    let many : c.loop-i.i ≡ length c.loop-i.known.items = sym c.loop-i.invariant.many in
    record {
      room = c.loop-i.invariant.room;
      same = c.loop-i.invariant.same;
      many = omega arith;
      keys = rw c.push.ensures.items (push_made IsUnion (λ (i : Item). i.key) c.args.firsts.now c.args.seconds.now c.loop-i.known.items c.loop-i.i
          _ _ _ many c.item_at.ensures c.item_at-in-loop-i.ensures c.join_items.ensures.key c.loop-i.invariant.keys);
      values = rw c.push.ensures.items (push_made IsUnion (λ (i : Item). i.value) c.args.firsts.now c.args.seconds.now c.loop-i.known.items c.loop-i.i
          _ _ _ many c.item_at.ensures c.item_at-in-loop-i.ensures c.join_items.ensures.value c.loop-i.invariant.values);
    }
