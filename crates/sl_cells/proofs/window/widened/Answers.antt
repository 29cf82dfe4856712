use Rattle.std.proofs.Common.{◌≡◌, sym, subst, length, arith}
use Rattle.sl_cells.specs.declared.item.Item.{Item}
use Rattle.sl_cells.specs.Ranges.{IsWidening}
use Rattle.sl_cells.specs.Windows.{IsInt}
use Rattle.sl_cells.proofs.Reading.{each_at}
use Rattle.sl_cells.proofs.Joins.{push_made}
use Rattle.sl_cells.proofs.window.widened.Goals as goal

pub widen_items-requires-clause-first : goal.widen_items-requires-clause-first
widen_items-requires-clause-first g c =
    subst IsInt (sym (c.item_at.ensures c.item_at.result))
    (each_at IsInt c.args.firsts.now c.loop-i.i c.item_at.result c.loop-i.invariant.first (omega arith))

pub widen_items-requires-clause-second : goal.widen_items-requires-clause-second
widen_items-requires-clause-second g c =
    subst IsInt (sym (c.item_at-in-loop-i.ensures c.item_at-in-loop-i.result))
    (each_at IsInt c.args.seconds.now c.loop-i.i c.item_at-in-loop-i.result c.loop-i.invariant.second (omega arith))

pub loop-i-preserved : goal.loop-i-preserved
loop-i-preserved g c =
    let len = c.push.ensures.len in
    let many : c.loop-i.i ≡ length c.loop-i.known.items = sym c.loop-i.invariant.many in
    record {
      first = c.loop-i.invariant.first;
      second = c.loop-i.invariant.second;
      room = c.loop-i.invariant.room;
      same = c.loop-i.invariant.same;
      many = omega arith;
      keys = rw c.push.ensures.items
          (push_made (IsWidening c.args.constants.now) (λ (i : Item). i.key) c.args.firsts.now c.args.seconds.now c.loop-i.known.items
          c.loop-i.i _ _ _ many c.item_at.ensures c.item_at-in-loop-i.ensures c.widen_items.ensures.key c.loop-i.invariant.keys);
      values = rw c.push.ensures.items
          (push_made (IsWidening c.args.constants.now) (λ (i : Item). i.value) c.args.firsts.now c.args.seconds.now c.loop-i.known.items
          c.loop-i.i _ _ _ many c.item_at.ensures c.item_at-in-loop-i.ensures c.widen_items.ensures.value c.loop-i.invariant.values);
    }
