use Rattle.std.proofs.Common.{arith}
use Rattle.sl_tool.proofs.ItemLaws.{front, carried}
use Rattle.sl_tool.proofs.reading.items.begin_at.Goals as goal

pub returns-in-len9-up : goal.returns-in-len9-up
returns-in-len9-up c =
    let at = front c.args.tokens.now in
    let auto = at 0 c.auto-item.result (omega arith) c.auto-item.is in
    let name = at 1 c.name-item.result (omega arith) c.name-item.is in
    let equal = at 2 c.equal-item.result (omega arith) c.equal-item.is in
    let vector = at 3 c.vector-item.result (omega arith) c.vector-item.is in
    let dot = at 4 c.dot-item.result (omega arith) c.dot-item.is in
    let call = at 5 c.call-item.result (omega arith) c.call-item.is in
    let «open» = at 6 c.open-item.result (omega arith) c.open-item.is in
    let close = at 7 c.close-item.result (omega arith) c.close-item.is in
    let semicolon = at 8 c.semicolon-item.result (omega arith) c.semicolon-item.is in
    let is_auto = c.is_key.ensures.0 c.if-is_key.true in
    let is_equal = c.is_mark.ensures.0 c.if-is_mark.true in
    let is_dot = c.is_mark-then-is_mark.ensures.0 c.if-is_mark-2.true in
    let is_call = c.is_name.ensures.0 c.if-is_name.true in
    let is_open = c.is_mark-then-is_name.ensures.0 c.if-is_mark-3.true in
    let is_close = c.is_mark-then-is_mark-3.ensures.0 c.if-is_mark-4.true in
    let is_semicolon = c.is_mark-then-is_mark-4.ensures.0 c.if-is_mark-5.true in
    carried c.names_in.result c.names_in.ensures (λ none m n e. none m n (cc) (cc)) (λ found both. cc)
