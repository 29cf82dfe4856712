use Rattle.std.proofs.Common.{arith}
use Rattle.sl_tool.proofs.ItemLaws.{front, carried}
use Rattle.sl_tool.proofs.reading.items.push_back_at.Goals as goal

pub returns-in-len7-up : goal.returns-in-len7-up
returns-in-len7-up c =
    let at = front c.args.tokens.now in
    let vector = at 0 c.vector-item.result (omega arith) c.vector-item.is in
    let dot = at 1 c.dot-item.result (omega arith) c.dot-item.is in
    let call = at 2 c.call-item.result (omega arith) c.call-item.is in
    let «open» = at 3 c.open-item.result (omega arith) c.open-item.is in
    let number = at 4 c.number-item.result (omega arith) c.number-item.is in
    let close = at 5 c.close-item.result (omega arith) c.close-item.is in
    let semicolon = at 6 c.semicolon-item.result (omega arith) c.semicolon-item.is in
    let is_dot = c.is_mark.ensures.0 c.if-is_mark.true in
    let is_call = c.is_name.ensures.0 c.if-is_name.true in
    let is_open = c.is_mark-then-is_name.ensures.0 c.if-is_mark-2.true in
    let is_close = c.is_mark-then-is_mark-2.ensures.0 c.if-is_mark-3.true in
    let is_semicolon = c.is_mark-then-is_mark-3.ensures.0 c.if-is_mark-4.true in
    carried c.name_and_number.result c.name_and_number.ensures (λ none m n e. none m n (cc) (cc)) (λ found both. cc)
