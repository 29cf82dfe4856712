use Rattle.std.proofs.Common.{arith}
use Rattle.sl_tool.proofs.ItemLaws.{front, carried}
use Rattle.sl_tool.proofs.reading.items.dereference_at.Goals as goal

pub returns-in-len6-up : goal.returns-in-len6-up
returns-in-len6-up c =
    let at = front c.args.tokens.now in
    let int = at 0 c.int-item.result (omega arith) c.int-item.is in
    let name = at 1 c.name-item.result (omega arith) c.name-item.is in
    let equal = at 2 c.equal-item.result (omega arith) c.equal-item.is in
    let star = at 3 c.star-item.result (omega arith) c.star-item.is in
    let iterator = at 4 c.iterator-item.result (omega arith) c.iterator-item.is in
    let semicolon = at 5 c.semicolon-item.result (omega arith) c.semicolon-item.is in
    let is_int = c.is_key.ensures.0 c.if-is_key.true in
    let is_equal = c.is_mark.ensures.0 c.if-is_mark.true in
    let is_star = c.is_mark-then-is_mark.ensures.0 c.if-is_mark-2.true in
    let is_semicolon = c.is_mark-then-is_mark-2.ensures.0 c.if-is_mark-3.true in
    carried c.names_in.result c.names_in.ensures (λ none m n e. none m n (cc) (cc)) (λ found both. cc)
