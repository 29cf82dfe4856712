use Rattle.std.proofs.Common.{arith}
use Rattle.sl_tool.proofs.ItemLaws.{front, carried}
use Rattle.sl_tool.proofs.reading.items.vector_at.Goals as goal

pub returns-in-len6-up : goal.returns-in-len6-up
returns-in-len6-up c =
    let at = front c.args.tokens.now in
    let lib = at 0 c.lib-item.result (omega arith) c.lib-item.is in
    let less = at 1 c.less-item.result (omega arith) c.less-item.is in
    let int = at 2 c.int-item.result (omega arith) c.int-item.is in
    let greater = at 3 c.greater-item.result (omega arith) c.greater-item.is in
    let name = at 4 c.name-item.result (omega arith) c.name-item.is in
    let semicolon = at 5 c.semicolon-item.result (omega arith) c.semicolon-item.is in
    let is_lib = c.is_lib.ensures.0 c.if-is_lib.true in
    let is_less = c.is_mark.ensures.0 c.if-is_mark.true in
    let is_int = c.is_key.ensures.0 c.if-is_key.true in
    let is_greater = c.is_mark-then-is_key.ensures.0 c.if-is_mark-2.true in
    let is_semicolon = c.is_mark-then-is_mark-2.ensures.0 c.if-is_mark-3.true in
    carried c.name_in.result c.name_in.ensures (λ none n e. none n cc) (λ n e. cc)
