use Rattle.std.proofs.Common.{arith}
use Rattle.sl_tool.proofs.ItemLaws.{front}
use Rattle.sl_tool.proofs.StopHereLaws.{no_room_for_none, no_room_at_brace, no_room_at_other}
use Rattle.sl_tool.proofs.reading.stopping.stop_without_room.Goals as goal

pub returns-in_default : goal.returns-in_default
returns-in_default c = no_room_for_none _ c.in_default.len_below

pub returns-in_default-2 : goal.returns-in_default-2
returns-in_default-2 c = no_room_at_other _ _ _ (front c.args.tokens.now 0 c.brace-item.result (omega arith) c.brace-item.is)
    (λ e. let is = c.is_mark.ensures.1 e in absurd cc)

pub returns-in-len1-up : goal.returns-in-len1-up
returns-in-len1-up c = no_room_at_brace _ _ _ (front c.args.tokens.now 0 c.brace-item.result (omega arith) c.brace-item.is)
    (c.is_mark.ensures.0 c.if-is_mark.true)
