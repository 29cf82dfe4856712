use Rattle.std.proofs.Common.{Bool, ap, sym, ◌∙◌, if◌then◌else◌}
use Rattle.sl_effects.proofs.rooms.grown_picks.Goals as goal

pub returns-then-lacks_room : goal.returns-then-lacks_room
returns-then-lacks_room c = λ m ps vs h.
    sym (ap (λ (b : Bool). if b then 1 else 0) (sym (c.lacks_room.ensures m ps vs h) ∙ c.if-lacks_room.true))

pub returns-else-lacks_room : goal.returns-else-lacks_room
returns-else-lacks_room c = λ m ps vs h.
    sym (ap (λ (b : Bool). if b then 1 else 0) (sym (c.lacks_room.ensures m ps vs h) ∙ c.if-lacks_room.false))
