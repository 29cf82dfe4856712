use Rattle.std.proofs.Common.{ℕ, ◌+◌, Bool, ap, sym, ◌∙◌, if◌then◌else◌}
use Rattle.sl_model.specs.Memory.Containers.{cont_at, size}
use Rattle.sl_model.specs.Memory.Schedule.{pick}
use Rattle.sl_effects.proofs.rooms.grown_room.Goals as goal

pub returns-then-lacks_room : goal.returns-then-lacks_room
returns-then-lacks_room c = λ left ps vs h.
    let d = cont_at left.memory c.args.container in
    let full = sym (c.lacks_room.ensures left.memory ps vs h.holds) ∙ c.if-lacks_room.true in
    ap (λ (n : ℕ). n + c.args.come + c.peek.result) (c.size.ensures.shows left.memory ps vs h.holds)
    ∙ (ap (λ (p : ℕ). size d + c.args.come + p) (c.peek.ensures ∙ ap pick h.schedule)
    ∙ sym (ap (λ (b : Bool). if b then size d + c.args.come + pick left.picks else d.room) full))

pub returns : goal.returns
returns c = λ left ps vs h.
    let d = cont_at left.memory c.args.container in
    let full = sym (c.lacks_room.ensures left.memory ps vs h.holds) ∙ c.if-lacks_room.false in
    c.room.ensures.shows left.memory ps vs h.holds
    ∙ sym (ap (λ (b : Bool). if b then size d + c.args.come + pick left.picks else d.room) full)
