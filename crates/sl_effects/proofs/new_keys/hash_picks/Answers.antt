use Rattle.std.proofs.Common.{ℕ, ◌+◌, Bool, ap, sym, ◌∙◌, if◌then◌else◌}
use Rattle.sl_model.specs.Memory.Containers.{cont_at, size}
use Rattle.sl_effects.proofs.new_keys.hash_picks.Goals as goal

pub returns-then-lacks_room : goal.returns-then-lacks_room
returns-then-lacks_room c = λ m ps vs h.
    let d = cont_at m c.args.container in
    let full = sym (c.lacks_room.ensures m ps vs h) ∙ c.if-lacks_room.true in
    ap (λ (n : ℕ). n + 2) (c.size.ensures.shows m ps vs h) ∙ sym (ap (λ (b : Bool). if b then size d + 2 else 1) full)

pub returns : goal.returns
returns c = λ m ps vs h.
    let d = cont_at m c.args.container in
    let full = sym (c.lacks_room.ensures m ps vs h) ∙ c.if-lacks_room.false in
    sym (ap (λ (b : Bool). if b then size d + 2 else 1) full)
