use Rattle.std.proofs.Common.{ℕ, ◌+◌, ap, ◌∙◌}
use Rattle.std.specs.Prelude.{nat_lt}
use Rattle.sl_model.specs.Memory.Containers.{cont_at}
use Rattle.sl_effects.proofs.rooms.lacks_room.Goals as goal

pub returns : goal.returns
returns c = λ m ps vs h.
    ap (λ (r : ℕ). nat_lt r (c.size.result + c.args.come)) (c.room.ensures.shows m ps vs h)
    ∙ ap (λ (n : ℕ). nat_lt (cont_at m c.args.container).room (n + c.args.come)) (c.size.ensures.shows m ps vs h)
