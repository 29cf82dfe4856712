use Rattle.std.proofs.Common.{Bool, ap, sym, ◌∙◌, if◌then◌else◌}
use Rattle.sl_specs.specs.Forms.{is_hash}
use Rattle.sl_model.specs.Memory.Containers.{cont_at}
use Rattle.sl_model.specs.LibraryCalls.Effects.{grown_room}
use Rattle.sl_effects.proofs.new_keys.key_room.Goals as goal

pub returns-then-is_hashed : goal.returns-then-is_hashed
returns-then-is_hashed c = λ left ps vs h.
    let d = cont_at left.memory c.args.container in
    let hash = ap is_hash (sym (c.form.ensures.shows left.memory ps vs h.holds)) ∙ (sym c.is_hashed.ensures ∙ c.if-is_hashed.true) in
    c.grown_room.ensures left ps vs h ∙ sym (ap (λ (b : Bool). if b then grown_room d 1 left.picks else d.room) hash)

pub returns : goal.returns
returns c = λ left ps vs h.
    let d = cont_at left.memory c.args.container in
    let hash = ap is_hash (sym (c.form.ensures.shows left.memory ps vs h.holds)) ∙ (sym c.is_hashed.ensures ∙ c.if-is_hashed.false) in
    c.room.ensures.shows left.memory ps vs h.holds ∙ sym (ap (λ (b : Bool). if b then grown_room d 1 left.picks else d.room) hash)
