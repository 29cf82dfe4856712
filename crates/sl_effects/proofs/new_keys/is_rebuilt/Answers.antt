use Rattle.std.proofs.Common.{Bool, false, ap, sym, ◌∙◌, if◌then◌else◌}
use Rattle.sl_specs.specs.Forms.{is_hash}
use Rattle.sl_model.specs.Memory.Containers.{cont_at}
use Rattle.sl_model.specs.LibraryCalls.Effects.{is_full}
use Rattle.sl_effects.proofs.new_keys.is_rebuilt.Goals as goal

pub returns-then-is_hashed : goal.returns-then-is_hashed
returns-then-is_hashed c = λ m ps vs h.
    let d = cont_at m c.args.container in
    let hash = ap is_hash (sym (c.form.ensures.shows m ps vs h)) ∙ (sym c.is_hashed.ensures ∙ c.if-is_hashed.true) in
    c.lacks_room.ensures m ps vs h ∙ sym (ap (λ (b : Bool). if b then is_full d 1 else false) hash)

pub returns : goal.returns
returns c = λ m ps vs h.
    let d = cont_at m c.args.container in
    let hash = ap is_hash (sym (c.form.ensures.shows m ps vs h)) ∙ (sym c.is_hashed.ensures ∙ c.if-is_hashed.false) in
    sym (ap (λ (b : Bool). if b then is_full d 1 else false) hash)
