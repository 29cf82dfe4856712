use Rattle.std.proofs.Common.{Bool, ap, sym, ◌∙◌, if◌then◌else◌}
use Rattle.std.proofs.lemmas.Bool.{eq-eqb, ne_eqb}
use Rattle.sl_model.specs.Memory.Containers.{cont_at}
use Rattle.sl_model.specs.LibraryCalls.Effects.{grown_room}
use Rattle.sl_effects.proofs.rooms.vector_room.Goals as goal

pub returns-then-come-eq0 : goal.returns-then-come-eq0
returns-then-come-eq0 c = λ left ps vs h.
    let d = cont_at left.memory c.args.container in
    c.room.ensures.shows left.memory ps vs h.holds
    ∙ sym (ap (λ (b : Bool). if b then d.room else grown_room d c.args.come left.picks) (eq-eqb c.args.come 0 c.if-come-eq0.true))

pub returns : goal.returns
returns c = λ left ps vs h.
    let d = cont_at left.memory c.args.container in
    c.grown_room.ensures left ps vs h
    ∙ sym (ap (λ (b : Bool). if b then d.room else grown_room d c.args.come left.picks) (ne_eqb c.args.come 0 c.if-come-eq0.false))
