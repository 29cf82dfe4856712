use Rattle.std.proofs.Common.{Bool, ap, sym, ◌∙◌, if◌then◌else◌}
use Rattle.std.proofs.lemmas.Bool.{eq-eqb, ne_eqb}
use Rattle.sl_model.specs.Memory.Containers.{cont_at}
use Rattle.sl_model.specs.LibraryCalls.Effects.{grown_picks}
use Rattle.sl_effects.proofs.rooms.vector_picks.Goals as goal

pub returns-then-come-eq0 : goal.returns-then-come-eq0
returns-then-come-eq0 c = λ m ps vs h.
    sym (ap (λ (b : Bool). if b then 0 else grown_picks (cont_at m c.args.container) c.args.come) (eq-eqb c.args.come 0 c.if-come-eq0.true))

pub returns : goal.returns
returns c = λ m ps vs h. c.grown_picks.ensures m ps vs h
    ∙ sym (ap (λ (b : Bool). if b then 0 else grown_picks (cont_at m c.args.container) c.args.come) (ne_eqb c.args.come 0 c.if-come-eq0.false))
