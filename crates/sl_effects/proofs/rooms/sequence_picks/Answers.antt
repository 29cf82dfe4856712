use Rattle.std.proofs.Common.{◌≡◌, ℕ, refl, ap, sym, ◌∙◌}
use Rattle.sl_base.specs.declared.form.Form.{Form}
use Rattle.sl_base.specs.declared.form.Form.TheVariants as f
use Rattle.sl_model.specs.Memory.Containers.{Cont, cont_at}
use Rattle.sl_model.specs.LibraryCalls.Effects.{picks_with}
use Rattle.sl_effects.proofs.rooms.sequence_picks.Goals as goal

-- a sequence that is no vector takes no pick
other_picks : (form : Form) (c : Cont) (n : ℕ) → (form ≡ f.Vector → ⊥) → picks_with form c n ≡ 0
other_picks f.Vector c n other = absurd (other refl)
other_picks form c n other = refl

pub returns-in-Vector : goal.returns-in-Vector
returns-in-Vector c = λ m ps vs h. c.vector_picks.ensures m ps vs h
    ∙ ap (λ (form : Form). picks_with form (cont_at m c.args.container) c.args.come) (sym c.in-Vector.is ∙ c.form.ensures.shows m ps vs h)

pub returns-in_default : goal.returns-in_default
returns-in_default c = λ m ps vs h.
    let d = cont_at m c.args.container in
    sym (other_picks d.form d c.args.come (λ e. c.in_default.not-Vector (c.form.ensures.shows m ps vs h ∙ e)))
