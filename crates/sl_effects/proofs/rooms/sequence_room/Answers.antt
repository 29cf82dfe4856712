use Rattle.std.proofs.Common.{◌≡◌, ℕ, List, refl, ap, sym, ◌∙◌}
use Rattle.sl_base.specs.declared.form.Form.{Form}
use Rattle.sl_base.specs.declared.form.Form.TheVariants as f
use Rattle.sl_model.specs.Memory.Containers.{Cont, cont_at}
use Rattle.sl_model.specs.LibraryCalls.Effects.{room_with}
use Rattle.sl_effects.proofs.rooms.sequence_room.Goals as goal

-- a sequence that is no vector has no room that grows
other_room : (form : Form) (c : Cont) (n : ℕ) (picks : List ℕ) → (form ≡ f.Vector → ⊥) → room_with form c n picks ≡ c.room
other_room f.Vector c n picks other = absurd (other refl)
other_room form c n picks other = refl

pub returns-in-Vector : goal.returns-in-Vector
returns-in-Vector c = λ left ps vs h.
    let d = cont_at left.memory c.args.container in
    c.vector_room.ensures left ps vs h
    ∙ ap (λ (form : Form). room_with form d c.args.come left.picks) (sym c.in-Vector.is ∙ c.form.ensures.shows left.memory ps vs h.holds)

pub returns-in_default : goal.returns-in_default
returns-in_default c = λ left ps vs h.
    let d = cont_at left.memory c.args.container in
    c.room.ensures.shows left.memory ps vs h.holds
    ∙ sym (other_room d.form d c.args.come left.picks (λ e. c.in_default.not-Vector (c.form.ensures.shows left.memory ps vs h.holds ∙ e)))
