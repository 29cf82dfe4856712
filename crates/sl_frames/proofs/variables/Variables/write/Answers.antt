use Rattle.std.proofs.Common.{ℤ, refl, subst, sym, ◌∙◌}
use Rattle.std.specs.Int.{w128}
use Rattle.std.proofs.lemmas.Int.{to_z-of_z}
use Rattle.sl_model.specs.Memory.Containers.{write_element}
use Rattle.sl_slots.specs.Shown.{Holds}
use Rattle.sl_slots.specs.declared.slot.Value.{Value}
use Rattle.sl_frames.specs.Changed.{ElementWrote, NumberSet, Wrote}
use Rattle.sl_frames.proofs.SetShows.{nothing_wrote}
use Rattle.sl_frames.proofs.ElementsShow.{element_written}
use Rattle.sl_frames.proofs.variables.Variables.write.Goals as goal

pub returns-in-ScalarAt-clause-wrote : goal.returns-in-ScalarAt-clause-wrote
returns-in-ScalarAt-clause-wrote c =
    subst (λ (w : Value). Wrote w c.args.number c.args.self.now c.set_number.new.self) (sym c.in-ScalarAt.is)
    (subst (λ (z : ℤ). NumberSet c.in-ScalarAt.location z c.args.self.now c.set_number.new.self) (to_z-of_z w128 c.args.number c.ranges.number)
    c.set_number.ensures.set)

pub returns-in-ElementAt-clause-wrote : goal.returns-in-ElementAt-clause-wrote
returns-in-ElementAt-clause-wrote c =
    let old = c.args.self.now in
    let store = c.write_number.new.store in
    let at = c.in-ElementAt in
    subst (λ (w : Value). Wrote w c.args.number old (record old { store = store })) (sym at.is) (
      refl,
      refl,
      subst (λ (z : ℤ). ElementWrote at.container at.place at.part z old.store store) (to_z-of_z w128 c.args.number c.ranges.number)
          c.write_number.ensures.wrote,
    )

pub returns-in_default-clause-wrote : goal.returns-in_default-clause-wrote
returns-in_default-clause-wrote c = nothing_wrote c.args.place c.args.number c.args.self.now c.in_default.not-ScalarAt c.in_default.not-ElementAt

pub returns-in-ElementAt-clause-shows : goal.returns-in-ElementAt-clause-shows
returns-in-ElementAt-clause-shows c = λ s held u e h.
    element_written c.args.self.now _ c.in-ElementAt.container c.in-ElementAt.place c.in-ElementAt.part c.args.number refl refl
    (λ m ps vs which q g.
    subst (λ (z : ℤ). Holds c.write_number.new.store (write_element m c.in-ElementAt.container c.in-ElementAt.place which z) ps vs)
    (to_z-of_z w128 c.args.number c.ranges.number) (c.write_number.ensures.shows m ps vs which q g))
    s held u (e ∙ c.in-ElementAt.is) h
