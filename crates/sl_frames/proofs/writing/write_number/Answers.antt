use Rattle.std.proofs.Common.{◌≡◌, List, ℤ, None, Some, length, subst, arith, ap, refl, sym, ◌∙◌}
use Rattle.std.specs.Int.{w32, w128}
use Rattle.std.proofs.lemmas.Int.{to_z-of_z}
use Rattle.std.proofs.lemmas.Option.{slice_get_within}
use Rattle.sl_base.specs.declared.scalar.Scalar.TheVariants.{Int}
use Rattle.sl_model.specs.Memory.Containers.{Memory}
use Rattle.sl_model.specs.Numbers.{converted}
use Rattle.sl_model.proofs.Getting.{get_some}
use Rattle.sl_slots.specs.declared.container.Element.{Element}
use Rattle.sl_slots.specs.Shown.{Holds}
use Rattle.sl_slots.specs.Stored.{Written, elements_at}
use Rattle.sl_frames.proofs.ElementsShow.{cell_absent, elements_past, write-absent}
use Rattle.sl_frames.proofs.writing.write_number.Goals as goal

pub returns-then-container-len-clause-wrote : goal.returns-then-container-len-clause-wrote
returns-then-container-len-clause-wrote c = record {
  there = λ x at.
      let none = elements_past c.args.store.now c.args.container (omega (
        arith,
        c.if-container-len.true,
        c.len.ensures,
        c.args.store.now.containers.ok.0,
      )) in
      let low = slice_get_within (elements_at c.args.store.now c.args.container) c.args.place x at in
      let many = ap (λ (l : List Element). length l) none in
      absurd (omega (arith, low, many));
  absent = λ none. refl;
}

pub returns-then-place-size-clause-wrote : goal.returns-then-place-size-clause-wrote
returns-then-place-size-clause-wrote c = record {
  there = λ x at.
      let low = slice_get_within (elements_at c.args.store.now c.args.container) c.args.place x at in
      absurd (omega (arith, low, c.if-place-size.true, c.size.ensures.value));
  absent = λ none. refl;
}

pub returns-then-place-size-clause-shows : goal.returns-then-place-size-clause-shows
returns-then-place-size-clause-shows c = λ m ps vs which e h.
    subst (λ (n : Memory). Holds c.args.store.now n ps vs)
    (write-absent m c.args.container c.args.place which c.args.number
    (cell_absent c.args.store.now m ps vs h c.args.container c.args.place (omega (arith, c.if-place-size.true, c.size.ensures.value)))) h

pub returns-clause-wrote : goal.returns-clause-wrote
returns-clause-wrote c =
    let old = c.args.store.now in
    let same : _ ≡ _ = ap (converted Int) (sym (to_z-of_z w128 c.args.number c.ranges.number)) ∙ (sym c.to_int.ensures
    ∙ sym (to_z-of_z w32 c.to_int.result (record { sfits = c.to_int.type_inv }))) in record {
      there = λ x at. subst (λ (z : ℤ). Written c.args.container c.args.place x c.args.part z old c.write.new.self) (sym same)
          (c.write.ensures.written x at);
      absent = λ none.
          let some = get_some (elements_at old c.args.container) c.args.place (omega (arith, c.if-place-size.false, c.size.ensures.value)) in
          let q : None ≡ Some some.0 = sym none ∙ some.1 in absurd (cc);
    }

pub returns-clause-shows : goal.returns-clause-shows
returns-clause-shows c = λ m ps vs which e h. c.write.ensures.shows m ps vs which c.args.number e
    (ap (converted Int) (sym (to_z-of_z w128 c.args.number c.ranges.number)) ∙ (sym c.to_int.ensures
    ∙ sym (to_z-of_z w32 c.to_int.result (record { sfits = c.to_int.type_inv })))) h
