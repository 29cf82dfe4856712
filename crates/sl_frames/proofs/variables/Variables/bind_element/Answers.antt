use Rattle.std.proofs.Common.{arith, ap, ◌∙◌}
use Rattle.sl_model.specs.Memory.Containers.{Cell, cont_at}
use Rattle.sl_model.specs.Runs.Exec.{bound_to}
use Rattle.sl_model.specs.Runs.State.{new_pointer, reference_to}
use Rattle.sl_model.proofs.Getting.{get_map}
use Rattle.sl_slots.specs.declared.slot.Part.{Part}
use Rattle.sl_slots.specs.declared.slot.Pointer.TheVariants as p
use Rattle.sl_slots.specs.declared.slot.Slot.{Slot}
use Rattle.sl_slots.specs.declared.slot.Slot.TheVariants.{Stands}
use Rattle.sl_slots.specs.Shown.{part_code}
use Rattle.sl_frames.proofs.ElementsShow.{cell_there, cell_absent, refer_there, refer_absent, container_there}
use Rattle.sl_frames.proofs.variables.Variables.bind_element.Goals as goal

pub returns-then-place-size-clause-shows : goal.returns-then-place-size-clause-shows
returns-then-place-size-clause-shows c = λ s held which at e h. (
  ap (λ o. bound_to at which o s) (refer_absent s.memory c.args.container c.args.place
      (cell_absent c.args.self.now.store s.memory s.iters held h.mirrors.store c.args.container c.args.place
      (omega (arith, c.if-place-size.true, c.size.ensures.value)))),
  h,
)

pub returns-clause-shows : goal.returns-clause-shows
returns-clause-shows c = λ s held which at e h.
    let j = c.args.container in
    let k = c.args.place in
    let x = cell_there c.args.self.now.store s.memory s.iters held h.mirrors.store j k (omega (arith, c.if-place-size.false, c.size.ensures.value)) in
    let r = refer_there s.memory j k x.0 h.mirrors.store.sound (container_there s.memory j k x.0 x.1) x.1 in (
      new_pointer (reference_to x.0.refer which) s,
      ap (λ o. bound_to at which o s) (get_map (λ (y : Cell). y.refer) (cont_at s.memory j).cells k x.0 x.1),
      c.in_ok-declare_pointer.ensures.shows s held (reference_to x.0.refer which) r.0
          (ap (λ (y : Slot). p.Reference y (part_code which)) r.1 ∙ ap (λ (q : Part). p.Reference (Stands j k) q) e) h,
    )
