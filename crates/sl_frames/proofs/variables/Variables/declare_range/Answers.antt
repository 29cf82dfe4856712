use Rattle.std.proofs.Common.{ℕ, ap, subst, sym, ◌∙◌}
use Rattle.sl_model.specs.Memory.Containers.{begin_of, end_of}
use Rattle.sl_model.specs.Runs.State.{iterator_at, new_iterator}
use Rattle.sl_slots.specs.declared.slot.Pointer.TheVariants as p
use Rattle.sl_slots.specs.declared.slot.Slot.{Slot}
use Rattle.sl_slots.specs.declared.slot.Slot.TheVariants.{Stands}
use Rattle.sl_frames.specs.Changed.{PointerCame}
use Rattle.sl_frames.proofs.ElementsShow.{begin_stands, end_stands}
use Rattle.sl_frames.proofs.variables.Variables.declare_range.Goals as goal

pub returns : goal.returns
returns c = record {
  came = record {
    middle = c.declare_pointer.new.self;
    first = subst (λ (y : Slot). PointerCame (p.Iterator y) c.args.self.now c.declare_pointer.new.self) c.standing.ensures
        c.in_ok-declare_pointer.ensures.came;
    second = subst (λ (y : Slot). PointerCame (p.Iterator y) c.declare_pointer.new.self c.declare_pointer-2.new.self)
        (c.standing-2.ensures ∙ ap (λ (n : ℕ). Stands c.args.location n) c.size_of-end.ensures) c.in_ok-declare_pointer-2.ensures.came;
  };
  shows = λ s held low h.
      let j = c.args.location in
      let b = begin_stands s.memory j h.mirrors.store.sound low in
      let e = end_stands c.args.self.now.store s.memory s.iters held h.mirrors.store j low in
      c.in_ok-declare_pointer-2.ensures.shows (new_iterator (begin_of s.memory j) s) held (iterator_at (end_of s.memory j)) e.0
      (ap (λ (y : Slot). p.Iterator y) (e.1 ∙ (sym (ap (λ (n : ℕ). Stands j n) c.size_of-end.ensures) ∙ sym c.standing-2.ensures)))
      (c.in_ok-declare_pointer.ensures.shows s held (iterator_at (begin_of s.memory j)) b.0
      (ap (λ (y : Slot). p.Iterator y) (b.1 ∙ sym c.standing.ensures)) h);
}
