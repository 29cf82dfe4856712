use Rattle.std.proofs.Common.{◌≡◌, map, sym, ap, ◌∙◌, subst}
use Rattle.std.specs.List.{slice_set}
use Rattle.sl_model.proofs.Getting.{map_set}
use Rattle.sl_slots.specs.declared.edit.Editing.{Editing}
use Rattle.sl_slots.specs.declared.motion.Motion.TheVariants.{Edits}
use Rattle.sl_slots.specs.Shown.{contents}
use Rattle.sl_slots.specs.Fates.{pointer_after, value_after}
use Rattle.sl_slots.specs.Stored.{edited}
use Rattle.sl_slots.proofs.EditShows.{edited_holds}
use Rattle.sl_slots.proofs.ReadingShows.{read_there, contents-there}
use Rattle.sl_slots.proofs.store.Store.edit.Goals as goal

pub returns-clause-edited : goal.returns-clause-edited
returns-clause-edited c =
    let old = c.args.self.now in
    let new = c.move_all.new.store in
    let there = read_there old.containers.items c.args.container c.index_mut.result.now c.requires.there c.index_mut.ensures.value in record {
      containers = ap (λ v. map contents v.items) c.move_all.ensures.containers
          ∙ (map_set contents old.containers.items c.args.container c.replace.new.container
          ∙ ap (slice_set (map contents old.containers.items) c.args.container)
          (c.in_ok-replace.ensures
          ∙ ap (edited c.args.edit.now c.args.come.now) (sym (contents-there old c.args.container c.index_mut.result.now there))));
      moved = record {
        pointers = subst (λ (e : Editing). new.pointers.items ≡ map (pointer_after (Edits e)) old.pointers.items) c.editing-editing.ensures
            c.move_all.ensures.moved.pointers;
        operands = subst (λ (e : Editing). new.operands.items ≡ map (value_after (Edits e)) old.operands.items) c.editing-editing.ensures
            c.move_all.ensures.moved.operands;
      };
    }

pub returns-clause-shows : goal.returns-clause-shows
returns-clause-shows c = λ m ps vs e same fair h. edited_holds c.args.self.now c.move_all.new.store c.args.container c.args.edit.now
    c.args.come.now c.args.site (returns-clause-edited c) c.requires.there c.requires.inside m ps vs e same h fair
