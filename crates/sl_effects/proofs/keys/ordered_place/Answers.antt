use Rattle.std.proofs.Common.{◌≤◌, List, length, subst, ap, ◌∙◌, w32}
use Rattle.std.proofs.lemmas.Int.{to_z-of_z}
use Rattle.sl_model.specs.Memory.Containers.{cont_at}
use Rattle.sl_model.specs.Memory.Forms.{holds_equal_keys}
use Rattle.sl_slots.specs.declared.container.Element.{Element}
use Rattle.sl_effects.specs.Means.Keys.{keys_of}
use Rattle.sl_effects.proofs.InsertLaws.{counted_place}
use Rattle.sl_effects.proofs.Stores.{shown_keys, read_elements}
use Rattle.sl_effects.proofs.keys.ordered_place.Goals as goal

pub returns : goal.returns
returns c =
    let read = read_elements c.args.store.now c.args.container c.index.result.now c.deref.result.now
    c.requires c.index.ensures c.deref.ensures.value in record {
      within = subst (λ (es : List Element). c.count_before.result ≤ length es) read c.count_before.ensures.within;
      shows = λ m ps vs h. counted_place (cont_at m c.args.container) c.args.key _ c.deref.result.now c.has_equal_keys-equal.result
          c.count_before.result (c.has_equal_keys-equal.ensures ∙ ap holds_equal_keys (c.form.ensures.shows m ps vs h))
          (ap keys_of read ∙ shown_keys c.args.store.now m ps vs h c.args.container c.requires)
          (to_z-of_z w32 c.args.key c.ranges.key) c.count_before.ensures.value;
    }
