use Rattle.std.proofs.Common.{ap, sym, ◌∙◌, w32}
use Rattle.std.proofs.lemmas.Int.{to_z-of_z}
use Rattle.sl_model.specs.Memory.Containers.{cont_at}
use Rattle.sl_model.specs.Memory.Forms.{holds_equal_keys}
use Rattle.sl_effects.specs.Means.Keys.{keys_of}
use Rattle.sl_effects.proofs.InsertLaws.{known_nowhere, known_found}
use Rattle.sl_effects.proofs.Stores.{shown_keys, read_elements}
use Rattle.sl_effects.proofs.keys.known_place.Goals as goal

pub returns-then-has_equal_keys : goal.returns-then-has_equal_keys
returns-then-has_equal_keys c = λ m ps vs h. known_nowhere (cont_at m c.args.container) c.args.key
    (ap holds_equal_keys (sym (c.form.ensures.shows m ps vs h)) ∙ (sym c.has_equal_keys.ensures ∙ c.if-has_equal_keys.true))

pub returns : goal.returns
returns c = λ m ps vs h. known_found (cont_at m c.args.container) c.args.key _ c.deref.result.now c.find_key.result
    (ap holds_equal_keys (sym (c.form.ensures.shows m ps vs h)) ∙ (sym c.has_equal_keys.ensures ∙ c.if-has_equal_keys.false))
    (ap keys_of (read_elements c.args.store.now c.args.container c.index.result.now c.deref.result.now c.requires
    c.index.ensures c.deref.ensures.value)
    ∙ shown_keys c.args.store.now m ps vs h c.args.container c.requires)
    (to_z-of_z w32 c.args.key c.ranges.key) c.find_key.ensures
