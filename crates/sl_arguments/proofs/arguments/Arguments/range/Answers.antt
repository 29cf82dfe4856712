use Rattle.std.proofs.Common.{ℕ, List, map, ap, ◌∙◌, slice_range}
use Rattle.sl_model.specs.Memory.Containers.{cont_at}
use Rattle.sl_model.specs.LibraryCalls.Situation.{their, index, container_of}
use Rattle.sl_slots.specs.declared.container.Element.{Element}
use Rattle.sl_slots.specs.Shown.{element_of}
use Rattle.sl_arguments.specs.Readings.{key_of}
use Rattle.sl_arguments.proofs.RangeReadings.{keys_between}
use Rattle.sl_arguments.proofs.arguments.Arguments.range.Goals as goal

pub returns-clause-keys : goal.returns-clause-keys
returns-clause-keys c = λ s h. let n = c.args.number in ap (map key_of) c.between.ensures
    ∙ (ap (λ (es : List Element). map key_of (slice_range es c.index.result c.index-2.result))
    (c.elements.ensures s h ∙ ap (λ (j : ℕ). map element_of (cont_at s.memory j).cells) (c.container.ensures s h))
    ∙ (ap (λ (k : ℕ). map key_of (slice_range (map element_of (their s n).cells) k c.index-2.result)) (c.index.ensures s h)
    ∙ (ap (λ (k : ℕ). map key_of (slice_range (map element_of (their s n).cells) (index s n) k)) (c.index-2.ensures s h)
    ∙ keys_between (their s n).cells (index s n) _)))
