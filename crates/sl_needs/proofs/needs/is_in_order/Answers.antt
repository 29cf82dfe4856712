use Rattle.std.proofs.Common.{map, ap, ◌∙◌}
use Rattle.sl_model.specs.Memory.Containers.{cont_at}
use Rattle.sl_model.specs.Memory.Orders.{is_ascending}
use Rattle.sl_arguments.specs.Readings.{key_of}
use Rattle.sl_arguments.proofs.RangeReadings.{keys_read}
use Rattle.sl_needs.proofs.needs.is_in_order.Goals as goal

pub returns : goal.returns
returns c = λ s h. c.is_ascending.ensures
    ∙ ap is_ascending (ap (map key_of) (c.elements.ensures s h) ∙ keys_read (cont_at s.memory c.args.container).cells)
