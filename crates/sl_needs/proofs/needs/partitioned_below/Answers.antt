use Rattle.std.proofs.Common.{Bool, not, ap, ◌∙◌}
use Rattle.sl_base.specs.declared.failures.TheConstants.{NOT_PARTITIONED}
use Rattle.sl_model.specs.Memory.Orders.{is_partitioned}
use Rattle.sl_model.specs.LibraryCalls.Needs.{fails_if, first_failure, valid_keys}
use Rattle.sl_needs.specs.declared.orders.Bound.{Bound}
use Rattle.sl_needs.specs.Means.Bounds.{is_within}
use Rattle.sl_needs.proofs.needs.partitioned_below.Goals as goal

pub returns : goal.returns
returns c = λ s r h. c.fails_if.ensures ∙ ap (λ (b : Bool). first_failure (fails_if (not b) NOT_PARTITIONED 1))
    (c.is_range_partitioned-below.ensures s h ∙ ap (λ (b : Bound). is_partitioned (is_within b) (valid_keys s 1)) (c.below.ensures s h))
