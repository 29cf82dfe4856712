use Rattle.sl_typed_order.proofs.laws.typed_order.Goals as goal
use Rattle.sl_typed_order.proofs.NoAlias.{typed_has_no_alias}
use Rattle.sl_typed_order.proofs.Ordered.{typed_has_order}

pub returns : goal.returns
returns c = record { no_alias = typed_has_no_alias; order = typed_has_order }
