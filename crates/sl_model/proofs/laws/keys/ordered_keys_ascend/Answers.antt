-- Pairs in order make an ascending list.
use Rattle.sl_model.specs.Memory.Containers.{keys}
use Rattle.sl_model.proofs.Ascending.{order-ascends}
use Rattle.sl_model.proofs.laws.keys.ordered_keys_ascend.Goals as goal

pub returns : goal.returns
returns g = λ c orderly keyed sorted. order-ascends c.form (keys c) keyed sorted orderly.order
