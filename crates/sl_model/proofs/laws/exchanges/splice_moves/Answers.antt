-- The object receives the elements in their order.
use Rattle.sl_model.proofs.Exchanged.{splice-comes}
use Rattle.sl_model.proofs.laws.exchanges.splice_moves.Goals as goal

pub returns : goal.returns
returns c = λ form class s from count n there there' within fits k low high. splice-comes form class s from count n there there' fits k low high
