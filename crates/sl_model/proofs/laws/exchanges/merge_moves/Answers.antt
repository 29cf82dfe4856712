-- A merge takes each element of either list once.
use Rattle.sl_model.proofs.Exchanged.{merge-stays, merge-comes}
use Rattle.sl_model.proofs.laws.exchanges.merge_moves.Goals as goal

pub returns-clause-stays : goal.returns-clause-stays
returns-clause-stays c = λ form class s n there there' k low. let r = merge-stays form class s n there there' k low in (r.0, r.1.0, r.1.1)

pub returns-clause-comes : goal.returns-clause-comes
returns-clause-comes c = λ form class s n there there' k low. let r = merge-comes form class s n there there' k low in (r.0, r.1.0, r.1.1)
