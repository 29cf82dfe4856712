use Rattle.sl_model.proofs.FitRun.{run-meant}
use Rattle.sl_model.proofs.ScopedTexts.{well-typed-scoped}
use Rattle.sl_typed_texts.proofs.Joined.{typed_is_well_typed}
use Rattle.sl_typed_texts.proofs.laws.typed_texts.Goals as goal

pub returns-clause-well_typed : goal.returns-clause-well_typed
returns-clause-well_typed c = typed_is_well_typed

pub returns-clause-scoped : goal.returns-clause-scoped
returns-clause-scoped c = λ text tokens p u typed. well-typed-scoped u (typed_is_well_typed text tokens p u typed)

pub returns-clause-meaning : goal.returns-clause-meaning
returns-clause-meaning c = λ text tokens p u typed. run-meant u (typed_is_well_typed text tokens p u typed)
