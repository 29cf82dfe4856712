-- A well typed text is scoped, so each of its runs ends in a good state.
use Rattle.sl_model.proofs.RunGood.{end-good}
use Rattle.sl_model.proofs.ScopedTexts.{well-typed-scoped}
use Rattle.sl_model.proofs.laws.typed.well_typed_texts_are_scoped.Goals as goal

pub returns-clause-scoped : goal.returns-clause-scoped
returns-clause-scoped c = well-typed-scoped

pub returns-clause-good : goal.returns-clause-good
returns-clause-good c = λ p typed input picks steps. end-good p (well-typed-scoped p typed) input picks steps
