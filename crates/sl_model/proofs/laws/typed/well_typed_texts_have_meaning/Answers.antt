-- What a run of a well typed text asks of the library fits its types, so it never comes to what has no meaning.
use Rattle.sl_model.proofs.FitRun.{run-meant}
use Rattle.sl_model.proofs.laws.typed.well_typed_texts_have_meaning.Goals as goal

pub returns : goal.returns
returns c = run-meant
