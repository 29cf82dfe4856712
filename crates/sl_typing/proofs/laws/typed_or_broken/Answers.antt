use Rattle.sl_typing.proofs.OneAnswer as answers
use Rattle.sl_typing.proofs.laws.typed_or_broken.Goals as goal

pub returns-clause-either : goal.returns-clause-either
returns-clause-either c = answers.one_or_other
