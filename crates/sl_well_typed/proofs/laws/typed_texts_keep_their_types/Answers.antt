use Rattle.sl_well_typed.proofs.Few.{typed_has_few}
use Rattle.sl_well_typed.proofs.Functions.{typed_has_types}
use Rattle.sl_well_typed.proofs.LiteralStatements.{typed_has_constants}
use Rattle.sl_well_typed.proofs.Main.{typed_has_main}
use Rattle.sl_well_typed.proofs.laws.typed_texts_keep_their_types.Goals as goal

pub returns-clause-types : goal.returns-clause-types
returns-clause-types c = typed_has_types

pub returns-clause-main : goal.returns-clause-main
returns-clause-main c = typed_has_main

pub returns-clause-few : goal.returns-clause-few
returns-clause-few c = typed_has_few

pub returns-clause-constants : goal.returns-clause-constants
returns-clause-constants c = typed_has_constants
