use Rattle.sl_typed_numbers.proofs.Few.{few_stand}
use Rattle.sl_typed_numbers.proofs.Names.{names_stand}
use Rattle.sl_typed_numbers.proofs.NumberedStatements.{numbers_stand}
use Rattle.sl_typed_numbers.proofs.Sites.{sites_stand}
use Rattle.sl_typed_numbers.proofs.Variables.{variables_stand}
use Rattle.sl_typed_numbers.proofs.laws.typed_numbers.Goals as goal

pub returns : goal.returns
returns c = record { few = few_stand; names = names_stand; variables = variables_stand; sites = sites_stand; numbers = numbers_stand }
