use Rattle.std.proofs.Common.{arith}
use Rattle.sl_numbering.proofs.SmallNumbers.{number_is_small}
use Rattle.sl_numbering.proofs.names.variable_number.Goals as goal

pub overflow_cast-result : goal.overflow_cast-result
overflow_cast-result c = omega (arith, c.number_of_name.ensures, number_is_small c.args.scope.now c.args.name.now c.requires)
