use Rattle.sl_statement_types.proofs.ReadLaws.{found_unknown}
use Rattle.sl_statement_types.proofs.reads.names_fault.Goals as goal

pub returns-in-Some : goal.returns-in-Some
returns-in-Some c =
    found_unknown c.args.known.now c.scope.result.now c.args.variables.now c.in-Some.variable.now c.scope.ensures c.in-Some.ensures
