use Rattle.sl_number_limits.proofs.Declarations.{behind_fits}
use Rattle.sl_number_limits.proofs.Statements.{after_fits, after_items_fit}
use Rattle.sl_number_limits.proofs.Functions.{start_fits, in_function_fits, at_function_brace, after_function_fits}
use Rattle.sl_number_limits.proofs.Programs.{end_fits}
use Rattle.sl_number_limits.proofs.laws.places_fit.Goals as goal

pub returns-clause-starts : goal.returns-clause-starts
returns-clause-starts c = start_fits

pub returns-clause-expression : goal.returns-clause-expression
returns-clause-expression c = behind_fits

pub returns-clause-statement : goal.returns-clause-statement
returns-clause-statement c = after_fits

pub returns-clause-items : goal.returns-clause-items
returns-clause-items c = after_items_fit

pub returns-clause-body : goal.returns-clause-body
returns-clause-body c = in_function_fits

pub returns-clause-brace : goal.returns-clause-brace
returns-clause-brace c = at_function_brace

pub returns-clause-function : goal.returns-clause-function
returns-clause-function c = after_function_fits

pub returns-clause-ends : goal.returns-clause-ends
returns-clause-ends c = end_fits
