use Rattle.sl_number_limits.proofs.Programs as programs
use Rattle.sl_number_limits.proofs.TypedFunctions.{each_function_fits}
use Rattle.sl_number_limits.proofs.laws.typed_programs_fit.Goals as goal

pub returns-clause-functions : goal.returns-clause-functions
returns-clause-functions c = programs.functions_fit

pub returns-clause-main : goal.returns-clause-main
returns-clause-main c = programs.main_fits

pub returns-clause-sites : goal.returns-clause-sites
returns-clause-sites c = programs.sites_fit

pub returns-clause-loops : goal.returns-clause-loops
returns-clause-loops c = programs.loops_fit

pub returns-clause-names : goal.returns-clause-names
returns-clause-names c = programs.names_fit

pub returns-clause-each : goal.returns-clause-each
returns-clause-each c = each_function_fits
