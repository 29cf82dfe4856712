use Rattle.sl_statement_numbering.proofs.declarations.first_of_for.Goals as goal

pub returns-in_ok-declared-in-Auto-clause-behind : goal.returns-in_ok-declared-in-Auto-clause-behind
returns-in_ok-declared-in-Auto-clause-behind c = rw c.in-Auto.is c.in_ok-declared-in-Auto.ensures.behind
