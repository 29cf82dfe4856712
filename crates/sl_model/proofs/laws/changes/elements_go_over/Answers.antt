-- Each of the two containers has the marks of what it took from the other, and of what it kept.
use Rattle.sl_model.proofs.Moved.{goes_to_first, goes_to_second, stays_in_first, stays_in_second}
use Rattle.sl_model.proofs.laws.changes.elements_go_over.Goals as goal

pub returns-clause-to_first : goal.returns-clause-to_first
returns-clause-to_first t = goes_to_first

pub returns-clause-to_second : goal.returns-clause-to_second
returns-clause-to_second t = goes_to_second

pub returns-clause-in_first : goal.returns-clause-in_first
returns-clause-in_first t = stays_in_first

pub returns-clause-in_second : goal.returns-clause-in_second
returns-clause-in_second t = stays_in_second
