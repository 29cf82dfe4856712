use Rattle.sl_model.specs.Reports.Lists.{int_of, pick_of}
use Rattle.sl_model.proofs.ListWords.{ints_complete, picks_complete}
use Rattle.sl_lists.proofs.ListAnswers.{decided}
use Rattle.sl_lists.proofs.laws.list_or_fault.Goals as goal

pub returns-clause-input : goal.returns-clause-input
returns-clause-input c = decided int_of ints_complete

pub returns-clause-schedule : goal.returns-clause-schedule
returns-clause-schedule c = decided pick_of picks_complete
