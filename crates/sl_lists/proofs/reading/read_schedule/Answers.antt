use Rattle.sl_model.specs.Reports.Lists.{pick_of}
use Rattle.sl_model.proofs.ListWords.{picks_complete}
use Rattle.sl_lists.proofs.ListAnswers.{only_list, only_fault}
use Rattle.sl_lists.proofs.reading.read_schedule.Goals as goal

pub returns-clause-only_list : goal.returns-clause-only_list
returns-clause-only_list c =
    only_list pick_of picks_complete c.args.bytes.now c.schedule_of.result (c.schedule_of.ensures.list, c.schedule_of.ensures.fault)

pub returns-clause-only_fault : goal.returns-clause-only_fault
returns-clause-only_fault c =
    only_fault pick_of picks_complete c.args.bytes.now c.schedule_of.result (c.schedule_of.ensures.list, c.schedule_of.ensures.fault)
