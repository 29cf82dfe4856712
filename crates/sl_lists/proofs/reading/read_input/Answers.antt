use Rattle.sl_model.specs.Reports.Lists.{int_of}
use Rattle.sl_model.proofs.ListWords.{ints_complete}
use Rattle.sl_lists.proofs.ListAnswers.{only_list, only_fault}
use Rattle.sl_lists.proofs.reading.read_input.Goals as goal

pub returns-clause-only_list : goal.returns-clause-only_list
returns-clause-only_list c =
    only_list int_of ints_complete c.args.bytes.now c.input_of.result (c.input_of.ensures.list, c.input_of.ensures.fault)

pub returns-clause-only_fault : goal.returns-clause-only_fault
returns-clause-only_fault c =
    only_fault int_of ints_complete c.args.bytes.now c.input_of.result (c.input_of.ensures.list, c.input_of.ensures.fault)
