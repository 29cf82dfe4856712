use Rattle.std.proofs.Common.{◌∙◌, sym}
use Rattle.std.proofs.lemmas.Result.{err_from_is_err_and}
use Rattle.sl_lists.proofs.PickLaws.{picks_bad, picks_list, are_picks}
use Rattle.sl_lists.proofs.reading.schedule_of.Goals as goal

pub returns-in_err-wide-clause-fault : goal.returns-in_err-wide-clause-fault
returns-in_err-wide-clause-fault c =
    let p = err_from_is_err_and c.from_residual.result c.from_residual.ensures.1 in
    rw p.1 (λ offset same. picks_bad c.args.bytes.now offset (c.in_err-wide.ensures.fault offset (sym p.2 ∙ same)))

pub picks-requires : goal.picks-requires
picks-requires c = rw c.as_slice.ensures (are_picks c.args.bytes.now c.in_ok-wide.wide c.in_ok-wide.ensures.list)

pub returns-clause-list : goal.returns-clause-list
returns-clause-list c =
    picks_list c.args.bytes.now c.in_ok-numbers.numbers c.in_ok-wide.wide (c.in_ok-numbers.ensures ∙ c.as_slice.ensures) c.in_ok-wide.ensures.list
