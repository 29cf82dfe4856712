-- A byte that is read, one at which no list can go on, and an end at which the last word may not end.
use Rattle.std.proofs.Common.{◌∙◌, sym, subst, arith}
use Rattle.std.proofs.lemmas.Result.{err_from_is_err_and}
use Rattle.sl_model.specs.Reports.Lists.{BadAt}
use Rattle.sl_lists.specs.Means.Numbers.{number_in}
use Rattle.sl_lists.proofs.FaultLaws.{bad_at_byte, bad_at_end, goes_on, all_bytes}
use Rattle.sl_lists.proofs.walk.numbers_of.Goals as goal

pub returns-in_err-word-clause-fault : goal.returns-in_err-word-clause-fault
returns-in_err-word-clause-fault c =
    let p = err_from_is_err_and c.from_residual.result c.from_residual.ensures.1 in
    rw p.1 (λ offset same.
    let r = c.in_err-word.ensures.fault offset (sym p.2 ∙ same) in
    subst (BadAt (number_in c.args.kind) c.args.bytes.now) (sym r.0)
    (bad_at_byte c.args.kind c.args.bytes.now c.loop-at.at c.loop-at.numbers c.loop-at.word (omega arith) c.loop-at.invariant r.1))

pub loop-at-preserved : goal.loop-at-preserved
loop-at-preserved c =
    goes_on c.args.kind c.args.bytes.now c.loop-at.at c.loop-at.numbers c.loop-at.word c.step.new.numbers c.in_ok-word.word (omega arith)
    c.loop-at.invariant c.in_ok-word.ensures.read

pub returns-in_err-close-clause-fault : goal.returns-in_err-close-clause-fault
returns-in_err-close-clause-fault c =
    let p = err_from_is_err_and c.from_residual-in_err-close.result c.from_residual-in_err-close.ensures.1 in
    rw p.1 (λ offset same.
    let r = c.in_err-close.ensures.fault offset (sym p.2 ∙ same) in
    subst (BadAt (number_in c.args.kind) c.args.bytes.now) (sym r.0)
    (bad_at_end c.args.kind c.args.bytes.now c.loop-at.numbers c.loop-at.word (all_bytes c.args.kind c.args.bytes.now c.loop-at.at c.loop-at.numbers
    c.loop-at.word (omega arith) c.loop-at.invariant) r.1))
