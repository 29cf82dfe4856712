use Rattle.std.proofs.Common.{sym, ◌∙◌, subst}
use Rattle.std.proofs.lemmas.Result.{err_from_is_err_and}
use Rattle.sl_typing.specs.Contexts.{declare}
use Rattle.sl_typing.specs.StatementFaults.{limit_faults}
use Rattle.sl_first_fault.specs.Means.Steps.{StopsAt}
use Rattle.sl_first_fault.proofs.StepLaws.{earlier}
use Rattle.sl_first_fault.proofs.variables.declare_variable.Goals as goal

pub returns-in_err-stop_at : goal.returns-in_err-stop_at
returns-in_err-stop_at c g xs e f =
    let p = err_from_is_err_and c.from_residual.result c.from_residual.ensures.1 in
    let h = c.args.known.now in
    let ys = limit_faults g (declare c.args.name.now c.args.variable_type h) c.args.name.now.place in
    rw (p.1, p.2) (subst (StopsAt _) (earlier _ _ _ xs ys c.or.ensures f (c.past_limit-past.ensures g e)) c.in_err-stop_at.ensures)

pub returns : goal.returns
returns c g xs e f =
    let h = c.args.known.now in
    let ys = limit_faults g (declare c.args.name.now c.args.variable_type h) c.args.name.now.place in
    record {
      breaks_none = sym (earlier _ _ _ xs ys c.or.ensures f (c.past_limit-past.ensures g e)) ∙ c.in_ok-stop_at.ensures;
      is_known = c.in_ok-declare.ensures;
    }
