use Rattle.std.proofs.lemmas.Result.{err_from_is_err_and}
use Rattle.sl_tool.proofs.OneTextLaws.{one_program, parsed_or_refused}
use Rattle.sl_tool.proofs.PhaseLaws.{parsed_stop, refused_line}
use Rattle.sl_tool.proofs.phases.parsed_text.Goals as goal

pub returns-in_err-tokens-clause-only_program : goal.returns-in_err-tokens-clause-only_program
returns-in_err-tokens-clause-only_program c =
    let p = err_from_is_err_and c.from_residual.result c.from_residual.ensures.1 in
    rw (p.1, p.2) (parsed_stop _ _ c.in_err-tokens.ensures.refused)

pub returns-in_err-tokens-clause-only_line : goal.returns-in_err-tokens-clause-only_line
returns-in_err-tokens-clause-only_line c =
    let p = err_from_is_err_and c.from_residual.result c.from_residual.ensures.1 in
    rw (p.1, p.2) (refused_line _ _ c.in_err-tokens.ensures.refused)

pub returns-in_err-program-clause-only_program : goal.returns-in_err-program-clause-only_program
returns-in_err-program-clause-only_program c =
    let p = err_from_is_err_and c.from_residual-in_err-program.result c.from_residual-in_err-program.ensures.1 in
    rw (p.1, p.2) (parsed_stop _ _ c.in_err-program.ensures.refused)

pub returns-in_err-program-clause-only_line : goal.returns-in_err-program-clause-only_line
returns-in_err-program-clause-only_line c =
    let p = err_from_is_err_and c.from_residual-in_err-program.result c.from_residual-in_err-program.ensures.1 in
    rw (p.1, p.2) (refused_line _ _ c.in_err-program.ensures.refused)

pub returns-clause-only_program : goal.returns-clause-only_program
returns-clause-only_program c = λ tokens program is.
    one_program _ _ tokens _ program (rw c.as_slice.ensures at c.in_ok-program.ensures.program) is

pub returns-clause-only_line : goal.returns-clause-only_line
returns-clause-only_line c = λ file line is.
    absurd (parsed_or_refused file _ line _ _ (rw c.as_slice.ensures at c.in_ok-program.ensures.program) is)
