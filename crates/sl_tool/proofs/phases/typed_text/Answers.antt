use Rattle.std.proofs.lemmas.Result.{err_from_is_err_and}
use Rattle.sl_tool.proofs.PhaseLaws.{refused_leaves, typed_stop, leaving_line, is_typed, leaves, only_typed, only_leaving}
use Rattle.sl_tool.proofs.phases.typed_text.Goals as goal

pub returns-in_err-tokens-clause-refused : goal.returns-in_err-tokens-clause-refused
returns-in_err-tokens-clause-refused c =
    let p = err_from_is_err_and c.from_residual.result c.from_residual.ensures.1 in
    rw (p.1, p.2) (refused_leaves _ _ c.in_err-tokens.ensures.refused)

pub returns-in_err-tokens-clause-only_typed : goal.returns-in_err-tokens-clause-only_typed
returns-in_err-tokens-clause-only_typed c =
    let p = err_from_is_err_and c.from_residual.result c.from_residual.ensures.1 in
    rw (p.1, p.2) (typed_stop _ _ (refused_leaves _ _ c.in_err-tokens.ensures.refused))

pub returns-in_err-tokens-clause-only_line : goal.returns-in_err-tokens-clause-only_line
returns-in_err-tokens-clause-only_line c =
    let p = err_from_is_err_and c.from_residual.result c.from_residual.ensures.1 in
    rw (p.1, p.2) (leaving_line _ _ (refused_leaves _ _ c.in_err-tokens.ensures.refused))

pub returns-in_err-program-clause-refused : goal.returns-in_err-program-clause-refused
returns-in_err-program-clause-refused c =
    let p = err_from_is_err_and c.from_residual-in_err-program.result c.from_residual-in_err-program.ensures.1 in
    rw (p.1, p.2) (refused_leaves _ _ c.in_err-program.ensures.refused)

pub returns-in_err-program-clause-only_typed : goal.returns-in_err-program-clause-only_typed
returns-in_err-program-clause-only_typed c =
    let p = err_from_is_err_and c.from_residual-in_err-program.result c.from_residual-in_err-program.ensures.1 in
    rw (p.1, p.2) (typed_stop _ _ (refused_leaves _ _ c.in_err-program.ensures.refused))

pub returns-in_err-program-clause-only_line : goal.returns-in_err-program-clause-only_line
returns-in_err-program-clause-only_line c =
    let p = err_from_is_err_and c.from_residual-in_err-program.result c.from_residual-in_err-program.ensures.1 in
    rw (p.1, p.2) (leaving_line _ _ (refused_leaves _ _ c.in_err-program.ensures.refused))

pub returns-clause-so : goal.returns-clause-so
returns-clause-so c = is_typed _ _ _ _ (rw c.as_slice.ensures at c.in_ok-program.ensures.program) c.typed_of.ensures.typed

pub returns-clause-refused : goal.returns-clause-refused
returns-clause-refused c = leaves _ _ _ _ (rw c.as_slice.ensures at c.in_ok-program.ensures.program) c.typed_of.ensures.refused

pub returns-clause-only_typed : goal.returns-clause-only_typed
returns-clause-only_typed c =
    only_typed _ _ _ _ (rw c.as_slice.ensures at c.in_ok-program.ensures.program) c.typed_of.ensures.typed c.typed_of.ensures.refused

pub returns-clause-only_line : goal.returns-clause-only_line
returns-clause-only_line c =
    only_leaving _ _ _ _ (rw c.as_slice.ensures at c.in_ok-program.ensures.program) c.typed_of.ensures.typed c.typed_of.ensures.refused
