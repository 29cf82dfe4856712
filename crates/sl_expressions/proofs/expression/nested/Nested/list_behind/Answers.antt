use Rattle.std.proofs.Common.{sym, ◌∙◌, arith}
use Rattle.std.proofs.lemmas.Result.{err_from_is_err_and}
use Rattle.std.proofs.lemmas.Bool.{lt-ltb}
use Rattle.sl_expressions.proofs.ListLaws.{list_behind-ok, list_behind-err}
use Rattle.sl_expressions.proofs.expression.nested.Nested.list_behind.Goals as goal

pub returns-in_err-list-clause-reads : goal.returns-in_err-list-clause-reads
returns-in_err-list-clause-reads g c =
    let p = err_from_is_err_and c.from_residual-in_err-list.result c.from_residual-in_err-list.ensures.1 in
    rw (p.1, p.2) (λ some. list_behind-err _ _ _ _ _ _ (sym c.sees.ensures ∙ c.if-not-sees.false) (lt-ltb _ _ (omega arith))
    (rw (c.in_ok-push.ensures.items, c.new-list.ensures.items) at (c.in_err-list.ensures.reads some)))

pub returns-clause-reads : goal.returns-clause-reads
returns-clause-reads g c =
    rw c.max.ensures
    (list_behind-ok _ _ _ _ _ _ _ (sym c.sees.ensures ∙ c.if-not-sees.false) (lt-ltb _ _ (omega arith))
    (rw (c.in_ok-push.ensures.items, c.new-list.ensures.items) at c.in_ok-list.ensures.reads))
