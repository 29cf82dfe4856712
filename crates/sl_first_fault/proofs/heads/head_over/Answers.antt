use Rattle.std.proofs.Common.{Option, not, ◌++◌, ap, ◌∙◌}
use Rattle.std.specs.Option.{option_or}
use Rattle.sl_typing.specs.declared.fault.Fault.{Fault}
use Rattle.sl_typing.specs.declared.rules.TheConstants as rule
use Rattle.sl_typing.specs.Contexts.{Context, declare, enter, started_loop, with_hidden}
use Rattle.sl_typing.specs.Faults.{broken}
use Rattle.sl_typing.specs.Ranges.{may_go_over, frees_const, element_type}
use Rattle.sl_typing.specs.StatementFaults.{limit_faults, statement_faults}
use Rattle.sl_first_fault.proofs.LimitLaws.{range_own}
use Rattle.sl_first_fault.proofs.heads.head_over.Goals as goal

pub returns-clause-own : goal.returns-clause-own
returns-clause-own c =
    let a = c.args in
    let g = a.known.now in
    let h = enter (started_loop a.place g) in
    let e = c.in_ok-outside.ensures.entered in
    range_own c.over_fault.result c.hidden_limit_fault-hidden.result c.variable_past_limit-past.result c.statement_fault-late.result c.or-own.result
    (broken (not (may_go_over a.element a.over)) a.place rule.WRONG_TYPE ++ broken (frees_const a.element a.over) a.place rule.WRITE_TO_CONST)
    (statement_faults g a.place)
    (λ (m : Context). limit_faults m (with_hidden a.over m) a.place)
    (λ (m : Context). limit_faults m (declare a.name.now (element_type a.element a.over) m) a.name.now.place)
    c.enter_loop.new.known h c.with_hidden.new.self (with_hidden a.over h)
    e (c.in_ok-with_hidden.ensures ∙ ap (λ (m : Context). with_hidden a.over m) e)
    c.over_fault.ensures c.hidden_limit_fault-hidden.ensures c.variable_past_limit-past.ensures c.statement_fault-late.ensures
    (c.or-own.ensures
    ∙ ap (λ (o : Option Fault). option_or o c.statement_fault-late.result)
    (c.or-2.ensures ∙ ap (λ (o : Option Fault). option_or o c.variable_past_limit-past.result) c.or.ensures))
