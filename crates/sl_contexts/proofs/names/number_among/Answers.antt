use Rattle.std.proofs.Common.{◌∙◌}
use Rattle.sl_contexts.proofs.NameLaws.{there, absent}
use Rattle.sl_contexts.proofs.names.number_among.Goals as goal

pub returns-in-Some-clause-names : goal.returns-in-Some-clause-names
returns-in-Some-clause-names c =
    (there c.args.name.now _ c.args.names.now _ c.in-Some.number c.as_slice-2.ensures.value c.as_slice.ensures c.in-Some.ensures).0

pub returns-in-Some-clause-number : goal.returns-in-Some-clause-number
returns-in-Some-clause-number c =
    (there c.args.name.now _ c.args.names.now _ c.in-Some.number c.as_slice-2.ensures.value c.as_slice.ensures c.in-Some.ensures).1

pub returns-in_ok-push-in-None-clause-names : goal.returns-in_ok-push-in-None-clause-names
returns-in_ok-push-in-None-clause-names c = c.in_ok-push-in-None.ensures.pushed
    ∙ rw c.copy_of.ensures (absent c.args.name.now _ c.args.names.now _ c.as_slice-2.ensures.value c.as_slice.ensures c.in-None.ensures).0

pub returns-in_ok-push-in-None-clause-number : goal.returns-in_ok-push-in-None-clause-number
returns-in_ok-push-in-None-clause-number c = c.len-number.ensures
    ∙ (absent c.args.name.now _ c.args.names.now _ c.as_slice-2.ensures.value c.as_slice.ensures c.in-None.ensures).1
