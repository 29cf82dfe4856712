use Rattle.std.proofs.Common.{◌∙◌, ap}
use Rattle.sl_typing.specs.declared.rules.TheConstants as rule
use Rattle.sl_typing.specs.Faults as faults
use Rattle.sl_typing.specs.Typing.{first_of}
use Rattle.sl_statement_types.proofs.names.limit_fault.Goals as goal

pub returns : goal.returns
returns c name label =
    c.broken.ensures ∙ ap (λ b. first_of (faults.broken b c.args.place rule.TOO_MANY_VARIABLES)) (c.one_passes_limit.ensures name label)
