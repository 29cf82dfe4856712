use Rattle.std.proofs.Common.{◌∙◌, ap, sym, not, length}
use Rattle.sl_typing.specs.Candidates.{has_row, is_constructor_of}
use Rattle.sl_statement_types.proofs.InitializerLaws.{counted}
use Rattle.sl_statement_types.proofs.initializers.has_no_constructor.Goals as goal

pub returns-in-Arguments : goal.returns-in-Arguments
returns-in-Arguments c = rw c.in-Arguments.is
    (ap not (c.has_constructor.ensures
    ∙ ap (λ xs. has_row (is_constructor_of c.args.form (length xs))) c.as_slice-in-Arguments.ensures.value)
    ∙ sym (counted c.args.form c.in-Arguments.xs.items))
