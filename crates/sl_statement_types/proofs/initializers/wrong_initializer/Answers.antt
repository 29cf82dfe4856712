use Rattle.std.proofs.Common.{sym}
use Rattle.sl_statement_types.proofs.InitializerLaws.{wrong_list}
use Rattle.sl_statement_types.proofs.initializers.wrong_initializer.Goals as goal

pub returns-in-Braces : goal.returns-in-Braces
returns-in-Braces c = rw c.in-Braces.is
    (rw (c.all_listed.ensures, c.scope-in-Braces.ensures, c.as_slice-in-Braces.ensures.value)
    (sym (wrong_list c.args.known.now c.args.form c.in-Braces.equal c.in-Braces.elements.items)))
