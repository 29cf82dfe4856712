use Rattle.std.proofs.Common.{◌∙◌, sym}
use Rattle.sl_statement_numbering.proofs.ContainerLaws.{braces_more}
use Rattle.sl_statement_numbering.proofs.containers.braces_row.Goals as goal

pub returns-else-is_empty : goal.returns-else-is_empty
returns-else-is_empty c g equal =
    c.list_constructor.ensures ∙ braces_more g c.args.form equal c.args.elements.now (sym c.is_empty.ensures ∙ c.if-is_empty.false)
