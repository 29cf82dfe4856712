use Rattle.std.proofs.Common.{ap, sym}
use Rattle.sl_syntax.specs.Typed as t
use Rattle.sl_syntax.proofs.TypedViews.{left_of-Element}
use Rattle.sl_typing.specs.StatementNumbering.{bound}
use Rattle.sl_statement_numbering.proofs.declarations.bound_left.Goals as goal

pub returns-in-Element : goal.returns-in-Element
returns-in-Element c =
    rw c.in-Element.is (sym (ap (λ (l : t.Left). bound (t.held l)) (left_of-Element c.in-Element.head c.in-Element.operands)))
