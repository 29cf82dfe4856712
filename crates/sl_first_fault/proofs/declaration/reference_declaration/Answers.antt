use Rattle.sl_syntax.specs.TreeView.{expr_of}
use Rattle.sl_first_fault.proofs.DeclarationLaws.{reference}
use Rattle.sl_first_fault.proofs.declaration.reference_declaration.Goals as goal

pub returns : goal.returns
returns c =
    reference c.declare_variable.result c.reference_fault-own.result c.args.known.now _ c.declare_variable.new.known c.args.head c.args.name.now
    (expr_of c.args.from.now) c.bound_type-declared.result c.bound_type-declared.ensures c.in_ok-expression.ensures c.reference_fault-own.ensures
    c.declare_variable.ensures
