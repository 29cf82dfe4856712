use Rattle.sl_syntax.specs.TreeView.{expr_of}
use Rattle.sl_first_fault.proofs.DeclarationLaws.{auto}
use Rattle.sl_first_fault.proofs.declaration.auto_declaration.Goals as goal

pub returns : goal.returns
returns c =
    auto c.declare_variable.result c.auto_fault-own.result c.args.known.now _ c.declare_variable.new.known c.args.place c.args.name.now
    (expr_of c.args.from.now) c.auto_type-declared.result c.auto_type-declared.ensures c.in_ok-expression.ensures c.auto_fault-own.ensures
    c.declare_variable.ensures
