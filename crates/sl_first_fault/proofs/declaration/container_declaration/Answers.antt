use Rattle.sl_syntax.specs.TreeView.{initializer_of}
use Rattle.sl_first_fault.proofs.DeclarationLaws.{container}
use Rattle.sl_first_fault.proofs.declaration.container_declaration.Goals as goal

pub returns : goal.returns
returns c =
    container c.declare_variable.result c.own_container_fault-own.result c.args.known.now _ c.declare_variable.new.known c.args.container c.args.name.now
    (initializer_of c.args.from.now) c.in_ok-initializer.ensures c.own_container_fault-own.ensures c.declare_variable.ensures
