use Rattle.std.proofs.Common.{option_map}
use Rattle.std.specs.Option.{option_copied}
use Rattle.sl_syntax.specs.TreeView.{expr_of}
use Rattle.sl_first_fault.proofs.DeclarationLaws.{scalar}
use Rattle.sl_first_fault.proofs.declaration.scalar_declaration.Goals as goal

pub returns : goal.returns
returns c =
    scalar c.declare_variable.result c.scalar_fault-own.result c.args.known.now _ c.declare_variable.new.known c.args.place c.args.scalar
    c.args.name.now (option_map expr_of (option_copied c.args.from)) c.in_ok-value.ensures c.scalar_fault-own.ensures c.declare_variable.ensures
