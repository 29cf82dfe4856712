use Rattle.sl_typing.specs.Numbering.{nowhere}
use Rattle.sl_statement_numbering.proofs.DeclarationLaws.{scalar_kept, auto_kept, reference_kept, container_kept}
use Rattle.sl_statement_numbering.proofs.declarations.declaration.Goals as goal

pub scalar_declaration-requires-clause-fits : goal.scalar_declaration-requires-clause-fits
scalar_declaration-requires-clause-fits c = c.requires.fits

pub scalar_declaration-requires-clause-kept : goal.scalar_declaration-requires-clause-kept
scalar_declaration-requires-clause-kept c = scalar_kept c.args.known.now c.args.d.now _ _ _ _ c.in-Scalar.is c.requires.kept

pub returns-in-Scalar-clause-typed : goal.returns-in-Scalar-clause-typed
returns-in-Scalar-clause-typed c = rw c.in-Scalar.is (c.scalar_declaration.ensures.typed nowhere)

pub returns-in-Scalar-clause-behind : goal.returns-in-Scalar-clause-behind
returns-in-Scalar-clause-behind c = rw c.in-Scalar.is c.scalar_declaration.ensures.behind

pub auto_declaration-requires-clause-fits : goal.auto_declaration-requires-clause-fits
auto_declaration-requires-clause-fits c = c.requires.fits

pub auto_declaration-requires-clause-kept : goal.auto_declaration-requires-clause-kept
auto_declaration-requires-clause-kept c = auto_kept c.args.known.now c.args.d.now _ _ _ c.in-Auto.is c.requires.kept

pub returns-in-Auto-clause-typed : goal.returns-in-Auto-clause-typed
returns-in-Auto-clause-typed c = rw c.in-Auto.is c.auto_declaration.ensures.typed

pub returns-in-Auto-clause-behind : goal.returns-in-Auto-clause-behind
returns-in-Auto-clause-behind c = rw c.in-Auto.is c.auto_declaration.ensures.behind

pub reference_declaration-requires-clause-fits : goal.reference_declaration-requires-clause-fits
reference_declaration-requires-clause-fits c = c.requires.fits

pub reference_declaration-requires-clause-kept : goal.reference_declaration-requires-clause-kept
reference_declaration-requires-clause-kept c = reference_kept c.args.known.now c.args.d.now _ _ _ c.in-Reference.is c.requires.kept

pub returns-in-Reference-clause-typed : goal.returns-in-Reference-clause-typed
returns-in-Reference-clause-typed c = rw c.in-Reference.is c.reference_declaration.ensures.typed

pub returns-in-Reference-clause-behind : goal.returns-in-Reference-clause-behind
returns-in-Reference-clause-behind c = rw c.in-Reference.is c.reference_declaration.ensures.behind

pub container_declaration-requires-clause-fits : goal.container_declaration-requires-clause-fits
container_declaration-requires-clause-fits c = c.requires.fits

pub container_declaration-requires-clause-kept : goal.container_declaration-requires-clause-kept
container_declaration-requires-clause-kept c = container_kept c.args.known.now c.args.d.now _ _ _ c.in-Container.is c.requires.kept

pub returns-in-Container-clause-typed : goal.returns-in-Container-clause-typed
returns-in-Container-clause-typed c = rw c.in-Container.is c.container_declaration.ensures.typed

pub returns-in-Container-clause-behind : goal.returns-in-Container-clause-behind
returns-in-Container-clause-behind c = rw c.in-Container.is c.container_declaration.ensures.behind
