use Rattle.sl_first_fault.proofs.declaration.declaration.Goals as goal

pub returns-in-Auto : goal.returns-in-Auto
returns-in-Auto c = rw c.in-Auto.is c.auto_declaration.ensures
