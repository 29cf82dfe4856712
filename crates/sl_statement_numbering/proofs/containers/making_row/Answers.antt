use Rattle.sl_statement_numbering.proofs.containers.making_row.Goals as goal

pub returns-in-Braces : goal.returns-in-Braces
returns-in-Braces c = rw c.in-Braces.is (rw c.as_slice-in-Braces.ensures.value at (c.braces_row.ensures c.args.known.now c.in-Braces.equal))
