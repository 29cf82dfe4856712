use Rattle.std.proofs.Common.{map}
use Rattle.sl_syntax.specs.TreeView.{out_of}
use Rattle.sl_number_limits.proofs.ValueFaults.{printed}
use Rattle.sl_statement_numbering.proofs.effects.effect.Goals as goal

pub read_numbers-requires : goal.read_numbers-requires
read_numbers-requires c = c.requires.fits

pub prints-requires-clause-fits : goal.prints-requires-clause-fits
prints-requires-clause-fits c = c.requires.fits

pub prints-requires-clause-kept : goal.prints-requires-clause-kept
prints-requires-clause-kept c =
    rw c.as_slice.ensures.value
    (printed c.args.known.now c.in-Print.print.place (map out_of c.in-Print.print.items.items) (rw c.in-Print.is at c.requires.kept))

pub expression-requires-clause-fits : goal.expression-requires-clause-fits
expression-requires-clause-fits c = c.requires.fits

pub expression-requires-clause-kept : goal.expression-requires-clause-kept
expression-requires-clause-kept c = rw c.in-Value.is at c.requires.kept

pub assignment-requires-clause-fits : goal.assignment-requires-clause-fits
assignment-requires-clause-fits c = c.requires.fits

pub assignment-requires-clause-kept : goal.assignment-requires-clause-kept
assignment-requires-clause-kept c = rw c.in-Assign.is at c.requires.kept
