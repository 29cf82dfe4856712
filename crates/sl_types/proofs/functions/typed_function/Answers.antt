use Rattle.sl_syntax.specs.TreeView.{function_of}
use Rattle.sl_number_limits.proofs.Functions.{in_function_fits, after_function_fits}
use Rattle.sl_number_limits.proofs.PartFaults.{function_items, function_brace}
use Rattle.sl_types.proofs.FunctionLaws.{labels_narrow}
use Rattle.sl_types.proofs.functions.typed_function.Goals as goal

pub block-requires-clause-fits : goal.block-requires-clause-fits
block-requires-clause-fits c =
    rw c.in_ok-begin_body.ensures (in_function_fits c.args.known.now (function_of c.args.f.now) c.requires.fits c.requires.kept)

pub block-requires-clause-kept : goal.block-requires-clause-kept
block-requires-clause-kept c =
    rw (c.in_ok-begin_body.ensures, c.as_slice-2.ensures.value)
    (function_items c.args.known.now (function_of c.args.f.now) c.requires.kept)

pub block-requires-clause-closes : goal.block-requires-clause-closes
block-requires-clause-closes c =
    rw (c.in_ok-begin_body.ensures, c.as_slice-2.ensures.value)
    (function_brace c.args.known.now (function_of c.args.f.now) c.requires.kept)

pub variables-requires : goal.variables-requires
variables-requires c =
    labels_narrow c.block.new.known
    (rw (c.in_ok-body.ensures.behind, c.in_ok-begin_body.ensures, c.as_slice-2.ensures.value)
    (after_function_fits c.args.known.now (function_of c.args.f.now) c.requires.fits c.requires.kept))
