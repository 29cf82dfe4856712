use Rattle.std.proofs.Common.{◌≡◌, arith}
use Rattle.sl_tool.specs.Means.Reading.{scope_of}
use Rattle.sl_tool.proofs.SlotLaws.{token_fits, token_differs, fits_end, which_ends}
use Rattle.sl_tool.proofs.reading.stopping.fitting.Goals as goal

pub returns-then-not-fits : goal.returns-then-not-fits
returns-then-not-fits c =
    token_differs (scope_of c.args.reader.now) _ _ _ _ _ (omega arith) (omega arith) c.index-tokens-k.is c.loop-k.invariant
    (λ here. let fits = c.fits.ensures.1 here in absurd cc)

pub loop-k-preserved : goal.loop-k-preserved
loop-k-preserved c = token_fits (scope_of c.args.reader.now) _ _ _ _ _ (omega arith) (omega arith) c.index-tokens-k.is c.loop-k.invariant
    (c.fits.ensures.0 c.if-not-fits.false)

pub returns : goal.returns
returns c = fits_end (scope_of c.args.reader.now) _ _ _ (which_ends _ _ _ c.min-count.ensures)
    (let far : c.loop-k.k ≡ c.min-count.result = omega arith in rw far at c.loop-k.invariant)
