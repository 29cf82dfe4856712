use Rattle.std.proofs.Common.{refl}
use Rattle.sl_intervals.proofs.Multiplied.{wrapped_sizes}
use Rattle.sl_intervals.proofs.products.wrapped_products.Goals as goal

pub returns : goal.returns
returns c = wrapped_sizes c.args.a c.args.b _ c.requires.first_filled c.requires.second_filled refl c.wrapped_range.ensures.first_wide
    c.wrapped_range.ensures.second_wide c.wrapped_range.ensures.single
