use Rattle.sl_intervals.proofs.Corners.{hull}
use Rattle.sl_intervals.proofs.Plain.{have_products, hull_filled, plain_outcome}
use Rattle.sl_intervals.proofs.products.plain_products.Goals as goal

pub exact_products-requires : goal.exact_products-requires
exact_products-requires c = have_products c.args.ty c.args.a c.args.b c.requires.number c.requires.plain c.requires.first c.requires.second
    c.requires.first_filled c.requires.second_filled

pub clamped-requires : goal.clamped-requires
clamped-requires c = hull_filled c.args.a c.args.b c.exact_products.result
    (hull c.args.a c.args.b c.requires.first_filled c.requires.second_filled c.exact_products.result c.exact_products.ensures.low
    c.exact_products.ensures.high) c.requires.first_filled c.requires.second_filled

pub returns-clause-outcome : goal.returns-clause-outcome
returns-clause-outcome c = plain_outcome c.args.ty c.args.a c.args.b c.exact_products.result c.clamped.result c.requires.number c.requires.plain
    c.requires.first c.requires.second c.requires.first_filled c.requires.second_filled
    (hull c.args.a c.args.b c.requires.first_filled c.requires.second_filled c.exact_products.result c.exact_products.ensures.low
    c.exact_products.ensures.high) c.clamped.ensures.settled c.clamped.ensures.fine c.clamped.ensures.low c.clamped.ensures.high
