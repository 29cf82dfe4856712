use Rattle.sl_intervals.proofs.products.exact_products.Goals as goal

pub returns-clause-low : goal.returns-clause-low
returns-clause-low c = cc

pub returns-clause-high : goal.returns-clause-high
returns-clause-high c = cc
