use Rattle.sl_intervals.proofs.Inner.{met_holds, met_least, met_most, met_within}
use Rattle.sl_intervals.proofs.lattice.meet.Goals as goal

pub returns-clause-holds : goal.returns-clause-holds
returns-clause-holds c = λ z. met_holds c.args.a c.args.b c.inner.result z c.inner.ensures.inner

pub returns-clause-at_least : goal.returns-clause-at_least
returns-clause-at_least c = λ z p. met_least c.args.a c.args.b c.inner.result z c.inner.ensures.inner p

pub returns-clause-at_most : goal.returns-clause-at_most
returns-clause-at_most c = λ z p. met_most c.args.a c.args.b c.inner.result z c.inner.ensures.inner p

pub returns-clause-within : goal.returns-clause-within
returns-clause-within c = λ ty p. met_within ty c.args.a c.args.b c.inner.result c.inner.ensures.inner p
