use Rattle.std.proofs.Common.{arith, subst, sym}
use Rattle.sl_syntax.specs.Begins.{Stops}
use Rattle.sl_syntax.specs.Begins.{words_in}
use Rattle.sl_tool.specs.Means.Reading.{IsBody, StopsIn, scope_of}
use Rattle.sl_tool.proofs.BodyLaws.{read_at_end, takes_on}
use Rattle.sl_tool.proofs.reading.body.read_body.Goals as goal

pub returns-then-room-eq0 : goal.returns-then-room-eq0
returns-then-room-eq0 c =
    let stops = c.stop_without_room.ensures (scope_of c.loop-rest.reader) (λ e. let end = c.is_end.ensures.1 e in absurd cc) in
    c.loop-rest.invariant.stops _
    (subst (λ n. Stops (IsBody (scope_of c.loop-rest.reader) n) (words_in c.loop-rest.rest.now) c.stop_without_room.result)
    (sym c.if-room-eq0.true) stops)

pub returns-in_default : goal.returns-in_default
returns-in_default c =
    let missed = rw c.in_default.is at c.in_ok-taken.ensures in
    let stops = subst (λ r. StopsIn (scope_of r) (words_in c.loop-rest.rest.now) c.stop_in_body.result) missed.1 c.stop_in_body.ensures in
    c.loop-rest.invariant.stops _ (stops c.loop-rest.room (omega arith) (λ e. let end = c.is_end.ensures.1 e in absurd cc) missed.0)

pub loop-rest-preserved : goal.loop-rest-preserved
loop-rest-preserved c = takes_on _ _ _ c.in-Some.taken _ _ c.loop-rest.invariant (rw c.in-Some.is at c.in_ok-taken.ensures) (omega arith)

pub returns : goal.returns
returns c = read_at_end _ _ _ _ c.loop-rest.invariant (c.is_end.ensures.0 c.loop-rest-test.false)
