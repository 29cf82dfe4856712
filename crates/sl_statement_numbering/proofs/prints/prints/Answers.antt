use Rattle.std.proofs.Common.{◌≡◌, [], ◌∷◌, ◌++◌, ◌∙◌}
use Rattle.sl_statement_numbering.proofs.ListWalks.{out_walk, outs_seen}
use Rattle.sl_statement_numbering.proofs.WalkLaws.{Left-init, Left-kept, Left-turn, Left-known, Left-typed}
use Rattle.sl_statement_numbering.proofs.prints.prints.Goals as goal

pub loop-out-init : goal.loop-out-init
loop-out-init c = Left-init out_walk _ _ _ c.new-done.ensures.items c.requires.fits c.requires.kept

pub printed-requires-clause-fits : goal.printed-requires-clause-fits
printed-requires-clause-fits c = c.loop-out.invariant.fits

pub printed-requires-clause-kept : goal.printed-requires-clause-kept
printed-requires-clause-kept c = Left-kept out_walk _ _ _ _ _ c.out-item.result c.loop-out-test.true c.out-item.is c.loop-out.invariant

pub loop-out-preserved : goal.loop-out-preserved
loop-out-preserved c =
    let pushed : c.push.new.self.items ≡ c.loop-out.done.items ++ c.in_ok-item.item ∷ [] = c.in_ok-push.ensures.items in
    rw pushed
    (Left-turn out_walk _ _ _ _ _ _ c.out-item.result c.in_ok-item.item c.loop-out-test.true c.out-item.is c.loop-out.invariant
    c.in_ok-item.ensures.typed c.in_ok-item.ensures.behind)

pub returns-clause-typed : goal.returns-clause-typed
returns-clause-typed c = outs_seen c.loop-out.done.items ∙ Left-typed out_walk _ _ _ _ _ c.loop-out-test.false c.loop-out.invariant

pub returns-clause-behind : goal.returns-clause-behind
returns-clause-behind c = Left-known out_walk _ _ _ _ _ c.loop-out-test.false c.loop-out.invariant
