use Rattle.std.proofs.Common.{◌≡◌, [], ◌∷◌, ◌++◌, ◌∙◌}
use Rattle.sl_statement_numbering.proofs.WalkLaws.{Left-init, Left-kept, Left-turn, Left-known, Left-typed}
use Rattle.sl_types.proofs.FunctionWalks.{function_walk, functions_seen}
use Rattle.sl_types.proofs.functions.typed_functions.Goals as goal

pub loop-f-init : goal.loop-f-init
loop-f-init c = Left-init function_walk _ _ _ c.new-done.ensures.items c.requires.fits c.requires.kept

pub typed_function-requires-clause-fits : goal.typed_function-requires-clause-fits
typed_function-requires-clause-fits c = c.loop-f.invariant.fits

pub typed_function-requires-clause-kept : goal.typed_function-requires-clause-kept
typed_function-requires-clause-kept c = Left-kept function_walk _ _ _ _ _ c.f-item.result c.loop-f-test.true c.f-item.is c.loop-f.invariant

pub loop-f-preserved : goal.loop-f-preserved
loop-f-preserved c =
    let pushed : c.push.new.self.items ≡ c.loop-f.done.items ++ c.in_ok-function.function ∷ [] = c.in_ok-push.ensures.items in
    rw pushed
    (Left-turn function_walk _ _ _ _ _ _ c.f-item.result c.in_ok-function.function c.loop-f-test.true c.f-item.is c.loop-f.invariant
    c.in_ok-function.ensures.typed c.in_ok-function.ensures.behind)

pub returns-clause-typed : goal.returns-clause-typed
returns-clause-typed c = functions_seen c.loop-f.done.items ∙ Left-typed function_walk _ _ _ _ _ c.loop-f-test.false c.loop-f.invariant

pub returns-clause-behind : goal.returns-clause-behind
returns-clause-behind c = Left-known function_walk _ _ _ _ _ c.loop-f-test.false c.loop-f.invariant
