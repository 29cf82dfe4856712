-- A function: what is read as one is its words, and where a reader stops, the words before begin one that may stand in a program.
use Rattle.std.proofs.Common.{List, [], ◌+◌, ◌-◌, max, arith}
use Rattle.sl_base.specs.declared.limits.TheConstants.{TREE_DEPTH}
use Rattle.sl_base.specs.declared.mark.Mark.TheVariants as m
use Rattle.sl_base.specs.declared.place.Place.{Place}
use Rattle.sl_base.specs.declared.token.Token.{Token}
use Rattle.sl_syntax.specs.declared.tree.function.Param.{Param}
use Rattle.sl_syntax.specs.declared.tree.function.ResultType.{ResultType}
use Rattle.sl_syntax.specs.declared.tree.identifier.Identifier.{Identifier}
use Rattle.sl_syntax.specs.Blank.{nowhere}
use Rattle.sl_syntax.specs.Depth.{highest, param_height, function_height}
use Rattle.sl_syntax.specs.Shaped.{IsFunction}
use Rattle.sl_syntax.specs.Tree as t
use Rattle.sl_syntax.specs.Tree.{Function, Items}
use Rattle.sl_syntax.specs.Written.{params_written, function_written}
use Rattle.sl_grammar.specs.Means.Declarations.{params, result}
use Rattle.sl_grammar.specs.Means.Statements.{braced, stmt, function}
use Rattle.sl_grammar.specs.Means.Steps.{here}
use Rattle.sl_grammar.proofs.MeetHeads.{result-met}
use Rattle.sl_grammar.proofs.MeetParams.{params-part, params-begun}
use Rattle.sl_grammar.proofs.MeetSteps.{MetTall, met, missing, parts_of, past_mark, past_name, reads, step, stops_in, stops_of}
use Rattle.sl_grammar.proofs.Rows.{Anything}
use Rattle.sl_grammar.proofs.SoundBlocks.{IsBlock, block_height, block_written, braced-part}
use Rattle.sl_grammar.proofs.SoundSteps.{Parts}
use Rattle.sl_grammar.proofs.SoundStatements.{stmt-sound}
use Rattle.sl_grammar.proofs.Spelling as spelling
use Rattle.sl_grammar.proofs.Spelling.{◌⨾◌}
use Rattle.sl_grammar.proofs.ViableBlocks.{braced-begun}
use Rattle.sl_grammar.proofs.ViableStatements.{stmt-faults}
use Rattle.sl_grammar.proofs.ViableSteps.{Stops, begun, placed-begun, some_name, unfinished, ◌⨠◌}

params-met : (ts : List Token) → MetTall params_written Anything (highest param_height) 2 ts (params ts)
params-met ts = met params_written Anything (highest param_height) 2 params params-part params-begun ts

-- a body, and what stands in it
body-met : (ts : List Token)
    → MetTall block_written IsBlock block_height (TREE_DEPTH - 2 + 1) ts (braced (stmt (TREE_DEPTH - 2)) (TREE_DEPTH - 2) ts)
body-met ts =
    let inner = stmt (TREE_DEPTH - 2) in
    met block_written IsBlock block_height (TREE_DEPTH - 2 + 1) (braced inner (TREE_DEPTH - 2))
    (braced-part inner (TREE_DEPTH - 2) (stmt-sound (TREE_DEPTH - 2)))
    (braced-begun inner (TREE_DEPTH - 2) (stmt-sound (TREE_DEPTH - 2)) (stmt-faults (TREE_DEPTH - 2))) ts

-- a block, for one that is missing
abbrev some_block : Place × Items × Place
some_block = (nowhere, t.no_more, nowhere)

-- a function by its parts
abbrev made : Place → ResultType → Identifier → List Param → Place × Items × Place → Function
made place result name params b =
    record { place = place; result = result; name = name; params = params; opens = b.0; items = b.1; closes = b.2 }

function-met : (ts : List Token) → MetTall function_written IsFunction function_height TREE_DEPTH ts (function ts)
unfolding function
function-met ts =
    step (result ts) _ (result-met ts)
    (λ n v. stops_in _ _ _ _ (made (here ts) v.tree.0 some_name [] some_block) tt (omega (arith, v.fits.1, v.fits.2))
    (unfinished (placed-begun (here ts) (begun v)) _))
    (λ given us typed low.
    let front = spelling.begun typed in
    past_name us _ (stops_in _ _ _ _ (made (here ts) given.0 some_name [] some_block) tt (omega (arith, low.1, low.2)) (missing front _))
    (λ f vs name.
    past_mark m.LeftParenthesis vs _
    (stops_in _ _ _ _ (made (here ts) given.0 f [] some_block) tt (omega (arith, low.1, low.2)) (front ⨠ missing name _))
    (λ p ws opened.
    step (params ws) _ (params-met ws)
    (λ n v. stops_in _ _ _ _ (made (here ts) given.0 f v.tree.0 some_block) tt (omega (arith, low.1, low.2, v.fits.1, v.fits.2))
    (front ⨠ (name ⨠ (opened ⨠ unfinished (begun v) _))))
    (λ ps xs listed few.
    past_mark m.RightParenthesis xs _
    (stops_in _ _ _ _ (made (here ts) given.0 f ps.0 some_block) tt (omega (arith, low.1, low.2, few.1, few.2))
    (front ⨠ (name ⨠ (opened ⨠ missing listed _))))
    (λ q zs closed.
    step (braced (stmt (TREE_DEPTH - 2)) (TREE_DEPTH - 2) zs) _ (body-met zs)
    (λ n v. stops_in _ _ _ _ (made (here ts) given.0 f ps.0 v.tree.0) v.fits.0 (omega (arith, low.1, low.2, few.1, few.2, v.fits.1, v.fits.2))
    (front ⨠ (name ⨠ (opened ⨠ (listed ⨠ (closed ⨠ begun v))))))
    (λ b rest body fits. reads (made (here ts) given.0 f ps.0 b.0, max given.1 (max ps.1 b.1) + 1)
    (front ⨾ (name ⨾ (opened ⨾ (listed ⨾ (closed ⨾ body)))))
    (fits.0, omega (arith, low.1, few.1, fits.1), omega (arith, low.2, few.2, fits.2))))))))

pub function-part : Parts function_written IsFunction function_height TREE_DEPTH function
function-part = parts_of function_written IsFunction function_height TREE_DEPTH function function-met

pub function-viable : Stops function_written IsFunction function_height TREE_DEPTH function
function-viable = stops_of function_written IsFunction function_height TREE_DEPTH function function-met
