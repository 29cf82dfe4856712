-- The words before a fault in a program begin one that follows the grammar: a reader stops at the first word that can't stand there.
use Rattle.std.proofs.Common.{Err, List, [], arith, ℕ, ◌∷◌, ◌≡◌}
use Rattle.sl_base.specs.declared.limits.TheConstants.{TREE_DEPTH}
use Rattle.sl_base.specs.declared.token.Token.{Token}
use Rattle.sl_syntax.specs.Depth.{function_height}
use Rattle.sl_syntax.specs.Shaped.{IsFunction, Shaped}
use Rattle.sl_syntax.specs.Tree.{Program}
use Rattle.sl_syntax.specs.Written.{function_written, program_written}
use Rattle.sl_grammar.specs.declared.fault.Fault.TheVariants.{Grammar}
use Rattle.sl_grammar.specs.Means.Statements.{function, is_more, program}
use Rattle.sl_grammar.proofs.MeetFunctions.{function-part, function-viable}
use Rattle.sl_grammar.proofs.ViableSteps.{Viable, begun, behind-viable, faulted, unfinished, viable, ◌⨠◌}

-- The words before a fault begin a program that follows the grammar.
pub viable_program : (ts : List Token) (n : ℕ) → program ts ≡ Err (Grammar n) → Viable (λ (p : Program). Shaped p) program_written ts n
unfolding program
viable_program ts n h =
    let P : Type 0 = Viable (λ (p : Program). Shaped p) program_written ts n in
    faulted (function ts) _ n P h
    (λ h1.
    let v = function-viable ts n h1 in
    viable (v.tree ∷ []) (record { some = omega arith; each = (v.fits.0, tt); depth = omega (arith, v.fits.1) }) (unfinished (begun v) []))
    (λ x one h1.
    let first = function-part ts x one in
    let v = behind-viable function_written IsFunction function_height TREE_DEPTH is_more function function-part function-viable
    (x.0.0 ∷ [], x.0.1) x.1 n h1 in
    viable (x.0.0 ∷ v.tree)
    (record { some = omega arith; each = (first.fits, v.fits.0); depth = omega (arith, first.size, first.low, v.fits.1) })
    (first.spelled ⨠ begun v))
