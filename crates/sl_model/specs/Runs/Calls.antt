-- Calls of the text's own functions, told from the bound state to the end of the body.
--
-- Restates ISO/IEC 14882:2017, [expr.call], [stmt.return] (a body that ends without a value is a fault where one is due) and
-- [basic.start.main] (`main` then gives 0).
-- Chosen here: one call too many in progress ends the run.
use Rattle.std.specs.Prelude.{ℕ, zero, suc, ◌==◌, Bool, true, false, List, [], pos, Option, Some, None, slice_get}
use Rattle.sl_syntax.specs.declared.typed.parameter.ParameterKind.{ParameterKind}
use Rattle.sl_syntax.specs.Typed.{Function, Typed}
use Rattle.sl_model.specs.LibraryCalls.Values.{Lib, nothing, number}
use Rattle.sl_model.specs.Runs.Ends.{Language}
use Rattle.sl_model.specs.Runs.State.{State}
use Rattle.sl_model.specs.Runs.Eval.{Out, Gives, Stops, World, Oracle}
use Rattle.sl_model.specs.Runs.Exec.{Flow, Next, Broke, Continued, Returned, Over, exec}

-- a body that reached its closing brace: `main` gives 0, a function without a result nothing, another one faults
abbrev pub fell : Bool → Function → State → Out
fell true f s = Gives (number (pos 0)) s
fell false f s = elim f.result as (λ _. Out) [ None ↦ Gives nothing s | Some k ↦ Stops (Language f.close 4) s ]

-- what a body gives, by the way on which it was left
abbrev pub body_gives : Bool → Function → Flow → Out
body_gives m f (Returned v s) = Gives v s
body_gives m f (Next s) = fell m f s
body_gives m f (Broke s) = fell m f s
body_gives m f (Continued s) = fell m f s
body_gives m f (Over e s) = Stops e s

-- a function that is there runs its body from the bound state
abbrev pub of_function : Bool → Option Function → World → State → Out
of_function m None w s = Gives nothing s
of_function m (Some f) w s = body_gives m f (exec w f.body s)

-- the parameters of a function, if it is there
abbrev pub parameters_in : Option Function → List ParameterKind
parameters_in None = []
parameters_in (Some f) = f.parameters

-- a text over a library, where the bodies of its functions do this
abbrev pub world_of : Lib → Typed → Oracle → World
world_of lib p own = record { lib = lib; takes = λ f. parameters_in (slice_get p.functions f); own = own }

-- at most n calls in progress
abbrev pub call_of : Lib → ℕ → Typed → Oracle
call_of lib zero p f at s = Stops (Language at 5) s
call_of lib (suc n) p f at s = of_function (f == p.main) (slice_get p.functions f) (world_of lib p (call_of lib n p)) s
