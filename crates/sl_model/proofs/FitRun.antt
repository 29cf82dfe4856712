-- A well typed text never ends for want of a meaning, over any library that fits types.
use Rattle.std.proofs.Common.{◌≡◌, ◌≢◌, ℕ, true, List, [], refl, sym, subst}
use Rattle.std.specs.Prelude.{ℤ}
use Rattle.sl_base.specs.declared.limits.TheConstants.{CALLS}
use Rattle.sl_base.specs.declared.place.Place.{Place}
use Rattle.sl_base.specs.declared.scalar.Scalar.TheVariants as t
use Rattle.sl_syntax.specs.declared.typed.parameter.ParameterKind.{ParameterKind}
use Rattle.sl_syntax.specs.Typed.{Typed}
use Rattle.sl_typing.specs.declared.expr_type.ExprType.{ExprType}
use Rattle.sl_typing.specs.Types.{is_scalar}
use Rattle.sl_model.specs.Memory.Containers.{empty_memory}
use Rattle.sl_model.specs.LibraryCalls.Values.{Value, number, Lib}
use Rattle.sl_model.specs.Runs.Ends.{End, NoMeaning}
use Rattle.sl_model.specs.Runs.Eval.{Out, Gives, Stops}
use Rattle.sl_model.specs.LibraryCalls.Library.{lib}
use Rattle.sl_model.specs.Runs.Run.{run, empty_state, first_place, done_with, finished, out_of, run_over}
use Rattle.sl_model.specs.Typing.Shapes.{AllSuit, lib_shape, lib_makes}
use Rattle.sl_model.specs.Typing.Scoped.{IsScoped}
use Rattle.sl_model.specs.Typing.WellTypedExpressions.{go_to, type_given}
use Rattle.sl_model.specs.Typing.WellTyped.{WellTyped}
use Rattle.sl_model.proofs.TypedOperands.{typed_by}
use Rattle.sl_model.proofs.TypedStatements.{main_is_there}
use Rattle.sl_model.proofs.Fitting.{FitsTypes}
use Rattle.sl_model.proofs.Locations.{apart_none}
use Rattle.sl_model.proofs.LibraryFits.{lib-fits}
use Rattle.sl_model.proofs.LibraryGood.{lib-good}
use Rattle.sl_model.proofs.ScopedTexts.{well-typed-scoped}
use Rattle.sl_model.proofs.Levels.{level_of}
use Rattle.sl_model.proofs.Gifts.{KeepsGood}
use Rattle.sl_model.proofs.RunGood.{empty-good, good_now}
use Rattle.sl_model.proofs.StackTypes.{Stack, StacksFit, HasMeaning}
use Rattle.sl_model.proofs.FitOuts.{OutFits}
use Rattle.sl_model.proofs.FitCalls.{fit_call_of}

-- nothing is known of the stacks
abbrev nothing_known : Stack
nothing_known = record { conts = []; iters = []; before = empty_memory; used = 0 }

-- nothing lies on the stacks where a run begins
nothing_lies : (input : List ℤ) (picks : List ℕ) (steps : ℕ) → StacksFit nothing_known (empty_state input picks steps)
nothing_lies input picks steps = record {
  conts = λ l form e. absurd (cc);
  iters = λ l k e. absurd (cc);
  fit = λ form stamp low fits. fits;
}

-- an end by the end of `main` isn't for want of a meaning
done_meant : (v : Value) → HasMeaning (done_with v)
done_meant (number z) = tt
done_meant v = tt

-- what an expression with a type leaves ends no run for want of a meaning
finish_meant : (d : Stack) (u : ExprType) (o : Out) → OutFits d u o → HasMeaning (finished o).end
finish_meant d u (Gives v s) h = done_meant v
finish_meant d u (Stops e s) h = h

-- an end that has a meaning isn't one for want of it
meant_differs : (e : End) (at : Place) → HasMeaning e → e ≢ NoMeaning at
meant_differs e at h same = subst (λ (x : End). HasMeaning x) same h

-- what `main` leaves in a run of a well typed text
main_fits : (l : Lib) → FitsTypes l → KeepsGood lib_shape lib_makes l → (p : Typed) (typed : WellTyped p)
    → IsScoped lib_shape lib_makes p → (input : List ℤ) (picks : List ℕ) (steps : ℕ)
    → OutFits nothing_known (type_given (main_is_there p typed).function.result) (out_of l p input picks steps)
main_fits l lib_fits keeps p typed scoped input picks steps = let main = main_is_there p typed in
    fit_call_of l lib_fits lib_shape lib_makes keeps p typed scoped CALLS p.main main.function first_place
    (level_of (empty_state input picks steps)) nothing_known [] [] [] (empty_state input picks steps) main.there
    (subst (λ (ks : List ParameterKind). AllSuit ks []) (sym main.parameters) tt) apart_none
    (record { now = good_now (empty_state input picks steps) (empty-good input picks steps); given = tt; used = tt })
    (subst (λ (ks : List ParameterKind). go_to ks [] ≡ true) (sym main.parameters) refl)
    (typed_by (is_scalar t.Int) refl (type_given main.function.result) main.result) tt refl refl (nothing_lies input picks steps)

-- over a library that fits types and keeps states good, a well typed text never ends for want of a meaning
pub fits-run : (l : Lib) → FitsTypes l → KeepsGood lib_shape lib_makes l → (p : Typed) → WellTyped p → IsScoped lib_shape lib_makes p
    → (input : List ℤ) (picks : List ℕ) (steps : ℕ) (at : Place) → (run_over l p input picks steps).end ≢ NoMeaning at
fits-run l lib_fits keeps p typed scoped input picks steps at = meant_differs (run_over l p input picks steps).end at
    (finish_meant nothing_known (type_given (main_is_there p typed).function.result) (out_of l p input picks steps)
    (main_fits l lib_fits keeps p typed scoped input picks steps))

-- a well typed text never ends for want of a meaning
pub run-meant : (p : Typed) → WellTyped p → (input : List ℤ) (picks : List ℕ) (steps : ℕ) (at : Place) → (run p input picks steps).end ≢ NoMeaning at
run-meant p typed input picks steps at = fits-run lib lib-fits lib-good p typed (well-typed-scoped p typed) input picks steps at
