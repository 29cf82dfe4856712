-- A run over a library that lacks calls which another one has is the same, but where it meets a call that is lacking. Here: calls and whole runs, and
-- so the run of a text that stays small.
use Rattle.std.proofs.Common.{◌≡◌, ◌≢◌, ◌==◌, refl, subst, ℕ, zero, suc, List, [], Bool, true, false, ℤ, Option, Some, None, slice_get}
use Rattle.std.proofs.lemmas.Bool.{not-true}
use Rattle.std.specs.Prelude.{if◌then◌else◌}
use Rattle.sl_base.specs.declared.place.Place.{Place}
use Rattle.sl_base.specs.declared.limits.TheConstants.{CALLS, WINDOW}
use Rattle.sl_syntax.specs.declared.typed.callee.Callee.{Callee}
use Rattle.sl_syntax.specs.Typed.{Function, Typed}
use Rattle.sl_model.specs.Memory.Containers.{Memory}
use Rattle.sl_model.specs.LibraryCalls.Values.{Lib, Value, Args, LibOut, trapped, thrown, faulted, gives, unbuilt}
use Rattle.sl_model.specs.LibraryCalls.Library.{lib}
use Rattle.sl_model.specs.Runs.Ends.{End, NoMeaning}
use Rattle.sl_model.specs.Runs.State.{State}
use Rattle.sl_model.specs.Runs.Eval.{Out, World, come_back, call_own}
use Rattle.sl_model.specs.Runs.Exec.{Flow}
use Rattle.sl_model.specs.Runs.Binding.{bound}
use Rattle.sl_model.specs.Runs.Calls.{body_gives, of_function, parameters_in, world_of, call_of}
use Rattle.sl_model.specs.Runs.Run.{empty_state, first_place, finished, run, run_over, out_of, main_out}
use Rattle.sl_model.specs.Reports.Decided.{decided_steps, holds_at_most, unless_above, lib_within, is_without_meaning, stays_small}
use Rattle.sl_model.proofs.Lacking.{LackingAnswer, same_answer, no_answer, LackingOut, same, lacks, Lacks}
use Rattle.sl_model.proofs.LackingExec.{LackingFlow, same_flow, flow_lacks, exec-lacking}

-- a library has the calls of another one, but for those that it lacks
abbrev pub LacksCalls : Lib → Lib → Type 0
LacksCalls few many = (callee : Callee) (a : Args) (m : Memory) (picks : List ℕ) → LackingAnswer (few callee a m picks) (many callee a m picks)

-- what a body gives
body_gives-lacking : (m : Bool) (f : Function) {a b : Flow} → LackingFlow a b → LackingOut (body_gives m f a) (body_gives m f b)
body_gives-lacking m f (same_flow x) = same _
body_gives-lacking m f (flow_lacks at s x) = lacks at s _

-- coming back from a body
come_back-lacking : (before : State) {a b : Out} → LackingOut a b → LackingOut (come_back before a) (come_back before b)
come_back-lacking before (same x) = same _
come_back-lacking before (lacks at s x) = lacks at s _

-- a function that is there or isn't
of_function-lacking : (m : Bool) (o : Option Function) (few many : World) → Lacks few many → (s : State)
    → LackingOut (of_function m o few s) (of_function m o many s)
of_function-lacking m None few many l s = same _
of_function-lacking m (Some f) few many l s = body_gives-lacking m f (exec-lacking few many l f.body s)

-- bodies, with so many calls in progress
call_of-lacking : (few many : Lib) → LacksCalls few many → (n : ℕ) (p : Typed) (f : ℕ) (at : Place) (s : State)
    → LackingOut (call_of few n p f at s) (call_of many n p f at s)
call_of-lacking few many l zero p f at s = same _
call_of-lacking few many l (suc n) p f at s = of_function-lacking (f == p.main) (slice_get p.functions f)
    (world_of few p (call_of few n p)) (world_of many p (call_of many n p)) (record {
      lib = l;
      own = λ g at vs s. come_back-lacking s (call_of-lacking few many l n p g at (bound (parameters_in (slice_get p.functions g)) vs s));
    }) s

-- calls
own-lacking : (few many : Lib) → LacksCalls few many → (n : ℕ) (p : Typed) (f : ℕ) (at : Place) (vs : List Value) (s : State)
    → LackingOut (call_own (world_of few p (call_of few n p)) f at vs s) (call_own (world_of many p (call_of many n p)) f at vs s)
own-lacking few many l n p f at vs s =
    come_back-lacking s (call_of-lacking few many l n p f at (bound (parameters_in (slice_get p.functions f)) vs s))

-- where the first doesn't end at what has no meaning, both are one
met_all : {a b : Out} → LackingOut a b → is_without_meaning (finished a).end ≡ false → a ≡ b
met_all (same x) h = refl
met_all (lacks at s x) h = absurd cc

-- what `main` leaves is the same over a library that lacks calls, where the run meets none of them
pub lacking_runs : (few many : Lib) → LacksCalls few many → (p : Typed) (input : List ℤ) (picks : List ℕ) (steps : ℕ)
    → is_without_meaning (run_over few p input picks steps).end ≡ false
    → out_of few p input picks steps ≡ out_of many p input picks steps
lacking_runs few many l p input picks steps h =
    met_all (own-lacking few many l CALLS p p.main first_place [] (empty_state input picks steps)) h

-- an answer is there, unless it leaves too much
unless_above-lacks : (n : ℕ) (o : LibOut) → LackingAnswer (unless_above n o) o
unless_above-lacks n (trapped kind a) = same_answer _
unless_above-lacks n thrown = same_answer _
unless_above-lacks n (faulted w) = same_answer _
unless_above-lacks n (gives v m picks) = elim (holds_at_most n m) as (λ b. LackingAnswer (if b then gives v m picks else unbuilt) (gives v m picks))
    [ true ↦ same_answer _ | false ↦ no_answer _ ]
unless_above-lacks n unbuilt = same_answer _

-- the run of a text that stays small is the one over the library without the calls that leave more than 64 elements in a container
pub small_is_same : (p : Typed) → stays_small p ≡ true
    → out_of (lib_within WINDOW) p [] [] decided_steps ≡ main_out p [] [] decided_steps
unfolding stays_small
small_is_same p h = lacking_runs (lib_within WINDOW) lib (λ callee a m picks. unless_above-lacks WINDOW (lib callee a m picks)) p [] [] decided_steps
    (not-true (is_without_meaning (run_over (lib_within WINDOW) p [] [] decided_steps).end) h)

-- an end that has a meaning isn't one without
meant : (x : End) (at : Place) → is_without_meaning x ≡ false → x ≢ NoMeaning at
meant x at h e = absurd cc

-- so it doesn't end at what has no meaning
pub small_has_meaning : (p : Typed) → stays_small p ≡ true → (at : Place) → (run p [] [] decided_steps).end ≢ NoMeaning at
unfolding stays_small
small_has_meaning p h at = meant (run p [] [] decided_steps).end at (subst (λ (x : Out). is_without_meaning (finished x).end ≡ false)
    (small_is_same p h) (not-true (is_without_meaning (run_over (lib_within WINDOW) p [] [] decided_steps).end) h))
