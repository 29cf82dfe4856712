-- A run that has more steps left does the same, but where it is out of steps. Here: calls and whole runs.
use Rattle.std.proofs.Common.{◌≡◌, ◌≢◌, ◌+◌, ◌==◌, ◌∙◌, refl, sym, ap, subst, ℕ, zero, suc, List, [], ◌∷◌, Bool, true, false, ℤ, Option, Some, None}
use Rattle.std.proofs.Common.{slice_get}
use Rattle.sl_base.specs.declared.place.Place.{Place}
use Rattle.sl_base.specs.declared.limits.TheConstants.{CALLS}
use Rattle.sl_syntax.specs.declared.typed.parameter.ParameterKind.{ParameterKind}
use Rattle.sl_syntax.specs.declared.typed.parameter.ParameterKind.TheVariants as parameter
use Rattle.sl_syntax.specs.Typed.{Function, Typed}
use Rattle.sl_model.specs.LibraryCalls.Values.{Lib, Value, nothing, number, iterator, scalar_at, container_at}
use Rattle.sl_model.specs.LibraryCalls.Library.{lib}
use Rattle.sl_model.specs.Runs.Ends.{Language, OutOfSteps}
use Rattle.sl_model.specs.Runs.State.{State, leave}
use Rattle.sl_model.specs.Runs.Binding.{bind_one, bind_all, bound}
use Rattle.sl_model.specs.Runs.Eval.{Out, Gives, Stops, World, Oracle, come_back}
use Rattle.sl_model.specs.Runs.Exec.{Flow}
use Rattle.sl_model.specs.Runs.Calls.{fell, body_gives, of_function, world_of, call_of}
use Rattle.sl_model.specs.Runs.Run.{empty_state, first_place, finished, run}
use Rattle.sl_model.proofs.Longer.{more, LaterOut, gives, stops, out, Same, SameWorld}
use Rattle.sl_model.proofs.LongerExec.{LaterFlow, next, broke, continued, returned, over, run_out, exec-later}

bind_one-more : (k : ℕ) (kind : ParameterKind) (v : Value) (s : State) → bind_one kind v (more k s) ≡ more k (bind_one kind v s)
bind_one-more k (parameter.Value ty) (number z) s = refl
bind_one-more k kind (scalar_at l) s = refl
bind_one-more k kind (container_at l) s = refl
bind_one-more k kind (iterator stamp) s = refl
bind_one-more k kind v s = refl

bind_all-more : (k : ℕ) (kinds : List ParameterKind) (vs : List Value) (s : State) → bind_all kinds vs (more k s) ≡ more k (bind_all kinds vs s)
bind_all-more k (kind ∷ kinds) (v ∷ vs) s = ap (bind_all kinds vs) (bind_one-more k kind v s) ∙ bind_all-more k kinds vs (bind_one kind v s)
bind_all-more k kinds vs s = refl

bound-more : (k : ℕ) (kinds : List ParameterKind) (vs : List Value) (s : State) → bound kinds vs (more k s) ≡ more k (bound kinds vs s)
bound-more k kinds vs s = bind_all-more k kinds vs _

fell-later : {k : ℕ} (m : Bool) (f : Function) → Same k (fell m f)
fell-later true f s = gives _ s
fell-later {k} false f s = elim f.result as (λ (o : Option ParameterKind). LaterOut k
    (elim o as (λ _. Out) [ None ↦ Gives nothing s | Some x ↦ Stops (Language f.close 4) s ])
    (elim o as (λ _. Out) [ None ↦ Gives nothing (more k s) | Some x ↦ Stops (Language f.close 4) (more k s) ]))
    [ None ↦ gives _ s | Some x ↦ stops _ s ]

body_gives-later : {k : ℕ} (m : Bool) (f : Function) {a b : Flow} → LaterFlow k a b → LaterOut k (body_gives m f a) (body_gives m f b)
body_gives-later m f (next s) = fell-later m f s
body_gives-later m f (broke s) = fell-later m f s
body_gives-later m f (continued s) = fell-later m f s
body_gives-later m f (returned v s) = gives v s
body_gives-later m f (over e s) = stops e s
body_gives-later m f (run_out s x) = out s (body_gives m f x)

come_back-later : {k : ℕ} (before : State) {a b : Out} → LaterOut k a b → LaterOut k (come_back before a) (come_back (more k before) b)
come_back-later before (gives v s) = gives v (leave 0 before s)
come_back-later before (stops e s) = stops e s
come_back-later {k} before (out s x) = out s (come_back (more k before) x)

-- k steps more change nothing of what bodies do
abbrev SameBodies : ℕ → Oracle → Type 0
SameBodies k own = (f : ℕ) (at : Place) → Same k (own f at)

call_own-later : {k : ℕ} (w : World) → SameBodies k w.own → SameWorld k w
call_own-later {k} w same f at vs s = come_back-later s
    (subst (λ t. LaterOut k (w.own f at (bound (w.takes f) vs s)) (w.own f at t)) (sym (bound-more k (w.takes f) vs s))
    (same f at (bound (w.takes f) vs s)))

of_function-later : {k : ℕ} (m : Bool) (o : Option Function) (w : World) → SameWorld k w → Same k (of_function m o w)
of_function-later m None w own s = gives nothing s
of_function-later m (Some f) w own s = body_gives-later m f (exec-later w own f.body s)

call_of-later : {k : ℕ} (l : Lib) (n : ℕ) (p : Typed) → SameBodies k (call_of l n p)
call_of-later l zero p f at s = stops _ s
call_of-later l (suc n) p f at s = of_function-later (f == p.main) (slice_get p.functions f) (world_of l p (call_of l n p))
    (call_own-later (world_of l p (call_of l n p)) (call_of-later l n p)) s

finished-later : {k : ℕ} {a b : Out} → LaterOut k a b → (finished a).end ≢ OutOfSteps → finished b ≡ finished a
finished-later (gives v s) ends = refl
finished-later (stops e s) ends = refl
finished-later (out s x) ends = absurd (ends refl)

-- a run that isn't out of steps is the same with more of them
pub longer_runs : (p : Typed) (input : List ℤ) (picks : List ℕ) (n k : ℕ) → (run p input picks n).end ≢ OutOfSteps
    → run p input picks (n + k) ≡ run p input picks n
longer_runs p input picks n k ends = finished-later {k = k}
    (call_own-later (world_of lib p (call_of lib CALLS p)) (call_of-later lib CALLS p) p.main first_place [] (empty_state input picks n)) ends
