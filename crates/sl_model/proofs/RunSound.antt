-- Memory is sound in each run of a text over the library: after each expression, statement and call, and at the end.
use Rattle.std.proofs.Common.{ℕ, List, []}
use Rattle.std.specs.Prelude.{ℤ}
use Rattle.sl_base.specs.declared.limits.TheConstants.{CALLS}
use Rattle.sl_base.specs.declared.place.Place.{Place}
use Rattle.sl_syntax.specs.declared.typed.callee.Callee.{Callee}
use Rattle.sl_syntax.specs.Typed.{Expr, Stmt, Typed}
use Rattle.sl_model.specs.Memory.Containers.{Memory, empty_memory}
use Rattle.sl_model.specs.LibraryCalls.Values.{Value, Args, Lib}
use Rattle.sl_model.specs.LibraryCalls.Library.{lib}
use Rattle.sl_model.specs.Runs.State.{State}
use Rattle.sl_model.specs.Runs.Eval.{World, call_own, eval}
use Rattle.sl_model.specs.Runs.Exec.{exec}
use Rattle.sl_model.specs.Runs.Calls.{world_of, call_of}
use Rattle.sl_model.specs.Runs.Run.{empty_state, first_place, out_of}
use Rattle.sl_model.specs.Runs.Good.{AreKeptApart, IsSound}
use Rattle.sl_model.proofs.Ending.{end_from-sound}
use Rattle.sl_model.proofs.Writing.{write-sound}
use Rattle.sl_model.proofs.Keeps.{InAnswer, InOut, keeps_eval}
use Rattle.sl_model.proofs.KeepsRun.{InFlow, in_exec}
use Rattle.sl_model.proofs.KeepsCalls.{in_call}
use Rattle.sl_model.proofs.LibrarySound.{KeepsMemory, sound-answer, lib-leaves}

-- in no lists nothing stands
nothing_apart : AreKeptApart [] [] 0
nothing_apart = record {
  once = λ j k i h s a b. absurd (let e = a.1 in cc);
  used = λ j k s a. absurd (let e = a.1 in cc);
  dropped = λ s site d. absurd (let e = d.1 in cc);
  dead = λ j k s site a d. let e = a.1 in cc;
}

-- the memory without containers is sound
pub empty-sound : IsSound empty_memory
empty-sound = record { stamps_apart = nothing_apart; refers_apart = nothing_apart; small = λ j c h. absurd (cc) }

-- a library that keeps memory leaves each sound memory sound
pub leaves-sound : (l : Lib) → KeepsMemory l → (c : Callee) (a : Args) (m : Memory) (picks : List ℕ) → IsSound m
    → InAnswer IsSound (l c a m picks)
leaves-sound l lib_keeps c a m picks sound = sound-answer m a.site (l c a m picks) (lib_keeps c a m picks sound)

-- a text's own functions leave each sound memory sound
abbrev pub OwnKeepSound : World → Type 0
OwnKeepSound w = (f : ℕ) (at : Place) (vs : List Value) (s : State) → IsSound s.memory → InOut IsSound (call_own w f at vs s)

-- over a library that keeps memory, each expression does
pub eval-sound : (w : World) → KeepsMemory w.lib → OwnKeepSound w → (e : Expr) (s : State) → IsSound s.memory → InOut IsSound (eval w e s)
eval-sound w lib_keeps own_keeps e s h = keeps_eval IsSound w (leaves-sound w.lib lib_keeps) own_keeps write-sound e s h

-- over a library that keeps memory, each statement does
pub exec-sound : (w : World) → KeepsMemory w.lib → OwnKeepSound w → (a : Stmt) (s : State) → IsSound s.memory → InFlow IsSound (exec w a s)
exec-sound w lib_keeps own_keeps a s h = in_exec IsSound w (leaves-sound w.lib lib_keeps) own_keeps write-sound end_from-sound a s h

-- over a library that keeps memory, each call of a text's own function does
pub call-sound : (l : Lib) → KeepsMemory l → (n : ℕ) (p : Typed) (f : ℕ) (at : Place) (vs : List Value) (s : State) → IsSound s.memory
    → InOut IsSound (call_own (world_of l p (call_of l n p)) f at vs s)
call-sound l lib_keeps n p f at vs s h = in_call IsSound l (leaves-sound l lib_keeps) write-sound end_from-sound n p f at vs s h

-- over a library that keeps memory, a run ends in a sound memory
pub run_over-sound : (l : Lib) → KeepsMemory l → (p : Typed) (input : List ℤ) (picks : List ℕ) (steps : ℕ)
    → InOut IsSound (out_of l p input picks steps)
run_over-sound l lib_keeps p input picks steps = call-sound l lib_keeps CALLS p p.main first_place [] (empty_state input picks steps) empty-sound

-- a run ends in a sound memory
pub run-sound : (p : Typed) (input : List ℤ) (picks : List ℕ) (steps : ℕ)
    → InOut IsSound (out_of lib p input picks steps)
run-sound p input picks steps = run_over-sound lib lib-leaves p input picks steps
