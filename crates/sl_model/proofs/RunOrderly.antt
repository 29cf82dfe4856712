-- Memory is orderly at the end of each run.
use Rattle.std.proofs.Common.{ℕ, List, []}
use Rattle.std.specs.Prelude.{ℤ}
use Rattle.sl_base.specs.declared.limits.TheConstants.{CALLS}
use Rattle.sl_syntax.specs.declared.typed.callee.Callee.{Callee}
use Rattle.sl_syntax.specs.Typed.{Typed}
use Rattle.sl_model.specs.Memory.Containers.{Memory}
use Rattle.sl_model.specs.LibraryCalls.Values.{Args, LibOut, trapped, thrown, faulted, gives, unbuilt}
use Rattle.sl_model.specs.LibraryCalls.Library.{lib}
use Rattle.sl_model.specs.Runs.Eval.{Out, Gives, Stops}
use Rattle.sl_model.specs.Runs.Run.{empty_state, first_place, main_out, end_state}
use Rattle.sl_model.specs.Runs.Good.{IsSound}
use Rattle.sl_model.specs.Memory.Orderly.{IsOrderly}
use Rattle.sl_model.proofs.Ending.{end_from-sound}
use Rattle.sl_model.proofs.Writing.{write-sound}
use Rattle.sl_model.proofs.Keeps.{InAnswer, InOut}
use Rattle.sl_model.proofs.KeepsCalls.{in_call}
use Rattle.sl_model.proofs.LibrarySound.{lib-leaves}
use Rattle.sl_model.proofs.LibraryOrderly.{answer-orderly}
use Rattle.sl_model.proofs.OrderlyEffects.{write-orderly, end-orderly, empty-orderly}
use Rattle.sl_model.proofs.RunSound.{empty-sound, leaves-sound}

-- a memory is sound and orderly
abbrev IsKept : Memory → Type 0
IsKept m = IsSound m × IsOrderly m

-- an answer that leaves a memory sound and leaves it orderly does both
both : (o : LibOut) → InAnswer IsSound o → InAnswer IsOrderly o → InAnswer IsKept o
both (gives v m left) sound orderly = (sound, orderly)
both (trapped k a) sound orderly = tt
both thrown sound orderly = tt
both (faulted w) sound orderly = tt
both unbuilt sound orderly = tt

-- each call of the library does
lib-kept : (c : Callee) (a : Args) (m : Memory) (picks : List ℕ) → IsKept m → InAnswer IsKept (lib c a m picks)
lib-kept c a m picks (sound, orderly) = both (lib c a m picks) (leaves-sound lib lib-leaves c a m picks sound) (answer-orderly c a m picks sound orderly)

-- so does what `main` leaves
main-kept : (p : Typed) (input : List ℤ) (picks : List ℕ) (steps : ℕ) → InOut IsKept (main_out p input picks steps)
main-kept p input picks steps = in_call IsKept lib lib-kept
    (λ m i k part z (kept : IsKept m). (write-sound m i k part z kept.0, write-orderly m i k part z kept.1))
    (λ site n m (kept : IsKept m). (end_from-sound site n m kept.0, end-orderly site n m kept.1))
    CALLS p p.main first_place [] (empty_state input picks steps) (empty-sound, empty-orderly)

-- what holds of the state that is left holds of the last one
orderly_end : (o : Out) → InOut IsKept o → IsOrderly (end_state o).memory
orderly_end (Gives v s) kept = kept.1
orderly_end (Stops e s) kept = kept.1

-- a run ends in an orderly memory
pub run-orderly : (p : Typed) (input : List ℤ) (picks : List ℕ) (steps : ℕ) → IsOrderly (end_state (main_out p input picks steps)).memory
run-orderly p input picks steps = orderly_end (main_out p input picks steps) (main-kept p input picks steps)
