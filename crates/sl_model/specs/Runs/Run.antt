-- A whole run of a text, on an input, a schedule and a number of steps: how it ends and what it writes.
-- Restates ISO/IEC 14882:2017, [basic.start.main] and [intro.execution].
-- Chosen here: a run has a number of steps that it may take, and at most 256 calls in progress.
use Rattle.std.specs.Prelude.{ℕ, List, [], ℤ, pos}
use Rattle.sl_base.specs.declared.place.Place.{Place}
use Rattle.sl_syntax.specs.Typed.{Typed}
use Rattle.sl_base.specs.declared.limits.TheConstants.{CALLS}
use Rattle.sl_model.specs.Memory.Containers.{empty_memory}
use Rattle.sl_model.specs.LibraryCalls.Values.{Lib, Value, number}
use Rattle.sl_model.specs.LibraryCalls.Library.{lib}
use Rattle.sl_model.specs.Runs.Ends.{End, Done, Finish, kept}
use Rattle.sl_model.specs.Runs.State.{State}
use Rattle.sl_model.specs.Runs.Binding.{no_frame}
use Rattle.sl_model.specs.Runs.Eval.{Out, Gives, Stops, call_own}
use Rattle.sl_model.specs.Runs.Calls.{world_of, call_of}

-- nothing is there yet
abbrev pub empty_state : List ℤ → List ℕ → ℕ → State
empty_state input picks steps = record {
  frame = no_frame;
  scalars = [];
  iters = [];
  memory = empty_memory;
  input = input;
  picks = picks;
  steps = steps;
  tests = 0;
  written = [];
}

-- where a text begins
abbrev pub first_place : Place
first_place = record { line = 1; col = 1 }

-- what `main` gave
abbrev pub done_with : Value → End
done_with (number z) = Done z
done_with v = Done (pos 0)

-- the end of a run from what `main` gave
abbrev pub finished : Out → Finish
finished (Gives v s) = record { end = done_with v; output = kept s.written }
finished (Stops e s) = record { end = e; output = kept s.written }

-- what `main` leaves in a run over a library, on an input, a schedule and a number of steps
abbrev pub out_of : Lib → Typed → List ℤ → List ℕ → ℕ → Out
out_of lib p input picks steps = call_own (world_of lib p (call_of lib CALLS p)) p.main first_place [] (empty_state input picks steps)

-- the run of a text over a library
abbrev pub run_over : Lib → Typed → List ℤ → List ℕ → ℕ → Finish
run_over lib p input picks steps = finished (out_of lib p input picks steps)

-- the run of a text
abbrev pub run : Typed → List ℤ → List ℕ → ℕ → Finish
run = run_over lib

-- what `main` leaves in a run
abbrev pub main_out : Typed → List ℤ → List ℕ → ℕ → Out
main_out = out_of lib

-- the state at the end
abbrev pub end_state : Out → State
end_state (Gives v s) = s
end_state (Stops e s) = s
