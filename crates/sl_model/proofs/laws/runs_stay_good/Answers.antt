-- The library keeps memory sound and orderly and states good, so each run does.
use Rattle.sl_model.specs.Runs.Eval.{Out, Gives, Stops}
use Rattle.sl_model.specs.Runs.Good.{IsSound}
use Rattle.sl_model.specs.Runs.Run.{end_state, main_out}
use Rattle.sl_model.proofs.Keeps.{InOut}
use Rattle.sl_model.proofs.RunGood.{end-good}
use Rattle.sl_model.proofs.RunOrderly.{run-orderly}
use Rattle.sl_model.proofs.RunSound.{run-sound}
use Rattle.sl_model.proofs.laws.runs_stay_good.Goals as goal

sound_end : (o : Out) → InOut IsSound o → IsSound (end_state o).memory
sound_end (Gives v s) h = h
sound_end (Stops e s) h = h

pub returns-clause-sound : goal.returns-clause-sound
returns-clause-sound c = λ p input picks steps. sound_end (main_out p input picks steps) (run-sound p input picks steps)

pub returns-clause-orderly : goal.returns-clause-orderly
returns-clause-orderly c = run-orderly

pub returns-clause-good : goal.returns-clause-good
returns-clause-good c = λ p input picks steps scoped. end-good p scoped input picks steps
