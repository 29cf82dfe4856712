-- What the code's end of a run stands for, in a text whose variables have these names.
--
-- Chosen here: the code has a trap's name as its bytes, where a run has the name's number; and the code has no end that has no meaning.
use Rattle.std.specs.Prelude.{◌≡◌, ℕ, List}
use Rattle.sl_model.specs.declared.end.End.{End as EndCode}
use Rattle.sl_model.specs.declared.end.End.TheVariants as e
use Rattle.sl_model.specs.declared.finish.Finish.{Finish as FinishCode}
use Rattle.sl_model.specs.declared.output.Output.{Output as OutputCode}
use Rattle.sl_model.specs.declared.trap_info.TrapInfo.{TrapInfo}
use Rattle.sl_model.specs.Reports.Covers.{named}
use Rattle.sl_model.specs.Runs.Ends.{Trap, End, Done, Trapped, OutOfSteps, Language, Thrown, Output, Finish}

-- a failed need is told: the same place, kind, call, argument and killer, and the name that its number stands for
pub record IsTrap (names : List (List ℕ)) (info : TrapInfo) (t : Trap) : Type 0 where
  pub place : info.place ≡ t.place
  pub kind : info.kind ≡ t.kind
  pub call : info.call ≡ t.call
  pub argument : info.argument ≡ t.argument
  pub name : info.name ≡ named names t.name
  pub killer : info.killer ≡ t.killer

-- how a run ends
abbrev pub IsEnd : List (List ℕ) → EndCode → End → Type 0
IsEnd names (e.Done z) end = end ≡ Done z
IsEnd names (e.Trap info) end = (t : Trap) × (end ≡ Trapped t) × IsTrap names info t
IsEnd names e.OutOfSteps end = end ≡ OutOfSteps
IsEnd names (e.Language place why) end = end ≡ Language place why
IsEnd names (e.Thrown place) end = end ≡ Thrown place

-- what is kept of what a run wrote
abbrev pub output_of : OutputCode → Output
output_of o = record { bytes = o.bytes; lost = o.lost }

-- the end of a run and what it wrote
pub record IsFinish (names : List (List ℕ)) (f : FinishCode) (run : Finish) : Type 0 where
  pub end : IsEnd names f.end run.end
  pub output : output_of f.output ≡ run.output
