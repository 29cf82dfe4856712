-- Values of the code for the ends of closed runs, worked out by hand.
use Rattle.std.specs.Prelude.{ℕ, refl, List, [], Some, pos, codes}
use Rattle.std.specs.Fmt.{digits}
use Rattle.sl_specs.specs.Table.{table}
use Rattle.sl_model.specs.declared.end.End.{End as EndCode}
use Rattle.sl_model.specs.declared.end.End.TheVariants as e
use Rattle.sl_model.specs.declared.finish.Finish.{Finish as FinishCode}
use Rattle.sl_model.specs.Runs.EndView.{IsFinish}
use Rattle.sl_model.specs.Runs.Run.{run}
use Rattle.sl_model.proofs.EndViews.{trap_told}
use Rattle.sl_model.proofs.Examples.References.{through_iterator, read_behind_clear}
use Rattle.sl_model.proofs.Examples.Short.{at, trap}

-- an end and the bytes that were written, of which none is lost
abbrev ended : EndCode → List ℕ → FinishCode
ended end bytes = record { end = end; output = record { bytes = bytes; lost = 0 } }

-- a run that comes to the end of `main`
done_is_told : IsFinish through_iterator.names (ended (e.Done (pos 0)) (codes "22")) (run through_iterator [] [] 100)
unfolding digits table
done_is_told = record { end = refl; output = refl }

-- a run that uses an invalid reference: the value has its name, where the trap has the name's number
trap_is_told : IsFinish read_behind_clear.names
    (ended (e.Trap (record {
      place = at 6 16;
      kind = 12;
      call = codes "use";
      argument = 1;
      name = Some (codes "r");
      killer = Some 1;
    })) []) (run read_behind_clear [] [] 100)
unfolding table
trap_is_told = record {
  end = (trap (at 6 16) 12 (codes "use") 1 (Some 1) (Some 1), refl, trap_told read_behind_clear.names _);
  output = refl;
}
