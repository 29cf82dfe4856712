-- The line of an end, from the code's end and the places of the sites.
use Rattle.std.specs.Prelude.{ℕ, List, ◌++◌, codes, option_to_list}
use Rattle.std.specs.Fmt.{signed_decimal}
use Rattle.sl_base.specs.declared.place.Place.{Place}
use Rattle.sl_model.specs.declared.end.End.{End}
use Rattle.sl_model.specs.declared.end.End.TheVariants as e
use Rattle.sl_model.specs.declared.trap_info.TrapInfo.{TrapInfo}
use Rattle.sl_model.specs.Reports.EndText.{run_line, fault_text}
use Rattle.sl_model.specs.Reports.Texts.{kind_text, place_text, who_text, sites_text}

-- a failed need
abbrev pub info_text : List Place → TrapInfo → List ℕ
info_text sites i = place_text i.place ++ (codes ": " ++ (kind_text i.kind ++ (codes " in " ++ (i.call ++ (codes ": " ++
    (who_text i.call i.argument i.name ++ sites_text sites (option_to_list i.killer)))))))

-- how a run ended
abbrev pub code_line : List Place → End → List ℕ
code_line sites (e.Done z) = run_line (codes "done " ++ signed_decimal z)
code_line sites (e.Trap i) = run_line (codes "trap at " ++ info_text sites i)
code_line sites e.OutOfSteps = run_line (codes "out of steps")
code_line sites (e.Language place why) = run_line (codes "language fault at " ++ (place_text place ++ (codes ": " ++ fault_text why)))
code_line sites (e.Thrown place) = run_line (codes "exception at " ++ place_text place)
