-- The text of a run, in bytes: what it wrote, and how it ended.
--
-- No standard says any of it; all of it is chosen here. The output that is kept comes first, and a line feed behind it where it doesn't end
-- with one; then a line with the count of the bytes that are lost, where some are; then a line that says how the run ended. A failed need
-- is told as a report tells it, with the place of the site that dropped an iterator or a reference.
use Rattle.std.specs.Prelude.{ℕ, ◌==◌, List, [], ◌∷◌, ◌++◌, slice_index_or, option_to_list, codes, decimal, if◌then◌else◌}
use Rattle.std.specs.Fmt.{signed_decimal}
use Rattle.std.specs.Io.BufRead.{ends_with_byte}
use Rattle.sl_syntax.specs.Typed.{Typed}
use Rattle.sl_model.specs.Reports.Covers.{named}
use Rattle.sl_model.specs.Runs.Ends.{Trap, End, Done, Trapped, OutOfSteps, Language, Thrown, NoMeaning, Finish}
use Rattle.sl_model.specs.Reports.Texts.{kind_text, place_text, who_text, sites_text}

-- the words for the faults of the language, by their numbers from 1 on
abbrev pub faults : List (List ℕ)
faults = [] ∷ codes "overflow" ∷ codes "zero divisor" ∷ codes "unset variable" ∷ codes "no return value" ∷ codes "too many calls" ∷ []

-- the words for a fault
abbrev pub fault_text : ℕ → List ℕ
fault_text fault = slice_index_or faults fault []

-- a line of a run
abbrev pub run_line : List ℕ → List ℕ
run_line text = codes "run: " ++ (text ++ 10 ∷ [])

-- a failed need of a text: its place, its kind, the call, whose need it is, and where it was dropped
abbrev pub trap_text : Typed → Trap → List ℕ
trap_text p t = place_text t.place ++ (codes ": " ++ (kind_text t.kind ++ (codes " in " ++ (t.call ++ (codes ": " ++
    (who_text t.call t.argument (named p.names t.name) ++ sites_text p.sites (option_to_list t.killer)))))))

-- the line of the end; a run of a text that is checked has a meaning
abbrev pub end_line : Typed → End → List ℕ
end_line p (Done z) = run_line (codes "done " ++ signed_decimal z)
end_line p (Trapped t) = run_line (codes "trap at " ++ trap_text p t)
end_line p OutOfSteps = run_line (codes "out of steps")
end_line p (Language place fault) = run_line (codes "language fault at " ++ (place_text place ++ (codes ": " ++ fault_text fault)))
end_line p (Thrown place) = run_line (codes "exception at " ++ place_text place)
end_line p (NoMeaning place) = []

-- bytes, and a line feed behind them where their last line isn't ended
abbrev pub with_line_end : List ℕ → List ℕ
with_line_end [] = []
with_line_end (b ∷ bs) = if ends_with_byte 10 (b ∷ bs) then b ∷ bs else (b ∷ bs) ++ 10 ∷ []

-- the line of the bytes that are lost
abbrev pub lost_line : ℕ → List ℕ
lost_line lost = if lost == 0 then [] else run_line (codes "output cut, " ++ (decimal lost ++ codes " bytes lost"))

-- the text of a run of a text
abbrev pub end_text : Typed → Finish → List ℕ
end_text p f = with_line_end f.output.bytes ++ (lost_line f.output.lost ++ end_line p f.end)
