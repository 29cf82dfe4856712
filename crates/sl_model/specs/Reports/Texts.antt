-- The text of a refusal, and that of a report, in bytes: a line for each warning and a last line with their count, or the one
-- line of a text that passed.
-- No standard says any of it; all of it is chosen here. A warning's line is `NAME:L:C: KIND in CALL: WHO`, and behind it for an
-- invalid iterator or reference the places at which it may have been invalidated, in the order of their sites.
use Rattle.std.specs.Prelude.{ℕ, ◌==◌, ◌||◌, nat_eq, Bool, List, [], ◌∷◌, ◌++◌, length, Option, Some, None, slice_get, slice_index_or, codes, decimal}
use Rattle.std.specs.Prelude.{if◌then◌else◌}
use Rattle.std.specs.Cmp.Lexicographic.{pointwise}
use Rattle.std.specs.List.{flat_map}
use Rattle.sl_base.specs.declared.failures.TheConstants.{INVALID_ITERATOR, INVALID_REFERENCE}
use Rattle.sl_base.specs.declared.place.Place.{Place}
use Rattle.sl_model.specs.Reports.Covers.{Warning}

-- the words for the kinds of failures, by their numbers from 1 on
abbrev pub kinds : List (List ℕ)
kinds =
    [] ∷ codes "invalid iterator" ∷ codes "wrong container" ∷ codes "bad range" ∷ codes "end iterator" ∷ codes "out of range" ∷
    codes "empty container" ∷ codes "own elements" ∷ codes "no room" ∷ codes "overlap" ∷ codes "not partitioned" ∷ codes "not sorted" ∷
    codes "invalid reference" ∷ []

-- the words for a kind
abbrev pub kind_text : ℕ → List ℕ
kind_text kind = slice_index_or kinds kind []

-- a line and a column
abbrev pub place_text : Place → List ℕ
place_text p = decimal p.line ++ (codes ":" ++ decimal p.col)

-- a call's name is that of a range-for
abbrev pub is_for : List ℕ → Bool
is_for call = pointwise nat_eq (codes "for") call

-- a range-for asks for two iterators of the container that it names
abbrev pub name_in_for : ℕ → List ℕ → List ℕ
name_in_for argument name =
    if argument == 1 then codes "begin of " ++ name else if argument == 2 then codes "end of " ++ name else name

-- an argument's name in a call
abbrev pub name_text : List ℕ → ℕ → List ℕ → List ℕ
name_text call argument name = if is_for call then name_in_for argument name else name

-- whose need it is: the name of the argument, or its number where it has none
abbrev pub who_text : List ℕ → ℕ → Option (List ℕ) → List ℕ
who_text call argument (Some name) = name_text call argument name
who_text call argument None = codes "argument " ++ decimal argument

-- the place of a site
abbrev pub site_text : List Place → ℕ → List ℕ
site_text sites site = elim (slice_get sites site) [ None ↦ [] | Some p ↦ place_text p ]

-- further sites
abbrev pub further_sites : List Place → List ℕ → List ℕ
further_sites sites [] = []
further_sites sites (site ∷ more) = codes ", " ++ (site_text sites site ++ further_sites sites more)

-- the sites at which an iterator or a reference may have been invalidated
abbrev pub sites_text : List Place → List ℕ → List ℕ
sites_text sites [] = []
sites_text sites (site ∷ more) = codes ", invalidated at " ++ (site_text sites site ++ further_sites sites more)

-- these sites where the kind is that of an invalid iterator or of an invalid reference
abbrev pub killers_text : List Place → ℕ → List ℕ → List ℕ
killers_text sites kind killers = if kind == INVALID_ITERATOR || kind == INVALID_REFERENCE then sites_text sites killers else []

-- the line of a warning in a file with this name
abbrev pub warning_line : List ℕ → List Place → Warning → List ℕ
warning_line file sites w =
    file ++ (codes ":" ++ (decimal w.place.line ++ (codes ":" ++ (decimal w.place.col ++ (codes ": " ++ (kind_text w.kind ++ (codes " in " ++
    (w.call ++ (codes ": " ++ (who_text w.call w.argument w.name ++ (killers_text sites w.kind w.killers ++ 10 ∷ [])))))))))))

-- the last line where there are n warnings
abbrev pub count_line : List ℕ → ℕ → List ℕ
count_line file n = file ++ (codes ": warnings: " ++ (decimal n ++ 10 ∷ []))

-- the line of a text that passed
abbrev pub passed_line : List ℕ → List ℕ
passed_line file = file ++ (codes ": passed" ++ 10 ∷ [])

-- the text of a report on a file with this name, whose sites have these places
abbrev pub report_text : List ℕ → List Place → List Warning → List ℕ
report_text file sites [] = passed_line file
report_text file sites (w ∷ ws) = flat_map (warning_line file sites) (w ∷ ws) ++ count_line file (length (w ∷ ws))

-- the line of a text that is refused at a place, with the words that say why
abbrev pub refusal_line : List ℕ → Place → List ℕ → List ℕ
refusal_line file place why =
    file ++ (codes ":" ++ (decimal place.line ++ (codes ":" ++ (decimal place.col ++ (codes ": refused: " ++ (why ++ 10 ∷ []))))))
