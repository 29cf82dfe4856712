-- The parts of a report's text.
use Rattle.std.proofs.Common.{arith, append_assoc, ◌≡◌, ◌≢◌, ◌≤◌, ◌<◌, ◌+◌, ℕ, zero, suc, Some, None, ◌∙◌, List, [], ◌∷◌, ◌++◌, length, get_or, take}
use Rattle.std.proofs.Common.{◌-◌, drop, refl, ap, sym}
use Rattle.std.specs.Prelude.{codes, flat_map, slice_get}
use Rattle.std.proofs.Math.Seq.{take_all}
use Rattle.sl_base.specs.declared.place.Place.{Place}
use Rattle.sl_model.specs.Reports.Covers.{Warning}
use Rattle.sl_model.specs.Reports.Texts.{site_text, further_sites, sites_text, warning_line, count_line, report_text}

-- the text of a report that isn't empty
pub report_text-some : (file : List ℕ) (sites : List Place) (ws : List Warning) → length ws ≢ 0
    → report_text file sites ws ≡ flat_map (warning_line file sites) ws ++ count_line file (length ws)
report_text-some file sites [] h = absurd (h refl)
report_text-some file sites (w ∷ ws) h = refl

-- the parts of a warning's line in one row
pub regrouped : (out file a line b col c kind d call e who killers end : List ℕ)
    → ((((((((out ++ (file ++ (a ++ (line ++ (b ++ (col ++ c)))))) ++ kind) ++ d) ++ call) ++ e) ++ who) ++ killers) ++ end)
    ≡ out ++ (file ++ (a ++ (line ++ (b ++ (col ++ (c ++ (kind ++ (d ++ (call ++ (e ++ (who ++ (killers ++ end))))))))))))
regrouped out file a line b col c kind d call e who killers end = simp append_assoc

-- the warnings from an index on begin with the one there
drop-there : (ws : List Warning) (i : ℕ) (w : Warning) → slice_get ws i ≡ Some w → drop i ws ≡ w ∷ drop (i + 1) ws
drop-there [] i w h = absurd cc
drop-there (v ∷ vs) zero w h = let same : v ≡ w = cc in ap (λ x. x ∷ vs) same
drop-there (v ∷ vs) (suc i) w h = drop-there vs i w h ∙ ap (λ n. w ∷ drop n (v ∷ vs)) (let e : suc (i + 1) ≡ suc i + 1 = omega arith in e)

-- one line more
pub line-next : (line : Warning → List ℕ) (ws : List Warning) (i : ℕ) (w : Warning) (out all : List ℕ) → slice_get ws i ≡ Some w
    → out ++ flat_map line (drop i ws) ≡ all → (out ++ line w) ++ flat_map line (drop (i + 1) ws) ≡ all
line-next line ws i w out all h e =
    append_assoc out (line w) (flat_map line (drop (i + 1) ws)) ∙ ap (λ l. out ++ flat_map line l) (sym (drop-there ws i w h)) ∙ e

-- there is a warning at each index
pub some-there : (ws : List Warning) (i : ℕ) → i < length ws → slice_get ws i ≡ None → ⊥
some-there [] i lt h = omega arith
some-there (w ∷ ws) zero lt h = absurd cc
some-there (w ∷ ws) (suc i) lt h = some-there ws i (omega arith) h
