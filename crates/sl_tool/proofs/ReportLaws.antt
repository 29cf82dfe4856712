-- Warnings that come in their order, one behind the other.
use Rattle.std.proofs.Common.{◌≡◌, ◌≢◌, ℕ, suc, ◌<◌, ◌+◌, arith, Bool, true, false, List, [], ◌∷◌, ◌++◌, length, drop, Some, refl, ap, sym, ◌∙◌}
use Rattle.std.proofs.Common.{append_assoc, get_or, add-one}
use Rattle.std.specs.Prelude.{slice_get, Contains}
use Rattle.std.specs.declared.cmp.Ordering.TheVariants.{Less}
use Rattle.std.proofs.Math.Seq.{drop-cons}
use Rattle.sl_model.specs.Reports.Covers.{Warning}
use Rattle.sl_tool.specs.declared.analysis.Warning.{Warning as WarningCode}
use Rattle.sl_tool.specs.Means.Told.{killers_in, warning_of, report_of}
use Rattle.sl_kind.specs.declared.kills.Kills.{Kills}
use Rattle.sl_kind.specs.Kills.{has}
use Rattle.sl_warnings.specs.Reports.{warning_cmp, IsAscending, added}
use Rattle.sl_warnings.specs.Views.{sites_in}
use Rattle.sl_warnings.proofs.Sites.{sites_in-last, sites_in-has}
use Rattle.sl_model.proofs.Getting.{get_within}
use Rattle.sl_tool.proofs.Ascending.{less_in}
use Rattle.sl_tool.proofs.Goes.{get-left}
use Rattle.sl_tool.proofs.Lists.{there, get_or-there}
use Rattle.sl_tool.specs.Exactness.{Ascend}
use Rattle.sl_tool.specs.Means.Told.{KillersAscend}

-- a warning behind all others goes to the end
added-last : (w : Warning) (r : List Warning) → ((i : ℕ) (v : Warning) → slice_get r i ≡ Some v → warning_cmp v w ≡ Less) → added w r ≡ r ++ w ∷ []
added-last w [] h = refl
added-last w (v ∷ vs) h = rw (h 0 v refl, added) (ap (λ l. v ∷ l) (added-last w vs (λ i x e. h (suc i) x e)))

seam : {A : Type 0} (r rest : List A) (x : A) → slice_get (r ++ x ∷ rest) (length r) ≡ Some x
seam [] rest x = refl
seam (y ∷ r) rest x = seam r rest x

-- what stands where a list is cut
at_seam : {A : Type 0} (whole r rest : List A) (x : A) → r ++ x ∷ rest ≡ whole → slice_get whole (length r) ≡ Some x
at_seam whole r rest x e = rw (← e) (seam r rest x)

-- what stands before it
before_seam : {A : Type 0} (whole r rest : List A) (i : ℕ) (v : A) → r ++ rest ≡ whole → slice_get r i ≡ Some v → slice_get whole i ≡ Some v
before_seam whole r rest i v e h = rw (← e) (get-left r rest v i h)

-- the next of the warnings of a report in order
added-next : (whole r rest : List Warning) (w : Warning) → IsAscending whole → r ++ w ∷ rest ≡ whole → added w r ≡ r ++ w ∷ []
added-next whole r rest w ordered e = added-last w r (λ i v h.
    less_in whole ordered i (length r) v w (get_within r i v h) (before_seam whole r (w ∷ rest) i v e h) (at_seam whole r rest w e))

-- and its killers
killers-next : (whole r rest : List Warning) (w : Warning) → KillersAscend whole → r ++ w ∷ rest ≡ whole → Ascend w.killers
killers-next whole r rest w ascend e = ascend (length r) w (at_seam whole r rest w e)

-- a number of a list stands in it
stands : (ns : List ℕ) (s : ℕ) → Contains ns s → (i : ℕ) × (slice_get ns i ≡ Some s)
stands ns s (i, within, is) =
    let found = there ns i within in
    (i, found.1 ∙ ap (λ n. Some n) (sym (get_or-there ns i found.0 s found.1) ∙ is))

not_in : (b : Bool) → (b ≡ true → ⊥) → b ≡ false
not_in true h = absurd (h refl)
not_in false h = refl

-- the set of sites in their order, and the next of them
set-next : (whole rest : List ℕ) (x : ℕ) (k more : Kills) → Ascend whole → sites_in k ++ x ∷ rest ≡ whole → has more x ≡ true
    → ((s : ℕ) → s ≢ x → has more s ≡ has k s) → sites_in more ≡ sites_in k ++ x ∷ []
set-next whole rest x k more ascend e same others = sites_in-last k more x same others (λ s from. not_in (has k s) (λ h.
    let at = stands (sites_in k) s (sites_in-has k s h) in
    let less = ascend at.0 (length (sites_in k)) s x (get_within (sites_in k) at.0 s at.1) (before_seam whole (sites_in k) (x ∷ rest) at.0 s e at.1)
    (at_seam whole (sites_in k) rest x e) in
    absurd (omega arith)))

-- what is left of a list, by its first
next : {A : Type 0} (xs : List A) (i : ℕ) (x : A) → i < length xs → x ≡ get_or xs i x → drop i xs ≡ x ∷ drop (i + 1) xs
next xs i x lt e = rw add-one (drop-cons xs i x lt ∙ ap (λ y. y ∷ drop (suc i) xs) (sym e))

-- a turn of the loop over sites
pub set-step : (sites : List ℕ) (i x : ℕ) (k more : Kills) → Ascend sites → i < length sites → x ≡ get_or sites i x → sites_in k
    ++ drop i sites ≡ sites → has more x ≡ true → ((s : ℕ) → s ≢ x → has more s ≡ has k s) → sites_in more ++ drop (i + 1) sites ≡ sites
set-step sites i x k more ascend lt e so_far same others =
    let whole = ap (λ l. sites_in k ++ l) (sym (next sites i x lt e)) ∙ so_far in
    ap (λ l. l ++ drop (i + 1) sites) (set-next sites (drop (i + 1) sites) x k more ascend whole same others) ∙ append_assoc (sites_in k) (x ∷ [])
    (drop (i + 1) sites) ∙ whole

-- the warnings so far, and the next
whole_report : (names : List (List ℕ)) (ws : List WarningCode) (i : ℕ) (w : WarningCode) (r : List Warning) → i < length ws → w ≡ get_or ws i w → r
    ++ report_of names (drop i ws) ≡ report_of names ws → r ++ warning_of names w ∷ report_of names (drop (i + 1) ws) ≡ report_of names ws
whole_report names ws i w r lt e so_far = ap (λ l. r ++ report_of names l) (sym (next ws i w lt e)) ∙ so_far

-- a turn of the loop over warnings
pub report-step : (names : List (List ℕ)) (ws : List WarningCode) (i : ℕ) (w : WarningCode) (r : List Warning) → IsAscending (report_of names ws)
    → i < length ws → w ≡ get_or ws i w → r ++ report_of names (drop i ws) ≡ report_of names ws → added (warning_of names w) r
    ++ report_of names (drop (i + 1) ws) ≡ report_of names ws
report-step names ws i w r ordered lt e so_far =
    let whole = whole_report names ws i w r lt e so_far in
    let rest = report_of names (drop (i + 1) ws) in
    ap (λ l. l ++ rest) (added-next (report_of names ws) r rest (warning_of names w) ordered whole)
    ∙ append_assoc r (warning_of names w ∷ []) rest ∙ whole

-- the killers of its warning ascend
pub killers-step : (names : List (List ℕ)) (ws : List WarningCode) (i : ℕ) (w : WarningCode) (r : List Warning) → KillersAscend (report_of names ws)
    → i < length ws → w ≡ get_or ws i w → r ++ report_of names (drop i ws) ≡ report_of names ws → Ascend (killers_in w.fault)
killers-step names ws i w r ascend lt e so_far =
    killers-next (report_of names ws) r (report_of names (drop (i + 1) ws)) (warning_of names w) ascend (whole_report names ws i w r lt e so_far)
