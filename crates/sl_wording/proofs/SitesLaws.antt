-- The text of sites, of which there is a first one.
use Rattle.std.proofs.Common.{arith, ◌≡◌, ◌≤◌, ◌-◌, ℕ, suc, List, [], ◌∷◌, ◌++◌, length, get_or, take, drop, refl, sym}
use Rattle.std.specs.Prelude.{codes}
use Rattle.std.proofs.Math.Seq.{take_all}
use Rattle.sl_base.specs.declared.place.Place.{Place}
use Rattle.sl_model.specs.Reports.Texts.{site_text, further_sites, sites_text}

-- the text of sites, of which there is a first one
pub sites_text-first : (sites : List Place) (killers : List ℕ) (first : ℕ) → 1 ≤ length killers → first ≡ get_or killers 0 first
    → sites_text sites killers ≡ codes ", invalidated at "
    ++ (site_text sites first ++ further_sites sites (take (length killers - 1) (drop 1 killers)))
sites_text-first sites [] first h e = absurd (omega arith)
sites_text-first sites (k ∷ ks) first h e =
    let all : take (suc (length ks) - 1) ks ≡ ks = take_all (suc (length ks) - 1) ks (omega arith) in
    rw (all, sym e) refl
