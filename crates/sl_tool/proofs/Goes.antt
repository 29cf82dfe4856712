-- Where a statement goes: on to a state that is described, or to an end that is told.
use Rattle.std.proofs.Common.{arith, ◌≡◌, ℕ, zero, suc, Bool, true, if◌then◌else◌, List, [], ◌∷◌, ◌++◌, length, ◌+◌, Some, ap, ◌∙◌}
use Rattle.std.specs.Prelude.{slice_get}
use Rattle.std.proofs.lemmas.List.{map-append}
use Rattle.sl_model.specs.Runs.Ends.{Trap, End, Done, Trapped, OutOfSteps, Language, Thrown, NoMeaning}
use Rattle.sl_model.specs.Runs.State.{State}
use Rattle.sl_model.specs.Runs.Exec.{Flow, Next, Broke, Continued, Returned, Over, Meaning, tick, and_then}
use Rattle.sl_model.specs.Reports.Covers.{Covers}
use Rattle.sl_tool.specs.declared.analysis.Warning.{Warning}
use Rattle.sl_tool.specs.Means.Analysis.{Known}
use Rattle.sl_tool.specs.Means.Told.{report_of}
use Rattle.sl_tool.proofs.Describes.{Describes}

-- an end is told by these warnings, and is none without a meaning
abbrev pub IsTold : List (List ℕ) → List Warning → End → Type 0
IsTold names ws (Trapped t) = Covers names (report_of names ws) t
IsTold names ws (NoMeaning place) = ⊥
IsTold names ws end = Unit {0}

-- a run goes on behind a statement only if it may, and what is known next describes its state then; each end is told
abbrev pub Goes : List (List ℕ) → Known → Bool → List Warning → Flow → Type 0
Goes names k may ws (Next s) = (may ≡ true) × Describes k s.memory s.frame s.iters
Goes names k may ws (Over e s) = IsTold names ws e
Goes names k may ws (Broke s) = Unit {0}
Goes names k may ws (Continued s) = Unit {0}
Goes names k may ws (Returned v s) = Unit {0}

-- each end is told
abbrev pub EndsTold : List (List ℕ) → List Warning → Flow → Type 0
EndsTold names ws (Over e s) = IsTold names ws e
EndsTold names ws flow = Unit {0}

-- a step is taken, or the run is out of steps
pub ticked : (names : List (List ℕ)) (k : Known) (may : Bool) (ws : List Warning) (go : Meaning) (s : State)
    → ((n : ℕ) → Goes names k may ws (go (record s { steps = n }))) → Goes names k may ws (tick go s)
ticked names k may ws go s next =
    elim s.steps as (λ n. Goes names k may ws (elim n as (λ _. Flow) [ zero ↦ Over OutOfSteps s | suc m ↦ go (record s { steps = m }) ]))
    [ zero ↦ tt | suc n ↦ next n ]

pub get-left : {A : Type 0} (xs ys : List A) (x : A) (i : ℕ) → slice_get xs i ≡ Some x → slice_get (xs ++ ys) i ≡ Some x
get-left [] ys x i h = absurd cc
get-left (z ∷ xs) ys x zero h = h
get-left (z ∷ xs) ys x (suc i) h = get-left xs ys x i h

get-right : {A : Type 0} (xs ys : List A) (i : ℕ) → slice_get (xs ++ ys) (length xs + i) ≡ slice_get ys i
get-right [] ys i = ap (slice_get ys) (let e : 0 + i ≡ i = omega arith in e)
get-right (z ∷ xs) ys i = ap (slice_get (z ∷ (xs ++ ys))) (let e : suc (length xs) + i ≡ suc (length xs + i) = omega arith in e) ∙ get-right xs ys i

-- what the first part or the second part of a report covers the report covers
pub Covers-left : (names : List (List ℕ)) (ws vs : List Warning) (t : Trap) → Covers names (report_of names ws) t
    → Covers names (report_of names (ws ++ vs)) t
Covers-left names ws vs t h = record {
  index = h.index;
  warning = h.warning;
  there = rw map-append (get-left (report_of names ws) (report_of names vs) h.warning h.index h.there);
  tells = h.tells;
}

pub Covers-right : (names : List (List ℕ)) (ws vs : List Warning) (t : Trap) → Covers names (report_of names vs) t
    → Covers names (report_of names (ws ++ vs)) t
Covers-right names ws vs t h = record {
  index = length (report_of names ws) + h.index;
  warning = h.warning;
  there = rw map-append (get-right (report_of names ws) (report_of names vs) h.index ∙ h.there);
  tells = h.tells;
}

pub IsTold-left : (names : List (List ℕ)) (ws vs : List Warning) (e : End) → IsTold names ws e → IsTold names (ws ++ vs) e
IsTold-left names ws vs (Done z) h = tt
IsTold-left names ws vs (Trapped t) h = Covers-left names ws vs t h
IsTold-left names ws vs OutOfSteps h = tt
IsTold-left names ws vs (Language p w) h = tt
IsTold-left names ws vs (Thrown p) h = tt
IsTold-left names ws vs (NoMeaning p) h = h

pub IsTold-right : (names : List (List ℕ)) (ws vs : List Warning) (e : End) → IsTold names vs e → IsTold names (ws ++ vs) e
IsTold-right names ws vs (Done z) h = tt
IsTold-right names ws vs (Trapped t) h = Covers-right names ws vs t h
IsTold-right names ws vs OutOfSteps h = tt
IsTold-right names ws vs (Language p w) h = tt
IsTold-right names ws vs (Thrown p) h = tt
IsTold-right names ws vs (NoMeaning p) h = h

EndsTold-right : (names : List (List ℕ)) (ws vs : List Warning) (flow : Flow) → EndsTold names vs flow → EndsTold names (ws ++ vs) flow
EndsTold-right names ws vs (Next s) h = tt
EndsTold-right names ws vs (Broke s) h = tt
EndsTold-right names ws vs (Continued s) h = tt
EndsTold-right names ws vs (Returned v s) h = tt
EndsTold-right names ws vs (Over e s) h = IsTold-right names ws vs e h

-- one statement and then others
pub goes-on : (names : List (List ℕ)) (k : Known) (may : Bool) (ws vs : List Warning) (flow : Flow) (rest : Meaning) → Goes names k may ws flow
    → ((s : State) → Describes k s.memory s.frame s.iters → EndsTold names vs (rest s)) → EndsTold names (ws ++ (if may then vs else []))
    (and_then flow rest)
goes-on names k may ws vs (Next s) rest h go = rw h.0 (EndsTold-right names ws vs (rest s) (go s h.1))
goes-on names k may ws vs (Broke s) rest h go = tt
goes-on names k may ws vs (Continued s) rest h go = tt
goes-on names k may ws vs (Returned v s) rest h go = tt
goes-on names k may ws vs (Over e s) rest h go = IsTold-left names ws (if may then vs else []) e h
