-- Texts that no run makes fail, and reports that tell of every failure.
-- A failure is a need of ISO/IEC 14882:2017 on a call of the library that doesn't hold ([structure.specifications] and [res.on.required]).
-- Chosen here: which numbers input and a schedule can hold, and what a warning tells. The killers of a warning are the
-- numbers of sites, in ascending order.
use Rattle.std.specs.Prelude.{◌≡◌, ◌≢◌, ℕ, ◌<◌, ◌^◌, true, List, ℤ, Option, Some, All, Contains}
use Rattle.std.specs.Option.{option_and_then}
use Rattle.std.specs.Prelude.{slice_get}
use Rattle.sl_base.specs.declared.scalar.Scalar.TheVariants as t
use Rattle.sl_base.specs.declared.place.Place.{Place}
use Rattle.sl_model.specs.Numbers.{fits}
use Rattle.sl_syntax.specs.Typed.{Typed}
use Rattle.sl_model.specs.Runs.Ends.{Trapped, Trap, NoMeaning}
use Rattle.sl_model.specs.Runs.Run.{run}

-- a list that standard input can hold
abbrev pub IsInput : List ℤ → Type 0
IsInput zs = All (λ z. fits t.Int z ≡ true) zs

-- a list that can be a schedule
abbrev pub IsSchedule : List ℕ → Type 0
IsSchedule ps = All (λ p. p < 2 ^ 32) ps

-- some run of the text ends in this trap
pub record CanTrap (p : Typed) (t : Trap) : Type 0 where
  pub input : List ℤ
  pub picks : List ℕ
  pub steps : ℕ
  pub is_input : IsInput input
  pub is_schedule : IsSchedule picks
  pub traps : (run p input picks steps).end ≡ Trapped t

-- no run ends in a trap
abbrev pub Safe : Typed → Type 0
Safe p = (t : Trap) → ¬ CanTrap p t

-- a warning of a report, with the name itself and the sites that may have killed
pub record Warning : Type 0 where
  pub place : Place
  pub kind : ℕ
  pub call : List ℕ
  pub argument : ℕ
  pub name : Option (List ℕ)
  pub killers : List ℕ

-- the name that a number stands for
abbrev pub named : List (List ℕ) → Option ℕ → Option (List ℕ)
named names n = option_and_then (slice_get names) n

-- a warning tells of a trap: the same place, kind, call, argument and name, and the trap's killer, where it has one
pub record Tells (names : List (List ℕ)) (w : Warning) (t : Trap) : Type 0 where
  pub place : w.place ≡ t.place
  pub kind : w.kind ≡ t.kind
  pub call : w.call ≡ t.call
  pub argument : w.argument ≡ t.argument
  pub name : w.name ≡ named names t.name
  pub killer : (site : ℕ) → t.killer ≡ Some site → Contains w.killers site

-- some warning of the report tells of the trap
pub record Covers (names : List (List ℕ)) (r : List Warning) (t : Trap) : Type 0 where
  pub index : ℕ
  pub warning : Warning
  pub there : slice_get r index ≡ Some warning
  pub tells : Tells names warning t

-- the report covers every trap that a run of the text can end in
abbrev pub Reports : Typed → List Warning → Type 0
Reports p r = (t : Trap) → CanTrap p t → Covers p.names r t

-- no run meets what has no meaning, as a call whose operands are none of its row's
abbrev pub HasMeaning : Typed → Type 0
HasMeaning p = (input : List ℤ) (picks : List ℕ) (steps : ℕ) (place : Place) → (run p input picks steps).end ≢ NoMeaning place
