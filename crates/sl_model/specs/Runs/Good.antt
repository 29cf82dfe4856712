-- What holds of each memory and each state of a run.
-- Restates ISO/IEC 14882:2017, [container.requirements.general] (max_size()) and [basic.scope]: a name that is in scope stands for
-- something that is there.
-- Chosen here: stamps are never used twice, and so are refers; no function is handed one container twice.
use Rattle.std.specs.Prelude.{◌≡◌, ◌⊎◌, ℕ, ◌<◌, ◌≤◌, List, map, length, Some, slice_get}
use Rattle.sl_base.specs.declared.limits.TheConstants.{ELEMENTS}
use Rattle.sl_model.specs.Memory.Containers.{Cont, Grave, Memory, size, stamps, refers, IsGrave}
use Rattle.sl_model.specs.Runs.State.{State, mark_in}

-- a number stands at index k of the list j of these
abbrev pub Stands : List (List ℕ) → ℕ → ℕ → ℕ → Type 0
Stands lists j k s = (xs : List ℕ) × (slice_get lists j ≡ Some xs) × (slice_get xs k ≡ Some s)

-- No number stands twice in these lists, what stands and what was dropped was used before, and none that was dropped stands anywhere.
pub record AreKeptApart (lists : List (List ℕ)) (graves : List Grave) (fresh : ℕ) : Type 0 where
  pub once : (j k i h s : ℕ) → Stands lists j k s → Stands lists i h s → (j ≡ i) × (k ≡ h)
  pub used : (j k s : ℕ) → Stands lists j k s → s < fresh
  pub dropped : (s site : ℕ) → IsGrave graves s site → s < fresh
  pub dead : (j k s site : ℕ) → Stands lists j k s → IsGrave graves s site → ⊥

-- a stamp stands at index k of container j
pub record IsAt (m : Memory) (j k stamp : ℕ) : Type 0 where
  pub cont : Cont
  pub there : slice_get m.conts j ≡ Some cont
  pub stands : slice_get (stamps cont) k ≡ Some stamp

-- a refer stands at index k of container j
pub record RefersTo (m : Memory) (j k refer : ℕ) : Type 0 where
  pub cont : Cont
  pub there : slice_get m.conts j ≡ Some cont
  pub stands : slice_get (refers cont) k ≡ Some refer

-- the stamps are kept apart, and so are the refers, and no container has too many elements
pub record IsSound (m : Memory) : Type 0 where
  pub stamps_apart : AreKeptApart (map stamps m.conts) m.graves m.fresh
  pub refers_apart : AreKeptApart (map refers m.conts) m.lost m.fresh
  pub small : (j : ℕ) (c : Cont) → slice_get m.conts j ≡ Some c → size c ≤ ELEMENTS

-- what stood in the first lists stands in the later ones, or it was dropped in between, at a site
abbrev pub NoneVanishFrom : List (List ℕ) → ℕ → List (List ℕ) → List Grave → Type 0
NoneVanishFrom lists site later graves =
    (j k s : ℕ) → Stands lists j k s → ((i : ℕ) × (h : ℕ) × Stands later i h s) ⊎ IsGrave graves s site

-- no stamp and no refer of a memory vanishes: each stands in a later one, or was dropped in between, at a site
pub record NoneVanishes (m : Memory) (site : ℕ) (later : Memory) : Type 0 where
  pub stamps_stand : NoneVanishFrom (map stamps m.conts) site (map stamps later.conts) later.graves
  pub refers_stand : NoneVanishFrom (map refers m.conts) site (map refers later.conts) later.lost

-- each of these is below n
abbrev pub AreBelow : List ℕ → ℕ → Type 0
AreBelow locations n = (x at : ℕ) → slice_get locations x ≡ Some at → at < n

-- no location is twice among these
abbrev pub AreApart : List ℕ → Type 0
AreApart locations = (x y at : ℕ) → slice_get locations x ≡ Some at → slice_get locations y ≡ Some at → x ≡ y

-- the memory is sound, each variable in scope is where it is said to be, no two containers in scope are one, and each iterator
-- variable and each reference holds a number that was used
pub record IsGood (s : State) : Type 0 where
  pub sound : IsSound s.memory
  pub scalars : AreBelow s.frame.scalars (length s.scalars)
  pub iters : AreBelow s.frame.iters (length s.iters)
  pub conts : AreBelow s.frame.conts (length s.memory.conts)
  pub apart : AreApart s.frame.conts
  pub held : AreBelow (map mark_in s.iters) s.memory.fresh
