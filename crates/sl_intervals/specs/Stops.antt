-- Where a widened end goes.
use Rattle.std.specs.Prelude.{◌≡◌, ◌⊎◌, ℕ, ◌<◌, ℤ, pos, ◌≤ℤ◌, List, length, slice_index_or}
use Rattle.sl_base.specs.declared.scalar.Scalar.{Scalar}
use Rattle.sl_model.specs.Numbers.{lowest, highest}

-- a number of the type stands at this place of the list
pub record IsOfType (ty : Scalar) (numbers : List ℤ) (k : ℕ) : Type 0 where
  pub inside : k < length numbers
  pub low : lowest ty ≤ℤ slice_index_or numbers k (pos 0)
  pub high : slice_index_or numbers k (pos 0) ≤ℤ highest ty

-- one of the numbers of the type in this list is z
abbrev pub IsOneOf : Scalar → List ℤ → ℤ → Type 0
IsOneOf ty numbers z = (k : ℕ) × IsOfType ty numbers k × (slice_index_or numbers k (pos 0) ≡ z)

-- e is the least of these numbers of the type that isn't below z, and where there is none the type's greatest number
pub record IsStopAbove (ty : Scalar) (numbers : List ℤ) (z e : ℤ) : Type 0 where
  pub above : z ≤ℤ e
  pub within : e ≤ℤ highest ty
  pub one : IsOneOf ty numbers e ⊎ (e ≡ highest ty)
  pub least : (k : ℕ) → IsOfType ty numbers k → z ≤ℤ slice_index_or numbers k (pos 0) → e ≤ℤ slice_index_or numbers k (pos 0)

-- e is the greatest of these numbers of the type that isn't above z, and where there is none the type's least number
pub record IsStopBelow (ty : Scalar) (numbers : List ℤ) (z e : ℤ) : Type 0 where
  pub below : e ≤ℤ z
  pub within : lowest ty ≤ℤ e
  pub one : IsOneOf ty numbers e ⊎ (e ≡ lowest ty)
  pub greatest : (k : ℕ) → IsOfType ty numbers k → slice_index_or numbers k (pos 0) ≤ℤ z → slice_index_or numbers k (pos 0) ≤ℤ e
