-- What files tell where no read failed, or none was made.
use Rattle.std.proofs.Common.{ℕ, List, [], Option, arith, refl}
use Rattle.std.proofs.KnownBytes.{Consumes-nil}
use Rattle.sl_base.specs.Outside.{NoFault, IsReadInPart}

pub NoFault-same : (count : ℕ) (blamed : List ℕ → Type 0) → NoFault count count blamed blamed
NoFault-same count blamed = record { count = refl; blame = λ name. (λ h. h, λ h. h) }

pub IsReadInPart-none : (limit : ℕ) (left : Option (List ℕ)) → IsReadInPart limit left left
IsReadInPart-none limit left = ([], omega arith, Consumes-nil left)
