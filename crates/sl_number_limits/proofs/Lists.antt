-- Lists of faults that are empty, and tests that break no rule.
use Rattle.std.proofs.Common.{◌≡◌, ℕ, Bool, true, false, List, [], ◌∷◌, ◌++◌, refl, rules}
use Rattle.sl_base.specs.declared.place.Place.{Place}
use Rattle.sl_typing.specs.declared.fault.Fault.{Fault}
use Rattle.sl_typing.specs.Faults.{broken}

-- lists that are empty together
pub first_empty : (xs ys : List Fault) → xs ++ ys ≡ [] → xs ≡ []
first_empty [] ys e = refl
first_empty (x ∷ xs) ys e = absurd (cc)

pub second_empty : (xs ys : List Fault) → xs ++ ys ≡ [] → ys ≡ []
second_empty [] ys e = e
second_empty (x ∷ xs) ys e = absurd (cc)

-- a rule that isn't broken
pub not_broken : (test : Bool) (at : Place) (rule : ℕ) → broken test at rule ≡ [] → test ≡ false
not_broken true at rule e = absurd (cc)
not_broken false at rule e = refl

-- parts of an empty list are empty
pub ruleset parts = (rules, first_empty, second_empty)
