-- Names among names, by their bytes.
use Rattle.std.proofs.Common.{◌≡◌, ℕ, ◌<◌, ◌≤◌, ◌⊎◌, inl, inr, List, length, Contains, Option, Some, None, position, unwrap_or, arith}
use Rattle.std.proofs.lemmas.Bool.{cases_lt}
use Rattle.std.proofs.lemmas.Bool.Decides.{nat_tests}
use Rattle.std.proofs.lemmas.List.Sums.{fails_before_first, passes_at_first, prefix_len-le-length}
use Rattle.std.proofs.lemmas.Slice.Eq.{bytes_eq-Decides}
use Rattle.std.specs.Str.{bytes_eq}
use Rattle.sl_tool.specs.Subset.{number_of_name}

-- a name with a number is there
pub known : (names : List (List ℕ)) (name : List ℕ) → number_of_name names name < length names → Contains names name
known names name h = (
  number_of_name names name,
  h,
  (bytes_eq-Decides _ name).0 (passes_at_first (λ n. bytes_eq n name) names name h),
)

-- a name that is there has a number
pub number_below : (names : List (List ℕ)) (name : List ℕ) → Contains names name → number_of_name names name < length names
number_below names name (k, below, same) = before (cases_lt (number_of_name names name) (length names)) where
  before : (number_of_name names name < length names) ⊎ (length names ≤ number_of_name names name) → number_of_name names name < length names
  before (inl h) = h
  before (inr h) =
      let differs = fails_before_first (λ n. bytes_eq n name) names k name (omega arith) in
      let equal = (bytes_eq-Decides _ name).1 same in
      absurd cc

pub number_most : (names : List (List ℕ)) (name : List ℕ) → number_of_name names name ≤ length names
number_most names name = prefix_len-le-length _ names

-- the number of a name, as the first place at which it is found
pub numbered : (names : List (List ℕ)) (name : List ℕ) (o : Option ℕ) → o ≡ position (λ n. bytes_eq n name) names
    → unwrap_or o (length names) ≡ number_of_name names name
numbered names name o e = by_test (cases_lt (number_of_name names name) (length names)) where
  by_test : (number_of_name names name < length names) ⊎ (length names ≤ number_of_name names name)
      → unwrap_or o (length names) ≡ number_of_name names name
  by_test (inl h) = let found : o ≡ Some (number_of_name names name) = grind (arith, nat_tests) in rw found
  by_test (inr h) = let lost : o ≡ None = grind (arith, nat_tests) in rw lost (omega (arith, number_most names name))
