-- That bytes hold one list, or are bad at one offset, and never both.
use Rattle.std.specs.Prelude.{◌≡◌, ◌⊎◌, ℕ, List, Option}
use Rattle.sl_model.specs.Reports.Lists.{ListOf, BadAt}

-- for each of all bytes, where `number` says which number a word is
pub record IsDecided {A : Type 0} (number : List ℕ → Option A) : Type 0 where
  pub either : (bytes : List ℕ) → ((numbers : List A) × ListOf number bytes numbers) ⊎ ((offset : ℕ) × BadAt number bytes offset)
  pub one_list : (bytes : List ℕ) (xs ys : List A) → ListOf number bytes xs → ListOf number bytes ys → xs ≡ ys
  pub one_offset : (bytes : List ℕ) (i j : ℕ) → BadAt number bytes i → BadAt number bytes j → i ≡ j
  pub not_both : (bytes : List ℕ) (numbers : List A) (offset : ℕ) → ListOf number bytes numbers → BadAt number bytes offset → ⊥
