-- A list or a fault that is told is the only one; and lists of numbers of either sign as those of one kind.
use Rattle.std.proofs.Common.{◌≡◌, ◌⊎◌, inl, inr, ⊎_elim, ℕ, true, List, Option}
use Rattle.std.proofs.Common.{Result, Ok, Err, refl, ap}
use Rattle.std.specs.Prelude.{IfOk, IfErr, IsErrAnd}
use Rattle.sl_model.specs.Reports.Lists.{ListOf, BadAt, is_list}
use Rattle.sl_model.proofs.ListLaws.{one_list, one_offset, bad_is_none, list_is, list_of, list_or_bad}
use Rattle.sl_model.proofs.ListWords.{Completes}
use Rattle.sl_lists.specs.Decided.{IsDecided}
use Rattle.sl_lists.specs.declared.error.ListErr.{ListErr}
use Rattle.sl_lists.specs.declared.error.ListErr.TheVariants.{Memory, Bad}

-- what is told of bytes
abbrev pub Told : {A : Type 0} → (List ℕ → Option A) → List ℕ → Result (List A) ListErr → Type 0
Told number bytes r = IfOk r (ListOf number bytes) × IfErr r (λ e. (offset : ℕ) → e ≡ Bad offset → BadAt number bytes offset)

not_both : {A : Type 0} (number : List ℕ → Option A) → Completes number → (bytes : List ℕ) (numbers : List A) (offset : ℕ)
    → ListOf number bytes numbers
    → BadAt number bytes offset → ⊥
not_both number completes bytes numbers offset l b =
    let yes = list_is number bytes numbers l in let no = bad_is_none number completes bytes offset b in absurd (cc)

-- no other list is held
pub only_list : {A : Type 0} (number : List ℕ → Option A) → Completes number → (bytes : List ℕ) (r : Result (List A) ListErr) → Told number bytes r
    → (numbers : List A) → ListOf number bytes numbers → (r ≡ Ok numbers) ⊎ (r ≡ Err Memory)
only_list number completes bytes (Ok xs) told numbers l = inl (ap (λ ns. Ok ns) (one_list number bytes xs numbers told.0 l))
only_list number completes bytes (Err Memory) told numbers l = inr refl
only_list number completes bytes (Err (Bad offset)) told numbers l = absurd (not_both number completes bytes numbers offset l (told.1 offset refl))

-- the bytes are bad at no other offset
pub only_fault : {A : Type 0} (number : List ℕ → Option A) → Completes number → (bytes : List ℕ) (r : Result (List A) ListErr) → Told number bytes r
    → (offset : ℕ) → BadAt number bytes offset → IsErrAnd r (λ e. (e ≡ Memory) ⊎ (e ≡ Bad offset))
only_fault number completes bytes (Ok xs) told offset b = absurd (not_both number completes bytes xs offset told.0 b)
only_fault number completes bytes (Err Memory) told offset b = inl refl
only_fault number completes bytes (Err (Bad at)) told offset b =
    inr (ap (λ n. Bad n) (one_offset number completes bytes at offset (told.1 at refl) b))

-- bytes hold one list or are bad at one offset
pub decided : {A : Type 0} (number : List ℕ → Option A) → Completes number → IsDecided number
decided number completes = record {
  either = λ bytes. ⊎_elim (λ (h : is_list number bytes ≡ true). inl (list_of number bytes h)) (λ (b : (i : ℕ) × BadAt number bytes i). inr b)
      (list_or_bad number bytes);
  one_list = one_list number;
  one_offset = one_offset number completes;
  not_both = not_both number completes;
}
