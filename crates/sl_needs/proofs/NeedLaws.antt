-- The failures of the needs of a row, one need after the other.
use Rattle.std.proofs.Common.{◌≡◌, ℕ, suc, ◌+◌, ◌<◌, ◌≤◌, Bool, List, [], ◌∷◌, ◌++◌, length, drop, get_or, Option, Some, None, refl, ap, sym, ◌∙◌, drop-cons, add-one}
use Rattle.std.proofs.lemmas.List.{drop_all}
use Rattle.sl_base.specs.declared.form.Form.{Form}
use Rattle.sl_specs.specs.Rows.{Row}
use Rattle.sl_specs.specs.declared.need.Need.{Need}
use Rattle.sl_model.specs.LibraryCalls.Situation.{Situation}
use Rattle.sl_model.specs.LibraryCalls.Needs.{failures, all_failures, first_failure}
use Rattle.sl_model.specs.LibraryCalls.Rows.{meaning_of}
use Rattle.sl_needs.specs.declared.failure.Failure.{Failure}
use Rattle.sl_needs.specs.Failures.{told}
use Rattle.sl_needs.specs.Means.Sooner.{sooner}
use Rattle.sl_needs.proofs.Counting.{first-both, sooner_assoc}

-- of one need that is another
pub of_need : (row : Row) (s : Situation) (n n' : Need) (f : Option Failure) → n ≡ n' → told f ≡ first_failure (failures row s n')
    → told f ≡ first_failure (failures row s n)
of_need row s n n' f e t = t ∙ ap (λ (x : Need). first_failure (failures row s x)) (sym e)

-- one need more
pub one_need : (row : Row) (needs : List Need) (s : Situation) (i : ℕ) (d : Need) (total : Option (ℕ × ℕ)) (old r new : Option Failure)
    → i < length needs → told r ≡ first_failure (failures row s (get_or needs i d)) → told new ≡ sooner (told old) (told r)
    → total ≡ sooner (told old) (first_failure (all_failures row (drop i needs) s))
    → total ≡ sooner (told new) (first_failure (all_failures row (drop (i + 1) needs) s))
one_need row needs s i d total old r new low here next so_far =
    let n = get_or needs i d in
    let rest : Option (ℕ × ℕ) = first_failure (all_failures row (drop (suc i) needs) s) in
    so_far ∙ (ap (λ (l : List Need). sooner (told old) (first_failure (all_failures row l s))) (drop-cons needs i d low)
    ∙ (ap (sooner (told old)) (first-both (failures row s n) (all_failures row (drop (suc i) needs) s))
    ∙ (sym (sooner_assoc (told old) (first_failure (failures row s n)) rest)
    ∙ (ap (λ (o : Option (ℕ × ℕ)). sooner (sooner (told old) o) rest) (sym here)
    ∙ (ap (λ (o : Option (ℕ × ℕ)). sooner o rest) (sym next)
    ∙ ap (λ (k : ℕ). sooner (told new) (first_failure (all_failures row (drop k needs) s))) (sym (add-one i)))))))

-- none comes behind
none_behind : (o : Option (ℕ × ℕ)) → sooner o None ≡ o
none_behind None = refl
none_behind (Some f) = refl

-- no need is left
pub all_told : (row : Row) (needs : List Need) (s : Situation) (i : ℕ) (total : Option (ℕ × ℕ)) (old : Option Failure) → length needs ≤ i
    → total ≡ sooner (told old) (first_failure (all_failures row (drop i needs) s)) → told old ≡ total
all_told row needs s i total old high so_far = sym (so_far
    ∙ (ap (λ (l : List Need). sooner (told old) (first_failure (all_failures row l s))) (drop_all i needs high) ∙ none_behind (told old)))

-- what a row means fails where its needs do
pub needs_of : (appends : Bool) (r : Row) (s : Situation) → (meaning_of appends r).fails s ≡ all_failures r r.needs s
needs_of appends r s = by_form r.form
  where
    by_form : (form : Option Form) → (meaning_of appends (record r { form = form })).fails s ≡ all_failures r r.needs s
    by_form None = refl
    by_form (Some form) = refl
