-- Which of several failures counts: of two lists that which counts of each.
use Rattle.std.proofs.Common.{◌≡◌, ℕ, Bool, true, false, List, [], ◌∷◌, ◌++◌, Option, Some, None, refl, ap, sym, ◌∙◌, arith}
use Rattle.std.specs.Bool.{if◌then◌else◌}
use Rattle.sl_model.specs.LibraryCalls.Needs.{first_failure, is_before}
use Rattle.sl_needs.specs.declared.failure.Failure.{Failure}
use Rattle.sl_needs.specs.Failures.{told}
use Rattle.sl_needs.specs.Means.Sooner.{sooner}

-- of three in a row
through : (f g h : ℕ × ℕ) → is_before g f ≡ true → is_before h g ≡ true → is_before h f ≡ true
through f g h a b = grind arith

none_through : (f g h : ℕ × ℕ) → is_before g f ≡ false → is_before h g ≡ false → is_before h f ≡ false
none_through f g h a b = grind arith

-- the one that counts, by which is before the other
sooner_at : (f g : ℕ × ℕ) (b : Bool) → is_before g f ≡ b → sooner (Some f) (Some g) ≡ (if b then Some g else Some f)
sooner_at f g b e = ap (λ (x : Bool). let o : Option (ℕ × ℕ) = if x then Some g else Some f in o) e

-- none comes behind
behind_none : (f g : ℕ × ℕ) (b : Bool) → sooner (if b then Some g else Some f) None ≡ (if b then Some g else Some f)
behind_none f g true = refl
behind_none f g false = refl

-- of three
of_three : (f g h : ℕ × ℕ) (b d : Bool) → is_before g f ≡ b → is_before h g ≡ d
    → sooner (if b then Some g else Some f) (Some h) ≡ sooner (Some f) (if d then Some h else Some g)
of_three f g h true true p q = sooner_at g h true q ∙ sym (sooner_at f h true (through f g h p q))
of_three f g h true false p q = sooner_at g h false q ∙ sym (sooner_at f g true p)
of_three f g h false true p q = refl
of_three f g h false false p q = sooner_at f h false (none_through f g h p q) ∙ sym (sooner_at f g false p)

-- it doesn't matter in which order they are put together
pub sooner_assoc : (a b c : Option (ℕ × ℕ)) → sooner (sooner a b) c ≡ sooner a (sooner b c)
sooner_assoc None b c = refl
sooner_assoc (Some f) None c = refl
sooner_assoc (Some f) (Some g) None = behind_none f g (is_before g f)
sooner_assoc (Some f) (Some g) (Some h) = of_three f g h (is_before g f) (is_before h g) refl refl

-- a list's first failure counts or one of the others
pub first-cons : (f : ℕ × ℕ) (fs : List (ℕ × ℕ)) → first_failure (f ∷ fs) ≡ sooner (Some f) (first_failure fs)
first-cons f fs = by_rest (first_failure fs)
  where
    by_rest : (o : Option (ℕ × ℕ)) → (elim o as (λ _. Option (ℕ × ℕ)) [ None ↦ Some f | Some g ↦ sooner (Some f) (Some g) ]) ≡ sooner (Some f) o
    by_rest None = refl
    by_rest (Some g) = refl

-- of two lists
pub first-both : (fs gs : List (ℕ × ℕ)) → first_failure (fs ++ gs) ≡ sooner (first_failure fs) (first_failure gs)
first-both [] gs = refl
first-both (f ∷ fs) gs = first-cons f (fs ++ gs) ∙ (ap (sooner (Some f)) (first-both fs gs)
    ∙ (sym (sooner_assoc (Some f) (first_failure fs) (first_failure gs)) ∙ ap (λ o. sooner o (first_failure gs)) (sym (first-cons f fs))))

-- what two calls tell is what counts of both their lists
pub both_told : (a b r : Option Failure) (fs gs : List (ℕ × ℕ)) → told r ≡ sooner (told a) (told b) → told a ≡ first_failure fs
    → told b ≡ first_failure gs → told r ≡ first_failure (fs ++ gs)
both_told a b r fs gs e first second = e ∙ (ap (λ o. sooner o (told b)) first ∙ (ap (sooner (first_failure fs)) second ∙ sym (first-both fs gs)))
