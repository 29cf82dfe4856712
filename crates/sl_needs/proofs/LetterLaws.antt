-- Where the ranges of letters begin, and how they fail one after another.
use Rattle.std.proofs.Common.{◌≡◌, ℕ, suc, ◌+◌, ◌<◌, List, [], ◌∷◌, ◌++◌, length, drop, get_or, Option, refl, ap, sym, ◌∙◌, drop-cons, add-one, if◌then◌else◌}
use Rattle.sl_specs.specs.declared.letter.Letter.{Letter}
use Rattle.sl_specs.specs.declared.letter.Letter.TheVariants as a
use Rattle.sl_model.specs.LibraryCalls.Operands.{ranges_from}
use Rattle.sl_model.specs.LibraryCalls.Needs.{each_range, first_failure}
use Rattle.sl_needs.specs.declared.failure.Failure.{Failure}
use Rattle.sl_needs.specs.Failures.{told}
use Rattle.sl_needs.specs.Means.Sooner.{sooner}
use Rattle.sl_needs.specs.Means.Letters.{takes_range, arguments_of}
use Rattle.sl_needs.proofs.Counting.{first-both, sooner_assoc}

-- the failures of the first letter's range, and those of the others
each-cons : (fails : ℕ → List (ℕ × ℕ)) (n : ℕ) (x : Letter) (xs : List Letter) → each_range fails (ranges_from n (x ∷ xs))
    ≡ (if takes_range x then fails n else []) ++ each_range fails (ranges_from (n + arguments_of x) xs)
each-cons fails n a.Position xs = refl
each-cons fails n a.SplicedPosition xs = refl
each-cons fails n a.OwnRange xs = refl
each-cons fails n a.IntRange xs = refl
each-cons fails n a.SecondIntRange xs = refl
each-cons fails n a.WrittenRange xs = refl
each-cons fails n a.RandomAccessRange xs = refl
each-cons fails n a.AnyRange xs = refl
each-cons fails n a.Count xs = refl
each-cons fails n a.Element xs = refl
each-cons fails n a.Key xs = refl
each-cons fails n a.InitializerList xs = refl
each-cons fails n a.Container xs = refl
each-cons fails n a.ChangedContainer xs = refl
each-cons fails n a.AppendedContainer xs = refl
each-cons fails n a.Int xs = refl
each-cons fails n a.Output xs = refl
each-cons fails n a.IteratorVariable xs = refl
each-cons fails n a.Iterator xs = refl
each-cons fails n a.BidirectionalIterator xs = refl
each-cons fails n a.Distance xs = refl
each-cons fails n a.OptionalDistance xs = refl

-- one letter more
pub one_letter : (fails : ℕ → List (ℕ × ℕ)) (letters : List Letter) (i n width : ℕ) (d : Letter) (total : Option (ℕ × ℕ)) (old r new : Option Failure)
    → i < length letters → width ≡ arguments_of (get_or letters i d)
    → told r ≡ first_failure (if takes_range (get_or letters i d) then fails n else [])
    → told new ≡ sooner (told old) (told r)
    → total ≡ sooner (told old) (first_failure (each_range fails (ranges_from n (drop i letters))))
    → total ≡ sooner (told new) (first_failure (each_range fails (ranges_from (n + width) (drop (i + 1) letters))))
one_letter fails letters i n width d total old r new low wide here next so_far =
    let x = get_or letters i d in
    let rest : Option (ℕ × ℕ) = first_failure (each_range fails (ranges_from (n + arguments_of x) (drop (suc i) letters))) in
    let here_fails : List (ℕ × ℕ) = if takes_range x then fails n else [] in
    so_far ∙ (ap (λ (l : List Letter). sooner (told old) (first_failure (each_range fails (ranges_from n l)))) (drop-cons letters i d low)
    ∙ (ap (λ (l : List (ℕ × ℕ)). sooner (told old) (first_failure l)) (each-cons fails n x (drop (suc i) letters))
    ∙ (ap (sooner (told old)) (first-both here_fails (each_range fails (ranges_from (n + arguments_of x) (drop (suc i) letters))))
    ∙ (sym (sooner_assoc (told old) (first_failure here_fails) rest)
    ∙ (ap (λ (o : Option (ℕ × ℕ)). sooner (sooner (told old) o) rest) (sym here)
    ∙ (ap (λ (o : Option (ℕ × ℕ)). sooner o rest) (sym next)
    ∙ (ap (λ (w : ℕ). sooner (told new) (first_failure (each_range fails (ranges_from (n + w) (drop (suc i) letters))))) (sym wide)
    ∙ ap (λ (k : ℕ). sooner (told new) (first_failure (each_range fails (ranges_from (n + width) (drop k letters))))) (sym (add-one i)))))))))
