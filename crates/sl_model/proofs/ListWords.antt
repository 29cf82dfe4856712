-- Words of lists: what some bytes more make a number, a 0 makes one too.
use Rattle.std.proofs.Common.{◌≡◌, ℕ, zero, suc, leb, ◌≤◌, ◌<◌, ◌==◌, Bool, true, false, ◌&&◌, if◌then◌else◌, List, [], ◌∷◌, ◌++◌, length}
use Rattle.std.proofs.Common.{Option, Some, None}
use Rattle.std.proofs.Common.{is_some, option_map, ℤ, pos, neg_ℤ, refl, sym, ◌∙◌, subst, arith, ◌⊎◌, inl, inr, nat_lt}
use Rattle.std.specs.List.{list_all}
use Rattle.std.specs.Str.Parse.{digits_value}
use Rattle.std.proofs.Math.Seq.{take-append_seam}
use Rattle.std.proofs.lemmas.Bool.{ltb-true, lt-ltb, leb-true, le-leb}
use Rattle.std.proofs.lemmas.List.Folds.{list_all-append}
use Rattle.std.proofs.lemmas.Str.Parse.{digits_value-take-le}
use Rattle.sl_base.specs.Bytes.{is_digit}
use Rattle.sl_base.specs.declared.scalar.Scalar.TheVariants as t
use Rattle.sl_model.specs.Numbers.{fits}
use Rattle.sl_model.specs.Reports.Lists.{natural_of, passing, int_of, pick_of}
use Rattle.sl_model.proofs.Passing.{first_of_both}

-- what some bytes more make a number is one, or a 0 makes it one
abbrev pub Completes : {A : Type 0} → (List ℕ → Option A) → Type 0
Completes number = (b : ℕ) (w x : List ℕ) → is_some (number ((b ∷ w) ++ x)) ≡ true
    → (is_some (number (b ∷ w)) ≡ true) ⊎ (is_some (number ((b ∷ w) ++ 48 ∷ [])) ≡ true)

-- a test holds of each smaller number
abbrev Falls : (ℕ → Bool) → Type 0
Falls test = (m n : ℕ) → m ≤ n → test n ≡ true → test m ≡ true

and_true : (a : Bool) → a ≡ true → (a && true) ≡ true
and_true true e = refl
and_true false e = e

if_some : {A : Type 0} (c : Bool) (x : A) → is_some (if c then Some x else None) ≡ true → c ≡ true
if_some true x h = refl
if_some false x h = h

some_if : {A : Type 0} (c : Bool) (x : A) → c ≡ true → is_some (if c then Some x else None) ≡ true
some_if true x e = refl
some_if false x e = e

-- what passed is digits, and its number passes
passed : (test : ℕ → Bool) (c : Bool) (n : ℕ) → is_some (passing test (if c then Some n else None)) ≡ true → (c ≡ true) × (test n ≡ true)
passed test true n h = (refl, if_some (test n) n h)
passed test false n h = absurd (cc)

passes : (test : ℕ → Bool) (c : Bool) (n : ℕ) → c ≡ true → test n ≡ true → is_some (passing test (if c then Some n else None)) ≡ true
passes test true n e h = some_if (test n) n h
passes test false n e h = e

front_digits : (w x : List ℕ) → list_all is_digit (w ++ x) ≡ true → list_all is_digit w ≡ true
front_digits w x h = first_of_both (list_all is_digit w) (list_all is_digit x) (sym (list_all-append is_digit w x) ∙ h)

-- digits behind others make a number no smaller
front_value : (w x : List ℕ) → digits_value 10 w ≤ digits_value 10 (w ++ x)
front_value w x =
    subst (λ (front : List ℕ). digits_value 10 front ≤ digits_value 10 (w ++ x)) (take-append_seam w x)
    (digits_value-take-le 10 (w ++ x) (length w) (omega arith))

-- the front of digits whose number passes is digits whose number passes
shorter : (test : ℕ → Bool) → Falls test → (b : ℕ) (w x : List ℕ) → is_some (passing test (natural_of ((b ∷ w) ++ x))) ≡ true
    → is_some (passing test (natural_of (b ∷ w))) ≡ true
shorter test falls b w x h =
    let r : (list_all is_digit ((b ∷ w) ++ x) ≡ true) × (test (digits_value 10 ((b ∷ w) ++ x)) ≡ true)
    = passed test (list_all is_digit ((b ∷ w) ++ x)) (digits_value 10 ((b ∷ w) ++ x)) h in
    passes test (list_all is_digit (b ∷ w)) (digits_value 10 (b ∷ w)) (front_digits (b ∷ w) x r.0)
    (falls (digits_value 10 (b ∷ w)) (digits_value 10 ((b ∷ w) ++ x)) (front_value (b ∷ w) x) r.1)

-- words of a schedule
pub picks_complete : Completes pick_of
picks_complete b w x h = inl (shorter (λ n. nat_lt n 4294967296) (λ m n le lt. lt-ltb m 4294967296 (fallen m n le lt)) b w x h)
  where
    fallen : (m n : ℕ) → m ≤ n → nat_lt n 4294967296 ≡ true → m < 4294967296
    fallen m n le lt = let r : n < 4294967296 = ltb-true n 4294967296 lt in omega arith

same_some : {A B : Type 0} (c : Bool) (x : A) (y : B) → is_some (if c then Some x else None) ≡ is_some (if c then Some y else None)
same_some true x y = refl
same_some false x y = refl

-- a number that is converted and then passes, passes before
through : (f : ℕ → ℤ) (test : ℤ → Bool) (n : Option ℕ) → is_some (passing test (option_map f n)) ≡ is_some (passing (λ n. test (f n)) n)
through f test None = refl
through f test (Some n) = same_some (test (f n)) (f n) n

shorter_by : (f : ℕ → ℤ) → Falls (λ n. fits t.Int (f n)) → (b : ℕ) (w x : List ℕ)
    → is_some (passing (fits t.Int) (option_map f (natural_of ((b ∷ w) ++ x)))) ≡ true
    → is_some (passing (fits t.Int) (option_map f (natural_of (b ∷ w)))) ≡ true
shorter_by f falls b w x h = through f (fits t.Int) (natural_of (b ∷ w))
    ∙ shorter (λ n. fits t.Int (f n)) falls b w x (sym (through f (fits t.Int) (natural_of ((b ∷ w) ++ x))) ∙ h)

positive_falls : Falls (λ n. fits t.Int (pos n))
positive_falls m n le h = let r : n ≤ 2147483647 = leb-true n 2147483647 h in le-leb m 2147483647 (omega arith)

negative_falls : Falls (λ n. fits t.Int (neg_ℤ (pos n)))
negative_falls zero n le h = refl
negative_falls (suc m) zero le h = absurd (omega arith)
negative_falls (suc m) (suc n) le h =
    let r : n ≤ 2147483647 = leb-true n 2147483647 (first_of_both (leb n 2147483647) true h) in
    and_true (leb m 2147483647) (le-leb m 2147483647 (omega arith))

-- what number a word is, where it is known whether it begins with a `-`
abbrev signed_by : Bool → List ℕ → List ℕ → Option ℤ
signed_by c behind word = if c then option_map (λ n. neg_ℤ (pos n)) (natural_of behind) else option_map pos (natural_of word)

complete_by : (c : Bool) (b : ℕ) (w x : List ℕ) → is_some (passing (fits t.Int) (signed_by c (w ++ x) ((b ∷ w) ++ x))) ≡ true
    → (is_some (passing (fits t.Int) (signed_by c w (b ∷ w))) ≡ true)
    ⊎ (is_some (passing (fits t.Int) (signed_by c (w ++ 48 ∷ []) ((b ∷ w) ++ 48 ∷ []))) ≡ true)
complete_by false b w x h = inl (shorter_by pos positive_falls b w x h)
complete_by true b [] x h = inr refl
complete_by true b (d ∷ w) x h = inl (shorter_by (λ n. neg_ℤ (pos n)) negative_falls d w x h)

-- words of an input
pub ints_complete : Completes int_of
ints_complete b w x h = complete_by (b == 45) b w x h
