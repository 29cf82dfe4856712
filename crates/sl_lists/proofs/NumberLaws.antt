-- Which words are numbers of a list, and which are none and can't become one.
use Rattle.std.proofs.Common.{◌≡◌, ℕ, zero, suc, leb, ◌+◌, ◌-◌, ◌*◌, ◌≤◌, ◌<◌, ◌==◌, nat_lt, nat_le, Bool, true, false, ◌&&◌, if◌then◌else◌}
use Rattle.std.proofs.Common.{List, [], ◌∷◌, ◌++◌, drop, Option, Some, None, option_map, ℤ, pos, neg_ℤ, refl, ap, sym, ◌∙◌, subst, arith}
use Rattle.std.specs.List.{list_all}
use Rattle.std.specs.Str.Parse.{digits_value}
use Rattle.std.specs.Char.{digit_value}
use Rattle.std.proofs.lemmas.Bool.{and_from, false_from_ne_true, cond-true, cond-false, eqb-true, leb-true, leb-false, le-leb, lt-ltb, ltb-true}
use Rattle.std.proofs.lemmas.Int.Digits.{digits_value_push}
use Rattle.std.proofs.lemmas.List.Folds.{list_all-append}
use Rattle.std.proofs.lemmas.Str.{digit_value_digit}
use Rattle.sl_base.specs.Bytes.{is_digit, begins}
use Rattle.sl_base.specs.declared.scalar.Scalar.TheVariants as t
use Rattle.sl_model.specs.Numbers.{fits}
use Rattle.sl_model.specs.Reports.Lists.{is_filled, passing, natural_of}
use Rattle.sl_model.proofs.Passing.{first_of_both, second_of_both}
use Rattle.sl_lists.specs.declared.kind.Kind.{Kind}
use Rattle.sl_lists.specs.declared.kind.Kind.TheVariants as k
use Rattle.sl_lists.specs.declared.word.Word.{Word}
use Rattle.sl_lists.specs.declared.word.Word.TheVariants as w
use Rattle.sl_lists.specs.Means.Numbers.{number_in}
use Rattle.sl_lists.specs.Means.Steps.{is_signed, greatest, signed, digit_after, digits_of}
use Rattle.sl_lists.proofs.Standing.{with_sign, AreDigits}

some_through : (test : ℤ → Bool) (f : ℕ → ℤ) (c : Bool) (n : ℕ) → c ≡ true → test (f n) ≡ true
    → passing test (option_map f (if c then Some n else None)) ≡ Some (f n)
some_through test f true n e h = cond-true (test (f n)) (Some (f n)) None h
some_through test f false n e h = absurd (cc)

none_through : (test : ℤ → Bool) (f : ℕ → ℤ) (c : Bool) (n : ℕ) → (c ≡ true → test (f n) ≡ false)
    → passing test (option_map f (if c then Some n else None)) ≡ None
none_through test f true n h = cond-false (test (f n)) (Some (f n)) None (h refl)
none_through test f false n h = refl

-- what a test of picks lets pass
abbrev is_pick : ℕ → Bool
is_pick n = nat_lt n 4294967296

some_pick : (c : Bool) (n : ℕ) → c ≡ true → is_pick n ≡ true → option_map pos (passing is_pick (if c then Some n else None)) ≡ Some (pos n)
some_pick true n e h = ap (λ t. option_map pos (if t then Some n else None)) h
some_pick false n e h = absurd (cc)

none_pick : (c : Bool) (n : ℕ) → (c ≡ true → is_pick n ≡ false) → option_map pos (passing is_pick (if c then Some n else None)) ≡ None
none_pick true n h = ap (λ t. option_map pos (if t then Some n else None)) (h refl)
none_pick false n h = refl

and_true : (a : Bool) → a ≡ true → (a && true) ≡ true
and_true true e = refl
and_true false e = e

fits_below : (n : ℕ) → n ≤ 2147483648 → fits t.Int (neg_ℤ (pos n)) ≡ true
fits_below zero h = refl
fits_below (suc n) h = and_true (leb n 2147483647) (le-leb n 2147483647 (omega arith))

unfit_below : (n : ℕ) → 2147483648 < n → fits t.Int (neg_ℤ (pos n)) ≡ false
unfit_below zero h = absurd (omega arith)
unfit_below (suc n) h = false_from_ne_true (fits t.Int (neg_ℤ (pos (suc n)))) (λ e. below n h e)
  where
    below : (n : ℕ) → 2147483648 < suc n → (leb n 2147483647 && true) ≡ true → ⊥
    below n h e = let r : n ≤ 2147483647 = leb-true n 2147483647 (first_of_both (leb n 2147483647) true e) in omega arith

fits_above : (n : ℕ) → n ≤ 2147483647 → fits t.Int (pos n) ≡ true
fits_above n h = le-leb n 2147483647 h

unfit_above : (n : ℕ) → 2147483647 < n → fits t.Int (pos n) ≡ false
unfit_above n h =
    false_from_ne_true (fits t.Int (pos n)) (λ (e : leb n 2147483647 ≡ true). let r : n ≤ 2147483647 = leb-true n 2147483647 e in omega arith)

is_pick_below : (n : ℕ) → n ≤ 4294967295 → is_pick n ≡ true
is_pick_below n h = lt-ltb n 4294967296 (omega arith)

no_pick_above : (n : ℕ) → 4294967295 < n → is_pick n ≡ false
no_pick_above n h =
    false_from_ne_true (is_pick n) (λ (e : nat_lt n 4294967296 ≡ true). let r : n < 4294967296 = ltb-true n 4294967296 e in omega arith)

-- no digit is a `-`
no_minus : (ds : List ℕ) → list_all is_digit ds ≡ true → begins (λ b. b == 45) ds ≡ false
no_minus [] h = refl
no_minus (d ∷ ds) h = false_from_ne_true (d == 45) (λ e. wrong (eqb-true d 45 e) (first_of_both (is_digit d) (list_all is_digit ds) h))
  where
    wrong : d ≡ 45 → is_digit d ≡ true → ⊥
    wrong e h = let r : is_digit 45 ≡ true = subst (λ x. is_digit x ≡ true) e h in absurd (cc)

pub never_minus : (c : Bool) (d : ℕ) → is_digit d ≡ true → (c && d == 45) ≡ false
never_minus true d h =
    false_from_ne_true (d == 45) (λ e. let r : is_digit 45 ≡ true = subst (λ x. is_digit x ≡ true) (eqb-true d 45 e) h in absurd (cc))
never_minus false d h = refl

-- an input's word that doesn't begin with a `-`
plain_int : (ds : List ℕ) → begins (λ b. b == 45) ds ≡ false
    → number_in k.Input ds ≡ passing (fits t.Int) (option_map pos (natural_of ds))
plain_int ds e =
    ap (λ c. passing (fits t.Int) (if c then option_map (λ n. neg_ℤ (pos n)) (natural_of (drop 1 ds))
    else option_map pos (natural_of ds))) e

-- digits of a number of the list are a word
pub some_number : (kind : Kind) (negative : Bool) (ds : List ℕ) → AreDigits kind negative ds
    → number_in kind (with_sign negative ds) ≡ Some (signed negative (digits_value 10 ds))
some_number k.Input true ds a =
    some_through (fits t.Int) (λ n. neg_ℤ (pos n)) (is_filled ds && list_all is_digit ds) (digits_value 10 ds) (and_from _ _ a.some a.digits)
    (fits_below (digits_value 10 ds) a.small)
some_number k.Input false ds a =
    plain_int ds (no_minus ds a.digits)
    ∙ some_through (fits t.Int) pos (is_filled ds && list_all is_digit ds) (digits_value 10 ds) (and_from _ _ a.some a.digits)
    (fits_above (digits_value 10 ds) a.small)
some_number k.Schedule true ds a = let r : is_signed k.Schedule ≡ true = a.signed refl in absurd (cc)
some_number k.Schedule false ds a =
    some_pick (is_filled ds && list_all is_digit ds) (digits_value 10 ds) (and_from _ _ a.some a.digits) (is_pick_below (digits_value 10 ds) a.small)

-- bytes that are digits of no number of the list, and behind no `-` that would count
pub record AreNone (kind : Kind) (negative : Bool) (ds : List ℕ) : Type 0 where
  pub great : list_all is_digit ds ≡ true → greatest kind negative < digits_value 10 ds
  pub signed : negative ≡ true → is_signed kind ≡ true
  pub plain : negative ≡ false → (is_signed kind && begins (λ b. b == 45) ds) ≡ false

-- they are no number
no_number : (kind : Kind) (negative : Bool) (ds : List ℕ) → AreNone kind negative ds → number_in kind (with_sign negative ds) ≡ None
no_number k.Input true ds a =
    none_through (fits t.Int) (λ n. neg_ℤ (pos n)) (is_filled ds && list_all is_digit ds) (digits_value 10 ds)
    (λ e. unfit_below (digits_value 10 ds) (a.great (second_of_both (is_filled ds) _ e)))
no_number k.Input false ds a =
    plain_int ds (a.plain refl)
    ∙ none_through (fits t.Int) pos (is_filled ds && list_all is_digit ds) (digits_value 10 ds)
    (λ e. unfit_above (digits_value 10 ds) (a.great (second_of_both (is_filled ds) _ e)))
no_number k.Schedule true ds a = let r : is_signed k.Schedule ≡ true = a.signed refl in absurd (cc)
no_number k.Schedule false ds a =
    none_pick (is_filled ds && list_all is_digit ds) (digits_value 10 ds)
    (λ e. no_pick_above (digits_value 10 ds) (a.great (second_of_both (is_filled ds) _ e)))

-- a word that is no number, and doesn't become one by a 0
pub record IsDead (kind : Kind) (word : List ℕ) : Type 0 where
  pub none : number_in kind word ≡ None
  pub longer : number_in kind (word ++ 48 ∷ []) ≡ None

digit_pushed : (ds : List ℕ) (b : ℕ) → is_digit b ≡ true → digits_value 10 (ds ++ b ∷ []) ≡ digits_value 10 ds * 10 + (b - 48)
digit_pushed ds b d =
    let low : 48 ≤ b = leb-true 48 b (first_of_both (nat_le 48 b) (nat_le b 57) d) in
    let high : b ≤ 57 = leb-true b 57 (second_of_both (nat_le 48 b) (nat_le b 57) d) in
    let v : digit_value b + 48 ≡ b = digit_value_digit b (low, high) in
    digits_value_push 10 ds b ∙ ap (λ x. digits_value 10 ds * 10 + x) (let r : digit_value b ≡ b - 48 = omega (arith, v, low) in r)

-- they stay none with a 0
none_longer : (kind : Kind) (negative : Bool) (ds : List ℕ) → is_filled ds ≡ true → AreNone kind negative ds → AreNone kind negative (ds ++ 48 ∷ [])
none_longer kind negative [] some a = absurd (cc)
none_longer kind negative (d ∷ ds) some a = record {
  great = λ h.
      let front = first_of_both (list_all is_digit (d ∷ ds)) true (sym (list_all-append is_digit (d ∷ ds) (48 ∷ [])) ∙ h) in
      let before : greatest kind negative < digits_value 10 (d ∷ ds) = a.great front in
      let r : digits_value 10 ((d ∷ ds) ++ 48 ∷ []) ≡ digits_value 10 (d ∷ ds) * 10 + 0 = digit_pushed (d ∷ ds) 48 refl in
      omega (arith, r, before);
  signed = a.signed;
  plain = a.plain;
}

dead_by : (kind : Kind) (negative : Bool) (ds : List ℕ) → is_filled ds ≡ true → AreNone kind negative ds → IsDead kind (with_sign negative ds)
dead_by kind true ds some a =
    record { none = no_number kind true ds a; longer = no_number kind true (ds ++ 48 ∷ []) (none_longer kind true ds some a) }
dead_by kind false ds some a =
    record { none = no_number kind false ds a; longer = no_number kind false (ds ++ 48 ∷ []) (none_longer kind false ds some a) }

pub filled_behind : (ds : List ℕ) (b : ℕ) → is_filled (ds ++ b ∷ []) ≡ true
filled_behind [] b = refl
filled_behind (d ∷ ds) b = refl

if_none : (c : Bool) (o : Option Word) → (if c then o else None) ≡ None → c ≡ true → o ≡ None
if_none true o h e = h
if_none false o h e = absurd (cc)

none_if : (c : Bool) (x : Word) → (if c then Some x else None) ≡ None → c ≡ false
none_if true x h = absurd (cc)
none_if false x h = refl

-- digits that don't go on with a byte are none of a list with it
pub dead_digit : (kind : Kind) (negative : Bool) (ds : List ℕ) (b : ℕ) → (negative ≡ true → is_signed kind ≡ true)
    → (negative ≡ false → (is_signed kind && begins (λ b. b == 45) (ds ++ b ∷ [])) ≡ false) → digit_after kind negative (digits_value 10 ds) b ≡ None
    → IsDead kind (with_sign negative (ds ++ b ∷ []))
dead_digit kind negative ds b sign plain h = dead_by kind negative (ds ++ b ∷ []) (filled_behind ds b) record {
  great = λ all.
      let last : (is_digit b && true) ≡ true
      = second_of_both (list_all is_digit ds) (list_all is_digit (b ∷ [])) (sym (list_all-append is_digit ds (b ∷ [])) ∙ all) in
      let d : is_digit b ≡ true = first_of_both (is_digit b) true last in
      let n = digits_value 10 ds * 10 + (b - 48) in
      let few : nat_le n (greatest kind negative) ≡ false = none_if (nat_le n (greatest kind negative)) (w.Digits negative n)
      (if_none (is_digit b) (digits_of kind negative n) h d) in
      subst (λ x. greatest kind negative < x) (sym (digit_pushed ds b d)) (leb-false n (greatest kind negative) few);
  signed = sign;
  plain = plain;
}

some_if : (c : Bool) (o : Option Word) (x : Word) → (if c then o else None) ≡ Some x → (c ≡ true) × (o ≡ Some x)
some_if true o x h = (refl, h)
some_if false o x h = absurd (cc)

if_some : (c : Bool) (x y : Word) → (if c then Some x else None) ≡ Some y → (c ≡ true) × (y ≡ x)
if_some true x y h = (refl, cc)
if_some false x y h = absurd (cc)

-- digits that go on with a byte are those of a number of the list with it
pub good_digit : (kind : Kind) (negative : Bool) (ds : List ℕ) (b : ℕ) (next : Word) → list_all is_digit ds ≡ true
    → (negative ≡ true → is_signed kind ≡ true) → digit_after kind negative (digits_value 10 ds) b ≡ Some next
    → (next ≡ w.Digits negative (digits_value 10 (ds ++ b ∷ []))) × AreDigits kind negative (ds ++ b ∷ [])
good_digit kind negative ds b next all sign h =
    let n = digits_value 10 ds * 10 + (b - 48) in
    let r = some_if (is_digit b) (digits_of kind negative n) next h in
    let s = if_some (nat_le n (greatest kind negative)) (w.Digits negative n) next r.1 in
    let v : digits_value 10 (ds ++ b ∷ []) ≡ n = digit_pushed ds b r.0 in (
      s.1 ∙ ap (w.Digits negative) (sym v),
      record {
        some = filled_behind ds b;
        digits = list_all-append is_digit ds (b ∷ []) ∙ and_from (list_all is_digit ds) (list_all is_digit (b ∷ [])) all (and_true (is_digit b) r.0);
        small = subst (λ x. x ≤ greatest kind negative) (sym v) (leb-true n (greatest kind negative) s.0);
        signed = sign;
      },
    )

-- a `-` alone is no number
pub minus_is_none : (kind : Kind) → is_signed kind ≡ true → number_in kind (45 ∷ []) ≡ None
minus_is_none k.Input e = refl
minus_is_none k.Schedule e = absurd (cc)
