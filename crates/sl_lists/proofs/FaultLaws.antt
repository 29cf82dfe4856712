-- A byte at which no list can go on, and an end at which the last word may not end: there the bytes are bad.
use Rattle.std.proofs.Common.{◌≡◌, ◌⊎◌, inl, inr, ⊎_elim, ℕ, ◌+◌, ◌≤◌, ◌<◌, ◌==◌, nat_lt, nat_le, Bool, true, false, ◌&&◌, if◌then◌else◌}
use Rattle.std.proofs.Common.{List, [], ◌∷◌, ◌++◌, length, map, take, get_or, filter, Option, Some, None, is_some, option_map, ℤ, refl, ap}
use Rattle.std.proofs.Common.{sym, ◌∙◌, subst}
use Rattle.std.proofs.Common.{arith, length-append, take_all}
use Rattle.std.specs.List.{list_all}
use Rattle.std.proofs.lemmas.Bool.{false_from_ne_true, or_cases, or_left, or_right, ltb-false, leb-true, eqb-true}
use Rattle.std.proofs.lemmas.List.{take_more, length-take, length-map}
use Rattle.std.proofs.lemmas.List.Elements.{filter-append}
use Rattle.sl_base.specs.Bytes.{is_blank, is_digit, begins}
use Rattle.sl_model.specs.Reports.Lists.{is_filled, is_list, begins_list, BadAt, at_byte, at_end, LIST_BYTES, LIST_NUMBERS}
use Rattle.sl_model.proofs.ListLaws.{in_parts, list_is}
use Rattle.sl_model.proofs.ListParts.{parts_of, counted, told}
use Rattle.sl_model.proofs.Passing.{first_of_both, second_of_both}
use Rattle.sl_lists.specs.declared.kind.Kind.{Kind}
use Rattle.sl_lists.specs.declared.kind.Kind.TheVariants as k
use Rattle.sl_lists.specs.declared.word.Word.{Word}
use Rattle.sl_lists.specs.declared.word.Word.TheVariants as w
use Rattle.sl_lists.specs.Means.Numbers.{number_in}
use Rattle.sl_lists.specs.Means.Steps.{is_signed, signed, digit_after, minus_at, begun, word_after, with_word, stepped}
use Rattle.sl_lists.proofs.Standing.{with_sign, Reads, Stands, by_tests}
use Rattle.sl_lists.proofs.NumberLaws.{IsDead, dead_digit, filled_behind, minus_is_none, never_minus}
use Rattle.sl_lists.proofs.PartLaws.{parts_blank, parts_word}
use Rattle.sl_lists.proofs.StandingLaws.{stands_list, stands_step}

-- neither the bytes nor those with a 0 are a list
begins_none : (kind : Kind) (bytes : List ℕ) → (is_list (number_in kind) bytes ≡ true → ⊥) → (is_list (number_in kind) (bytes ++ 48 ∷ []) ≡ true → ⊥)
    → begins_list (number_in kind) bytes ≡ false
begins_none kind bytes one other =
    false_from_ne_true (begins_list (number_in kind) bytes)
    (λ h. ⊎_elim one other (or_cases (is_list (number_in kind) bytes) (is_list (number_in kind) (bytes ++ 48 ∷ [])) h))

one_word : (last : List ℕ) → is_filled last ≡ true → filter is_filled (last ∷ []) ≡ last ∷ []
one_word [] h = absurd (cc)
one_word (b ∷ last) h = refl

-- a word among parts that are told is a number
told_last : (kind : Kind) (done : List (List ℕ)) (last : List ℕ) (more : List (List ℕ)) → is_filled last ≡ true
    → told (number_in kind) (done ++ last ∷ more) ≡ true → is_some (number_in kind last) ≡ true
told_last kind [] [] more some h = absurd (cc)
told_last kind [] (b ∷ last) more some h = first_of_both (is_some (number_in kind (b ∷ last))) (told (number_in kind) more) h
told_last kind ([] ∷ done) last more some h = told_last kind done last more some h
told_last kind ((b ∷ part) ∷ done) last more some h =
    told_last kind done last more some (second_of_both (is_some (number_in kind (b ∷ part))) (told (number_in kind) (done ++ last ∷ more)) h)

-- bytes with a word that is no number are no list
no_word : (kind : Kind) (bytes : List ℕ) (done : List (List ℕ)) (last : List ℕ) (more : List (List ℕ)) → parts_of bytes ≡ done ++ last ∷ more
    → is_filled last ≡ true → number_in kind last ≡ None → is_list (number_in kind) bytes ≡ true → ⊥
no_word kind bytes done last more parts some none h =
    let r = in_parts (number_in kind) bytes h in
    let s : is_some (number_in kind last) ≡ true
    = told_last kind done last more some (subst (λ ps. told (number_in kind) ps ≡ true) parts r.2) in
    absurd (cc)

-- nor are too many
too_long : (kind : Kind) (bytes : List ℕ) → LIST_BYTES < length bytes → is_list (number_in kind) bytes ≡ true → ⊥
too_long kind bytes long h = let r = in_parts (number_in kind) bytes h in omega (arith, r.0, long)

count_last : (done : List (List ℕ)) (last : List ℕ) → is_filled last ≡ true → counted (done ++ last ∷ []) ≡ counted done + 1
count_last done last some =
    ap length (filter-append is_filled done (last ∷ []) ∙ ap (λ ws. filter is_filled done ++ ws) (one_word last some))
    ∙ length-append (filter is_filled done) (last ∷ [])

-- nor are bytes with too many words
too_many : (kind : Kind) (bytes : List ℕ) (done : List (List ℕ)) (last : List ℕ) → parts_of bytes ≡ done ++ last ∷ [] → is_filled last ≡ true
    → LIST_NUMBERS ≤ counted done → is_list (number_in kind) bytes ≡ true → ⊥
too_many kind bytes done last parts some many h =
    let r = in_parts (number_in kind) bytes h in
    let n : counted (parts_of bytes) ≡ counted done + 1 = ap counted parts ∙ count_last done last some in
    omega (arith, r.1, n, many)

-- as many words as numbers
counts : (kind : Kind) (done : List (List ℕ)) (numbers : List ℤ) → map (number_in kind) (filter is_filled done) ≡ map Some numbers
    → counted done ≡ length numbers
counts kind done numbers h =
    sym (length-map (filter is_filled done) (number_in kind)) ∙ ap length h ∙ length-map numbers Some

-- the bytes are too many
bad_long : (kind : Kind) (bytes : List ℕ) (b : ℕ) → LIST_BYTES ≤ length bytes → begins_list (number_in kind) (bytes ++ b ∷ []) ≡ false
bad_long kind bytes b long =
    let n : length (bytes ++ b ∷ []) ≡ length bytes + 1 = length-append bytes (b ∷ []) in
    let m : length ((bytes ++ b ∷ []) ++ 48 ∷ []) ≡ length (bytes ++ b ∷ []) + 1 = length-append (bytes ++ b ∷ []) (48 ∷ []) in
    begins_none kind (bytes ++ b ∷ []) (too_long kind (bytes ++ b ∷ []) (omega (arith, n, long)))
    (too_long kind ((bytes ++ b ∷ []) ++ 48 ∷ []) (omega (arith, n, m, long)))

-- the word can't go on so
bad_word : (kind : Kind) (bytes : List ℕ) (b : ℕ) (done : List (List ℕ)) (last : List ℕ) → is_blank b ≡ false → parts_of bytes ≡ done ++ last ∷ []
    → IsDead kind (last ++ b ∷ []) → begins_list (number_in kind) (bytes ++ b ∷ []) ≡ false
bad_word kind bytes b done last e parts dead =
    let p = parts_word bytes b done last e parts in
    begins_none kind (bytes ++ b ∷ []) (no_word kind (bytes ++ b ∷ []) done (last ++ b ∷ []) [] p (filled_behind last b) dead.none)
    (no_word kind ((bytes ++ b ∷ []) ++ 48 ∷ []) done ((last ++ b ∷ []) ++ 48 ∷ []) [] (parts_word (bytes ++ b ∷ []) 48 done (last ++ b ∷ []) refl p)
    (filled_behind (last ++ b ∷ []) 48) dead.longer)

-- there are too many numbers before the word
bad_count : (kind : Kind) (bytes : List ℕ) (b : ℕ) (done : List (List ℕ)) (last : List ℕ) → is_blank b ≡ false → parts_of bytes ≡ done ++ last ∷ []
    → LIST_NUMBERS ≤ counted done → begins_list (number_in kind) (bytes ++ b ∷ []) ≡ false
bad_count kind bytes b done last e parts many =
    let p = parts_word bytes b done last e parts in
    begins_none kind (bytes ++ b ∷ []) (too_many kind (bytes ++ b ∷ []) done (last ++ b ∷ []) p (filled_behind last b) many)
    (too_many kind ((bytes ++ b ∷ []) ++ 48 ∷ []) done ((last ++ b ∷ []) ++ 48 ∷ []) (parts_word (bytes ++ b ∷ []) 48 done (last ++ b ∷ []) refl p)
    (filled_behind (last ++ b ∷ []) 48) many)

-- a `-` has no room for a digit
bad_minus : (kind : Kind) (bytes : List ℕ) (b : ℕ) (done : List (List ℕ)) (last : List ℕ) → is_blank b ≡ false → parts_of bytes ≡ done ++ last ∷ []
    → is_signed kind ≡ true → last ++ b ∷ [] ≡ 45 ∷ [] → LIST_BYTES ≤ length bytes + 1 → begins_list (number_in kind) (bytes ++ b ∷ []) ≡ false
bad_minus kind bytes b done last e parts sign minus long =
    let n : length (bytes ++ b ∷ []) ≡ length bytes + 1 = length-append bytes (b ∷ []) in
    let m : length ((bytes ++ b ∷ []) ++ 48 ∷ []) ≡ length (bytes ++ b ∷ []) + 1 = length-append (bytes ++ b ∷ []) (48 ∷ []) in
    begins_none kind (bytes ++ b ∷ [])
    (no_word kind (bytes ++ b ∷ []) done (last ++ b ∷ []) [] (parts_word bytes b done last e parts) (filled_behind last b)
    (ap (number_in kind) minus ∙ minus_is_none kind sign))
    (too_long kind ((bytes ++ b ∷ []) ++ 48 ∷ []) (omega (arith, n, m, long)))

-- a blank behind a `-`
bad_blank : (kind : Kind) (bytes : List ℕ) (b : ℕ) (done : List (List ℕ)) (last : List ℕ) → is_blank b ≡ true → parts_of bytes ≡ done ++ last ∷ []
    → is_signed kind ≡ true → last ≡ 45 ∷ [] → begins_list (number_in kind) (bytes ++ b ∷ []) ≡ false
bad_blank kind bytes b done last e parts sign minus =
    let p = parts_blank bytes b done last e parts in
    let some : is_filled last ≡ true = ap is_filled minus in
    let none = ap (number_in kind) minus ∙ minus_is_none kind sign in
    begins_none kind (bytes ++ b ∷ [])
    (no_word kind (bytes ++ b ∷ []) done last ([] ∷ []) (p ∙ regroup done last []) some none)
    (no_word kind ((bytes ++ b ∷ []) ++ 48 ∷ []) done last ((48 ∷ []) ∷ [])
    (parts_word (bytes ++ b ∷ []) 48 (done ++ last ∷ []) [] refl p ∙ regroup done last (48 ∷ [])) some none)
  where
    regroup : (done : List (List ℕ)) (last part : List ℕ) → (done ++ last ∷ []) ++ part ∷ [] ≡ done ++ last ∷ part ∷ []
    regroup [] last part = refl
    regroup (d ∷ done) last part = ap (λ ps. d ∷ ps) (regroup done last part)

if_none : (c : Bool) (o : Option Word) → (if c then o else None) ≡ None → (c ≡ false) ⊎ (o ≡ None)
if_none true o h = inr h
if_none false o h = inl refl

none_if : (c : Bool) (x : Word) → (if c then Some x else None) ≡ None → c ≡ false
none_if true x h = absurd (cc)
none_if false x h = refl

begun_by : (c d : Bool) (m o : Option Word) → (if c && d then m else o) ≡ None
    → ((c ≡ true) × (d ≡ true) × (m ≡ None)) ⊎ (((c && d) ≡ false) × (o ≡ None))
begun_by true true m o h = inl (refl, refl, h)
begun_by true false m o h = inr (refl, h)
begun_by false d m o h = inr (refl, h)

sign_behind : (negative : Bool) (ds : List ℕ) (b : ℕ) → with_sign negative ds ++ b ∷ [] ≡ with_sign negative (ds ++ b ∷ [])
sign_behind true ds b = refl
sign_behind false ds b = refl

plain_more : (kind : Kind) (ds : List ℕ) (b : ℕ) → is_filled ds ≡ true → list_all is_digit ds ≡ true
    → (is_signed kind && begins (λ b. b == 45) (ds ++ b ∷ [])) ≡ false
plain_more kind [] b some all = absurd (cc)
plain_more kind (d ∷ ds) b some all = never_minus (is_signed kind) d (first_of_both (is_digit d) (list_all is_digit ds) all)

-- a byte that begins no word
bad_begun : (kind : Kind) (bytes : List ℕ) (b : ℕ) (done : List (List ℕ)) → is_blank b ≡ false → parts_of bytes ≡ done ++ [] ∷ []
    → begun kind (length bytes) b ≡ None → begins_list (number_in kind) (bytes ++ b ∷ []) ≡ false
bad_begun kind bytes b done e parts h = ⊎_elim
    (λ (r : (is_signed kind ≡ true) × ((b == 45) ≡ true) × (minus_at (length bytes) ≡ None)).
    let room : 4194303 ≤ length bytes = ltb-false (length bytes) 4194303 (none_if (nat_lt (length bytes) 4194303) w.Minus r.2) in
    bad_minus kind bytes b done [] e parts r.0 (ap (λ x. x ∷ []) (eqb-true b 45 r.1)) (omega (arith, room)))
    (λ (r : ((is_signed kind && (b == 45)) ≡ false) × (digit_after kind false 0 b ≡ None)).
    bad_word kind bytes b done [] e parts (dead_digit kind false [] b (λ x. absurd (cc)) (λ x. r.0) r.1))
    (begun_by (is_signed kind) (b == 45) (minus_at (length bytes)) (digit_after kind false 0 b) h)

-- a byte with which the word doesn't go on
bad_by : (kind : Kind) (bytes : List ℕ) (numbers : List ℤ) (word : Word) (b : ℕ) (done : List (List ℕ)) (last : List ℕ) → is_blank b ≡ false
    → parts_of bytes ≡ done ++ last ∷ [] → counted done ≡ length numbers → Reads kind (length bytes) (length numbers) word last
    → word_after kind (length bytes) (length numbers) word b ≡ None → begins_list (number_in kind) (bytes ++ b ∷ []) ≡ false
bad_by kind bytes numbers w.Blank b done last e parts n same h =
    let p : parts_of bytes ≡ done ++ [] ∷ [] = parts ∙ ap (λ l. done ++ l ∷ []) same in
    ⊎_elim
    (λ (r : nat_lt (length numbers) LIST_NUMBERS ≡ false).
    let many : LIST_NUMBERS ≤ length numbers = ltb-false (length numbers) LIST_NUMBERS r in
    bad_count kind bytes b done [] e p (omega (arith, n, many)))
    (λ (r : begun kind (length bytes) b ≡ None). bad_begun kind bytes b done e p r)
    (if_none (nat_lt (length numbers) LIST_NUMBERS) (begun kind (length bytes) b) h)
bad_by kind bytes numbers w.Minus b done last e parts n (same, sign, room, few) h =
    bad_word kind bytes b done last e parts
    (subst (λ l. IsDead kind (l ++ b ∷ [])) (sym same) (dead_digit kind true [] b (λ x. sign) (λ x. absurd (cc)) h))
bad_by kind bytes numbers (w.Digits negative value) b done last e parts n (ds, same, a, v, few) h =
    bad_word kind bytes b done last e parts
    (subst (λ l. IsDead kind l) (sym (ap (λ l. l ++ b ∷ []) same ∙ sign_behind negative ds b))
    (dead_digit kind negative ds b a.signed (λ x. plain_more kind ds b a.some a.digits)
    (subst (λ n. digit_after kind negative n b ≡ None) (sym v) h)))

no_word_ends : (kind : Kind) (bytes : List ℕ) (b : ℕ) (numbers : List ℤ) (word : Word) (done : List (List ℕ)) (last : List ℕ) → is_blank b ≡ true
    → parts_of bytes ≡ done ++ last ∷ [] → Reads kind (length bytes) (length numbers) word last → with_word numbers word ≡ None
    → begins_list (number_in kind) (bytes ++ b ∷ []) ≡ false
no_word_ends kind bytes b numbers w.Blank done last e parts same h = absurd (cc)
no_word_ends kind bytes b numbers w.Minus done last e parts (same, sign, room, few) h = bad_blank kind bytes b done last e parts sign same
no_word_ends kind bytes b numbers (w.Digits negative value) done last e parts reads h = absurd (cc)

unmapped : {A B : Type 0} (f : A → B) (o : Option A) → option_map f o ≡ None → o ≡ None
unmapped f None h = refl
unmapped f (Some x) h = absurd (cc)

bad_step : (kind : Kind) (bytes : List ℕ) (numbers : List ℤ) (word : Word) (b : ℕ) → Stands kind bytes numbers word
    → (c d : Bool) → nat_le LIST_BYTES (length bytes) ≡ c → is_blank b ≡ d
    → by_tests c d (option_map (λ ns. (ns, w.Blank)) (with_word numbers word))
    (option_map (λ next. (numbers, next)) (word_after kind (length bytes) (length numbers) word b)) ≡ None
    → begins_list (number_in kind) (bytes ++ b ∷ []) ≡ false
bad_step kind bytes numbers word b s true d e f h = bad_long kind bytes b (leb-true LIST_BYTES (length bytes) e)
bad_step kind bytes numbers word b s false true e f h =
    no_word_ends kind bytes b numbers word s.done s.last f s.parts s.reads (unmapped (λ (ns : List ℤ). (ns, w.Blank)) (with_word numbers word) h)
bad_step kind bytes numbers word b s false false e f h =
    bad_by kind bytes numbers word b s.done s.last f s.parts (counts kind s.done numbers s.each) s.reads
    (unmapped (λ (x : Word). (numbers, x)) (word_after kind (length bytes) (length numbers) word b) h)

-- a 0 may stand behind a `-`
zero_goes_on : (kind : Kind) (bytes : List ℕ) (numbers : List ℤ) → is_signed kind ≡ true → length bytes < LIST_BYTES
    → stepped kind (length bytes) numbers w.Minus 48 ≡ Some (numbers, w.Digits true 0)
zero_goes_on k.Input bytes numbers sign room =
    ap (λ c. if c then None else Some (numbers, w.Digits true 0))
    (false_from_ne_true (nat_le LIST_BYTES (length bytes)) (λ e. let r = leb-true LIST_BYTES (length bytes) e in omega (arith, r, room)))
zero_goes_on k.Schedule bytes numbers sign room = absurd (cc)

-- a 0 behind a `-` makes a list
completed_minus : (kind : Kind) (bytes : List ℕ) (numbers : List ℤ) (sign : is_signed kind ≡ true) → length bytes < LIST_BYTES
    → Stands kind bytes numbers w.Minus → is_list (number_in kind) (bytes ++ 48 ∷ []) ≡ true
completed_minus kind bytes numbers sign room s =
    let all = numbers ++ signed true 0 ∷ [] in
    list_is (number_in kind) (bytes ++ 48 ∷ []) all
    (stands_list kind (bytes ++ 48 ∷ []) numbers (w.Digits true 0)
    (stands_step kind bytes numbers w.Minus 48 numbers (w.Digits true 0) s (zero_goes_on kind bytes numbers sign room)) all refl)

-- what stands begins a list
begins_by : (kind : Kind) (bytes : List ℕ) (numbers : List ℤ) (word : Word) (last : List ℕ) → Reads kind (length bytes) (length numbers) word last
    → Stands kind bytes numbers word → begins_list (number_in kind) bytes ≡ true
begins_by kind bytes numbers w.Blank last reads s =
    or_left (is_list (number_in kind) bytes) _ (list_is (number_in kind) bytes numbers (stands_list kind bytes numbers w.Blank s numbers refl))
begins_by kind bytes numbers w.Minus last (same, sign, room, few) s =
    or_right (is_list (number_in kind) bytes) _ (completed_minus kind bytes numbers sign room s)
begins_by kind bytes numbers (w.Digits negative value) last reads s =
    let all = numbers ++ signed negative value ∷ [] in
    or_left (is_list (number_in kind) bytes) _ (list_is (number_in kind) bytes all
    (stands_list kind bytes numbers (w.Digits negative value) s all refl))

-- at their end
open_end : (kind : Kind) (bytes : List ℕ) (numbers : List ℤ) (word : Word) (done : List (List ℕ)) (last : List ℕ) → parts_of bytes ≡ done ++ last ∷ []
    → Reads kind (length bytes) (length numbers) word last → with_word numbers word ≡ None → is_list (number_in kind) bytes ≡ false
open_end kind bytes numbers w.Blank done last parts reads h = absurd (cc)
open_end kind bytes numbers w.Minus done last parts (same, sign, room, few) h =
    false_from_ne_true (is_list (number_in kind) bytes)
    (no_word kind bytes done last [] parts (ap is_filled same) (ap (number_in kind) same ∙ minus_is_none kind sign))
open_end kind bytes numbers (w.Digits negative value) done last parts reads h = absurd (cc)

length_front : (bytes : List ℕ) (at : ℕ) → at < length bytes → length (take at bytes) ≡ at
length_front bytes at below = let r = length-take at bytes in omega (arith, r, below)

-- bytes before which a list stands and at which it can't go on are bad there
pub bad_at_byte : (kind : Kind) (bytes : List ℕ) (at : ℕ) (numbers : List ℤ) (word : Word) → at < length bytes
    → Stands kind (take at bytes) numbers word
    → stepped kind at numbers word (get_or bytes at 0) ≡ None → BadAt (number_in kind) bytes at
bad_at_byte kind bytes at numbers word below s h =
    let n : length (take at bytes) ≡ at = length_front bytes at below in
    at_byte at below (begins_by kind (take at bytes) numbers word s.last s.reads s)
    (ap (begins_list (number_in kind)) (take_more bytes at 0 below)
    ∙ bad_step kind (take at bytes) numbers word (get_or bytes at 0) s (nat_le LIST_BYTES (length (take at bytes))) (is_blank (get_or bytes at 0))
    refl refl (subst (λ k. stepped kind k numbers word (get_or bytes at 0) ≡ None) (sym n) h))

-- bytes at whose end the last word may not end are bad there
pub bad_at_end : (kind : Kind) (bytes : List ℕ) (numbers : List ℤ) (word : Word) → Stands kind bytes numbers word → with_word numbers word ≡ None
    → BadAt (number_in kind) bytes (length bytes)
bad_at_end kind bytes numbers word s h =
    at_end (begins_by kind bytes numbers word s.last s.reads s) (open_end kind bytes numbers word s.done s.last s.parts s.reads h)

-- the bytes stand with one more
pub goes_on : (kind : Kind) (bytes : List ℕ) (at : ℕ) (numbers : List ℤ) (word : Word) (after : List ℤ) (next : Word) → at < length bytes
    → Stands kind (take at bytes) numbers word → stepped kind at numbers word (get_or bytes at 0) ≡ Some (after, next)
    → Stands kind (take (at + 1) bytes) after next
goes_on kind bytes at numbers word after next below s h =
    let n : length (take at bytes) ≡ at = length_front bytes at below in
    subst (λ front. Stands kind front after next) (sym (take_more bytes at 0 below))
    (stands_step kind (take at bytes) numbers word (get_or bytes at 0) after next s
    (subst (λ k. stepped kind k numbers word (get_or bytes at 0) ≡ Some (after, next)) (sym n) h))

-- at their end all bytes are read
pub all_bytes : (kind : Kind) (bytes : List ℕ) (at : ℕ) (numbers : List ℤ) (word : Word) → length bytes ≤ at
    → Stands kind (take at bytes) numbers word
    → Stands kind bytes numbers word
all_bytes kind bytes at numbers word le s = subst (λ front. Stands kind front numbers word) (take_all at bytes le) s
