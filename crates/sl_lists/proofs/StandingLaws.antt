-- What is kept while a list is read holds at its start and after each byte that is read, and says which list it is at its end.
use Rattle.std.proofs.Common.{◌≡◌, ◌⊎◌, inl, inr, ⊎_elim, ℕ, ◌+◌, ◌≤◌, ◌<◌, ◌==◌, nat_lt, nat_le, Bool, true, false, ◌&&◌, if◌then◌else◌}
use Rattle.std.proofs.Common.{List, [], ◌∷◌, ◌++◌, length, map}
use Rattle.std.proofs.Common.{filter, Option, Some, None, option_map, ℤ, refl, ap, ap₂, sym, ◌∙◌, subst, arith, append-nil, length-append}
use Rattle.std.specs.List.{list_all}
use Rattle.std.specs.Str.Parse.{digits_value}
use Rattle.std.proofs.lemmas.Bool.{ltb-true, leb-false, eqb-true}
use Rattle.std.proofs.lemmas.List.{map-append}
use Rattle.std.proofs.lemmas.List.Elements.{filter-append}
use Rattle.sl_base.specs.Bytes.{is_blank, is_digit}
use Rattle.sl_model.specs.Reports.Lists.{is_filled, ListOf, LIST_BYTES, LIST_NUMBERS}
use Rattle.sl_lists.specs.declared.kind.Kind.{Kind}
use Rattle.sl_lists.specs.declared.word.Word.{Word}
use Rattle.sl_lists.specs.declared.word.Word.TheVariants as w
use Rattle.sl_lists.specs.Means.Numbers.{number_in}
use Rattle.sl_lists.specs.Means.Steps.{is_signed, signed, digit_after, minus_at, begun, word_after, with_word, stepped}
use Rattle.sl_lists.proofs.Standing.{with_sign, Reads, Stands, by_tests}
use Rattle.sl_lists.proofs.NumberLaws.{some_number, good_digit}
use Rattle.sl_lists.proofs.PartLaws.{parts_blank, parts_word}

-- at the start
pub stands_start : (kind : Kind) → Stands kind [] [] w.Blank
stands_start kind = record { done = []; last = []; parts = refl; each = refl; short = omega arith; few = omega arith; reads = refl }

one_word : (last : List ℕ) → is_filled last ≡ true → filter is_filled (last ∷ []) ≡ last ∷ []
one_word [] h = absurd (cc)
one_word (b ∷ last) h = refl

filled_sign : (negative : Bool) (ds : List ℕ) → is_filled ds ≡ true → is_filled (with_sign negative ds) ≡ true
filled_sign true ds h = refl
filled_sign false ds h = h

-- the words of parts of which the last one is no word
no_last : (kind : Kind) (done : List (List ℕ)) (numbers : List ℤ) → map (number_in kind) (filter is_filled done) ≡ map Some numbers
    → map (number_in kind) (filter is_filled (done ++ [] ∷ [])) ≡ map Some numbers
no_last kind done numbers h =
    ap (map (number_in kind)) (filter-append is_filled done ([] ∷ []) ∙ append-nil (filter is_filled done)) ∙ h

-- the words of parts of which the last one is a number
with_last : (kind : Kind) (done : List (List ℕ)) (last : List ℕ) (numbers : List ℤ) (z : ℤ)
    → map (number_in kind) (filter is_filled done) ≡ map Some numbers
    → is_filled last ≡ true → number_in kind last ≡ Some z
    → map (number_in kind) (filter is_filled (done ++ last ∷ [])) ≡ map Some (numbers ++ z ∷ [])
with_last kind done last numbers z h some e =
    ap (map (number_in kind)) (filter-append is_filled done (last ∷ []) ∙ ap (λ ws. filter is_filled done ++ ws) (one_word last some))
    ∙ map-append (number_in kind) (filter is_filled done) (last ∷ [])
    ∙ ap₂ (λ a b. a ++ b ∷ []) h e
    ∙ sym (map-append Some numbers (z ∷ []))

same_list : (all numbers : List ℤ) → Some numbers ≡ Some all → numbers ≡ all
same_list all numbers h = cc

-- where the last word may end, the bytes hold the list of the numbers with it
list_by : (kind : Kind) (bytes : List ℕ) (numbers : List ℤ) (word : Word) (s : Stands kind bytes numbers word)
    (last : List ℕ) → s.last ≡ last → Reads kind (length bytes) (length numbers) word last → (all : List ℤ) → with_word numbers word ≡ Some all
    → ListOf (number_in kind) bytes all
list_by kind bytes numbers w.Blank s last same reads all h = record {
  short = s.short;
  few = subst (λ ns. length ns ≤ LIST_NUMBERS) (same_list all numbers h) s.few;
  each = ap (λ ps. map (number_in kind) (filter is_filled ps)) (s.parts ∙ ap (λ l. s.done ++ l ∷ []) (same ∙ reads))
      ∙ no_last kind s.done numbers s.each ∙ ap (map Some) (same_list all numbers h);
}
list_by kind bytes numbers w.Minus s last same reads all h = absurd (cc)
list_by kind bytes numbers (w.Digits negative value) s last same (ds, is, a, v, few) all h =
    let z = signed negative value in
    let joined : numbers ++ z ∷ [] ≡ all = same_list all (numbers ++ z ∷ []) h in
    let n : length (numbers ++ z ∷ []) ≡ length numbers + 1 = length-append numbers (z ∷ []) in
    record {
      short = s.short;
      few = subst (λ ns. length ns ≤ LIST_NUMBERS) joined (omega (arith, n, few));
      each = ap (λ ps. map (number_in kind) (filter is_filled ps)) (s.parts ∙ ap (λ l. s.done ++ l ∷ []) (same ∙ is))
          ∙ with_last kind s.done (with_sign negative ds) numbers z s.each (filled_sign negative ds a.some)
          (some_number kind negative ds a ∙ ap (λ n. Some (signed negative n)) v)
          ∙ ap (map Some) joined;
    }

pub stands_list : (kind : Kind) (bytes : List ℕ) (numbers : List ℤ) (word : Word) → Stands kind bytes numbers word → (all : List ℤ)
    → with_word numbers word ≡ Some all → ListOf (number_in kind) bytes all
stands_list kind bytes numbers word s all h = list_by kind bytes numbers word s s.last refl s.reads all h

-- after a blank
blank_step : (kind : Kind) (bytes : List ℕ) (numbers : List ℤ) (word : Word) (b : ℕ) (all : List ℤ) → Stands kind bytes numbers word
    → length bytes < LIST_BYTES → is_blank b ≡ true → with_word numbers word ≡ Some all → Stands kind (bytes ++ b ∷ []) all w.Blank
blank_step kind bytes numbers word b all s room e h =
    let l = stands_list kind bytes numbers word s all h in
    let n : length (bytes ++ b ∷ []) ≡ length bytes + 1 = length-append bytes (b ∷ []) in
    record {
      done = s.done ++ s.last ∷ [];
      last = [];
      parts = parts_blank bytes b s.done s.last e s.parts;
      each = ap (λ ps. map (number_in kind) (filter is_filled ps)) (sym s.parts) ∙ l.each;
      short = omega (arith, n, room);
      few = l.few;
      reads = refl;
    }

begun_by : (c d : Bool) (m o : Option Word) (next : Word) → (if c && d then m else o) ≡ Some next
    → ((c ≡ true) × (d ≡ true) × (m ≡ Some next)) ⊎ (o ≡ Some next)
begun_by true true m o next h = inl (refl, refl, h)
begun_by true false m o next h = inr h
begun_by false d m o next h = inr h

if_some : (c : Bool) (o : Option Word) (next : Word) → (if c then o else None) ≡ Some next → (c ≡ true) × (o ≡ Some next)
if_some true o next h = (refl, h)
if_some false o next h = absurd (cc)

if_word : (c : Bool) (x next : Word) → (if c then Some x else None) ≡ Some next → (c ≡ true) × (next ≡ x)
if_word true x next h = (refl, cc)
if_word false x next h = absurd (cc)

-- digits go on
digits_go_on : (kind : Kind) (negative : Bool) (ds : List ℕ) (b : ℕ) (next : Word) (bytes count : ℕ) (last : List ℕ) → list_all is_digit ds ≡ true
    → (negative ≡ true → is_signed kind ≡ true) → digit_after kind negative (digits_value 10 ds) b ≡ Some next → count < LIST_NUMBERS
    → last ≡ with_sign negative (ds ++ b ∷ []) → Reads kind bytes count next last
digits_go_on kind negative ds b next bytes count last all sign h few same =
    let r = good_digit kind negative ds b next all sign h in
    subst (λ x. Reads kind bytes count x last) (sym r.0) (ds ++ b ∷ [], same, r.1, refl, few)

begun_reads : (kind : Kind) (bytes count b : ℕ) (next : Word) → begun kind bytes b ≡ Some next → count < LIST_NUMBERS
    → Reads kind (bytes + 1) count next (b ∷ [])
begun_reads kind bytes count b next h few = ⊎_elim
    (λ (r : (is_signed kind ≡ true) × ((b == 45) ≡ true) × (minus_at bytes ≡ Some next)).
    let m = if_word (nat_lt bytes 4194303) w.Minus next r.2 in
    let room : bytes < 4194303 = ltb-true bytes 4194303 m.0 in
    subst (λ x. Reads kind (bytes + 1) count x (b ∷ [])) (sym m.1)
    (ap (λ x. x ∷ []) (eqb-true b 45 r.1), r.0, omega (arith, room), few))
    (λ (r : digit_after kind false 0 b ≡ Some next).
    digits_go_on kind false [] b next (bytes + 1) count (b ∷ []) refl (λ e. absurd (cc)) r few refl)
    (begun_by (is_signed kind) (b == 45) (minus_at bytes) (digit_after kind false 0 b) next h)

sign_behind : (negative : Bool) (ds : List ℕ) (b : ℕ) → with_sign negative ds ++ b ∷ [] ≡ with_sign negative (ds ++ b ∷ [])
sign_behind true ds b = refl
sign_behind false ds b = refl

-- the last part with a byte more
reads_more : (kind : Kind) (bytes count b : ℕ) (word next : Word) (last : List ℕ) → Reads kind bytes count word last
    → word_after kind bytes count word b ≡ Some next → Reads kind (bytes + 1) count next (last ++ b ∷ [])
reads_more kind bytes count b w.Blank next last same h =
    let r = if_some (nat_lt count LIST_NUMBERS) (begun kind bytes b) next h in
    subst (λ l. Reads kind (bytes + 1) count next (l ++ b ∷ [])) (sym same)
    (begun_reads kind bytes count b next r.1 (ltb-true count LIST_NUMBERS r.0))
reads_more kind bytes count b w.Minus next last (same, sign, room, few) h =
    digits_go_on kind true [] b next (bytes + 1) count (last ++ b ∷ []) refl (λ e. sign) h few (ap (λ l. l ++ b ∷ []) same)
reads_more kind bytes count b (w.Digits negative value) next last (ds, same, a, v, few) h =
    digits_go_on kind negative ds b next (bytes + 1) count (last ++ b ∷ []) a.digits a.signed
    (subst (λ n. digit_after kind negative n b ≡ Some next) (sym v) h) few
    (ap (λ l. l ++ b ∷ []) same ∙ sign_behind negative ds b)

-- after any other byte
word_step : (kind : Kind) (bytes : List ℕ) (numbers : List ℤ) (word : Word) (b : ℕ) (next : Word) → Stands kind bytes numbers word
    → length bytes < LIST_BYTES → is_blank b ≡ false → word_after kind (length bytes) (length numbers) word b ≡ Some next
    → Stands kind (bytes ++ b ∷ []) numbers next
word_step kind bytes numbers word b next s room e h =
    let n : length (bytes ++ b ∷ []) ≡ length bytes + 1 = length-append bytes (b ∷ []) in
    record {
      done = s.done;
      last = s.last ++ b ∷ [];
      parts = parts_word bytes b s.done s.last e s.parts;
      each = s.each;
      short = omega (arith, n, room);
      few = s.few;
      reads = subst (λ m. Reads kind m (length numbers) next (s.last ++ b ∷ [])) (sym n)
          (reads_more kind (length bytes) (length numbers) b word next s.last s.reads h);
    }

mapped : {A B : Type 0} (f : A → B) (o : Option A) (y : B) → option_map f o ≡ Some y → (x : A) × (o ≡ Some x) × (f x ≡ y)
mapped f None y h = absurd (cc)
mapped f (Some x) y h = (x, refl, cc)

step_by : (kind : Kind) (bytes : List ℕ) (numbers : List ℤ) (word : Word) (b : ℕ) (after : List ℤ) (next : Word) → Stands kind bytes numbers word
    → (c d : Bool) → nat_le LIST_BYTES (length bytes) ≡ c → is_blank b ≡ d
    → by_tests c d (option_map (λ ns. (ns, w.Blank)) (with_word numbers word))
    (option_map (λ next. (numbers, next)) (word_after kind (length bytes) (length numbers) word b)) ≡ Some (after, next)
    → Stands kind (bytes ++ b ∷ []) after next
step_by kind bytes numbers word b after next s true d e f h = absurd (cc)
step_by kind bytes numbers word b after next s false true e f h =
    let r = mapped (λ (ns : List ℤ). (ns, w.Blank)) (with_word numbers word) (after, next) h in
    subst (λ (q : List ℤ × Word). Stands kind (bytes ++ b ∷ []) q.0 q.1) r.2
    (blank_step kind bytes numbers word b r.0 s (leb-false LIST_BYTES (length bytes) e) f r.1)
step_by kind bytes numbers word b after next s false false e f h =
    let r = mapped (λ (x : Word). (numbers, x)) (word_after kind (length bytes) (length numbers) word b) (after, next) h in
    subst (λ (q : List ℤ × Word). Stands kind (bytes ++ b ∷ []) q.0 q.1) r.2
    (word_step kind bytes numbers word b r.0 s (leb-false LIST_BYTES (length bytes) e) f r.1)

-- after a byte that is read
pub stands_step : (kind : Kind) (bytes : List ℕ) (numbers : List ℤ) (word : Word) (b : ℕ) (after : List ℤ) (next : Word)
    → Stands kind bytes numbers word → stepped kind (length bytes) numbers word b ≡ Some (after, next) → Stands kind (bytes ++ b ∷ []) after next
stands_step kind bytes numbers word b after next s h =
    step_by kind bytes numbers word b after next s (nat_le LIST_BYTES (length bytes)) (is_blank b) refl refl h
