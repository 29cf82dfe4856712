-- Texts in quotes at the front of a rest: where one ends, what it writes, and what the code answers.
use Rattle.std.proofs.Common.{◌≡◌, ℕ, zero, suc, ◌+◌, ◌-◌, ◌≤◌, ◌==◌, ◌&&◌, ◌||◌, inl, inr, Bool, true, false, not, cond, List, [], ◌∷◌, ◌++◌, length}
use Rattle.std.proofs.Common.{take, drop, Option, Some, None, is_some, option_map, Result, Ok, Err, refl, sym, ap, ◌∙◌, subst, arith, add-one}
use Rattle.std.proofs.lemmas.Bool.{and_parts, and_from, or_parts, or_from, not-true, eq-eqb}
use Rattle.std.proofs.lemmas.List.{take-take, drop-take, length-take-le, take-append-drop}
use Rattle.sl_base.specs.Bytes.{begins}
use Rattle.sl_base.specs.Comments.{counts_all}
use Rattle.sl_base.specs.Pieces.{text_piece, is_text}
use Rattle.sl_base.specs.Places.{is_line_feed}
use Rattle.sl_base.specs.Quoted.{escape_of, text_end, unescaped, between, is_character}
use Rattle.sl_base.specs.declared.word.Word.TheVariants.{Text}
use Rattle.sl_lexer.specs.Means.Answers.{IsAnswer, IsUnescaped}
use Rattle.sl_lexer.specs.Means.Front.{first_at, text_len, one_len, closed_one, character_len, judged, judged_text}
use Rattle.sl_lexer.specs.declared.byte.First.TheVariants.{Quote, Apostrophe}
use Rattle.sl_lexer.specs.declared.error.LexErr.{LexErr}
use Rattle.sl_lexer.proofs.CommentLaws.{more-by, counts-all}
use Rattle.sl_lexer.proofs.FirstLaws.{at-byte, tells_at}

-- what bytes and what stands behind them write, of which this many bytes stand before
abbrev pub behind : List ℕ → ℕ → Result (List ℕ) ℕ → Result (List ℕ) ℕ
behind front before (Ok bytes) = Ok (front ++ bytes)
behind front before (Err n) = Err (n + before)

-- ## The end of a text in double quotes

-- a byte ends the text or stands before its end
by-byte : (escaped : Bool) (b : ℕ) (o : Option ℕ) (n : ℕ) (P : Type 0)
    → cond (is_line_feed b) None (cond (not escaped && (b == 34)) (Some 1) (option_map (λ k. k + 1) o)) ≡ Some n
    → (n ≡ 1 → is_line_feed b ≡ false → (not escaped && (b == 34)) ≡ true → P)
    → ((k : ℕ) → o ≡ Some k → n ≡ k + 1 → is_line_feed b ≡ false → (not escaped && (b == 34)) ≡ false → P)
    → P
by-byte escaped b o n P e ends goes =
    elim (is_line_feed b) as (λ t. is_line_feed b ≡ t
    → cond t None (cond (not escaped && (b == 34)) (Some 1) (option_map (λ k. k + 1) o)) ≡ Some n → P) [
      | true ↦ λ _ nothing. absurd cc
      | false ↦ λ on_line.
          elim (not escaped && (b == 34)) as (λ t. (not escaped && (b == 34)) ≡ t → cond t (Some 1) (option_map (λ k. k + 1) o) ≡ Some n → P) [
            | true ↦ λ quote one. let size : n ≡ 1 = cc in ends size on_line quote
            | false ↦ λ no_quote is. let m = more-by 1 o n is in goes m.0 m.1 m.2 on_line no_quote
          ] refl
    ] refl e

quote-least : (escaped : Bool) (xs : List ℕ) (n : ℕ) → text_end escaped xs ≡ Some n → 1 ≤ n
quote-least escaped [] n e = absurd cc
quote-least escaped (b ∷ bs) n e =
    by-byte escaped b (text_end (not escaped && (b == 92)) bs) n (1 ≤ n) e
    (λ size _ _. omega arith)
    (λ k is size _ _. omega arith)

quote-within : (escaped : Bool) (xs : List ℕ) (n : ℕ) → text_end escaped xs ≡ Some n → n ≤ length xs
quote-within escaped [] n e = absurd cc
quote-within escaped (b ∷ bs) n e =
    by-byte escaped b (text_end (not escaped && (b == 92)) bs) n (n ≤ suc (length bs)) e
    (λ size _ _. omega arith)
    (λ k is size _ _. omega (arith, quote-within (not escaped && (b == 92)) bs k is))

-- the quote is found in what it counts
quote-take : (escaped : Bool) (xs : List ℕ) (n : ℕ) → text_end escaped xs ≡ Some n → text_end escaped (take n xs) ≡ Some n
quote-take escaped [] n e = absurd cc
quote-take escaped (b ∷ bs) n e =
    by-byte escaped b (text_end (not escaped && (b == 92)) bs) n (text_end escaped (take n (b ∷ bs)) ≡ Some n) e
    (λ size on_line quote. subst (λ m. text_end escaped (take m (b ∷ bs)) ≡ Some m) (sym size) (rw (on_line, quote) refl))
    (λ k is size on_line no_quote.
    let more : n ≡ suc k = omega arith in
    subst (λ m. text_end escaped (take m (b ∷ bs)) ≡ Some m) (sym more)
    (rw (on_line, no_quote, quote-take (not escaped && (b == 92)) bs k is) (ap (λ m. Some m) (add-one k))))

-- and what counts all of a front counts the same in the whole
take-quote : (escaped : Bool) (xs : List ℕ) (k : ℕ) → k ≤ length xs → text_end escaped (take k xs) ≡ Some k → text_end escaped xs ≡ Some k
take-quote escaped xs zero h e = absurd cc
take-quote escaped [] (suc k) h e = absurd cc
take-quote escaped (b ∷ bs) (suc k) h e =
    by-byte escaped b (text_end (not escaped && (b == 92)) (take k bs)) (suc k) (text_end escaped (b ∷ bs) ≡ Some (suc k)) e
    (λ size on_line quote. rw (on_line, quote) (ap (λ m. Some m) (sym size)))
    (λ n is size on_line no_quote.
    let same : n ≡ k = omega arith in
    rw (on_line, no_quote, take-quote (not escaped && (b == 92)) bs k (omega arith) (is ∙ ap (λ m. Some m) same)) (ap (λ m. Some m) (add-one k)))

-- ## Texts in double quotes

-- what a text of this length says of the rest that it begins
pub text-shape : (rest : List ℕ) (m : ℕ) → m ≤ length rest → is_text (take m rest) ≡ true → (first_at rest ≡ Quote) × (text_len rest ≡ Some m)
text-shape rest zero within e = absurd cc
text-shape [] (suc m) within e = absurd cc
text-shape (b ∷ bs) (suc m) within e =
    let parts = and_parts (b == 34) (counts_all (text_end false (take m bs)) (take m bs)) e in
    let size : length (take m bs) ≡ m = length-take-le m bs (omega arith) in
    let inside : text_end false (take m bs) ≡ Some m = counts-all _ _ parts.1 ∙ ap (λ n. Some n) size in (
      at-byte 34 (b ∷ bs) parts.0,
      ap (option_map (λ n. n + 1)) (take-quote false bs m (omega arith) inside) ∙ ap (λ n. Some n) (add-one m),
    )

pub text-form : (rest : List ℕ) (n : ℕ) → first_at rest ≡ Quote → text_len rest ≡ Some n → (n ≤ length rest) × (is_text (take n rest) ≡ true)
text-form [] n quote e = absurd cc
text-form (b ∷ bs) n quote e =
    let m = more-by 1 (text_end false bs) n e in
    let more : n ≡ suc m.0 = omega (arith, m.2) in
    let size : length (take m.0 bs) ≡ m.0 = length-take-le m.0 bs (quote-within false bs m.0 m.1) in
    let all : counts_all (text_end false (take m.0 bs)) (take m.0 bs) ≡ true = rw (quote-take false bs m.0 m.1) (eq-eqb m.0 _ (sym size)) in (
      omega (arith, quote-within false bs m.0 m.1),
      subst (λ k. is_text (take k (b ∷ bs)) ≡ true) (sym more) (and_from _ _ (eq-eqb b 34 (tells_at (b ∷ bs) Quote quote)) all),
    )

-- ## Texts in single quotes

character-at : (bytes tail : List ℕ) → is_character bytes ≡ true → (first_at (bytes ++ tail) ≡ Apostrophe)
    × (character_len (bytes ++ tail) ≡ Some (length bytes))
character-at [] tail e = absurd cc
character-at (q ∷ []) tail e = absurd cc
character-at (q ∷ b ∷ []) tail e = absurd cc
character-at (q ∷ b ∷ r ∷ []) tail e =
    let last = and_parts ((q == 39) && not ((b == 39) || (b == 92) || is_line_feed b)) (r == 39) e in
    let parts = and_parts (q == 39) (not ((b == 39) || (b == 92) || is_line_feed b)) last.0 in
    let none = or_parts ((b == 39) || (b == 92)) (is_line_feed b) (not-true _ parts.1) in
    let quotes = or_parts (b == 39) (b == 92) none.0 in
    let plain : ((b == 39) || is_line_feed b) ≡ false = or_from _ _ quotes.0 none.1 in
    (at-byte 39 (q ∷ b ∷ r ∷ tail) parts.0, rw (quotes.1, plain, last.1) refl)
character-at (q ∷ s ∷ b ∷ r ∷ []) tail e =
    let last = and_parts ((q == 39) && (s == 92) && is_some (escape_of b)) (r == 39) e in
    let escape = and_parts ((q == 39) && (s == 92)) (is_some (escape_of b)) last.0 in
    let parts = and_parts (q == 39) (s == 92) escape.0 in
    (at-byte 39 (q ∷ s ∷ b ∷ r ∷ tail) parts.0, rw (parts.1, escape.1, last.1) refl)
character-at (q ∷ s ∷ b ∷ r ∷ t ∷ ts) tail e = absurd cc

pub character-shape : (rest : List ℕ) (m : ℕ) → m ≤ length rest → is_character (take m rest) ≡ true → (first_at rest ≡ Apostrophe)
    × (character_len rest ≡ Some m)
character-shape rest m within e =
    let whole : take m rest ++ drop m rest ≡ rest = take-append-drop m rest in
    let at = character-at (take m rest) (drop m rest) e in (
      subst (λ r. first_at r ≡ Apostrophe) whole at.0,
      subst (λ r. character_len r ≡ Some (length (take m rest))) whole at.1 ∙ ap (λ n. Some n) (length-take-le m rest within),
    )

abbrev IsCharacterFront : List ℕ → ℕ → Type 0
IsCharacterFront rest n = (n ≤ length rest) × (is_character (take n rest) ≡ true)

-- behind an escape stands a quote
escape-form : (b e : ℕ) (es : List ℕ) (n : ℕ) → (b == 92) ≡ true → is_some (escape_of e) ≡ true → closed_one (b ∷ e ∷ es) (Some 2) ≡ Some n
    → IsCharacterFront (39 ∷ b ∷ e ∷ es) n
escape-form b e [] n s known is = absurd cc
escape-form b e (r ∷ rs) n s known is =
    elim (r == 39) as (λ t. (r == 39) ≡ t → cond t (Some 4) None ≡ Some n → IsCharacterFront (39 ∷ b ∷ e ∷ r ∷ rs) n) [
      | true ↦ λ quote four. let size : 4 ≡ n = cc in subst (IsCharacterFront (39 ∷ b ∷ e ∷ r ∷ rs)) size (omega arith, rw (s, known, quote) refl)
      | false ↦ λ _ nothing. absurd cc
    ] refl is

-- or behind one byte
byte-form : (b : ℕ) (bs : List ℕ) (n : ℕ) → (b == 92) ≡ false → ((b == 39) || is_line_feed b) ≡ false → closed_one (b ∷ bs) (Some 1) ≡ Some n
    → IsCharacterFront (39 ∷ b ∷ bs) n
byte-form b [] n s plain is = absurd cc
byte-form b (r ∷ rs) n s plain is =
    let parts = or_parts (b == 39) (is_line_feed b) plain in
    elim (r == 39) as (λ t. (r == 39) ≡ t → cond t (Some 3) None ≡ Some n → IsCharacterFront (39 ∷ b ∷ r ∷ rs) n) [
      | true ↦ λ quote three. let size : 3 ≡ n = cc in subst (IsCharacterFront (39 ∷ b ∷ r ∷ rs)) size
          (omega arith, rw (parts.0, s, parts.1, quote) refl)
      | false ↦ λ _ nothing. absurd cc
    ] refl is

one-form : (behind : List ℕ) (n : ℕ) → closed_one behind (one_len behind) ≡ Some n → IsCharacterFront (39 ∷ behind) n
one-form [] n e = absurd cc
one-form (b ∷ bs) n e =
    elim (b == 92) as (λ t. (b == 92) ≡ t
    → closed_one (b ∷ bs)
    (cond t (cond (begins (λ c. is_some (escape_of c)) bs) (Some 2) None) (cond ((b == 39) || is_line_feed b) None (Some 1))) ≡ Some n
    → IsCharacterFront (39 ∷ b ∷ bs) n) [
      | true ↦ λ s is. escape b bs n s is
      | false ↦ λ s.
          elim ((b == 39) || is_line_feed b) as (λ t. ((b == 39) || is_line_feed b) ≡ t → closed_one (b ∷ bs) (cond t None (Some 1)) ≡ Some n
          → IsCharacterFront (39 ∷ b ∷ bs) n) [
            | true ↦ λ _ nothing. absurd cc
            | false ↦ λ plain is. byte-form b bs n s plain is
          ] refl
    ] refl e
  where
    escape : (b : ℕ) (bs : List ℕ) (n : ℕ) → (b == 92) ≡ true
        → closed_one (b ∷ bs) (cond (begins (λ c. is_some (escape_of c)) bs) (Some 2) None) ≡ Some n → IsCharacterFront (39 ∷ b ∷ bs) n
    escape b [] n s is = absurd cc
    escape b (e ∷ es) n s is =
        elim (is_some (escape_of e)) as (λ t. is_some (escape_of e) ≡ t → closed_one (b ∷ e ∷ es) (cond t (Some 2) None) ≡ Some n
        → IsCharacterFront (39 ∷ b ∷ e ∷ es) n) [
          | true ↦ λ known is. escape-form b e es n s known is
          | false ↦ λ _ nothing. absurd cc
        ] refl is

pub character-form : (rest : List ℕ) (n : ℕ) → first_at rest ≡ Apostrophe → character_len rest ≡ Some n → (n ≤ length rest)
    × (is_character (take n rest) ≡ true)
character-form [] n quote e = absurd cc
character-form (q ∷ behind) n quote e = subst (λ b. IsCharacterFront (b ∷ behind) n) (sym (tells_at (q ∷ behind) Apostrophe quote))
    (one-form behind n e)

-- ## What the code answers

-- as a slice gives the bytes between the quotes
pub between-slice : (rest : List ℕ) (len : ℕ) → 2 ≤ len → len ≤ length rest → take (len - 1 - 1) (drop 1 rest) ≡ between (take len rest)
between-slice rest len two within =
    let inside : 1 + (len - 1) ≡ len = omega arith in
    let behind_first : drop 1 (take len rest) ≡ take (len - 1) (drop 1 rest) = ap (λ n. drop 1 (take n rest)) (sym inside)
    ∙ drop-take 1 (len - 1) rest in
    let fewer : len - 1 - 1 ≡ length (take len rest) - 2 = omega (arith, length-take-le len rest within) in
    ap (λ n. take n (drop 1 rest)) fewer
    ∙ sym (take-take (length (take len rest) - 2) (len - 1) (drop 1 rest) (omega (arith, length-take-le len rest within)))
    ∙ ap (take (length (take len rest) - 2)) (sym behind_first)

pub text-ok : (from : ℕ) (rest : List ℕ) (len : ℕ) (bytes : List ℕ) → IsUnescaped from (unescaped false (between (take len rest))) (Ok bytes)
    → IsAnswer from rest (judged text_piece len rest) (Ok (record { word = Some (Text bytes); len = len }))
text-ok from rest len bytes h =
    elim (unescaped false (between (take len rest))) as (λ u. unescaped false (between (take len rest)) ≡ u → IsUnescaped from u (Ok bytes)
    → IsAnswer from rest (judged_text len u) (Ok (record { word = Some (Text bytes); len = len }))) [
      | Ok ws ↦ λ e said. elim said [ inl same ↦ inl (rw e cc) | inr other ↦ absurd cc ]
      | Err n ↦ λ e said. elim said [ inl other ↦ absurd cc | inr other ↦ absurd cc ]
    ] refl h

pub text-err : (from : ℕ) (rest : List ℕ) (len : ℕ) (error : LexErr) → IsUnescaped from (unescaped false (between (take len rest))) (Err error)
    → IsAnswer from rest (judged text_piece len rest) (Err error)
text-err from rest len error h =
    elim (unescaped false (between (take len rest))) as (λ u. IsUnescaped from u (Err error) → IsAnswer from rest (judged_text len u) (Err error)) [
      | Ok ws ↦ λ said. elim said [ inl other ↦ absurd cc | inr memory ↦ inr cc ]
      | Err n ↦ λ said. elim said [ inl same ↦ inl cc | inr memory ↦ inr cc ]
    ] h
