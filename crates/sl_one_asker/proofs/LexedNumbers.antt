-- No number among the tokens of a text is greater than a token may be: it would break a rule where it begins.
use Rattle.std.proofs.Common.{arith, ◌≡◌, ℕ, zero, suc, ◌+◌, ◌<◌, ◌≤◌, Bool, true, false, List, [], ◌∷◌, length, take, drop, Option, Some, None}
use Rattle.std.proofs.Common.{refl, ap, sym, subst, ◌∙◌}
use Rattle.std.proofs.Common.{inl, ⊎_elim}
use Rattle.std.specs.Prelude.{◌||◌, is_some, nat_lt, if◌then◌else◌}
use Rattle.std.specs.Option.{option_map}
use Rattle.std.proofs.lemmas.Option.{same_Some}
use Rattle.std.specs.List.{filter_map, cons_option}
use Rattle.std.proofs.lemmas.Bool.{cases_Bool, ltb-true, ltb-false}
use Rattle.sl_base.specs.declared.limits.TheConstants.{LARGEST_NUMBER}
use Rattle.sl_base.specs.declared.mark.Mark.{Mark}
use Rattle.sl_base.specs.declared.token.Token.{Token}
use Rattle.sl_base.specs.declared.word.Word.{Word}
use Rattle.sl_base.specs.declared.word.Word.TheVariants as w
use Rattle.sl_base.specs.Keywords.{is_keyword}
use Rattle.sl_base.specs.Marks.{mark_of}
use Rattle.sl_base.specs.Places.{place_at}
use Rattle.sl_base.specs.Pieces.{PieceKind, blank_piece, comment_piece, directive_piece, name_piece, lib_piece, number_piece, text_piece, mark_piece}
use Rattle.sl_base.specs.Pieces.{word_of, decimal, bad_number, no_number, IsLongest}
use Rattle.sl_base.specs.Tokens.{Stands, Follow, Piece, token_of, Tokens}
use Rattle.sl_one_asker.specs.SmallNumbers.{HaveSmallNumbers}

-- neither a name nor a mark is a number
name_is_none : (b : Bool) (bytes : List ℕ) (n : ℕ) → Some (if b then w.Key bytes else w.Name bytes) ≡ Some (w.Number n) → ⊥
name_is_none true bytes n h = cc
name_is_none false bytes n h = cc

mark_is_none : (o : Option Mark) (n : ℕ) → option_map w.Mark o ≡ Some (w.Number n) → ⊥
mark_is_none None n h = cc
mark_is_none (Some x) n h = cc

-- so a piece whose word is a number is one
number_word : (kind : PieceKind) (bytes : List ℕ) (n : ℕ) → word_of kind bytes ≡ Some (w.Number n) → (kind ≡ number_piece) × (decimal bytes ≡ n)
number_word blank_piece bytes n h = absurd cc
number_word comment_piece bytes n h = absurd cc
number_word directive_piece bytes n h = absurd cc
number_word name_piece bytes n h = absurd (name_is_none (is_keyword bytes) bytes n h)
number_word lib_piece bytes n h = absurd cc
number_word number_piece bytes n h = (refl, cc)
number_word text_piece bytes n h = absurd cc
number_word mark_piece bytes n h = absurd (mark_is_none (mark_of bytes) n h)

-- a number that stands in a text is small
number_stands : (text : List ℕ) (seen : Bool) (p : Piece) (n : ℕ) → Stands text seen p
    → word_of p.kind (take p.len (drop p.from text)) ≡ Some (w.Number n) → n ≤ LARGEST_NUMBER
number_stands text seen p n stands h =
    let two = number_word p.kind (take p.len (drop p.from text)) n h in
    let number = subst (λ (k : PieceKind). IsLongest text seen p.from k p.len) two.0 stands.longest in
    ⊎_elim
    (λ (more : nat_lt LARGEST_NUMBER n ≡ true).
    let over : LARGEST_NUMBER < decimal (take p.len (drop p.from text)) = rw two.1 (ltb-true LARGEST_NUMBER n more) in
    absurd (stands.unbroken bad_number p.from (no_number p.len number (inl over))))
    (λ (less : nat_lt LARGEST_NUMBER n ≡ false). let no = ltb-false LARGEST_NUMBER n less in omega arith)
    (cases_Bool (nat_lt LARGEST_NUMBER n))

-- the first of some tokens, where it is one, and the others
numbers_case : (text : List ℕ) (p : Piece) (word : Option Word) (rest : List Token) → ((n : ℕ) → word ≡ Some (w.Number n) → n ≤ LARGEST_NUMBER)
    → HaveSmallNumbers rest
    → HaveSmallNumbers (cons_option (option_map (λ (x : Word). record { word = x; offset = p.from; place = place_at text p.from }) word) rest)
numbers_case text p None rest first others i n t there e = others i n t there e
numbers_case text p (Some x) rest first others zero n t there e =
    let same : x ≡ t.word = ap (λ (u : Token). u.word) (same_Some _ t there) in first n (ap (λ (y : Word). Some y) (same ∙ e))
numbers_case text p (Some x) rest first others (suc i) n t there e = others i n t there e

-- those of pieces that follow one another
numbers_in : (text : List ℕ) (seen : Bool) (from : ℕ) (ps : List Piece) (to : ℕ) → Follow text seen from ps to
    → HaveSmallNumbers (filter_map (token_of text) ps)
numbers_in text seen from [] to f i n t there e = absurd cc
numbers_in text seen from (p ∷ ps) to f i n t there e =
    numbers_case text p (word_of p.kind (take p.len (drop p.from text))) (filter_map (token_of text) ps)
    (λ k h. number_stands text seen p k f.1 h) (numbers_in text (seen || is_some (token_of text p)) (from + p.len) ps to f.2) i n t there e

-- so it is in each text
pub text_has_small_numbers : (text : List ℕ) (tokens : List Token) → Tokens text tokens → HaveSmallNumbers tokens
text_has_small_numbers text tokens cut =
    subst (λ (ts : List Token). HaveSmallNumbers ts) (sym cut.2) (numbers_in text false 0 cut.0 (length text) cut.1)
