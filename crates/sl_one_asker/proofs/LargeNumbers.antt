-- Numbers that are greater than a token may be: how many are among literals, and among words.
use Rattle.std.proofs.Common.{arith, ◌≡◌, ℕ, ℤ, pos, suc, ◌≤◌, Bool, true, false, List, [], ◌∷◌, refl}
use Rattle.std.specs.Prelude.{if◌then◌else◌}
use Rattle.std.specs.List.{list_all}
use Rattle.std.proofs.lemmas.Bool.{and_from, le-leb}
use Rattle.sl_base.specs.declared.limits.TheConstants.{LARGEST_NUMBER}
use Rattle.sl_base.specs.declared.place.Place.{Place}
use Rattle.sl_base.specs.declared.token.Token.{Token}
use Rattle.sl_base.specs.declared.word.Word.{Word}
use Rattle.sl_base.specs.declared.word.Word.TheVariants as w
use Rattle.sl_syntax.specs.Placed.{Spells}
use Rattle.sl_syntax.specs.Written.{Written, from_place}
use Rattle.sl_typing.specs.Numbering.{truth_number}
use Rattle.sl_well_typed.specs.Small.{is_small}
use Rattle.sl_one_asker.specs.SmallNumbers.{HaveSmallNumbers}
use Rattle.sl_one_asker.proofs.Totals.{total, SkipsMarks}

-- one, if a number is greater than a token may be
unfoldable pub large : ℤ → ℕ
large z = if is_small z then 0 else 1

-- how many of these are
abbrev pub large_among : List ℤ → ℕ
large_among zs = total large zs

-- the same of words
abbrev pub large_word : Word → ℕ
large_word (w.Number n) = large (pos n)
large_word word = 0

abbrev pub large_in : Written → ℕ
large_in x = large_word x.word

abbrev pub large_words : List Written → ℕ
large_words words = total large_in words

-- neither a further place nor a mark is a number
pub large_words-from_place : (p : Place) (xs : List Written) → large_words (from_place p xs) ≡ large_words xs
large_words-from_place p [] = refl
large_words-from_place p (x ∷ xs) = refl

pub no_mark_is_large : SkipsMarks large_in
no_mark_is_large x = refl

-- 0 and 1 aren't large
pub truth_is_small : (x : Bool) → large (truth_number x) ≡ 0
unfolding large
truth_is_small true = refl
truth_is_small false = refl

-- a number that a token may be isn't
number_is_small : (n : ℕ) → n ≤ LARGEST_NUMBER → large (pos n) ≡ 0
unfolding large
number_is_small n h = let small : is_small (pos n) ≡ true = le-leb n LARGEST_NUMBER h in rw small refl

word_is_small : (word : Word) → ((n : ℕ) → word ≡ w.Number n → n ≤ LARGEST_NUMBER) → large_word word ≡ 0
word_is_small (w.Number n) h = number_is_small n (h n refl)
word_is_small word h = refl

-- so words that tokens with such numbers spell have none that are
pub none_is_large : (xs : List Written) (tokens rest : List Token) → Spells xs tokens rest → HaveSmallNumbers tokens → large_words xs ≡ 0
none_is_large [] tokens rest h small = refl
none_is_large (x ∷ xs) [] rest h small = absurd h
none_is_large (x ∷ xs) (t ∷ ts) rest h small =
    let first = word_is_small t.word (λ n e. small 0 n t refl e) in
    let same : large_word t.word ≡ large_word x.word = rw h.0.0 refl in
    let others = none_is_large xs ts rest h.1 (λ i n u there e. small (suc i) n u there e) in
    omega arith

-- literals of which none is large are small
small_where_none : (z : ℤ) → large z ≡ 0 → is_small z ≡ true
unfolding large
small_where_none z h = by_test (is_small z) h
  where
    by_test : (b : Bool) → ◌≡◌ {A = ℕ} (if b then 0 else 1) 0 → b ≡ true
    by_test true h = refl
    by_test false h = absurd (omega arith)

pub all_small : (zs : List ℤ) → large_among zs ≡ 0 → list_all is_small zs ≡ true
all_small [] none = refl
all_small (z ∷ zs) none =
    let first : large z ≡ 0 = omega arith in
    let others : large_among zs ≡ 0 = omega arith in
    and_from (is_small z) (list_all is_small zs) (small_where_none z first) (all_small zs others)
