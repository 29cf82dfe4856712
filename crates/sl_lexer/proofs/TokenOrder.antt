-- The tokens of a text come in the order of their places.
use Rattle.std.proofs.Common.{arith, ◌≡◌, ℕ, zero, suc, ◌+◌, ◌<◌, ◌≤◌, Bool, false, List, [], ◌∷◌, length, take, drop, Option, Some, None, refl, ap}
use Rattle.std.proofs.Common.{subst}
use Rattle.std.specs.Prelude.{slice_get, ◌||◌, is_some}
use Rattle.std.specs.Option.{option_map}
use Rattle.std.specs.List.{filter_map, cons_option}
use Rattle.sl_base.specs.declared.token.Token.{Token}
use Rattle.sl_base.specs.declared.word.Word.{Word}
use Rattle.sl_base.specs.Places.{place_at}
use Rattle.sl_base.specs.Pieces.{word_of}
use Rattle.sl_base.specs.Tokens.{Piece, Stands, Follow, token_of, Tokens, TokensAscend}
use Rattle.sl_base.proofs.PlaceOrder.{place-ascends}
use Rattle.sl_lexer.proofs.CutLaws.{piece-some, piece-within}

-- a token begins at an offset of the text that isn't before another, and its place is that of its offset
abbrev IsTokenFrom : List ℕ → ℕ → Token → Type 0
IsTokenFrom text from t = (from ≤ t.offset) × (t.offset < length text) × (t.place ≡ place_at text t.offset)

-- the token of a word that stands at an offset
abbrev token_at : List ℕ → ℕ → Word → Token
token_at text from w = record { word = w; offset = from; place = place_at text from }

-- the first of some tokens, where it is one, and the others
tokens_case : (text : List ℕ) (from : ℕ) (word : Option Word) (rest : List Token) (i : ℕ) (t : Token) → from < length text
    → ((j : ℕ) → slice_get rest j ≡ Some t → IsTokenFrom text from t)
    → slice_get (cons_option (option_map (token_at text from) word) rest) i ≡ Some t → IsTokenFrom text from t
tokens_case text from None rest i t within others h = others i h
tokens_case text from (Some w) rest zero t within others h = let e : token_at text from w ≡ t = cc in rw (← e) (omega arith, within, refl)
tokens_case text from (Some w) rest (suc i) t within others h = others i h

-- a piece has a byte and is within the text
piece_at : (text : List ℕ) (seen : Bool) (p : Piece) (from : ℕ) → p.from ≡ from → Stands text seen p → (0 < p.len) × (from < length text)
piece_at text seen p from e stands =
    let some = piece-some text seen p.from p.kind p.len stands.longest.piece in
    let within = piece-within text seen p.from p.kind p.len stands.longest.piece in
    (some, omega arith)

-- each token of some pieces begins where they begin or later
token_in : (text : List ℕ) (seen : Bool) (from : ℕ) (ps : List Piece) (to : ℕ) → Follow text seen from ps to → (i : ℕ) (t : Token)
    → slice_get (filter_map (token_of text) ps) i ≡ Some t → IsTokenFrom text from t
token_in text seen from [] to f i t h = absurd cc
token_in text seen from (p ∷ ps) to f i t h =
    let at = piece_at text seen p from f.0 f.1 in
    tokens_case text from (word_of p.kind (take p.len (drop from text))) (filter_map (token_of text) ps) i t at.1
    (λ j g. let r = token_in text (seen || is_some (token_of text p)) (from + p.len) ps to f.2 j t g in ((let le = r.0 in omega arith), r.1, r.2))
    (subst (λ n. slice_get (cons_option (option_map (token_at text n) (word_of p.kind (take p.len (drop n text)))) (filter_map (token_of text) ps))
    i ≡ Some t) f.0 h)

-- the first of some tokens begins before the others, which begin in their order
offsets_case : (text : List ℕ) (from next : ℕ) (word : Option Word) (rest : List Token) (i j : ℕ) (s t : Token) → i < j → from < next
    → ((k : ℕ) → slice_get rest k ≡ Some t → next ≤ t.offset)
    → ((k l : ℕ) → k < l → slice_get rest k ≡ Some s → slice_get rest l ≡ Some t → s.offset < t.offset)
    → slice_get (cons_option (option_map (token_at text from) word) rest) i ≡ Some s
    → slice_get (cons_option (option_map (token_at text from) word) rest) j ≡ Some t → s.offset < t.offset
offsets_case text from next None rest i j s t lt step behind others a b = others i j lt a b
offsets_case text from next (Some w) rest i zero s t lt step behind others a b = absurd (omega arith)
offsets_case text from next (Some w) rest zero (suc j) s t lt step behind others a b = let e : token_at text from w ≡ s = cc in
    let o : from ≡ s.offset = ap (λ (u : Token). u.offset) e in let le = behind j b in omega arith
offsets_case text from next (Some w) rest (suc i) (suc j) s t lt step behind others a b = others i j (omega arith) a b

-- the offsets of tokens ascend
offsets_ascend : (text : List ℕ) (seen : Bool) (from : ℕ) (ps : List Piece) (to : ℕ) → Follow text seen from ps to → (i j : ℕ) (s t : Token) → i < j
    → slice_get (filter_map (token_of text) ps) i ≡ Some s → slice_get (filter_map (token_of text) ps) j ≡ Some t → s.offset < t.offset
offsets_ascend text seen from [] to f i j s t lt a b = absurd cc
offsets_ascend text seen from (p ∷ ps) to f i j s t lt a b =
    let at = piece_at text seen p p.from refl f.1 in
    let some = at.0 in
    offsets_case text p.from (p.from + p.len) (word_of p.kind (take p.len (drop p.from text))) (filter_map (token_of text) ps) i j s t
    lt (omega arith)
    (λ k g. let r = token_in text (seen || is_some (token_of text p)) (from + p.len) ps to f.2 k t g in let le = r.0 in let e = f.0 in omega arith)
    (λ k l less x y. offsets_ascend text (seen || is_some (token_of text p)) (from + p.len) ps to f.2 k l s t less x y) a b

-- so it is in each text
pub tokens-ascend : (text : List ℕ) (tokens : List Token) → Tokens text tokens → TokensAscend tokens
tokens-ascend text tokens cut i j s t lt a b =
    let pieces : List Piece = cut.0 in
    let p = rw cut.2 at a in
    let q = rw cut.2 at b in
    let first = token_in text false 0 pieces (length text) cut.1 i s p in
    let second = token_in text false 0 pieces (length text) cut.1 j t q in
    let within = second.1 in
    rw (first.2, second.2)
    (place-ascends text s.offset t.offset (offsets_ascend text false 0 pieces (length text) cut.1 i j s t lt p q) (omega arith))
