-- What the tokens are that spell some words, and how a row of items is read.
use Rattle.std.proofs.Common.{append-nil, subst, ◌≡◌, ℕ, zero, suc, ◌<◌, ◌≤◌, max, Bool, true, false, List, [], ◌∷◌, ◌++◌, length, flat_map, Ok, refl}
use Rattle.std.proofs.Common.{sym, ◌∙◌, arith, append_assoc}
use Rattle.sl_base.specs.declared.token.Token.{Token}
use Rattle.sl_syntax.specs.declared.token_kind.TokenKind.{TokenKind}
use Rattle.sl_syntax.specs.Depth.{highest}
use Rattle.sl_syntax.specs.Shaped.{Each}
use Rattle.sl_syntax.specs.Written.{Written}
use Rattle.sl_grammar.specs.Means.Steps.{Outcome, Reader, Tall, kind_at, repeat, all_behind}
use Rattle.sl_grammar.proofs.Spelling.{Spelled, split, spells-length}

-- one turn of a repetition reads this item
pub record Turn {A : Type 0} (goes : TokenKind → Bool) (item : Reader (Tall A)) (h : A → ℕ) (x : A) (ts mid : List Token) : Type 0 where
  pub goes_on : goes (kind_at ts) ≡ true
  pub reads : item ts ≡ Ok ((x, h x), mid)

max-zero : (n : ℕ) → max n 0 ≡ n
max-zero n = omega arith

max-assoc : (a b c : ℕ) → max (max a b) c ≡ max a (max b c)
max-assoc a b c = omega arith

done_alone : {A : Type 0} (h : A → ℕ) (done : List A) (top : ℕ) (rest : List Token)
    → ◌≡◌ {A = Outcome (Tall (List A))} (Ok ((done, top), rest)) (Ok ((done ++ [], max top 0), rest))
done_alone h done top rest = rw (append-nil, max-zero) refl

done_more : {A : Type 0} (h : A → ℕ) (done : List A) (top : ℕ) (x : A) (xs : List A) (rest : List Token)
    → ◌≡◌ {A = Outcome (Tall (List A))} (Ok (((done ++ x ∷ []) ++ xs, max (max top (h x)) (highest h xs)), rest))
    (Ok ((done ++ x ∷ xs, max top (max (h x) (highest h xs))), rest))
done_more h done top x xs rest = rw (append_assoc, max-assoc) refl

module _ {A : Type 0} (goes : TokenKind → Bool) (item : Reader (Tall A)) (h : A → ℕ) where
  -- turn by turn these items are read, each takes a token at least, and nothing goes on
  abbrev pub Row : List A → List Token → List Token → Type 0
  Row [] ts rest = (ts ≡ rest) × (goes (kind_at rest) ≡ false)
  Row (x ∷ xs) ts rest = (mid : List Token) × Turn goes item h x ts mid × (length mid < length ts) × Row xs mid rest

  row-length : (xs : List A) (ts rest : List Token) → Row xs ts rest → length xs ≤ length ts
  row-length [] ts rest r = omega arith
  row-length (x ∷ xs) ts rest r = omega (arith, r.2, row-length xs r.0 rest r.3)

  repeat-row : (xs : List A) (n : ℕ) (done : List A) (top : ℕ) (ts rest : List Token) → length xs ≤ n → Row xs ts rest
      → repeat goes item n (done, top) ts ≡ Ok ((done ++ xs, max top (highest h xs)), rest)
  unfolding repeat
  repeat-row [] zero done top ts rest l r = rw (r.0, r.1) (done_alone h done top rest)
  repeat-row [] (suc n) done top ts rest l r = rw (r.0, r.1) (done_alone h done top rest)
  repeat-row (x ∷ xs) zero done top ts rest l r = absurd (omega arith)
  repeat-row (x ∷ xs) (suc n) done top ts rest l r =
      rw (r.1.goes_on, r.1.reads) (repeat-row xs n (done ++ x ∷ []) (max top (h x)) r.0 rest (omega arith) r.3 ∙ done_more h done top x xs rest)

  pub all-row : (xs : List A) (done : List A) (top : ℕ) (ts rest : List Token) → Row xs ts rest
      → all_behind goes item (done, top) ts ≡ Ok ((done ++ xs, max top (highest h xs)), rest)
  all-row xs done top ts rest r = repeat-row xs (length ts) done top ts rest (row-length xs ts rest r) r

  -- Items that are spelled one behind another are a row, where each is read before what fits behind it and begins with what fits.
  module _ (w : A → List Written) (P : A → Type 0) (Fits : TokenKind → Type 0)
      (turn : (x : A) (ts mid : List Token) → P x → Fits (kind_at mid) → Spelled (w x) ts mid → Turn goes item h x ts mid)
      (first : (x : A) (ts mid : List Token) → P x → Spelled (w x) ts mid → Fits (kind_at ts)) (some : (x : A) → 1 ≤ length (w x)) where
    fits : (xs : List A) (ts rest : List Token) → Each P xs → Fits (kind_at rest) → Spelled (flat_map w xs) ts rest → Fits (kind_at ts)
    fits [] ts rest p f s = subst (λ (v : List Token). Fits (kind_at v)) (sym s.spells) f
    fits (x ∷ xs) ts rest p f s = split (w x) s (λ mid a b. first x ts mid p.0 a)

    pub row : (xs : List A) (ts rest : List Token) → Each P xs → Fits (kind_at rest) → goes (kind_at rest) ≡ false
        → Spelled (flat_map w xs) ts rest → Row xs ts rest
    row [] ts rest p f e s = (s.spells, e)
    row (x ∷ xs) ts rest p f e s =
        split (w x) s
        (λ mid a b. (
          mid,
          turn x ts mid p.0 (fits xs mid rest p.1 f b) a,
          omega (arith, some x, spells-length (w x) ts mid a.spells),
          row xs mid rest p.1 f e b,
        ))
