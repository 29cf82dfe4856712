-- Two readings of the same words do the same up to a point: what is said of steps, and of how they are put together.
use Rattle.std.proofs.Common.{◌≡◌, ℕ, zero, suc, ◌+◌, ◌<◌, ◌≤◌, max, Bool, true, false, if◌then◌else◌, List, [], ◌∷◌, ◌++◌, length, drop, Ok, Err}
use Rattle.std.proofs.Common.{refl, ap, subst, arith, length-drop}
use Rattle.sl_base.specs.declared.mark.Mark.{Mark}
use Rattle.sl_base.specs.declared.place.Place.{Place}
use Rattle.sl_base.specs.declared.token.Token.{Token}
use Rattle.sl_base.specs.declared.word.Word.{Word}
use Rattle.sl_base.specs.declared.word.Word.TheVariants as w
use Rattle.sl_syntax.specs.declared.token_kind.TokenKind.{TokenKind}
use Rattle.sl_syntax.specs.declared.token_kind.TokenKind.TheVariants as k
use Rattle.sl_syntax.specs.TokenKinds.{kind_of}
use Rattle.sl_grammar.specs.declared.fault.Fault.TheVariants.{Memory, Grammar}
use Rattle.sl_grammar.specs.Means.Steps.{refusal, Outcome, Reader, Tall, and_then, kind_at, here, is_mark, mark, by_word, identifier, identifier_by}
use Rattle.sl_grammar.specs.Means.Steps.{library, library_by, repeat, all_behind}

-- how many tokens are left where a reader stops
abbrev pub left_over : {A : Type 0} → Outcome A → ℕ
left_over (Ok p) = length p.1
left_over (Err (Grammar n)) = n
left_over (Err Memory) = 0

-- A reader that had n tokens stops among them, and behind d of them where it reads something. It has no fault of another kind.
abbrev pub Within : {A : Type 0} → ℕ → ℕ → Outcome A → Type 0
Within d n (Ok p) = length p.1 + d ≤ n
Within d n (Err (Grammar k)) = k ≤ n
Within d n (Err Memory) = ⊥

-- the values are of one height
abbrev pub Level : {A : Type 0} → Tall A → Tall A → Type 0
Level x y = x.1 ≡ y.1

-- nothing that is looked at depends on the values
abbrev pub Any : {A : Type 0} → A → A → Type 0
Any x y = Unit {0}

module _ (b : ℕ) where
  -- the words are the same as long as at least b tokens are left in the first
  pub data Same : List Token → List Token → Type 0 where
    step : (t t' : Token) (ts ts' : List Token) → t.word ≡ t'.word → Same ts ts' → Same (t ∷ ts) (t' ∷ ts')
    end : Same [] []
    cut : (ts ts' : List Token) → length ts < b → Same ts ts'

  -- Both stop behind the same words, with values as R says or both at a fault; or the first stops where fewer than b tokens are left.
  pub data Agree {A : Type 0} (R : A → A → Type 0) : Outcome A → Outcome A → Type 0 where
    in_step : (x y : A) (s s' : List Token) → R x y → Same s s' → Agree R (Ok (x, s)) (Ok (y, s'))
    at_fault : (s s' : List Token) → Same s s' → Agree R (Err (refusal s)) (Err (refusal s'))
    past : (o o' : Outcome A) → left_over o < b → Agree R o o'

  -- what readers at these tokens give: the same as long as the words are, and each stops among its tokens, d of them taken where it reads something
  pub record Near {A : Type 0} (d : ℕ) (R : A → A → Type 0) (s s' : List Token) (o o' : Outcome A) : Type 0 where
    pub agrees : Same s s' → Agree R o o'
    pub within : Within d (length s) o
    pub within' : Within d (length s') o'

-- readers of which each two outcomes are so near
abbrev pub Twins : {A : Type 0} → ℕ → ℕ → (A → A → Type 0) → Reader A → Reader A → Type 0
Twins b d R p q = (s s' : List Token) → Near b d R s s' (p s) (q s')

pub left-within : {A : Type 0} (d n : ℕ) (o : Outcome A) → Within d n o → left_over o ≤ n
left-within d n (Ok p) h = omega (arith, h)
left-within d n (Err (Grammar k)) h = h
left-within d n (Err Memory) h = absurd h

behind-within : {A : Type 0} (d e m n : ℕ) (o : Outcome A) → m + d ≤ n → Within e m o → Within (max d e) n o
behind-within d e m n (Ok p) l h = omega (arith, l, h)
behind-within d e m n (Err (Grammar k)) l h = omega (arith, l, h)
behind-within d e m n (Err Memory) l h = h

bind-within : {A B : Type 0} (d e n : ℕ) (o : Outcome A) (f : A → Reader B) → ((x : A) (u : List Token) → Within e (length u) (f x u))
    → Within d n o → Within (max d e) n (and_then o f)
bind-within d e n (Ok p) f h l = behind-within d e (length p.1) n (f p.0 p.1) l (h p.0 p.1)
bind-within d e n (Err (Grammar k)) f h l = l
bind-within d e n (Err Memory) f h l = l

pub bind-left : {A B : Type 0} (e : ℕ) (o : Outcome A) (f : A → Reader B) → ((x : A) (u : List Token) → Within e (length u) (f x u))
    → left_over (and_then o f) ≤ left_over o
bind-left e (Ok p) f h = left-within e (length p.1) (f p.0 p.1) (h p.0 p.1)
bind-left e (Err (Grammar k)) f h = omega arith
bind-left e (Err Memory) f h = omega arith

loose-within : {A : Type 0} (n : ℕ) (o : Outcome A) → Within 1 n o → Within 0 n o
loose-within n (Ok p) h = omega (arith, h)
loose-within n (Err (Grammar k)) h = h
loose-within n (Err Memory) h = h

wider-within : {A : Type 0} (d m n : ℕ) (o : Outcome A) → m ≤ n → Within d m o → Within d n o
wider-within d m n (Ok p) l h = omega (arith, l, h)
wider-within d m n (Err (Grammar k)) l h = omega (arith, l, h)
wider-within d m n (Err Memory) l h = h

-- where no token is left, a reader that takes one refuses
none-left : {A : Type 0} (o : Outcome A) → Within 1 0 o → o ≡ Err (Grammar 0)
none-left (Ok p) h = absurd (omega (arith, h))
none-left (Err (Grammar zero)) h = refl
none-left (Err (Grammar (suc k))) h = absurd (omega (arith, h))
none-left (Err Memory) h = absurd h

known-within : {A : Type 0} (d : ℕ) (F : TokenKind → Reader A) → Within d 0 (F k.End [])
    → ((k : TokenKind) (s : List Token) → 1 ≤ length s → Within d (length s) (F k s)) → (s : List Token) → Within d (length s) (F (kind_at s) s)
known-within d F l h [] = l
known-within d F l h (t ∷ ts) = h (kind_of t.word) (t ∷ ts) (omega arith)

worded-within : {A : Type 0} (d : ℕ) (F : Place → Word → Reader A)
    → ((p : Place) (x : Word) (s : List Token) → 1 ≤ length s → Within d (length s) (F p x s))
    → (s : List Token) → Within d (length s) (by_word F s)
worded-within d F h [] = omega arith
worded-within d F h (t ∷ ts) = h t.place t.word (t ∷ ts) (omega arith)

module _ (b : ℕ) (s s' : List Token) where
  data Met : Type 0 where
    together : kind_at s ≡ kind_at s' → Met
    apart : length s < b → Met

meets : (b : ℕ) (s s' : List Token) → Same b s s' → Met b s s'
meets b _ _ (step t t' ts ts' q r) = together (ap kind_of q)
meets b _ _ end = together refl
meets b _ _ (cut s s' l) = apart l

module _ {b : ℕ} where
  pub yields : {A : Type 0} {R : A → A → Type 0} {s s' : List Token} {x y : A} → R x y → Near b 0 R s s' (Ok (x, s)) (Ok (y, s'))
  yields {A} {R} {s} {s'} {x} {y} r = record { agrees = λ e. in_step x y s s' r e; within = omega arith; within' = omega arith }

  pub refuses : {A : Type 0} {d : ℕ} {R : A → A → Type 0} {s s' : List Token} → Near b d R s s' (Err (refusal s)) (Err (refusal s'))
  refuses {A} {d} {R} {s} {s'} = record { agrees = λ e. at_fault s s' e; within = omega arith; within' = omega arith }

  bind-agrees : {A B : Type 0} (d e n n' : ℕ) (R : A → A → Type 0) (S : B → B → Type 0) (o o' : Outcome A) (f g : A → Reader B)
      → ((x : A) (u : List Token) → Within e (length u) (f x u))
      → ((x y : A) → R x y → (u u' : List Token) → length u + d ≤ n → length u' + d ≤ n' → Same b u u' → Agree b S (f x u) (g y u'))
      → Within d n o → Within d n' o' → Agree b R o o' → Agree b S (and_then o f) (and_then o' g)
  bind-agrees d e n n' R S _ _ f g w h l l' (in_step x y s s' r q) = h x y r s s' l l' q
  bind-agrees d e n n' R S _ _ f g w h l l' (at_fault s s' q) = at_fault s s' q
  bind-agrees d e n n' R S o o' f g w h l l' (past _ _ c) = past (and_then o f) (and_then o' g) (omega (arith, c, bind-left e o f w))

  pub bind : {A B : Type 0} {d e : ℕ} {R : A → A → Type 0} {S : B → B → Type 0} {s s' : List Token} {o o' : Outcome A} {f g : A → Reader B}
      → ((x : A) → R x x) → Near b d R s s' o o' → ((x y : A) → R x y → (u u' : List Token) → Near b e S u u' (f x u) (g y u'))
      → Near b (max d e) S s s' (and_then o f) (and_then o' g)
  bind {A} {B} {d} {e} {R} {S} {s} {s'} {o} {o'} {f} {g} r n h = record {
    agrees = λ q. bind-agrees d e (length s) (length s') R S o o' f g (λ x u. (h x x (r x) u u).within)
        (λ x y z u u' _ _. (h x y z u u').agrees) n.within n.within' (n.agrees q);
    within = bind-within d e (length s) o f (λ x u. (h x x (r x) u u).within) n.within;
    within' = bind-within d e (length s') o' g (λ x u. (h x x (r x) u u).within') n.within';
  }

  -- behind a part that is a value only
  pub plain : {A B : Type 0} {d e : ℕ} {S : B → B → Type 0} {s s' : List Token} {o o' : Outcome A} {f g : A → Reader B}
      → Near b d Any s s' o o' → ((x y : A) (u u' : List Token) → Near b e S u u' (f x u) (g y u'))
      → Near b (max d e) S s s' (and_then o f) (and_then o' g)
  plain n h = bind (λ x. tt) n (λ x y _. h x y)

  -- behind a part whose height is looked at
  pub tall : {A B : Type 0} {d e : ℕ} {S : B → B → Type 0} {s s' : List Token} {o o' : Outcome (Tall A)} (f g : Tall A → Reader B)
      → Near b d Level s s' o o' → ((x y : A) (h : ℕ) (u u' : List Token) → Near b e S u u' (f (x, h) u) (g (y, h) u'))
      → Near b (max d e) S s s' (and_then o f) (and_then o' g)
  tall {A} {B} {d} {e} {S} {s} {s'} {o} {o'} f g n h =
      bind (λ x. refl) n (λ x y q u u'. subst (λ z. Near b e S u u' (f x u) (g (y.0, z) u')) q (h x.0 y.0 x.1 u u'))

  -- that a token is taken may be left out
  pub loose : {A : Type 0} {R : A → A → Type 0} {s s' : List Token} {o o' : Outcome A} → Near b 1 R s s' o o' → Near b 0 R s s' o o'
  loose {A} {R} {s} {s'} {o} {o'} n = record {
    agrees = n.agrees;
    within = loose-within (length s) o n.within;
    within' = loose-within (length s') o' n.within';
  }

  skipped-agrees : {A : Type 0} (R : A → A → Type 0) (s s' : List Token) (o o' : Outcome A) → left_over o ≤ length (drop 1 s)
      → (Same b (drop 1 s) (drop 1 s') → Agree b R o o') → Same b s s' → Agree b R o o'
  skipped-agrees R _ _ o o' l h (step t t' ts ts' q r) = h r
  skipped-agrees R _ _ o o' l h end = h end
  skipped-agrees R _ _ o o' l h (cut s s' c) = past o o' (omega (arith, c, l, length-drop 1 s))

  -- behind a token that is skipped, if there is one
  pub skipped : {A : Type 0} {d : ℕ} {R : A → A → Type 0} {s s' : List Token} {o o' : Outcome A} → Near b d R (drop 1 s) (drop 1 s') o o'
      → Near b d R s s' o o'
  skipped {A} {d} {R} {s} {s'} {o} {o'} n = record {
    agrees = skipped-agrees R s s' o o' (left-within d (length (drop 1 s)) o n.within) n.agrees;
    within = wider-within d (length (drop 1 s)) (length s) o (omega (arith, length-drop 1 s)) n.within;
    within' = wider-within d (length (drop 1 s')) (length s') o' (omega (arith, length-drop 1 s')) n.within';
  }

  -- the next token is taken
  pub taken : {A : Type 0} {R : A → A → Type 0} {s s' : List Token} {x y : A} → 1 ≤ length s → 1 ≤ length s' → R x y
      → Near b 1 R s s' (Ok (x, drop 1 s)) (Ok (y, drop 1 s'))
  taken {A} {R} {s} {s'} {x} {y} l l' r = record {
    agrees = skipped-agrees R s s' (Ok (x, drop 1 s)) (Ok (y, drop 1 s')) (omega arith) (in_step x y (drop 1 s) (drop 1 s') r);
    within = omega (arith, l, length-drop 1 s);
    within' = omega (arith, l', length-drop 1 s');
  }

  -- a choice by the next word
  pub choose : {A : Type 0} {d : ℕ} {R : A → A → Type 0} {s s' : List Token} (F G : TokenKind → Outcome A)
      → ((k : TokenKind) → Near b d R s s' (F k) (G k))
      → Near b d R s s' (F (kind_at s)) (G (kind_at s'))
  choose {A} {d} {R} {s} {s'} F G h = record {
    agrees = λ e. elim (meets b s s' e) as (λ _. Agree b R (F (kind_at s)) (G (kind_at s'))) [
      | together q ↦ subst (λ z. Agree b R (F (kind_at s)) (G z)) q ((h (kind_at s)).agrees e)
      | apart l ↦ past (F (kind_at s)) (G (kind_at s')) (omega (arith, l, left-within d (length s) (F (kind_at s)) (h (kind_at s)).within))
    ];
    within = (h (kind_at s)).within;
    within' = (h (kind_at s')).within';
  }

  pub chosen : {A : Type 0} {d : ℕ} {R : A → A → Type 0} (F G : TokenKind → Reader A) → ((k : TokenKind) → Twins b d R (F k) (G k))
      → Twins b d R (λ s. F (kind_at s) s) (λ s. G (kind_at s) s)
  chosen F G h s s' = choose (λ k. F k s) (λ k. G k s') (λ k. h k s s')

  -- a choice that doesn't depend on the tokens
  pub either : {A : Type 0} {d : ℕ} {R : A → A → Type 0} {s s' : List Token} {o o' u u' : Outcome A} (t : Bool) → Near b d R s s' o o'
      → Near b d R s s' u u' → Near b d R s s' (if t then o else u) (if t then o' else u')
  either true m n = m
  either false m n = n

  -- a test of the next word
  pub by_test : {A : Type 0} {d : ℕ} {R : A → A → Type 0} {s s' : List Token} {o o' u u' : Outcome A} (goes : TokenKind → Bool) → Near b d R s s' o o'
      → Near b d R s s' u u' → Near b d R s s' (if goes (kind_at s) then o else u) (if goes (kind_at s') then o' else u')
  by_test {o} {o'} {u} {u'} goes m n = choose (λ k. if goes k then o else u) (λ k. if goes k then o' else u') (λ k. either (goes k) m n)

  pub under : {A : Type 0} {d : ℕ} {R : A → A → Type 0} {s s' : List Token} {o o' : Outcome A} (t : Bool) → Near b d R s s' o o'
      → Near b d R s s' (if t then o else Err (refusal s)) (if t then o' else Err (refusal s'))
  under t m = either t m refuses

  -- a choice by the next word, which there is where it isn't the end
  pub known : {A : Type 0} {d : ℕ} {R : A → A → Type 0} (F G : TokenKind → Reader A) → Twins b d R (F k.End) (G k.End)
      → ((k : TokenKind) (s s' : List Token) → 1 ≤ length s → 1 ≤ length s' → Near b d R s s' (F k s) (G k s'))
      → Twins b d R (λ s. F (kind_at s) s) (λ s. G (kind_at s) s)
  known {A} {d} {R} F G n h s s' = record {
    agrees = known-agrees s s';
    within = known-within d F (n [] []).within (λ k u l. (h k u u l l).within) s;
    within' = known-within d G (n [] []).within' (λ k u l. (h k u u l l).within') s';
  } where
    known-agrees : (s s' : List Token) → Same b s s' → Agree b R (F (kind_at s) s) (G (kind_at s') s')
    known-agrees _ _ (step t t' ts ts' q r) =
        subst (λ z. Agree b R (F (kind_of t.word) (t ∷ ts)) (G (kind_of z) (t' ∷ ts'))) q
        ((h (kind_of t.word) (t ∷ ts) (t' ∷ ts') (omega arith) (omega arith)).agrees (step t t' ts ts' q r))
    known-agrees _ _ end = (n [] []).agrees end
    known-agrees _ _ (cut u u' c) = past (F (kind_at u) u) (G (kind_at u') u')
        (omega (arith, c, left-within d (length u) (F (kind_at u) u) (known-within d F (n [] []).within (λ k v l. (h k v v l l).within) u)))

  pub mark-near : (m : Mark) → Twins b 1 Any (mark m) (mark m)
  unfolding mark
  mark-near m s s' = known (λ k u. if is_mark m k then Ok (here u, drop 1 u) else Err (refusal u))
      (λ k u. if is_mark m k then Ok (here u, drop 1 u) else Err (refusal u))
      (λ _ _. refuses) (λ k u u' l l'. under (is_mark m k) (taken l l' tt)) s s'

  -- a choice by the next word itself, whose place may differ
  worded : {A : Type 0} {d : ℕ} {R : A → A → Type 0} (F : Place → Word → Reader A)
      → ((x : Word) (p p' : Place) (s s' : List Token) → 1 ≤ length s → 1 ≤ length s' → Near b d R s s' (F p x s) (F p' x s'))
      → Twins b d R (by_word F) (by_word F)
  worded {A} {d} {R} F h s s' = record {
    agrees = worded-agrees s s';
    within = worded-within d F (λ p x u l. (h x p p u u l l).within) s;
    within' = worded-within d F (λ p x u l. (h x p p u u l l).within') s';
  } where
    worded-agrees : (s s' : List Token) → Same b s s' → Agree b R (by_word F s) (by_word F s')
    worded-agrees _ _ (step t t' ts ts' q r) =
        subst (λ z. Agree b R (F t.place t.word (t ∷ ts)) (F t'.place z (t' ∷ ts'))) q
        ((h t.word t.place t'.place (t ∷ ts) (t' ∷ ts') (omega arith) (omega arith)).agrees (step t t' ts ts' q r))
    worded-agrees _ _ end = at_fault [] [] end
    worded-agrees _ _ (cut u u' c) = past (by_word F u) (by_word F u')
        (omega (arith, c, left-within d (length u) (by_word F u) (worded-within d F (λ p x v l. (h x p p v v l l).within) u)))

  identifier_by-near : (x : Word) (p p' : Place) (s s' : List Token) → 1 ≤ length s → 1 ≤ length s'
      → Near b 1 Any s s' (identifier_by p x s) (identifier_by p' x s')
  identifier_by-near (w.Name n) p p' s s' l l' = taken l l' tt
  identifier_by-near _ p p' s s' l l' = refuses

  pub identifier-near : Twins b 1 Any identifier identifier
  unfolding identifier
  identifier-near s s' = worded identifier_by identifier_by-near s s'

  library_by-near : (x : Word) (p p' : Place) (s s' : List Token) → 1 ≤ length s → 1 ≤ length s'
      → Near b 1 Any s s' (library_by p x s) (library_by p' x s')
  library_by-near (w.Lib n) p p' s s' l l' = taken l l' tt
  library_by-near _ p p' s s' l l' = refuses

  pub library-near : Twins b 1 Any library library
  unfolding library
  library-near s s' = worded library_by library_by-near s s'

  -- items that take a token each
  module _ {A : Type 0} (goes : TokenKind → Bool) (item : Reader (Tall A)) (h : Twins b 1 Level item item) where
    repeat-within : (n : ℕ) (done : Tall (List A)) (s : List Token) → Within 0 (length s) (repeat goes item n done s)
    unfolding repeat
    repeat-within zero done s = elim (goes (kind_at s)) as (λ t. Within 0 (length s)
        (if t then Err (refusal s) else Ok (done, s))) [ true ↦ omega arith | false ↦ omega arith ]
    repeat-within (suc n) done s = elim (goes (kind_at s)) as (λ t. Within 0 (length s)
        (if t then and_then (item s) (λ x. repeat goes item n (done.0 ++ x.0 ∷ [], max done.1 x.1)) else Ok (done, s))) [
          | true ↦ loose-within (length s) (and_then (item s) (λ x. repeat goes item n (done.0 ++ x.0 ∷ [], max done.1 x.1)))
              (bind-within 1 0 (length s) (item s) (λ x. repeat goes item n (done.0 ++ x.0 ∷ [], max done.1 x.1))
              (λ x u. repeat-within n (done.0 ++ x.0 ∷ [], max done.1 x.1) u) (h s s).within)
          | false ↦ omega arith
        ]

    -- where no token is left, the number of turns makes no difference
    repeat-at-end : (n : ℕ) (done : Tall (List A)) → repeat goes item n done [] ≡ (if goes k.End then Err (Grammar 0) else Ok (done, []))
    unfolding repeat
    repeat-at-end zero done = refl
    repeat-at-end (suc n) done = rw (none-left (item []) (h [] []).within) refl

    abbrev more : ℕ → List A → ℕ → Tall A → Reader (Tall (List A))
    more n done most x = repeat goes item n (done ++ x.0 ∷ [], max most x.1)

    abbrev turn : ℕ → List A → ℕ → Bool → Reader (Tall (List A))
    turn n done most t = λ s. if t then and_then (item s) (more n done most) else Ok ((done, most), s)

    -- both have turns enough for their tokens
    repeat-agrees : (n n' : ℕ) (done done' : List A) (most : ℕ) (s s' : List Token) → length s ≤ n → length s' ≤ n' → Same b s s'
        → Agree b Level (repeat goes item n (done, most) s) (repeat goes item n' (done', most) s')
    unfolding repeat
    repeat-agrees zero n' done done' most _ _ l l' (step t t' ts ts' q r) = absurd (omega (arith, l))
    repeat-agrees (suc n) zero done done' most _ _ l l' (step t t' ts ts' q r) = absurd (omega (arith, l'))
    repeat-agrees (suc n) (suc n') done done' most _ _ l l' (step t t' ts ts' q r) =
        subst (λ z. Agree b Level (turn n done most (goes (kind_of t.word)) (t ∷ ts)) (turn n' done' most (goes (kind_of z)) (t' ∷ ts'))) q
        (elim (goes (kind_of t.word)) as (λ z. Agree b Level (turn n done most z (t ∷ ts)) (turn n' done' most z (t' ∷ ts'))) [
          | true ↦ bind-agrees 1 0 (length (t ∷ ts)) (length (t' ∷ ts')) Level Level (item (t ∷ ts)) (item (t' ∷ ts')) (more n done most)
              (more n' done' most)
              (λ x u. repeat-within n (done ++ x.0 ∷ [], max most x.1) u)
              (λ x y z u u' v v' w. subst (λ z. Agree b Level (more n done most x u) (more n' done' most (y.0, z) u')) z
              (repeat-agrees n n' (done ++ x.0 ∷ []) (done' ++ y.0 ∷ []) (max most x.1) u u' (omega (arith, v, l)) (omega (arith, v', l')) w))
              (h (t ∷ ts) (t' ∷ ts')).within (h (t ∷ ts) (t' ∷ ts')).within' ((h (t ∷ ts) (t' ∷ ts')).agrees (step t t' ts ts' q r))
          | false ↦ in_step (done, most) (done', most) (t ∷ ts) (t' ∷ ts') refl (step t t' ts ts' q r)
        ])
    repeat-agrees n n' done done' most _ _ l l' end = rw (repeat-at-end n (done, most), repeat-at-end n' (done', most))
        (elim (goes k.End) as (λ z. Agree b Level (if z then Err (Grammar 0) else Ok ((done, most), []))
        (if z then Err (Grammar 0) else Ok ((done', most), []))) [
          | true ↦ at_fault [] [] end
          | false ↦ in_step (done, most) (done', most) [] [] refl end
        ])
    repeat-agrees n n' done done' most _ _ l l' (cut s s' c) = past (repeat goes item n (done, most) s) (repeat goes item n' (done', most) s')
        (omega (arith, c, left-within 0 (length s) (repeat goes item n (done, most) s) (repeat-within n (done, most) s)))

    pub repeat-near : (done done' : List A) (most : ℕ) → Twins b 0 Level (all_behind goes item (done, most)) (all_behind goes item (done', most))
    repeat-near done done' most s s' = record {
      agrees = repeat-agrees (length s) (length s') done done' most s s' (omega arith) (omega arith);
      within = repeat-within (length s) (done, most) s;
      within' = repeat-within (length s') (done', most) s';
    }
