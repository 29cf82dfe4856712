-- The loop of the lexer: the cut so far, one piece more, and the fault where a rule is broken.
use Rattle.std.proofs.Common.{◌≡◌, ℕ, ◌+◌, ◌-◌, ◌<◌, ◌≤◌, ◌==◌, ◌&&◌, ◌||◌, ◌⊎◌, inl, inr, Bool, true, false, not, List, [], ◌∷◌, ◌++◌, length, take}
use Rattle.std.proofs.Common.{drop, Option, Some, None, is_some, Result, Ok, Err, refl, sym, ap, ◌∙◌, subst, arith, reverse}
use Rattle.std.specs.List.{filter_map, cons_option}
use Rattle.std.proofs.lemmas.List.{take-take, drop-take, length-reverse, take_rest, take-append-drop, append-nil}
use Rattle.std.proofs.lemmas.Bool.Decides.{nat_tests}
use Rattle.std.proofs.lemmas.Option.{none-some}
use Rattle.std.proofs.lemmas.List.Elements.{filter_map-append}
use Rattle.std.proofs.lemmas.List.Sums.{count_by-le-length, prefix_len-le-length, fold-append}
use Rattle.sl_base.specs.declared.place.Place.{Place}
use Rattle.sl_base.specs.declared.token.Token.{Token}
use Rattle.sl_base.specs.declared.word.Word.{Word}
use Rattle.sl_base.specs.Bytes.{is_blank, blank_line_after}
use Rattle.sl_base.specs.Directives.{opens_directive}
use Rattle.sl_base.specs.Places.{is_line_feed, IsAfter, place_at}
use Rattle.sl_base.specs.Pieces.{PieceKind, TokenRule, bad_byte, bad_number, open_comment, open_text, bad_directive, word_of}
use Rattle.sl_base.specs.Tokens.{Piece, Stands, Cut, token_of, seen_after, Tokens, TokenFault}
use Rattle.sl_base.proofs.PlaceLaws.{IsAfter-is}
use Rattle.sl_lexer.specs.declared.error.LexErr.{LexErr}
use Rattle.sl_lexer.specs.declared.error.LexErr.TheVariants.{Memory}
use Rattle.sl_lexer.specs.declared.front.Front.{Front}
use Rattle.sl_lexer.specs.Means.Answers.{error_of, answer_of, IsAnswer}
use Rattle.sl_lexer.specs.Faults.{fault_of}
use Rattle.sl_lexer.specs.Means.Front.{front_of}
use Rattle.sl_lexer.proofs.FrontLaws.{front_at, front-ok}
use Rattle.sl_lexer.proofs.CutLaws.{piece-some, piece-within, follow-push, one_fault, not_both, fault_behind}

-- the text is cut up to an offset, these are the tokens, this is the place behind them, and so much of that line is blank
pub record SoFar (text : List ℕ) (tokens : List Token) (done : ℕ) (place : Place) (blank_line : Bool) : Type 0 where
  pub within : done ≤ length text
  pub cut : (ps : List Piece) × Cut text ps done × (tokens ≡ filter_map (token_of text) ps)
  pub after : IsAfter (take done text) place
  pub blank : blank_line ≡ blank_line_after true (take done text)

-- lines and columns are no more than the bytes so far and one
pub place-small : (front : List ℕ) (place : Place) → IsAfter front place → (place.line ≤ length front + 1) × (place.col ≤ length front + 1)
place-small front place a = (
  omega (arith, a.line, count_by-le-length is_line_feed front),
  omega (arith, a.col, prefix_len-le-length (λ b. not (is_line_feed b)) (reverse front), length-reverse front),
)

-- ## What stands before

-- one token more
count-one : (seen : Bool) (t : Option Token) (ts : List Token)
    → ((seen || is_some t) || not (length ts == 0)) ≡ (seen || not (length (cons_option t ts) == 0))
count-one true None ts = refl
count-one true (Some t) ts = refl
count-one false None ts = refl
count-one false (Some t) ts = let full : (length (t ∷ ts) == 0) ≡ false = grind (arith, nat_tests) in ap not (sym full)

-- a token stands before what follows pieces exactly where one of them is a token, or one stood before them
seen-tokens : (text : List ℕ) (seen : Bool) (ps : List Piece) → seen_after text seen ps ≡ (seen || not (length (filter_map (token_of text) ps) == 0))
seen-tokens text true [] = refl
seen-tokens text false [] = refl
seen-tokens text seen (p ∷ ps) = seen-tokens text (seen || is_some (token_of text p)) ps ∙ count-one seen (token_of text p)
    (filter_map (token_of text) ps)

not-not : (b : Bool) → not (not b) ≡ b
not-not true = refl
not-not false = refl

-- whether a token stands before what is not cut yet
abbrev seen_in : (text : List ℕ) (tokens : List Token) (done : ℕ) (place : Place) (blank_line : Bool) → SoFar text tokens done place blank_line → Bool
seen_in text tokens done place blank_line s = seen_after text false s.cut.0

-- the code's test is that of the rules
opens-is : (text : List ℕ) (tokens : List Token) (done : ℕ) (place : Place) (blank_line : Bool) (s : SoFar text tokens done place blank_line)
    → ((length tokens == 0) && blank_line) ≡ opens_directive (seen_in text tokens done place blank_line s) (take done text)
opens-is text tokens done place blank_line s =
    let none : (length tokens == 0) ≡ not (seen_after text false s.cut.0) =
    ap (λ ts. length ts == 0) s.cut.2 ∙ sym (not-not _) ∙ ap not (sym (seen-tokens text false s.cut.0)) in
    ap (λ t. t && blank_line) none ∙ ap (λ t. not (seen_after text false s.cut.0) && t) s.blank

-- ## One piece more

abbrev pub Answers : List ℕ → Bool → ℕ → Result Front LexErr → Type 0
Answers text opens done answer = IsAnswer done (drop done text) (front_of opens (drop done text)) answer

-- as a slice to the end of the text gives the rest
pub answers_at : (text : List ℕ) (opens : Bool) (done : ℕ) (answer : Result Front LexErr)
    → IsAnswer done (take (length text - done) (drop done text)) (front_of opens (take (length text - done) (drop done text))) answer
    → Answers text opens done answer
answers_at text opens done answer e = subst (λ rest. IsAnswer done rest (front_of opens rest) answer) (take_rest text done) e

-- the kind of the piece that was answered
record IsAnswered (rest : List ℕ) (r : Result (PieceKind × ℕ) (TokenRule × ℕ)) (f : Front) : Type 0 where
  kind : PieceKind
  front : r ≡ Ok (kind, f.len)
  says : f.word ≡ word_of kind (take f.len rest)

abbrev word_in : Result Front LexErr → Option Word
word_in (Ok f) = f.word
word_in (Err e) = None

abbrev len_in : Result Front LexErr → ℕ
len_in (Ok f) = f.len
len_in (Err e) = 0

answered : (from : ℕ) (rest : List ℕ) (r : Result (PieceKind × ℕ) (TokenRule × ℕ)) (f : Front) → Ok f ≡ answer_of from rest r → IsAnswered rest r f
answered from rest (Ok p) f e =
    let same : f.len ≡ p.1 = ap len_in e in
    record {
      kind = p.0;
      front = ap (λ (n : ℕ). let r : Result (PieceKind × ℕ) (TokenRule × ℕ) = Ok (p.0, n) in r) (sym same);
      says = ap word_in e ∙ ap (λ n. word_of p.0 (take n rest)) (sym same);
    }
answered from rest (Err b) f e = absurd cc

-- the piece that was answered stands there
record IsNext (text : List ℕ) (seen : Bool) (done : ℕ) (f : Front) : Type 0 where
  kind : PieceKind
  stands : Stands text seen (record { kind = kind; from = done; len = f.len })
  says : f.word ≡ word_of kind (take f.len (drop done text))

next_by : (text : List ℕ) (seen : Bool) (done : ℕ) (f : Front) → done < length text → Ok f ≡ answer_of done (drop done text) (front_at text seen done)
    → IsNext text seen done f
next_by text seen done f within e =
    let a = answered done (drop done text) (front_at text seen done) f e in
    record { kind = a.kind; stands = front-ok text seen done a.kind f.len within a.front; says = a.says }

next_at : (text : List ℕ) (seen : Bool) (done : ℕ) (f : Front) → done < length text → Answers text (opens_directive seen (take done text)) done (Ok f)
    → IsNext text seen done f
next_at text seen done f within a = elim a [ inl e ↦ next_by text seen done f within e | inr memory ↦ absurd cc ]

-- the bytes of a piece behind those before it
pub take-add : (text : List ℕ) (done len : ℕ) → take done text ++ take len (drop done text) ≡ take (done + len) text
take-add text done len =
    ap (λ front. front ++ take len (drop done text)) (sym (take-take done (done + len) text (omega arith)))
    ∙ ap (λ behind. take done (take (done + len) text) ++ behind) (sym (drop-take done len text))
    ∙ take-append-drop done (take (done + len) text)

-- as a slice from one offset to another gives those bytes
pub take_more_bytes : (text : List ℕ) (done len : ℕ) → take done text ++ take (done + len - done) (drop done text) ≡ take (done + len) text
take_more_bytes text done len =
    let same : done + len - done ≡ len = omega arith in
    ap (λ n. take done text ++ take n (drop done text)) same ∙ take-add text done len

module _ (text : List ℕ) (tokens : List Token) (done : ℕ) (place : Place) (blank_line : Bool) (f : Front)
    (s : SoFar text tokens done place blank_line) (within : done < length text)
    (e : Answers text ((length tokens == 0) && blank_line) done (Ok f)) where
  next : IsNext text (seen_in text tokens done place blank_line s) done f
  next =
      next_at text (seen_in text tokens done place blank_line s) done f within
      (subst (λ opens. Answers text opens done (Ok f)) (opens-is text tokens done place blank_line s) e)

  -- the piece has a byte, and ends within the text
  pub next-within : (0 < f.len) × (done + f.len ≤ length text)
  next-within =
      let n = next in
      let seen = seen_in text tokens done place blank_line s in
      (piece-some text seen done n.kind f.len n.stands.longest.piece, piece-within text seen done n.kind f.len n.stands.longest.piece)

  module _ (next_place : Place) (next_blank : Bool) (after : IsAfter (take (done + f.len) text) next_place)
      (blank : next_blank ≡ blank_line_after blank_line (take (done + f.len - done) (drop done text))) where
    line_is : next_blank ≡ blank_line_after true (take (done + f.len) text)
    line_is =
        blank
        ∙ ap (λ b. blank_line_after b (take (done + f.len - done) (drop done text))) s.blank
        ∙ sym (fold-append (λ so_far b. is_line_feed b || (so_far && is_blank b)) true (take done text) (take (done + f.len - done) (drop done text)))
        ∙ ap (blank_line_after true) (take_more_bytes text done f.len)

    -- the cut is longer by the piece, and the tokens by what it says
    one_more : (more : List Token) (n : IsNext text (seen_in text tokens done place blank_line s) done f)
        → filter_map (token_of text) (record { kind = n.kind; from = done; len = f.len } ∷ []) ≡ more → SoFar text (tokens ++ more) (done + f.len)
        next_place next_blank
    one_more more n says =
        let p : Piece = record { kind = n.kind; from = done; len = f.len } in
        record {
          within = next-within.1;
          cut = (
            s.cut.0 ++ p ∷ [],
            follow-push text false 0 s.cut.0 done p s.cut.1 refl n.stands,
            ap (λ ts. ts ++ more) s.cut.2
                ∙ ap (λ ts. filter_map (token_of text) s.cut.0 ++ ts) (sym says)
                ∙ sym (filter_map-append (token_of text) s.cut.0 (p ∷ [])),
          );
          after = after;
          blank = line_is;
        }

    pub next_blank_piece : f.word ≡ None → SoFar text tokens (done + f.len) next_place next_blank
    next_blank_piece none =
        let n = next in
        let no_word : word_of n.kind (take f.len (drop done text)) ≡ None = sym n.says ∙ none in
        rw append-nil at (one_more [] n (rw no_word refl))

    pub next_token : (word : Word) → f.word ≡ Some word → SoFar text (tokens ++ record { word = word; offset = done; place = place } ∷ [])
        (done + f.len) next_place next_blank
    next_token word some =
        let n = next in
        let a_word : word_of n.kind (take f.len (drop done text)) ≡ Some word = sym n.says ∙ some in
        let here : place ≡ place_at text done = IsAfter-is (take done text) place s.after in
        one_more _ n (rw (a_word, here) refl)

-- ## The answers

pub whole_text : (text : List ℕ) (tokens : List Token) (done : ℕ) (place : Place) (blank_line : Bool) → SoFar text tokens done place blank_line
    → length text ≤ done → Tokens text tokens
whole_text text tokens done place blank_line s past =
    let all : done ≡ length text = omega (arith, s.within) in
    (s.cut.0, subst (Cut text s.cut.0) all s.cut.1, s.cut.2)

-- the rule and the offset that an error tells are the fault
pub record IsToldFault (text : List ℕ) (e : LexErr) : Type 0 where
  pub rule : TokenRule
  pub at : ℕ
  pub fault : TokenFault text rule at
  pub told : fault_of e ≡ Some (rule, at)

abbrev rule_in : Option (TokenRule × ℕ) → TokenRule
rule_in None = bad_byte
rule_in (Some p) = p.0

abbrev offset_in : Option (TokenRule × ℕ) → ℕ
offset_in None = 0
offset_in (Some p) = p.1

pub told_only : (text : List ℕ) (e : LexErr) → IsToldFault text e → (rule : TokenRule) (at : ℕ) → fault_of e ≡ Some (rule, at)
    → TokenFault text rule at
told_only text e t rule at told =
    let same = sym t.told ∙ told in
    subst (λ r. TokenFault text r at) (ap rule_in same) (subst (TokenFault text t.rule) (ap offset_in same) t.fault)

pub only_told : (text : List ℕ) (e : LexErr) → IsToldFault text e → (rule : TokenRule) (at : ℕ) → TokenFault text rule at
    → fault_of e ≡ Some (rule, at)
only_told text e t rule at f =
    let same = one_fault text t.rule rule t.at at t.fault f in
    t.told ∙ ap (λ (r : TokenRule). Some (r, t.at)) same.0 ∙ ap (λ (n : ℕ). Some (rule, n)) same.1

told-error : (rule : TokenRule) (at : ℕ) → fault_of (error_of rule at) ≡ Some (rule, at)
told-error bad_byte at = refl
told-error bad_number at = refl
told-error open_comment at = refl
told-error open_text at = refl
told-error bad_directive at = refl

-- memory ran out, or the error tells the fault
abbrev pub IsTold : List ℕ → LexErr → Type 0
IsTold text e = (e ≡ Memory) ⊎ IsToldFault text e

told_by : (text : List ℕ) (ps : List Piece) (done : ℕ) (e : LexErr) (r : Result (PieceKind × ℕ) (TokenRule × ℕ)) → Cut text ps done
    → done < length text
    → front_at text (seen_after text false ps) done ≡ r → Err e ≡ answer_of done (drop done text) r → IsToldFault text e
told_by text ps done e (Ok p) h within f a = absurd cc
told_by text ps done e (Err b) h within f a =
    let same : e ≡ error_of b.0 (done + b.1) = cc in
    record {
      rule = b.0;
      at = done + b.1;
      fault = fault_behind text ps done b.0 b.1 h within f;
      told = ap fault_of same ∙ told-error b.0 (done + b.1);
    }

pub told_fault : (text : List ℕ) (tokens : List Token) (done : ℕ) (place : Place) (blank_line : Bool) (e : LexErr)
    → SoFar text tokens done place blank_line → done < length text
    → Answers text ((length tokens == 0) && blank_line) done (Err e) → IsTold text e
told_fault text tokens done place blank_line e s within a =
    let seen = seen_in text tokens done place blank_line s in
    let moved : Answers text (opens_directive seen (take done text)) done (Err e) =
    subst (λ opens. Answers text opens done (Err e)) (opens-is text tokens done place blank_line s) a in
    elim moved [
      | inl told ↦ inr (told_by text s.cut.0 done e (front_at text seen done) s.cut.1 within refl told)
      | inr memory ↦ inl cc
    ]

-- ## The clauses where an error comes back

pub err_fault : (text : List ℕ) (e : LexErr) → IsTold text e → (rule : TokenRule) (at : ℕ) → fault_of e ≡ Some (rule, at) → TokenFault text rule at
err_fault text e told rule at said =
    elim told [
      | inl memory ↦ absurd (none-some (rule, at) (ap fault_of (sym memory) ∙ said))
      | inr fault ↦ told_only text e fault rule at said
    ]

pub err_tokens : (text : List ℕ) (e : LexErr) → IsTold text e → (tokens : List Token) → Tokens text tokens
    → let r : Result (List Token) LexErr = Err e in (r ≡ Ok tokens) ⊎ (r ≡ Err Memory)
err_tokens text e told tokens whole =
    elim told [
      | inl memory ↦ inr (ap (λ error. Err error) memory)
      | inr fault ↦ absurd (not_both text tokens fault.rule fault.at whole fault.fault)
    ]

pub err_only_fault : (text : List ℕ) (e : LexErr) → IsTold text e → (rule : TokenRule) (at : ℕ) → TokenFault text rule at → (e ≡ Memory)
    ⊎ (fault_of e ≡ Some (rule, at))
err_only_fault text e told rule at f =
    elim told [
      | inl memory ↦ inl memory
      | inr fault ↦ inr (only_told text e fault rule at f)
    ]
