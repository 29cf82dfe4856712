-- The longest piece at an offset is the one that `piece_in` gives by the class of the first byte, and where that gives none there is none.
use Rattle.std.proofs.Common.{◌≡◌, ℕ, ◌+◌, ◌≤◌, ◌==◌, ◌&&◌, ◌||◌, inl, inr, Bool, true, false, cond, List, [], ◌∷◌, length, take, drop, Option, Some}
use Rattle.std.proofs.Common.{None, is_some, refl, sym, ap, ◌∙◌, subst, arith}
use Rattle.std.specs.List.{prefix_len}
use Rattle.std.proofs.lemmas.Bool.{and_parts, or_cases, or_left, or_right, cond_both, both_ways, eqb-true}
use Rattle.std.proofs.lemmas.Option.{some_pair_parts}
use Rattle.std.proofs.lemmas.List.{drop-drop, length-take-le}
use Rattle.std.proofs.lemmas.List.Sums.{prefix_len-le-length}
use Rattle.sl_base.specs.Bytes.{is_blank, is_letter, is_digit, is_name_byte, begins}
use Rattle.sl_base.specs.Directives.{IsDirective, opens_directive, closes_directive}
use Rattle.sl_base.specs.Marks.{mark_of}
use Rattle.sl_base.specs.Pieces.{PieceKind, blank_piece, comment_piece, directive_piece, name_piece, lib_piece, number_piece, text_piece, mark_piece}
use Rattle.sl_base.specs.Pieces.{is_text, HasForm, IsPiece, IsLongest}
use Rattle.sl_base.specs.Quoted.{is_character}
use Rattle.sl_lexer.specs.Means.Front.{first_at, begins_lib, text_len, character_len, comment_len, mark_len, hash_len, closed_len, as_piece}
use Rattle.sl_lexer.specs.Means.Front.{comment_or_mark, piece_in}
use Rattle.sl_lexer.specs.declared.byte.First.{First}
use Rattle.sl_lexer.specs.declared.byte.First.TheVariants.{Blank, Letter, Digit, Quote, Apostrophe, Hash, Other}
use Rattle.sl_lexer.proofs.FirstLaws.{front-begins, at-blank, at-letter, at-digit, TellsAt, tells_at}
use Rattle.sl_lexer.proofs.WordLaws.{name-form, name-shape, lib-letter, lib-std, lib-long, lib-form, lib-shape, number-form, number-shape}
use Rattle.sl_lexer.proofs.WordLaws.{number-within}
use Rattle.sl_lexer.proofs.CommentLaws.{comment-shape, comment-form}
use Rattle.sl_lexer.proofs.TextLaws.{text-shape, text-form, character-shape, character-form}
use Rattle.sl_lexer.proofs.DirectiveLaws.{directive-shape, directive-form}
use Rattle.sl_lexer.proofs.MarkLaws.{mark-shape, mark-most, mark-form}

abbrev pub Found : Type 0
Found = Option (PieceKind × ℕ)

-- what begins the rest, with what stands before it
abbrev pub piece_at : List ℕ → Bool → ℕ → Found
piece_at text seen from = piece_in (first_at (drop from text)) (opens_directive seen (take from text)) (drop from text)

-- a piece is no longer than what is found, and of its kind where it is as long
abbrev Bounds : Found → PieceKind → ℕ → Type 0
Bounds None kind m = ⊥
Bounds (Some p) kind m = (m ≤ p.1) × (m ≡ p.1 → kind ≡ p.0)

bounds-at : (rest : List ℕ) (opens : Bool) (first : First) (kind : PieceKind) (m : ℕ) → first_at rest ≡ first
    → Bounds (piece_in first opens rest) kind m
    → Bounds (piece_in (first_at rest) opens rest) kind m
bounds-at rest opens first kind m is b = subst (λ f. Bounds (piece_in f opens rest) kind m) (sym is) b

bounds-same : (found : Found) (kind : PieceKind) (m : ℕ) → found ≡ Some (kind, m) → Bounds found kind m
bounds-same found kind m e = subst (λ f. Bounds f kind m) (sym e) (omega arith, λ _. refl)

blank-bounds : (rest : List ℕ) (opens : Bool) (m : ℕ) → m ≤ length rest → HasForm blank_piece (take m rest)
    → Bounds (piece_in (first_at rest) opens rest) blank_piece m
blank-bounds rest opens m within e =
    let parts = and_parts (length (take m rest) == 1) (begins is_blank (take m rest)) e in
    let one : m ≡ 1 = omega (arith, eqb-true (length (take m rest)) 1 parts.0, length-take-le m rest within) in
    bounds-at rest opens Blank blank_piece m (at-blank rest (front-begins is_blank rest m parts.1)) (omega arith, λ _. refl)

name-bounds : (rest : List ℕ) (opens : Bool) (m : ℕ) → m ≤ length rest → HasForm name_piece (take m rest)
    → Bounds (piece_in (first_at rest) opens rest) name_piece m
name-bounds rest opens m within e =
    let s = name-shape rest m within e in
    let run = prefix_len is_name_byte rest in
    let lib = 5 + prefix_len is_name_byte (drop 5 rest) in
    bounds-at rest opens Letter name_piece m (at-letter rest s.0)
    (cond_both (begins_lib rest) (Some (lib_piece, lib)) (Some (name_piece, run)) (λ f. Bounds f name_piece m)
    (λ l. (omega (arith, s.1, lib-std rest l), λ same. absurd (omega (arith, s.1, lib-std rest l))))
    (λ _. (s.1, λ _. refl)))

lib-bounds : (rest : List ℕ) (opens : Bool) (m : ℕ) → m ≤ length rest → HasForm lib_piece (take m rest)
    → Bounds (piece_in (first_at rest) opens rest) lib_piece m
lib-bounds rest opens m within e =
    let s = lib-shape rest m within e in
    bounds-at rest opens Letter lib_piece m (at-letter rest (lib-letter rest s.0)) (rw s.0 (s.1, λ _. refl))

number-bounds : (rest : List ℕ) (opens : Bool) (m : ℕ) → m ≤ length rest → HasForm number_piece (take m rest)
    → Bounds (piece_in (first_at rest) opens rest) number_piece m
number-bounds rest opens m within e =
    let s = number-shape rest m within e in
    bounds-at rest opens Digit number_piece m (at-digit rest s.0) (s.1, λ _. refl)

text-bounds : (rest : List ℕ) (opens : Bool) (m : ℕ) → m ≤ length rest → HasForm text_piece (take m rest)
    → Bounds (piece_in (first_at rest) opens rest) text_piece m
text-bounds rest opens m within e =
    elim (or_cases _ _ e) [
      | inl text ↦
          let s = text-shape rest m within text in
          bounds-at rest opens Quote text_piece m s.0 (bounds-same _ text_piece m (ap (as_piece text_piece) s.1))
      | inr character ↦
          let s = character-shape rest m within character in
          bounds-at rest opens Apostrophe text_piece m s.0 (bounds-same _ text_piece m (ap (as_piece text_piece) s.1))
    ]

directive-bounds : (rest : List ℕ) (opens : Bool) (m : ℕ) → m ≤ length rest → HasForm directive_piece (take m rest)
    → (opens && closes_directive (drop m rest)) ≡ true
    → Bounds (piece_in (first_at rest) opens rest) directive_piece m
directive-bounds rest opens m within d fit =
    let s = directive-shape rest m within d in
    let closed : closed_len opens rest (hash_len rest) ≡ Some m = ap (closed_len opens rest) s.1 ∙ rw fit refl in
    bounds-at rest opens Hash directive_piece m s.0 (bounds-same _ directive_piece m (ap (as_piece directive_piece) closed))

comment-bounds : (rest : List ℕ) (opens : Bool) (m : ℕ) → m ≤ length rest → HasForm comment_piece (take m rest)
    → Bounds (piece_in (first_at rest) opens rest) comment_piece m
comment-bounds rest opens m within e =
    let s = comment-shape rest m within e in
    bounds-at rest opens Other comment_piece m s.other
    (subst (λ o. Bounds (comment_or_mark o rest) comment_piece m) (sym s.counted) (s.most, λ _. refl))

mark-bounds : (rest : List ℕ) (opens : Bool) (m : ℕ) → m ≤ length rest → HasForm mark_piece (take m rest)
    → Bounds (piece_in (first_at rest) opens rest) mark_piece m
mark-bounds rest opens m within e =
    let s = mark-shape rest m within e in
    let most = mark-most rest m within e in
    bounds-at rest opens Other mark_piece m s.other
    (elim (comment_len rest) as (λ o. comment_len rest ≡ o → Bounds (comment_or_mark o rest) mark_piece m) [
      | None ↦ λ _. subst (λ o. Bounds (as_piece mark_piece o) mark_piece m) (sym most.1) (most.2, λ _. refl)
      | Some n ↦ λ is.
          let c = comment-form rest n is in (
            omega (arith, s.few, c.two),
            λ same.
                let two : m ≡ 2 = omega (arith, s.few, c.two) in
                absurd (both_ways _ c.no_mark (subst (λ k. is_some (mark_of (take k rest)) ≡ true) two e)),
          )
    ] refl)

-- the same of every kind
bounds : (text : List ℕ) (seen : Bool) (from : ℕ) (kind : PieceKind) (m : ℕ) → IsPiece text seen from kind m → Bounds (piece_at text seen from) kind m
bounds text seen from blank_piece m p = blank-bounds (drop from text) (opens_directive seen (take from text)) m p.within p.form
bounds text seen from comment_piece m p = comment-bounds (drop from text) (opens_directive seen (take from text)) m p.within p.form
bounds text seen from directive_piece m p =
    directive-bounds (drop from text) (opens_directive seen (take from text)) m p.within p.form
    (subst (λ behind. (opens_directive seen (take from text) && closes_directive behind) ≡ true) (sym (drop-drop m from text)) p.fit)
bounds text seen from name_piece m p = name-bounds (drop from text) (opens_directive seen (take from text)) m p.within p.form
bounds text seen from lib_piece m p = lib-bounds (drop from text) (opens_directive seen (take from text)) m p.within p.form
bounds text seen from number_piece m p = number-bounds (drop from text) (opens_directive seen (take from text)) m p.within p.form
bounds text seen from text_piece m p = text-bounds (drop from text) (opens_directive seen (take from text)) m p.within p.form
bounds text seen from mark_piece m p = mark-bounds (drop from text) (opens_directive seen (take from text)) m p.within p.form

-- ## What is found is a piece

-- what is found at a rest: a piece there, which fits what stands around it
abbrev IsFound : List ℕ → Bool → PieceKind → ℕ → Type 0
IsFound rest opens directive_piece n = (n ≤ length rest) × HasForm directive_piece (take n rest) × ((opens && closes_directive (drop n rest)) ≡ true)
IsFound rest opens kind n = (n ≤ length rest) × HasForm kind (take n rest)

abbrev Founds : List ℕ → Bool → Found → Type 0
Founds rest opens None = Unit {0}
Founds rest opens (Some p) = IsFound rest opens p.0 p.1

some-begins : (p : ℕ → Bool) (rest : List ℕ) → begins p rest ≡ true → 1 ≤ length rest
some-begins p [] e = absurd cc
some-begins p (b ∷ bs) e = omega arith

blank-form : (rest : List ℕ) → begins is_blank rest ≡ true → ((length (take 1 rest) == 1) && begins is_blank (take 1 rest)) ≡ true
blank-form [] e = absurd cc
blank-form (b ∷ bs) e = e

blank-begins : (rest : List ℕ) → TellsAt Blank rest → begins is_blank rest ≡ true
blank-begins [] t = absurd cc
blank-begins (b ∷ bs) t = t

letter-begins : (rest : List ℕ) → TellsAt Letter rest → begins is_letter rest ≡ true
letter-begins [] t = absurd cc
letter-begins (b ∷ bs) t = t

digit-begins : (rest : List ℕ) → TellsAt Digit rest → begins is_digit rest ≡ true
digit-begins [] t = absurd cc
digit-begins (b ∷ bs) t = t

founds_text : (rest : List ℕ) (opens : Bool) (o : Option ℕ)
    → ((n : ℕ) → o ≡ Some n → (n ≤ length rest) × (is_text (take n rest) || is_character (take n rest)) ≡ true)
    → Founds rest opens (as_piece text_piece o)
founds_text rest opens None f = tt
founds_text rest opens (Some n) f = f n refl

founds_directive : (rest : List ℕ) (opens : Bool) (o : Option ℕ) → ((n : ℕ) → o ≡ Some n → (n ≤ length rest) × IsDirective (take n rest))
    → Founds rest opens (as_piece directive_piece (closed_len opens rest o))
founds_directive rest opens None f = tt
founds_directive rest opens (Some n) f =
    elim (opens && closes_directive (drop n rest)) as (λ t. (opens && closes_directive (drop n rest)) ≡ t
    → Founds rest opens (as_piece directive_piece (cond t (Some n) None))) [
      | true ↦ λ fit. let d = f n refl in (d.0, d.1, fit)
      | false ↦ λ _. tt
    ] refl

founds_mark : (rest : List ℕ) (opens : Bool) (o : Option ℕ) → mark_len rest ≡ o → Founds rest opens (as_piece mark_piece o)
founds_mark rest opens None is = tt
founds_mark rest opens (Some n) is = mark-form rest n is

founds_other : (rest : List ℕ) (opens : Bool) (o : Option ℕ) → comment_len rest ≡ o → Founds rest opens (comment_or_mark o rest)
founds_other rest opens None is = founds_mark rest opens (mark_len rest) refl
founds_other rest opens (Some n) is = let c = comment-form rest n is in (c.within, c.form)

founds : (rest : List ℕ) (opens : Bool) (first : First) → first_at rest ≡ first → Founds rest opens (piece_in first opens rest)
founds rest opens Blank is = let b = blank-begins rest (tells_at rest Blank is) in (some-begins is_blank rest b, blank-form rest b)
founds rest opens Letter is =
    let l = letter-begins rest (tells_at rest Letter is) in
    cond_both (begins_lib rest) (Some (lib_piece, 5 + prefix_len is_name_byte (drop 5 rest))) (Some (name_piece, prefix_len is_name_byte rest))
    (Founds rest opens)
    (λ lib. (lib-long rest (prefix_len is_name_byte (drop 5 rest)) lib (prefix_len-le-length is_name_byte (drop 5 rest)), lib-form rest lib))
    (λ _. (prefix_len-le-length is_name_byte rest, name-form rest l))
founds rest opens Digit is = let d = digit-begins rest (tells_at rest Digit is) in (number-within rest d, number-form rest d)
founds rest opens Quote is =
    founds_text rest opens (text_len rest) (λ n e. let t = text-form rest n is e in (t.0, or_left _ _ t.1))
founds rest opens Apostrophe is =
    founds_text rest opens (character_len rest) (λ n e. let t = character-form rest n is e in (t.0, or_right _ _ t.1))
founds rest opens Hash is = founds_directive rest opens (hash_len rest) (λ n e. directive-form rest n is e)
founds rest opens Other is = founds_other rest opens (comment_len rest) refl

piece_found : (text : List ℕ) (seen : Bool) (from : ℕ) (kind : PieceKind) (len : ℕ) → IsFound (drop from text) (opens_directive seen (take from text))
    kind len → IsPiece text seen from kind len
piece_found text seen from directive_piece len f = record {
  within = f.0;
  form = f.1;
  fit = subst (λ behind. (opens_directive seen (take from text) && closes_directive behind) ≡ true) (drop-drop len from text) f.2;
}
piece_found text seen from blank_piece len f = record { within = f.0; form = f.1; fit = refl }
piece_found text seen from comment_piece len f = record { within = f.0; form = f.1; fit = refl }
piece_found text seen from name_piece len f = record { within = f.0; form = f.1; fit = refl }
piece_found text seen from lib_piece len f = record { within = f.0; form = f.1; fit = refl }
piece_found text seen from number_piece len f = record { within = f.0; form = f.1; fit = refl }
piece_found text seen from text_piece len f = record { within = f.0; form = f.1; fit = refl }
piece_found text seen from mark_piece len f = record { within = f.0; form = f.1; fit = refl }

-- ## The longest piece

module _ (text : List ℕ) (seen : Bool) (from : ℕ) where
  found-piece : (kind : PieceKind) (len : ℕ) → piece_at text seen from ≡ Some (kind, len) → IsPiece text seen from kind len
  found-piece kind len e =
      piece_found text seen from kind len
      (subst (Founds (drop from text) (opens_directive seen (take from text))) e
      (founds (drop from text) (opens_directive seen (take from text)) (first_at (drop from text)) refl))

  -- what is found is the longest
  pub found-longest : (kind : PieceKind) (len : ℕ) → piece_at text seen from ≡ Some (kind, len) → IsLongest text seen from kind len
  found-longest kind len e = record {
    piece = found-piece kind len e;
    longest = λ other more p. (subst (λ f. Bounds f other more) e (bounds text seen from other more p)).0;
  }

  -- and where nothing is found there is none
  pub found-none : piece_at text seen from ≡ None → (kind : PieceKind) (len : ℕ) → IsPiece text seen from kind len → ⊥
  found-none e kind len p = subst (λ f. Bounds f kind len) e (bounds text seen from kind len p)

  -- the longest is found
  pub longest-found : (kind : PieceKind) (len : ℕ) → IsLongest text seen from kind len → piece_at text seen from ≡ Some (kind, len)
  longest-found kind len l =
      elim (piece_at text seen from) as (λ f. piece_at text seen from ≡ f → Bounds f kind len → f ≡ Some (kind, len)) [
        | None ↦ λ _ b. absurd b
        | Some p ↦ λ e b.
            let back : p.1 ≤ len = l.longest p.0 p.1 (found-piece p.0 p.1 e) in
            let same : len ≡ p.1 = omega arith in
            ap (λ (k : PieceKind). Some (k, p.1)) (sym (b.1 same)) ∙ ap (λ (n : ℕ). Some (kind, n)) (sym same)
      ] refl (bounds text seen from kind len l.piece)

  pub one_longest : (kind other : PieceKind) (len more : ℕ) → IsLongest text seen from kind len → IsLongest text seen from other more
      → (kind ≡ other) × (len ≡ more)
  one_longest kind other len more l m = some_pair_parts kind other len more (sym (longest-found kind len l) ∙ longest-found other more m)
