-- What begins a rest of the text: `front_of` gives the piece that stands there, or the first rule that is broken.
use Rattle.std.proofs.Common.{◌≡◌, ℕ, zero, suc, ◌+◌, ◌<◌, ◌≤◌, ◌||◌, inl, inr, Bool, true, false, cond, ltb, List, [], ◌∷◌, length, take, drop}
use Rattle.std.proofs.Common.{codes, Option, Some, None, option_map, Result, Ok, Err, refl, sym, ap, ◌∙◌, subst, arith, add-zero}
use Rattle.std.proofs.lemmas.Bool.{cond_both, both_ways, ltb-true, ltb-false, or_cases, or_parts}
use Rattle.std.proofs.lemmas.List.{drop-drop, length-drop}
use Rattle.std.proofs.lemmas.Option.{some_pair_parts}
use Rattle.sl_base.specs.Bytes.{spoils_number, begins, begins_with, begins_joint}
use Rattle.sl_base.specs.Directives.{opens_directive}
use Rattle.sl_base.specs.declared.limits.TheConstants.{NAME_BYTES, LARGEST_NUMBER}
use Rattle.sl_base.specs.Pieces.{PieceKind, blank_piece, comment_piece, directive_piece, name_piece, lib_piece, number_piece, text_piece, mark_piece}
use Rattle.sl_base.specs.Pieces.{decimal, IsPiece, IsLongest, TokenRule, bad_byte, bad_number, open_comment, rule_of, IsBadNumber, Breaks}
use Rattle.sl_base.specs.Pieces.{begins_nothing, long_name, long_lib, wrong_escape, joint, no_number, no_comment}
use Rattle.sl_base.specs.Quoted.{unescaped, between}
use Rattle.sl_base.specs.Tokens.{Stands}
use Rattle.sl_lexer.specs.Means.Front.{first_at, comment_len, mark_len, as_piece, comment_or_mark, piece_in, joint_in, judged_comment, judged_text}
use Rattle.sl_lexer.specs.Means.Front.{judged, rule_for, front_from, front_of}
use Rattle.sl_lexer.specs.declared.byte.First.TheVariants.{Other}
use Rattle.sl_lexer.proofs.CommentLaws.{block-first, comment-shape, comment-form}
use Rattle.sl_lexer.proofs.FirstLaws.{begins-is, rule-for}
use Rattle.sl_lexer.proofs.PieceLaws.{Found, piece_at, found-longest, found-none, longest-found, one_longest}

-- ## A backslash directly before a line's end

-- what `joint_in` answers
abbrev IsFirstJoint : ℕ → List ℕ → Option ℕ → Type 0
IsFirstJoint len rest None = (m : ℕ) → m < len → begins_joint (drop m rest) ≡ true → ⊥
IsFirstJoint len rest (Some n) = (n < len) × (begins_joint (drop n rest) ≡ true) × ((m : ℕ) → m < len → begins_joint (drop m rest) ≡ true → n ≤ m)

first-joint : (len : ℕ) (rest : List ℕ) → IsFirstJoint len rest (joint_in len rest)
first-joint len [] = none len
  where
    none : (len : ℕ) (m : ℕ) → m < len → begins_joint (drop m []) ≡ true → ⊥
    none len zero h e = both_ways _ refl e
    none len (suc m) h e = both_ways _ refl e
first-joint zero (b ∷ bs) = λ m h e. absurd (omega arith)
first-joint (suc len) (b ∷ bs) =
    elim (begins_joint (b ∷ bs)) as (λ t. begins_joint (b ∷ bs) ≡ t
    → IsFirstJoint (suc len) (b ∷ bs) (cond t (Some 0) (option_map (λ k. k + 1) (joint_in len bs)))) [
      | true ↦ λ here. (omega arith, here, λ m h e. omega arith)
      | false ↦ λ not_here. behind len b bs (joint_in len bs) not_here (first-joint len bs)
    ] refl
  where
    behind : (len b : ℕ) (bs : List ℕ) (o : Option ℕ) → begins_joint (b ∷ bs) ≡ false → IsFirstJoint len bs o
        → IsFirstJoint (suc len) (b ∷ bs) (option_map (λ k. k + 1) o)
    behind len b bs None not_here f = later
      where
        later : (m : ℕ) → m < suc len → begins_joint (drop m (b ∷ bs)) ≡ true → ⊥
        later zero h e = both_ways _ not_here e
        later (suc m) h e = f m (omega arith) e
    behind len b bs (Some n) not_here f = (
      omega (arith, f.0),
      subst (λ k. begins_joint (drop k (b ∷ bs)) ≡ true) (one-more n) f.1,
      later,
    )
      where
        one-more : (n : ℕ) → suc n ≡ n + 1
        one-more n = omega arith

        later : (m : ℕ) → m < suc len → begins_joint (drop m (b ∷ bs)) ≡ true → n + 1 ≤ m
        later zero h e = absurd (both_ways _ not_here e)
        later (suc m) h e = omega (arith, f.2 m (omega arith) e)

-- ## The rules at a piece

-- what a rule that is broken says of the longest piece
abbrev Faulty : List ℕ → ℕ → PieceKind → ℕ → TokenRule → ℕ → Type 0
Faulty text from blank_piece len rule at = ⊥
Faulty text from comment_piece len rule at = (n : ℕ) × (n < len) × (begins_joint (drop n (drop from text)) ≡ true) × (rule ≡ bad_byte)
    × (at ≡ from + n)
Faulty text from directive_piece len rule at = ⊥
Faulty text from name_piece len rule at = (NAME_BYTES < len) × (rule ≡ bad_byte) × (at ≡ from + NAME_BYTES)
Faulty text from lib_piece len rule at = (5 + NAME_BYTES < len) × (rule ≡ bad_byte) × (at ≡ from + (5 + NAME_BYTES))
Faulty text from number_piece len rule at = IsBadNumber (take len (drop from text)) (drop (from + len) text) × (rule ≡ bad_number) × (at ≡ from)
Faulty text from text_piece len rule at = (n : ℕ) × (unescaped false (between (take len (drop from text))) ≡ Err n) × (rule ≡ bad_byte)
    × (at ≡ from + n)
Faulty text from mark_piece len rule at = (begins_with (codes "/*") (drop from text) ≡ true) × (rule ≡ open_comment) × (at ≡ from)

as-kind : (given kind : PieceKind) (o : Option ℕ) (len : ℕ) → as_piece given o ≡ Some (kind, len) → given ≡ kind
as-kind given kind None len e = absurd cc
as-kind given kind (Some n) len e = (some_pair_parts given kind n len e).0

module _ (text : List ℕ) (seen : Bool) (from : ℕ) where
  -- where `/*` begins no comment it begins a mark
  mark-opens : (kind : PieceKind) (len : ℕ) → piece_at text seen from ≡ Some (kind, len) → begins_with (codes "/*") (drop from text) ≡ true
      → ((n : ℕ) → IsPiece text seen from comment_piece n → ⊥) → kind ≡ mark_piece
  mark-opens kind len e opens none =
      let rest = drop from text in
      let other : piece_in Other (opens_directive seen (take from text)) rest ≡ Some (kind, len) =
      ap (λ f. piece_in f (opens_directive seen (take from text)) rest) (sym (block-first rest opens)) ∙ e in
      elim (comment_len rest) as (λ o. comment_len rest ≡ o → comment_or_mark o rest ≡ Some (kind, len) → kind ≡ mark_piece) [
        | None ↦ λ _ mark. sym (as-kind mark_piece kind (mark_len rest) len mark)
        | Some n ↦ λ is comment.
            let c = comment-form rest n is in
            absurd (none n (record { within = c.within; form = c.form; fit = refl }))
      ] refl other

  faulty : (kind : PieceKind) (len : ℕ) (rule : TokenRule) (at : ℕ) → IsLongest text seen from kind len → Breaks text seen from rule at
      → Faulty text from kind len rule at
  faulty kind len _ _ l (begins_nothing b bs is none) = absurd (none kind len l.piece)
  faulty kind len _ _ l (long_name n m past) =
      let same = one_longest text seen from name_piece kind n len m l in
      subst (λ k. Faulty text from k len bad_byte (from + NAME_BYTES)) same.0 (subst (λ n. NAME_BYTES < n) same.1 past, refl, refl)
  faulty kind len _ _ l (long_lib n m past) =
      let same = one_longest text seen from lib_piece kind n len m l in
      subst (λ k. Faulty text from k len bad_byte (from + (5 + NAME_BYTES))) same.0 (subst (λ n. 5 + NAME_BYTES < n) same.1 past, refl, refl)
  faulty kind len _ _ l (wrong_escape n k m wrong) =
      let same = one_longest text seen from text_piece kind n len m l in
      subst (λ kind. Faulty text from kind len bad_byte (from + k)) same.0
      (k, subst (λ n. unescaped false (between (take n (drop from text))) ≡ Err k) same.1 wrong, refl, refl)
  faulty kind len _ _ l (joint n k m within here) =
      let same = one_longest text seen from comment_piece kind n len m l in
      subst (λ kind. Faulty text from kind len bad_byte (from + k)) same.0
      (k, subst (λ n. k < n) same.1 within, subst (λ r. begins_joint r ≡ true) (sym (drop-drop k from text)) here, refl, refl)
  faulty kind len _ _ l (no_number n m bad) =
      let same = one_longest text seen from number_piece kind n len m l in
      subst (λ k. Faulty text from k len bad_number from) same.0
      (subst (λ n. IsBadNumber (take n (drop from text)) (drop (from + n) text)) same.1 bad, refl, refl)
  faulty kind len _ _ l (no_comment opens none) =
      subst (λ k. Faulty text from k len open_comment from) (sym (mark-opens kind len (longest-found text seen from kind len l) opens none))
      (opens, refl, refl)

-- ## What `front_of` gives

abbrev Claim : List ℕ → Bool → ℕ → Result (PieceKind × ℕ) (TokenRule × ℕ) → Type 0
Claim text seen from (Ok p) = Stands text seen (record { kind = p.0; from = from; len = p.1 })
Claim text seen from (Err b) = Breaks text seen from b.0 (from + b.1)
    × ((other : TokenRule) (there : ℕ) → Breaks text seen from other there → (other ≡ b.0) × (from + b.1 ≤ there))

module _ (text : List ℕ) (seen : Bool) (from : ℕ) where
  claim_ok : (kind : PieceKind) (len : ℕ) → IsLongest text seen from kind len → ((rule : TokenRule) (at : ℕ) → Faulty text from kind len rule at → ⊥)
      → Claim text seen from (Ok (kind, len))
  claim_ok kind len l none = record { longest = l; unbroken = λ rule at b. none rule at (faulty text seen from kind len rule at l b) }

  claim_name : (len : ℕ) → IsLongest text seen from name_piece len → Claim text seen from (judged name_piece len (drop from text))
  claim_name n l =
      cond_both (ltb NAME_BYTES n) (Err (bad_byte, NAME_BYTES)) (Ok (name_piece, n)) (Claim text seen from)
      (λ past. (
        long_name n l (ltb-true NAME_BYTES n past),
        λ other there b. let f = faulty text seen from name_piece n other there l b in
            (f.1, omega (arith, f.2)),
      ))
      (λ short. claim_ok name_piece n l (λ rule at f. omega (arith, f.0, ltb-false NAME_BYTES n short)))

  claim_lib : (len : ℕ) → IsLongest text seen from lib_piece len → Claim text seen from (judged lib_piece len (drop from text))
  claim_lib n l =
      cond_both (ltb (5 + NAME_BYTES) n) (Err (bad_byte, 5 + NAME_BYTES)) (Ok (lib_piece, n)) (Claim text seen from)
      (λ past. (
        long_lib n l (ltb-true (5 + NAME_BYTES) n past),
        λ other there b. let f = faulty text seen from lib_piece n other there l b in
            (f.1, omega (arith, f.2)),
      ))
      (λ short. claim_ok lib_piece n l (λ rule at f. omega (arith, f.0, ltb-false (5 + NAME_BYTES) n short)))

  claim_number : (len : ℕ) → IsLongest text seen from number_piece len → Claim text seen from (judged number_piece len (drop from text))
  claim_number n l =
      let rest = drop from text in
      let behind : drop n rest ≡ drop (from + n) text = drop-drop n from text in
      cond_both (ltb LARGEST_NUMBER (decimal (take n rest)) || begins spoils_number (drop n rest)) (Err (bad_number, 0)) (Ok (number_piece, n))
      (Claim text seen from)
      (λ e.
      let bad : IsBadNumber (take n rest) (drop (from + n) text) =
      elim (or_cases _ _ e) [
        | inl past ↦ inl (ltb-true LARGEST_NUMBER (decimal (take n rest)) past)
        | inr spoilt ↦ inr (subst (λ r. begins spoils_number r ≡ true) behind spoilt)
      ] in (
        subst (Breaks text seen from bad_number) (sym (add-zero from)) (no_number n l bad),
        λ other there b. let f = faulty text seen from number_piece n other there l b in (f.1, omega (arith, f.2)),
      ))
      (λ e.
      let good = or_parts (ltb LARGEST_NUMBER (decimal (take n rest))) (begins spoils_number (drop n rest)) e in
      claim_ok number_piece n l
      (λ rule at f.
      elim f.0 [
        | inl past ↦ omega (arith, past, ltb-false LARGEST_NUMBER (decimal (take n rest)) good.0)
        | inr spoilt ↦ both_ways _ (subst (λ r. begins spoils_number r ≡ false) behind good.1) spoilt
      ]))

  claim_comment : (len : ℕ) → IsLongest text seen from comment_piece len → Claim text seen from (judged comment_piece len (drop from text))
  claim_comment len l =
      let rest = drop from text in
      elim (joint_in len rest) as (λ o. IsFirstJoint len rest o → Claim text seen from (judged_comment len o)) [
        | None ↦ λ none. claim_ok comment_piece len l (λ rule at f. none f.0 f.1 f.2)
        | Some n ↦ λ first. (
          joint len n l first.0 (subst (λ r. begins_joint r ≡ true) (drop-drop n from text) first.1),
          λ other there b.
              let f = faulty text seen from comment_piece len other there l b in
              (f.3, omega (arith, f.4, first.2 f.0 f.1 f.2)),
        )
      ] (first-joint len rest)

  claim_text : (len : ℕ) → IsLongest text seen from text_piece len → Claim text seen from (judged text_piece len (drop from text))
  claim_text len l =
      let bytes = between (take len (drop from text)) in
      elim (unescaped false bytes) as (λ u. unescaped false bytes ≡ u → Claim text seen from (judged_text len u)) [
        | Ok ws ↦ λ e. claim_ok text_piece len l (λ rule at f. let wrong = f.1 in absurd cc)
        | Err n ↦ λ e. (
          wrong_escape len n l e,
          λ other there b.
              let f = faulty text seen from text_piece len other there l b in
              let wrong = f.1 in
              let same : f.0 ≡ n = cc in
              (f.2, omega (arith, f.3, same)),
        )
      ] refl

  claim_mark : (len : ℕ) → IsLongest text seen from mark_piece len → ((n : ℕ) → IsPiece text seen from comment_piece n → ⊥)
      → Claim text seen from (judged mark_piece len (drop from text))
  claim_mark len l none =
      cond_both (begins_with (codes "/*") (drop from text)) (Err (open_comment, 0)) (Ok (mark_piece, len)) (Claim text seen from)
      (λ opens. (
        subst (Breaks text seen from open_comment) (sym (add-zero from)) (no_comment opens none),
        λ other there b. let f = faulty text seen from mark_piece len other there l b in (f.1, omega (arith, f.2)),
      ))
      (λ e. claim_ok mark_piece len l (λ rule at f. both_ways _ e f.0))

  -- where a mark is the longest there is no comment
  no-comment : (len n : ℕ) → IsLongest text seen from mark_piece len → IsPiece text seen from comment_piece n → ⊥
  no-comment len n l p =
      let rest = drop from text in
      let opens = opens_directive seen (take from text) in
      let s = comment-shape rest n p.within p.form in
      let comment : piece_at text seen from ≡ Some (comment_piece, s.len) =
      ap (λ f. piece_in f opens rest) s.other ∙ ap (λ o. comment_or_mark o rest) s.counted in
      let same = (some_pair_parts comment_piece mark_piece s.len len (sym comment ∙ longest-found text seen from mark_piece len l)).0 in
      absurd cc

  claim_judged : (kind : PieceKind) (len : ℕ) → IsLongest text seen from kind len → Claim text seen from (judged kind len (drop from text))
  claim_judged blank_piece len l = claim_ok blank_piece len l (λ rule at f. f)
  claim_judged comment_piece len l = claim_comment len l
  claim_judged directive_piece len l = claim_ok directive_piece len l (λ rule at f. f)
  claim_judged name_piece len l = claim_name len l
  claim_judged lib_piece len l = claim_lib len l
  claim_judged number_piece len l = claim_number len l
  claim_judged text_piece len l = claim_text len l
  claim_judged mark_piece len l = claim_mark len l (λ n p. no-comment len n l p)

  -- where `/*` stands something begins
  opens-something : begins_with (codes "/*") (drop from text) ≡ true → piece_at text seen from ≡ None → ⊥
  opens-something opens e =
      let rest = drop from text in
      let other : comment_or_mark (comment_len rest) rest ≡ None = ap (λ f. piece_in f (opens_directive seen (take from text)) rest)
      (sym (block-first rest opens)) ∙ e in
      let mark : mark_len rest ≡ Some 1 = subst (λ r. mark_len r ≡ Some 1) (sym (begins-is (codes "/*") rest opens)) refl in
      elim (comment_len rest) as (λ o. comment_or_mark o rest ≡ None → ⊥) [
        | None ↦ λ nothing. let none : as_piece mark_piece (Some 1) ≡ None = ap (as_piece mark_piece) (sym mark) ∙ nothing in absurd cc
        | Some n ↦ λ nothing. absurd cc
      ] other

  -- where nothing begins, the rule of the first byte is broken
  claim_nothing : (b : ℕ) (bs : List ℕ) → drop from text ≡ b ∷ bs → piece_at text seen from ≡ None
      → Claim text seen from (Err (rule_for (first_at (b ∷ bs)), 0))
  claim_nothing b bs is e =
      let none = found-none text seen from e in (
        subst (λ rule. Breaks text seen from rule (from + 0)) (sym (rule-for b))
            (subst (Breaks text seen from (rule_of b)) (sym (add-zero from)) (begins_nothing b bs is none)),
        only none,
      )
    where
      only : ((kind : PieceKind) (len : ℕ) → IsPiece text seen from kind len → ⊥) → (rule : TokenRule) (at : ℕ) → Breaks text seen from rule at
          → (rule ≡ rule_for (first_at (b ∷ bs))) × (from + 0 ≤ at)
      only none _ _ (begins_nothing c cs there _) = (ap rule_of (first-byte (sym there ∙ is)) ∙ sym (rule-for b), omega arith)
        where
          first-byte : c ∷ cs ≡ b ∷ bs → c ≡ b
          first-byte same = cc
      only none _ _ (long_name n m past) = absurd (none name_piece n m.piece)
      only none _ _ (long_lib n m past) = absurd (none lib_piece n m.piece)
      only none _ _ (wrong_escape n k m wrong) = absurd (none text_piece n m.piece)
      only none _ _ (joint n k m within here) = absurd (none comment_piece n m.piece)
      only none _ _ (no_number n m bad) = absurd (none number_piece n m.piece)
      only none _ _ (no_comment opens _) = absurd (opens-something opens e)

  claim_found : (b : ℕ) (bs : List ℕ) → drop from text ≡ b ∷ bs → (found : Found) → piece_at text seen from ≡ found
      → Claim text seen from (front_from (rule_for (first_at (b ∷ bs))) (drop from text) found)
  claim_found b bs is None e = claim_nothing b bs is e
  claim_found b bs is (Some p) e = claim_judged p.0 p.1 (found-longest text seen from p.0 p.1 e)

  claim_at : (rest : List ℕ) → 0 < length rest → drop from text ≡ rest
      → Claim text seen from (front_from (rule_for (first_at rest)) (drop from text) (piece_at text seen from))
  claim_at [] some is = absurd (omega arith)
  claim_at (b ∷ bs) some is = claim_found b bs is (piece_at text seen from) refl

  claim : from < length text → Claim text seen from (front_of (opens_directive seen (take from text)) (drop from text))
  claim within = claim_at (drop from text) (omega (arith, length-drop from text)) refl

-- what `front_of` gives at an offset, with what stands before it
abbrev pub front_at : List ℕ → Bool → ℕ → Result (PieceKind × ℕ) (TokenRule × ℕ)
front_at text seen from = front_of (opens_directive seen (take from text)) (drop from text)

module _ (text : List ℕ) (seen : Bool) (from : ℕ) where
  pub front-ok : (kind : PieceKind) (len : ℕ) → from < length text → front_at text seen from ≡ Ok (kind, len)
      → Stands text seen (record { kind = kind; from = from; len = len })
  front-ok kind len within e = subst (Claim text seen from) e (claim text seen from within)

  pub front-err : (rule : TokenRule) (at : ℕ) → from < length text → front_at text seen from ≡ Err (rule, at) → Breaks text seen from rule (from + at)
  front-err rule at within e = (subst (Claim text seen from) e (claim text seen from within)).0

  -- no other rule is broken at a smaller offset, and none at all but with this number
  pub front-err-first : (rule : TokenRule) (at : ℕ) → from < length text → front_at text seen from ≡ Err (rule, at)
      → (other : TokenRule) (there : ℕ) → Breaks text seen from other there → (other ≡ rule) × (from + at ≤ there)
  front-err-first rule at within e = (subst (Claim text seen from) e (claim text seen from within)).1
