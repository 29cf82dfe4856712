-- Cuts of a text: one piece at an offset, one cut, one list of tokens, one fault, and never both.
use Rattle.std.proofs.Common.{◌≡◌, ℕ, zero, suc, ◌+◌, ◌<◌, ◌≤◌, ◌⊎◌, inl, inr, Bool, false, ◌||◌, cond, ◌==◌, List, [], ◌∷◌, ◌++◌, length, drop}
use Rattle.std.proofs.Common.{codes, Option, Some, None, is_some, Err, refl, sym, ap, ◌∙◌, subst, arith}
use Rattle.std.specs.List.{filter_map, cons_option}
use Rattle.std.proofs.lemmas.List.{length-drop}
use Rattle.sl_base.specs.declared.token.Token.{Token}
use Rattle.sl_base.specs.Pieces.{PieceKind, blank_piece, comment_piece, directive_piece, name_piece, lib_piece, number_piece, text_piece, mark_piece}
use Rattle.sl_base.specs.Pieces.{HasForm, IsPiece, IsLongest, TokenRule, bad_byte, bad_number, open_comment, open_text, bad_directive, rule_number}
use Rattle.sl_base.specs.Pieces.{Breaks, begins_nothing, long_name, long_lib, wrong_escape, joint, no_number, no_comment}
use Rattle.sl_base.specs.Tokens.{Piece, Stands, Follow, Cut, token_of, seen_after, Tokens, BreaksBehind, TokenFault}
use Rattle.sl_lexer.proofs.FirstLaws.{begins-is}
use Rattle.sl_lexer.proofs.PieceLaws.{one_longest}
use Rattle.sl_lexer.proofs.FrontLaws.{front_at, front-err, front-err-first}

-- ## Pieces

-- no piece is empty
form-some : (kind : PieceKind) → HasForm kind [] → ⊥
form-some blank_piece e = absurd cc
form-some comment_piece e = absurd cc
form-some directive_piece d = let e = d.written in absurd cc
form-some name_piece e = absurd cc
form-some lib_piece e = absurd cc
form-some number_piece e = absurd cc
form-some text_piece e = absurd cc
form-some mark_piece e = absurd cc

pub piece-some : (text : List ℕ) (seen : Bool) (from : ℕ) (kind : PieceKind) (len : ℕ) → IsPiece text seen from kind len → 0 < len
piece-some text seen from kind zero p = absurd (form-some kind p.form)
piece-some text seen from kind (suc n) p = omega arith

-- a piece ends within the text
pub piece-within : (text : List ℕ) (seen : Bool) (from : ℕ) (kind : PieceKind) (len : ℕ) → IsPiece text seen from kind len → from + len ≤ length text
piece-within text seen from kind len p = omega (arith, p.within, piece-some text seen from kind len p, length-drop from text)

-- one piece stands at an offset
pub one_piece : (text : List ℕ) (seen : Bool) (p q : Piece) → Stands text seen p → Stands text seen q → p.from ≡ q.from → p ≡ q
one_piece text seen p q s t same =
    let moved : IsLongest text seen p.from q.kind q.len = subst (λ from. IsLongest text seen from q.kind q.len) (sym same) t.longest in
    let one = one_longest text seen p.from p.kind q.kind p.len q.len s.longest moved in
    ap (λ (k : PieceKind). let r : Piece = record { kind = k; from = p.from; len = p.len } in r) one.0
    ∙ ap (λ (n : ℕ). let r : Piece = record { kind = q.kind; from = n; len = p.len } in r) same
    ∙ ap (λ (n : ℕ). let r : Piece = record { kind = q.kind; from = q.from; len = n } in r) one.1

-- ## Cuts

-- whether a token stands before what follows a piece
abbrev pub seen_by : List ℕ → Bool → Piece → Bool
seen_by text seen p = seen || is_some (token_of text p)

-- a piece that stands at the end of a cut makes it longer
pub follow-push : (text : List ℕ) (seen : Bool) (from : ℕ) (ps : List Piece) (to : ℕ) (p : Piece) → Follow text seen from ps to → p.from ≡ to
    → Stands text (seen_after text seen ps) p
    → Follow text seen from (ps ++ p ∷ []) (to + p.len)
follow-push text seen from [] to p h at s = (at ∙ sym h, s, ap (λ n. n + p.len) h)
follow-push text seen from (q ∷ ps) to p h at s = (h.0, h.1, follow-push text (seen_by text seen q) (from + q.len) ps to p h.2 at s)

pub seen-push : (text : List ℕ) (seen : Bool) (ps : List Piece) (p : Piece) → seen_after text seen (ps ++ p ∷ []) ≡ seen_by text
    (seen_after text seen ps) p
seen-push text seen [] p = refl
seen-push text seen (q ∷ ps) p = seen-push text (seen_by text seen q) ps p

follow-le : (text : List ℕ) (seen : Bool) (from : ℕ) (ps : List Piece) (to : ℕ) → Follow text seen from ps to → from ≤ to
follow-le text seen from [] to h = omega (arith, h)
follow-le text seen from (p ∷ ps) to h = omega (arith, follow-le text (seen_by text seen p) (from + p.len) ps to h.2)

follow-lt : (text : List ℕ) (seen : Bool) (from : ℕ) (p : Piece) (ps : List Piece) (to : ℕ) → Follow text seen from (p ∷ ps) to → from < to
follow-lt text seen from p ps to h =
    omega (arith, follow-le text (seen_by text seen p) (from + p.len) ps to h.2, piece-some text seen p.from p.kind p.len h.1.longest.piece)

-- one cut leads from an offset to another
one_follow : (text : List ℕ) (seen : Bool) (from : ℕ) (ps qs : List Piece) (to : ℕ) → Follow text seen from ps to
    → Follow text seen from qs to → ps ≡ qs
one_follow text seen from [] [] to h k = refl
one_follow text seen from [] (q ∷ qs) to h k = absurd (omega (arith, h, follow-lt text seen from q qs to k))
one_follow text seen from (p ∷ ps) [] to h k = absurd (omega (arith, k, follow-lt text seen from p ps to h))
one_follow text seen from (p ∷ ps) (q ∷ qs) to h k =
    let same = one_piece text seen p q h.1 k.1 (h.0 ∙ sym k.0) in
    let rest = one_follow text (seen_by text seen p) (from + p.len) ps qs to h.2
    (subst (λ (r : Piece). Follow text (seen_by text seen r) (from + r.len) qs to) (sym same) k.2) in
    ap (λ r. r ∷ ps) same ∙ ap (λ rs. q ∷ rs) rest

-- one goes on where the other ends
abbrev GoesOn : List ℕ → Bool → ℕ → ℕ → Type 0
GoesOn text seen from to = (rest : List Piece) × Follow text seen from rest to

-- two cuts run along one another
along : (text : List ℕ) (seen : Bool) (from : ℕ) (ps qs : List Piece) (to end : ℕ) → Follow text seen from ps to → Follow text seen from qs end
    → GoesOn text (seen_after text seen ps) to end ⊎ GoesOn text (seen_after text seen qs) end to
along text seen from [] qs to end h k = inl (qs, subst (λ n. Follow text seen n qs end) h k)
along text seen from (p ∷ ps) [] to end h k = inr (p ∷ ps, subst (λ n. Follow text seen n (p ∷ ps) to) k h)
along text seen from (p ∷ ps) (q ∷ qs) to end h k =
    let same = one_piece text seen p q h.1 k.1 (h.0 ∙ sym k.0) in
    let on = along text (seen_by text seen p) (from + p.len) ps qs to end h.2
    (subst (λ (r : Piece). Follow text (seen_by text seen r) (from + r.len) qs end) (sym same) k.2) in
    subst (λ (r : Piece). GoesOn text (seen_after text (seen_by text seen p) ps) to end
    ⊎ GoesOn text (seen_after text (seen_by text seen r) qs) end to) same on

-- ## Tokens and faults

pub one_cut : (text : List ℕ) (ps qs : List Piece) (to : ℕ) → Cut text ps to → Cut text qs to → ps ≡ qs
one_cut text ps qs to h k = one_follow text false 0 ps qs to h k

pub one_tokens : (text : List ℕ) (ts us : List Token) → Tokens text ts → Tokens text us → ts ≡ us
one_tokens text ts us t u = t.2 ∙ ap (filter_map (token_of text)) (one_cut text t.0 u.0 (length text) t.1 u.1) ∙ sym u.2

longest-within : (text : List ℕ) (seen : Bool) (from : ℕ) (kind : PieceKind) (len : ℕ) → IsLongest text seen from kind len → from < length text
longest-within text seen from kind len l = omega (arith, piece-some text seen from kind len l.piece, piece-within text seen from kind len l.piece)

-- a rule is broken before the end
breaks-within : (text : List ℕ) (seen : Bool) (from : ℕ) (rule : TokenRule) (at : ℕ) → Breaks text seen from rule at → from < length text
breaks-within text seen from _ _ (begins_nothing b bs is none) = omega (arith, ap length is, length-drop from text)
breaks-within text seen from _ _ (long_name n l past) = longest-within text seen from name_piece n l
breaks-within text seen from _ _ (long_lib n l past) = longest-within text seen from lib_piece n l
breaks-within text seen from _ _ (wrong_escape n k l wrong) = longest-within text seen from text_piece n l
breaks-within text seen from _ _ (joint n k l below here) = longest-within text seen from comment_piece n l
breaks-within text seen from _ _ (no_number n l bad) = longest-within text seen from number_piece n l
breaks-within text seen from _ _ (no_comment opens none) =
    omega (arith, ap length (begins-is (codes "/*") (drop from text) opens), length-drop from text)

pub not_both : (text : List ℕ) (ts : List Token) (rule : TokenRule) (at : ℕ) → Tokens text ts → TokenFault text rule at → ⊥
not_both text ts rule at t f =
    omega (arith, f.longest t.0 (length text) t.1, breaks-within text (seen_after text false f.pieces) f.upto rule at f.broken)

rule_of_number : ℕ → TokenRule
rule_of_number n = cond (n == 2) bad_byte (cond (n == 3) bad_number (cond (n == 4) open_comment (cond (n == 5) open_text bad_directive)))

rule-number : (rule : TokenRule) → rule_of_number (rule_number rule) ≡ rule
unfolding rule_of_number
rule-number bad_byte = refl
rule-number bad_number = refl
rule-number open_comment = refl
rule-number open_text = refl
rule-number bad_directive = refl

one_rule : (rule other : TokenRule) → rule_number rule ≡ rule_number other → rule ≡ other
one_rule rule other e = sym (rule-number rule) ∙ ap rule_of_number e ∙ rule-number other

pub one_fault : (text : List ℕ) (rule other : TokenRule) (at there : ℕ) → TokenFault text rule at → TokenFault text other there
    → (rule ≡ other) × (at ≡ there)
one_fault text rule other at there f g =
    let upto : f.upto ≡ g.upto = omega (arith, f.longest g.pieces g.upto g.cut, g.longest f.pieces f.upto f.cut) in
    let pieces : f.pieces ≡ g.pieces = one_cut text f.pieces g.pieces g.upto (subst (Cut text f.pieces) upto f.cut) g.cut in
    let broken : BreaksBehind text f.pieces f.upto other there =
    subst (λ ps. BreaksBehind text ps f.upto other there) (sym pieces) (subst (λ n. BreaksBehind text g.pieces n other there) (sym upto) g.broken) in
    let moved : BreaksBehind text g.pieces g.upto rule at =
    subst (λ ps. BreaksBehind text ps g.upto rule at) pieces (subst (λ n. BreaksBehind text f.pieces n rule at) upto f.broken) in
    let same : at ≡ there = omega (arith, f.first other there broken, g.first rule at moved) in
    let low : rule_number rule ≤ rule_number other = f.least other (subst (BreaksBehind text f.pieces f.upto other) (sym same) broken) in
    let high : rule_number other ≤ rule_number rule = g.least rule (subst (BreaksBehind text g.pieces g.upto rule) same moved) in
    (one_rule rule other (omega arith), same)

-- no piece follows where a rule is broken
stuck : (text : List ℕ) (seen : Bool) (to : ℕ) (rest : List Piece) (end : ℕ) (rule : TokenRule) (at : ℕ) → Breaks text seen to rule at
    → Follow text seen to rest end → end ≤ to
stuck text seen to [] end rule at b h = omega (arith, h)
stuck text seen to (q ∷ qs) end rule at b h = absurd (h.1.unbroken rule at (subst (λ n. Breaks text seen n rule at) (sym h.0) b))

-- where a cut ends before the text and what begins there breaks a rule, that is the fault
pub fault_behind : (text : List ℕ) (ps : List Piece) (to : ℕ) (rule : TokenRule) (at : ℕ) → Cut text ps to → to < length text
    → front_at text (seen_after text false ps) to ≡ Err (rule, at)
    → TokenFault text rule (to + at)
fault_behind text ps to rule at h within e =
    let seen = seen_after text false ps in
    let broken = front-err text seen to rule at within e in
    let only = front-err-first text seen to rule at within e in
    record {
      pieces = ps;
      upto = to;
      cut = h;
      longest = λ qs end k.
          elim (along text false 0 ps qs to end h k) [
            | inl on ↦ stuck text seen to on.0 end rule (to + at) broken on.1
            | inr back ↦ follow-le text (seen_after text false qs) end back.0 to back.1
          ];
      broken = broken;
      first = λ other there b. (only other there b).1;
      least = λ other b. omega (arith, ap rule_number (only other (to + at) b).0);
    }

-- pieces take a byte each
pieces-few : (text : List ℕ) (seen : Bool) (from : ℕ) (ps : List Piece) (to : ℕ) → Follow text seen from ps to → from + length ps ≤ to
pieces-few text seen from [] to h = omega (arith, h)
pieces-few text seen from (p ∷ ps) to h =
    omega (arith, pieces-few text (seen_by text seen p) (from + p.len) ps to h.2, piece-some text seen p.from p.kind p.len h.1.longest.piece)

one_more : (t : Option Token) (ts : List Token) (n : ℕ) → length ts ≤ n → length (cons_option t ts) ≤ n + 1
one_more None ts n h = omega (arith, h)
one_more (Some t) ts n h = omega (arith, h)

-- there are no more tokens than pieces
tokens-few : (text : List ℕ) (ps : List Piece) → length (filter_map (token_of text) ps) ≤ length ps
tokens-few text [] = omega arith
tokens-few text (p ∷ ps) = omega (arith, one_more (token_of text p) (filter_map (token_of text) ps) (length ps) (tokens-few text ps))

-- a text has no more tokens than bytes
pub few_tokens : (text : List ℕ) (tokens : List Token) → Tokens text tokens → length tokens ≤ length text
few_tokens text tokens (pieces, cut, is) = omega (arith, ap length is, tokens-few text pieces, pieces-few text false 0 pieces (length text) cut)
