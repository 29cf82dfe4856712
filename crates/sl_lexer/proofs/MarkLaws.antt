-- Marks at the front of a rest. A test over the whole table tells what all of them have in common.
use Rattle.std.proofs.Common.{◌≡◌, ℕ, ◌<◌, ◌≤◌, ◌&&◌, inl, inr, Bool, true, false, cond, ltb, List, [], ◌∷◌, length, take, Some, None, is_some}
use Rattle.std.proofs.Common.{option_map, find, refl, sym, ap, ◌∙◌, subst, arith}
use Rattle.std.specs.List.{list_all}
use Rattle.std.specs.Str.{bytes_eq}
use Rattle.std.proofs.lemmas.Bool.{and_parts, both_ways, ltb-true, cases_lt}
use Rattle.std.proofs.lemmas.List.{length-take, length-take-le, take_min}
use Rattle.std.proofs.lemmas.Slice.Eq.{bytes_eq-Decides}
use Rattle.sl_base.specs.Marks.{marks, mark_of}
use Rattle.sl_lexer.specs.Means.Front.{first_at, mark_len}
use Rattle.sl_lexer.specs.declared.byte.First.{First}
use Rattle.sl_lexer.specs.declared.byte.First.TheVariants.{Other}
use Rattle.sl_lexer.proofs.FirstLaws.{at-take}

abbrev is_other : First → Bool
is_other Other = true
is_other _ = false

other-true : (first : First) → is_other first ≡ true → first ≡ Other
other-true Other e = refl
other-true _ e = absurd cc

-- one or two bytes, the first of which begins nothing else than a mark or a comment
abbrev is_mark_text : List ℕ → Bool
is_mark_text bytes = ltb 0 (length bytes) && ltb (length bytes) 3 && is_other (first_at bytes)

-- what is found in a table passes a test that each entry passes
found : {X Y : Type 0} (p q : X → Bool) (f : X → Y) (xs : List X) → list_all q xs ≡ true → is_some (option_map f (find p xs)) ≡ true → (x : X)
    × (p x ≡ true) × (q x ≡ true)
found p q f [] a e = absurd cc
found p q f (x ∷ xs) a e =
    let parts = and_parts (q x) (list_all q xs) a in
    elim (p x) as (λ t. p x ≡ t → is_some (option_map f (cond t (Some x) (find p xs))) ≡ true → (y : _) × (p y ≡ true) × (q y ≡ true)) [
      | true ↦ λ t _. (x, t, parts.0)
      | false ↦ λ _ s. found p q f xs parts.1 s
    ] refl e

mark-text : (bytes : List ℕ) → is_some (mark_of bytes) ≡ true → is_mark_text bytes ≡ true
mark-text bytes e =
    let at = found (λ m. bytes_eq m.0 bytes) (λ m. is_mark_text m.0) (λ m. m.1) marks refl e in
    subst (λ bs. is_mark_text bs ≡ true) ((bytes_eq-Decides at.0.0 bytes).0 at.1) at.2

-- a mark has one byte or two, the first of which begins nothing else than a mark or a comment
pub record IsMarkAt (rest : List ℕ) (m : ℕ) : Type 0 where
  pub some : 0 < m
  pub few : m < 3
  pub other : first_at rest ≡ Other

pub mark-shape : (rest : List ℕ) (m : ℕ) → m ≤ length rest → is_some (mark_of (take m rest)) ≡ true → IsMarkAt rest m
mark-shape rest m within e =
    let size = length-take-le m rest within in
    let last = and_parts (ltb 0 (length (take m rest)) && ltb (length (take m rest)) 3) (is_other (first_at (take m rest)))
    (mark-text (take m rest) e) in
    let sizes = and_parts (ltb 0 (length (take m rest))) (ltb (length (take m rest)) 3) last.0 in
    let some : 0 < m = omega (arith, size, ltb-true 0 (length (take m rest)) sizes.0) in
    record {
      some = some;
      few = omega (arith, size, ltb-true (length (take m rest)) 3 sizes.1);
      other = sym (at-take rest m some) ∙ other-true (first_at (take m rest)) last.1;
    }

-- the longest mark is no shorter than another
pub mark-most : (rest : List ℕ) (m : ℕ) → m ≤ length rest → is_some (mark_of (take m rest)) ≡ true → (n : ℕ) × (mark_len rest ≡ Some n) × (m ≤ n)
mark-most rest m within e =
    let s = mark-shape rest m within e in
    elim (is_some (mark_of (take 2 rest))) as (λ t. is_some (mark_of (take 2 rest)) ≡ t
    → (n : ℕ) × (cond t (Some (length (take 2 rest))) (cond (is_some (mark_of (take 1 rest))) (Some 1) None) ≡ Some n) × (m ≤ n)) [
      | true ↦ λ two. (length (take 2 rest), refl, omega (arith, s.few, length-take 2 rest))
      | false ↦ λ no_two.
          elim (cases_lt m 2) [
            | inl short ↦
                let one : m ≡ 1 = omega (arith, s.some) in
                (1, rw (subst (λ n. is_some (mark_of (take n rest)) ≡ true) one e) refl, omega arith)
            | inr long ↦
                let two : m ≡ 2 = omega (arith, s.few) in
                absurd (both_ways _ no_two (subst (λ n. is_some (mark_of (take n rest)) ≡ true) two e))
          ]
    ] refl

-- as many bytes as the first n have are the first n
pub same-bytes : (n : ℕ) (rest two : List ℕ) → two ≡ take n rest → take (length two) rest ≡ two
same-bytes n rest two e = ap (λ k. take k rest) (ap length e ∙ length-take n rest) ∙ take_min n rest ∙ sym e

pub mark-form : (rest : List ℕ) (n : ℕ) → mark_len rest ≡ Some n → (n ≤ length rest) × (is_some (mark_of (take n rest)) ≡ true)
mark-form rest n e =
    elim (is_some (mark_of (take 2 rest))) as (λ t. is_some (mark_of (take 2 rest)) ≡ t
    → cond t (Some (length (take 2 rest))) (cond (is_some (mark_of (take 1 rest))) (Some 1) None) ≡ Some n
    → (n ≤ length rest) × (is_some (mark_of (take n rest)) ≡ true)) [
      | true ↦ λ two is.
          let size : length (take 2 rest) ≡ n = cc in (
            omega (arith, length-take 2 rest),
            subst (λ k. is_some (mark_of (take k rest)) ≡ true) size (ap (λ bs. is_some (mark_of bs)) (same-bytes 2 rest (take 2 rest) refl) ∙ two),
          )
      | false ↦ λ _.
          elim (is_some (mark_of (take 1 rest))) as (λ t. is_some (mark_of (take 1 rest)) ≡ t → cond t (Some 1) None ≡ Some n
          → (n ≤ length rest) × (is_some (mark_of (take n rest)) ≡ true)) [
            | true ↦ λ one is.
                let size : 1 ≡ n = cc in (
                  one-within rest n size one,
                  subst (λ k. is_some (mark_of (take k rest)) ≡ true) size one,
                )
            | false ↦ λ _ no_mark. absurd cc
          ] refl
    ] refl e
  where
    one-within : (rest : List ℕ) (n : ℕ) → 1 ≡ n → is_some (mark_of (take 1 rest)) ≡ true → n ≤ length rest
    one-within [] n size one = absurd cc
    one-within (b ∷ bs) n size one = omega arith
