-- Comments at the front of a rest: the length that is counted is that of the longest, and none is longer.
use Rattle.std.proofs.Common.{◌≡◌, ℕ, zero, suc, ◌+◌, ◌-◌, ◌<◌, ◌≤◌, ◌==◌, ◌&&◌, ◌||◌, inl, inr, true, false, not, cond, List, [], ◌∷◌, length, take}
use Rattle.std.proofs.Common.{drop, Option, Some, None, is_some, option_map, codes, refl, sym, ap, ◌∙◌, subst, arith, add-one, add_comm}
use Rattle.std.specs.List.{prefix_len, list_all}
use Rattle.std.specs.Str.{bytes_eq}
use Rattle.std.proofs.lemmas.Bool.{and_parts, and_from, or_cases, or_left, or_right, eqb-true, eq-eqb}
use Rattle.std.proofs.lemmas.List.{take-take, drop-take, length-take-le, length-drop}
use Rattle.std.proofs.lemmas.List.Sums.{prefix_len-le-length}
use Rattle.sl_base.specs.Bytes.{begins, begins_with}
use Rattle.sl_base.specs.Comments.{counts_all, is_line_comment, comment_end, is_block_comment}
use Rattle.sl_base.specs.Marks.{mark_of}
use Rattle.sl_base.specs.Places.{is_line_feed}
use Rattle.sl_lexer.specs.Means.Front.{first_at, comment_len}
use Rattle.sl_lexer.specs.declared.byte.First.TheVariants.{Other}
use Rattle.sl_lexer.proofs.WordLaws.{run-all, run-most}
use Rattle.sl_lexer.proofs.FirstLaws.{begins-take, begins-is, begins-more}

-- what is counted, and so many bytes more
pub more-by : (by : ℕ) (o : Option ℕ) (n : ℕ) → option_map (λ k. k + by) o ≡ Some n → (k : ℕ) × (o ≡ Some k) × (n ≡ k + by)
more-by by None n e = absurd cc
more-by by (Some k) n e = (k, refl, cc)

-- the same counted from one byte further on
pub counts-more : (o : Option ℕ) (i : ℕ) → option_map (λ k. k + (i + 1)) o ≡ option_map (λ k. k + i) (option_map (λ k. k + 1) o)
counts-more None i = refl
counts-more (Some k) i = let e : k + (i + 1) ≡ k + 1 + i = omega arith in ap (λ n. Some n) e

pub counts-all : (o : Option ℕ) (bytes : List ℕ) → counts_all o bytes ≡ true → o ≡ Some (length bytes)
counts-all None bytes e = absurd cc
counts-all (Some n) bytes e = ap (λ k. Some k) (eqb-true n (length bytes) e)

-- ## The end of a block comment

end-least : (xs : List ℕ) (n : ℕ) → comment_end xs ≡ Some n → 2 ≤ n
end-least [] n e = absurd cc
end-least (b ∷ bs) n e =
    elim ((b == 42) && begins (λ c. c == 47) bs) as (λ t. cond t (Some 2) (option_map (λ k. k + 1) (comment_end bs)) ≡ Some n → 2 ≤ n) [
      | true ↦ λ is. let two : 2 ≡ n = cc in omega arith
      | false ↦ λ is. let m = more-by 1 (comment_end bs) n is in omega (arith, m.2, end-least bs m.0 m.1)
    ] e

end-within : (xs : List ℕ) (n : ℕ) → comment_end xs ≡ Some n → n ≤ length xs
end-within [] n e = absurd cc
end-within (b ∷ []) n e =
    elim (b == 42) as (λ t. cond (t && false) (Some 2) (option_map (λ k. k + 1) None) ≡ Some n → n ≤ 1)
    [ true ↦ λ is. absurd cc | false ↦ λ is. absurd cc ] e
end-within (b ∷ c ∷ cs) n e =
    elim ((b == 42) && (c == 47)) as (λ t. cond t (Some 2) (option_map (λ k. k + 1) (comment_end (c ∷ cs))) ≡ Some n → n ≤ suc (suc (length cs))) [
      | true ↦ λ is. let two : 2 ≡ n = cc in omega arith
      | false ↦ λ is. let m = more-by 1 (comment_end (c ∷ cs)) n is in omega (arith, m.2, end-within (c ∷ cs) m.0 m.1)
    ] e

-- the end is found in what it counts, and what counts all of a front counts the same in the whole
end-step : (b : ℕ) (bs : List ℕ) (k : ℕ) → 0 < k → comment_end (b ∷ take k bs) ≡ cond ((b == 42) && begins (λ c. c == 47) bs) (Some 2)
    (option_map (λ n. n + 1) (comment_end (take k bs)))
end-step b bs k some = ap (λ t. cond ((b == 42) && t) (Some 2) (option_map (λ n. n + 1) (comment_end (take k bs))))
    (begins-take (λ c. c == 47) bs k some)

end-take : (xs : List ℕ) (n : ℕ) → comment_end xs ≡ Some n → comment_end (take n xs) ≡ Some n
end-take [] n e = absurd cc
end-take (b ∷ bs) n e =
    elim ((b == 42) && begins (λ c. c == 47) bs) as (λ t. ((b == 42) && begins (λ c. c == 47) bs) ≡ t
    → cond t (Some 2) (option_map (λ k. k + 1) (comment_end bs)) ≡ Some n → comment_end (take n (b ∷ bs)) ≡ Some n) [
      | true ↦ λ t is.
          let two : 2 ≡ n = cc in
          subst (λ m. comment_end (take m (b ∷ bs)) ≡ Some m) two (end-step b bs 1 (omega arith) ∙ rw t refl)
      | false ↦ λ t is.
          let m = more-by 1 (comment_end bs) n is in
          let whole : comment_end (take (suc m.0) (b ∷ bs)) ≡ Some (m.0 + 1) =
          end-step b bs m.0 (omega (arith, end-least bs m.0 m.1)) ∙ rw (t, end-take bs m.0 m.1) refl in
          let size : suc m.0 ≡ n = omega (arith, m.2) in
          subst (λ k. comment_end (take k (b ∷ bs)) ≡ Some n) size (whole ∙ ap (λ k. Some k) (sym m.2))
    ] refl e

pub take-end : (xs : List ℕ) (k : ℕ) → k ≤ length xs → comment_end (take k xs) ≡ Some k → comment_end xs ≡ Some k
take-end xs zero h e = absurd cc
take-end [] (suc k) h e = absurd cc
take-end (b ∷ bs) (suc zero) h e = absurd (omega (arith, end-least (take 1 (b ∷ bs)) 1 e))
take-end (b ∷ bs) (suc (suc k)) h e =
    elim ((b == 42) && begins (λ c. c == 47) bs) as (λ t. cond t (Some 2)
    (option_map (λ n. n + 1) (comment_end (take (suc k) bs))) ≡ Some (suc (suc k))
    → cond t (Some 2) (option_map (λ n. n + 1) (comment_end bs)) ≡ Some (suc (suc k))) [
      | true ↦ λ is. is
      | false ↦ λ is.
          let m = more-by 1 (comment_end (take (suc k) bs)) (suc (suc k)) is in
          let same : m.0 ≡ suc k = omega (arith, m.2) in
          let inner : comment_end bs ≡ Some (suc k) = take-end bs (suc k) (omega arith) (m.1 ∙ ap (λ n. Some n) same) in
          ap (option_map (λ n. n + 1)) inner ∙ ap (λ n. Some n) (add-one (suc k))
    ] (sym (end-step b bs (suc k) (omega arith)) ∙ e)

-- ## Comments

-- the two bytes that open a comment stand in it
line-open : (rest : List ℕ) → begins_with (codes "//") rest ≡ true → rest ≡ 47 ∷ 47 ∷ drop 2 rest
line-open rest e = begins-is (codes "//") rest e

block-open : (rest : List ℕ) → begins_with (codes "/*") rest ≡ true → rest ≡ 47 ∷ 42 ∷ drop 2 rest
block-open rest e = begins-is (codes "/*") rest e

-- a comment that opens by `/*` is no line comment
pub block-no_line : (rest : List ℕ) → begins_with (codes "/*") rest ≡ true → begins_with (codes "//") rest ≡ false
block-no_line rest e = subst (λ r. begins_with (codes "//") r ≡ false) (sym (block-open rest e)) refl

pub line-first : (rest : List ℕ) → begins_with (codes "//") rest ≡ true → first_at rest ≡ Other
line-first rest e = subst (λ r. first_at r ≡ Other) (sym (line-open rest e)) refl

pub block-first : (rest : List ℕ) → begins_with (codes "/*") rest ≡ true → first_at rest ≡ Other
block-first rest e = subst (λ r. first_at r ≡ Other) (sym (block-open rest e)) refl

line-run : (d : List ℕ) → prefix_len (λ b. not (is_line_feed b)) (47 ∷ 47 ∷ d) ≡ suc (suc (prefix_len (λ b. not (is_line_feed b)) d))
line-run d = omega arith

line-least : (rest : List ℕ) → begins_with (codes "//") rest ≡ true → 2 ≤ prefix_len (λ b. not (is_line_feed b)) rest
line-least rest e = subst (λ r. 2 ≤ prefix_len (λ b. not (is_line_feed b)) r) (sym (line-open rest e)) (omega (arith, line-run (drop 2 rest)))

begins-take_two : (front rest : List ℕ) (n : ℕ) → length front ≡ 2 → begins_with front rest ≡ true → 2 ≤ n → begins_with front (take n rest) ≡ true
begins-take_two front rest n two e h = ap (λ bs. bytes_eq front bs) (take-take (length front) n rest (omega arith)) ∙ e

line-form : (rest : List ℕ) → begins_with (codes "//") rest ≡ true → is_line_comment (take (prefix_len (λ b. not (is_line_feed b)) rest) rest) ≡ true
line-form rest e =
    and_from _ _
    (begins-take_two (codes "//") rest (prefix_len (λ b. not (is_line_feed b)) rest) refl e (line-least rest e))
    (run-all (λ b. not (is_line_feed b)) rest)

block-form : (rest : List ℕ) (n : ℕ) → begins_with (codes "/*") rest ≡ true → comment_end (drop 2 rest) ≡ Some n
    → is_block_comment (take (n + 2) rest) ≡ true
block-form rest n e is =
    let inside : drop 2 (take (n + 2) rest) ≡ take n (drop 2 rest) = ap (λ k. drop 2 (take k rest)) (add_comm n 2) ∙ drop-take 2 n rest in
    let size : length (take n (drop 2 rest)) ≡ n = length-take-le n (drop 2 rest) (end-within (drop 2 rest) n is) in
    let all : counts_all (comment_end (take n (drop 2 rest))) (take n (drop 2 rest)) ≡ true = rw (end-take (drop 2 rest) n is)
    (eq-eqb n _ (sym size)) in
    and_from _ _
    (begins-take_two (codes "/*") rest (n + 2) refl e (omega arith))
    (subst (λ bs. counts_all (comment_end bs) bs ≡ true) (sym inside) all)

-- what a comment of this length says of the rest that it begins
pub record IsCommentAt (rest : List ℕ) (m : ℕ) : Type 0 where
  pub other : first_at rest ≡ Other
  pub len : ℕ
  pub counted : comment_len rest ≡ Some len
  pub most : m ≤ len

line-shape : (rest : List ℕ) (m : ℕ) → m ≤ length rest → is_line_comment (take m rest) ≡ true → IsCommentAt rest m
line-shape rest m within e =
    let parts = and_parts (begins_with (codes "//") (take m rest)) (list_all (λ b. not (is_line_feed b)) (take m rest)) e in
    let opens = begins-more (codes "//") rest m parts.0 in
    record {
      other = line-first rest opens;
      len = prefix_len (λ b. not (is_line_feed b)) rest;
      counted = rw opens refl;
      most = run-most (λ b. not (is_line_feed b)) rest m within parts.1;
    }

block-shape_at : (rest : List ℕ) (k : ℕ) → 2 + k ≤ length rest → is_block_comment (take (2 + k) rest) ≡ true → comment_len rest ≡ Some (k + 2)
block-shape_at rest k within e =
    let parts = and_parts (begins_with (codes "/*") (take (2 + k) rest))
    (counts_all (comment_end (drop 2 (take (2 + k) rest))) (drop 2 (take (2 + k) rest))) e in
    let opens = begins-more (codes "/*") rest (2 + k) parts.0 in
    let size : length (take k (drop 2 rest)) ≡ k = length-take-le k (drop 2 rest) (omega (arith, length-drop 2 rest)) in
    let inside : comment_end (take k (drop 2 rest)) ≡ Some k =
    subst (λ bs. comment_end bs ≡ Some (length bs)) (drop-take 2 k rest) (counts-all _ _ parts.1) ∙ ap (λ n. Some n) size in
    let is : comment_end (drop 2 rest) ≡ Some k = take-end (drop 2 rest) k (omega (arith, length-drop 2 rest)) inside in
    rw (block-no_line rest opens, opens, is) refl

block-shape : (rest : List ℕ) (m : ℕ) → m ≤ length rest → is_block_comment (take m rest) ≡ true → IsCommentAt rest m
block-shape rest m within e =
    let opens_front = (and_parts (begins_with (codes "/*") (take m rest))
    (counts_all (comment_end (drop 2 (take m rest))) (drop 2 (take m rest))) e).0 in
    let size : 2 ≤ m = omega (arith, ap length (block-open (take m rest) opens_front), length-take-le m rest within) in
    let same : 2 + (m - 2) ≡ m = omega arith in
    record {
      other = block-first rest (begins-more (codes "/*") rest m opens_front);
      len = m - 2 + 2;
      counted = block-shape_at rest (m - 2) (omega arith) (subst (λ n. is_block_comment (take n rest) ≡ true) (sym same) e);
      most = omega arith;
    }

pub comment-shape : (rest : List ℕ) (m : ℕ) → m ≤ length rest → (is_line_comment (take m rest) || is_block_comment (take m rest)) ≡ true
    → IsCommentAt rest m
comment-shape rest m within e =
    elim (or_cases _ _ e) [ inl line ↦ line-shape rest m within line | inr block ↦ block-shape rest m within block ]

-- the comment that is counted is there, and its first two bytes are no mark
pub record IsCommentOf (rest : List ℕ) (n : ℕ) : Type 0 where
  pub within : n ≤ length rest
  pub form : (is_line_comment (take n rest) || is_block_comment (take n rest)) ≡ true
  pub two : 2 ≤ n
  pub no_mark : is_some (mark_of (take 2 rest)) ≡ false

pub comment-form : (rest : List ℕ) (n : ℕ) → comment_len rest ≡ Some n → IsCommentOf rest n
comment-form rest n e =
    elim (begins_with (codes "//") rest) as (λ t. begins_with (codes "//") rest ≡ t
    → cond t (Some (prefix_len (λ b. not (is_line_feed b)) rest))
    (cond (begins_with (codes "/*") rest) (option_map (λ k. k + 2) (comment_end (drop 2 rest))) None) ≡ Some n
    → IsCommentOf rest n) [
      | true ↦ λ opens is. let size : prefix_len (λ b. not (is_line_feed b)) rest ≡ n = cc in subst (IsCommentOf rest) size (line opens)
      | false ↦ λ _.
          elim (begins_with (codes "/*") rest) as (λ t. begins_with (codes "/*") rest ≡ t
          → cond t (option_map (λ k. k + 2) (comment_end (drop 2 rest))) None ≡ Some n → IsCommentOf rest n) [
            | true ↦ λ opens is. let m = more-by 2 (comment_end (drop 2 rest)) n is in subst (IsCommentOf rest) (sym m.2) (block m.0 opens m.1)
            | false ↦ λ _ nothing. absurd cc
          ] refl
    ] refl e
  where
    line : begins_with (codes "//") rest ≡ true → IsCommentOf rest (prefix_len (λ b. not (is_line_feed b)) rest)
    line opens = record {
      within = prefix_len-le-length (λ b. not (is_line_feed b)) rest;
      form = or_left _ _ (line-form rest opens);
      two = line-least rest opens;
      no_mark = subst (λ r. is_some (mark_of (take 2 r)) ≡ false) (sym (line-open rest opens)) refl;
    }

    block : (k : ℕ) → begins_with (codes "/*") rest ≡ true → comment_end (drop 2 rest) ≡ Some k → IsCommentOf rest (k + 2)
    block k opens is = record {
      within = omega (arith, end-within (drop 2 rest) k is, end-least (drop 2 rest) k is, length-drop 2 rest);
      form = or_right _ _ (block-form rest k opens is);
      two = omega arith;
      no_mark = subst (λ r. is_some (mark_of (take 2 r)) ≡ false) (sym (block-open rest opens)) refl;
    }
