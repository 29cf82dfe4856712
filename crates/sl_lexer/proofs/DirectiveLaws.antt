-- Directives at the front of a rest: the length that is counted is that of the one that stands there.
use Rattle.std.proofs.Common.{◌≡◌, ℕ, ◌+◌, ◌≤◌, ◌==◌, ◌&&◌, inl, inr, Bool, true, false, cond, List, [], ◌∷◌, ◌++◌, length, take, drop, Option, Some}
use Rattle.std.proofs.Common.{None, option_map, codes, refl, sym, ap, ◌∙◌, subst, arith, append_assoc, length-append}
use Rattle.std.specs.List.{prefix_len, list_all, list_any}
use Rattle.std.specs.Str.{bytes_eq}
use Rattle.std.proofs.lemmas.Bool.{and_parts, or_cases, eqb-true}
use Rattle.std.proofs.lemmas.List.{length-take-le, take_at, drop_at, take-append-drop}
use Rattle.std.proofs.lemmas.List.Folds.{length-prefix_len}
use Rattle.std.proofs.lemmas.Slice.Eq.{bytes_eq-Decides}
use Rattle.sl_base.specs.Bytes.{is_space, is_name_byte, begins, begins_with}
use Rattle.sl_base.specs.Directives.{IsDirective}
use Rattle.sl_base.specs.Headers.{headers, is_header}
use Rattle.sl_lexer.specs.Means.Front.{first_at, has_header, header_len, after_spaces, include_len, hash_len}
use Rattle.sl_lexer.specs.declared.byte.First.TheVariants.{Hash}
use Rattle.sl_lexer.proofs.FirstLaws.{tells_at, begins-is}
use Rattle.sl_lexer.proofs.CommentLaws.{more-by}
use Rattle.sl_lexer.proofs.WordLaws.{run-all}

-- ## From the parts to the length

-- a run ends where another byte follows
run-ends : (p : ℕ → Bool) (xs ys : List ℕ) → list_all p xs ≡ true → begins p ys ≡ false → prefix_len p (xs ++ ys) ≡ length xs
run-ends p [] [] all ends = refl
run-ends p [] (y ∷ ys) all ends = rw ends refl
run-ends p (x ∷ xs) ys all ends =
    let parts = and_parts (p x) (list_all p xs) all in
    rw parts.0 (omega (arith, run-ends p xs ys parts.1 ends))

-- what is found in a table passes a test that each entry passes
found : (p q : List ℕ → Bool) (xs : List (List ℕ)) → list_all q xs ≡ true → list_any p xs ≡ true → (x : List ℕ) × (p x ≡ true) × (q x ≡ true)
found p q [] a e = absurd cc
found p q (x ∷ xs) a e =
    let parts = and_parts (q x) (list_all q xs) a in
    elim (or_cases (p x) (list_any p xs) e) [ inl here ↦ (x, here, parts.0) | inr there ↦ found p q xs parts.1 there ]

header-bytes : (name : List ℕ) → is_header name ≡ true → list_all is_name_byte name ≡ true
header-bytes name e =
    let at = found (λ h. bytes_eq h name) (list_all is_name_byte) headers refl e in
    subst (λ bs. list_all is_name_byte bs ≡ true) ((bytes_eq-Decides at.0 name).0 at.1) at.2

header-counted : (name tail : List ℕ) → is_header name ≡ true → header_len (60 ∷ (name ++ 62 ∷ tail)) ≡ Some (length name + 2)
header-counted name tail known =
    let run = run-ends is_name_byte name (62 ∷ tail) (header-bytes name known) refl in
    let here : has_header (length name) (60 ∷ (name ++ 62 ∷ tail)) ≡ true =
    rw (take_at name (62 ∷ tail) (length name) refl, drop_at name (62 ∷ tail) (length name) refl, known) refl in
    ap (λ n. cond (has_header n (60 ∷ (name ++ 62 ∷ tail))) (Some (n + 2)) None) run ∙ rw here refl

spaces-counted : (count : List ℕ → Option ℕ) (gap behind : List ℕ) (n : ℕ) → list_all is_space gap ≡ true → begins is_space behind ≡ false
    → count behind ≡ Some n
    → after_spaces count (gap ++ behind) ≡ Some (length gap + n)
spaces-counted count gap behind n spaces ends is =
    ap (λ k. option_map (λ m. k + m) (count (drop k (gap ++ behind)))) (run-ends is_space gap behind spaces ends)
    ∙ ap (λ bs. option_map (λ m. length gap + m) (count bs)) (drop_at gap behind (length gap) refl)
    ∙ ap (option_map (λ m. length gap + m)) is

include-counted : (more name tail : List ℕ) → list_all is_space more ≡ true → is_header name ≡ true
    → include_len (codes "include" ++ (more ++ (60 ∷ (name ++ 62 ∷ tail)))) ≡ Some (length more + (length name + 2) + 7)
include-counted more name tail spaces known =
    ap (option_map (λ n. n + 7))
    (spaces-counted header_len more (60 ∷ (name ++ 62 ∷ tail)) (length name + 2) spaces refl (header-counted name tail known))

hash-counted : (gap more name tail : List ℕ) → list_all is_space gap ≡ true → list_all is_space more ≡ true → is_header name ≡ true
    → hash_len (35 ∷ (gap ++ (codes "include" ++ (more ++ (60 ∷ (name ++ 62 ∷ tail)))))) ≡ Some
    (length gap + (length more + (length name + 2) + 7) + 1)
hash-counted gap more name tail gaps spaces known =
    ap (option_map (λ n. n + 1))
    (spaces-counted include_len gap (codes "include" ++ (more ++ (60 ∷ (name ++ 62 ∷ tail)))) (length more + (length name + 2) + 7) gaps refl
    (include-counted more name tail spaces known))

-- a directive with these parts, and what stands behind it
abbrev spelled : List ℕ → List ℕ → List ℕ → List ℕ → List ℕ
spelled gap more header tail = 35 ∷ (gap ++ (codes "include" ++ (more ++ (60 ∷ (header ++ 62 ∷ tail)))))

abbrev parts_of : List ℕ → List ℕ → List ℕ → List ℕ
parts_of gap more header = codes "#" ++ (gap ++ (codes "include" ++ (more ++ (codes "<" ++ (header ++ codes ">")))))

spelled-parts : (gap more header tail : List ℕ) → parts_of gap more header ++ tail ≡ spelled gap more header tail
spelled-parts gap more header tail = simp append_assoc

spelled-length : (gap more header : List ℕ) → length (parts_of gap more header) ≡ length gap + (length more + (length header + 2) + 7) + 1
spelled-length gap more header = simp length-append (omega arith)

-- what a directive of this length says of the rest that it begins
pub directive-shape : (rest : List ℕ) (m : ℕ) → m ≤ length rest → IsDirective (take m rest) → (first_at rest ≡ Hash) × (hash_len rest ≡ Some m)
directive-shape rest m within d =
    let whole : spelled d.gap d.more d.header (drop m rest) ≡ rest =
    sym (spelled-parts d.gap d.more d.header (drop m rest)) ∙ ap (λ bs. bs ++ drop m rest) (sym d.written) ∙ take-append-drop m rest in
    let size : length d.gap + (length d.more + (length d.header + 2) + 7) + 1 ≡ m =
    sym (spelled-length d.gap d.more d.header) ∙ ap length (sym d.written) ∙ length-take-le m rest within in (
      subst (λ r. first_at r ≡ Hash) whole refl,
      subst (λ r. hash_len r ≡ Some m) whole
          (hash-counted d.gap d.more d.header (drop m rest) d.gap_spaces d.more_spaces d.known ∙ ap (λ n. Some n) size),
    )

-- ## From the length to the parts

-- the header that is counted
record IsHeaderAt (rest : List ℕ) (n : ℕ) : Type 0 where
  name : List ℕ
  tail : List ℕ
  known : is_header name ≡ true
  written : rest ≡ 60 ∷ (name ++ 62 ∷ tail)
  size : n ≡ length name + 2

begins-byte : (a : ℕ) (bs : List ℕ) → begins (λ b. b == a) bs ≡ true → bs ≡ a ∷ drop 1 bs
begins-byte a [] e = absurd cc
begins-byte a (b ∷ bs) e = ap (λ c. c ∷ bs) (eqb-true b a e)

header-form : (rest : List ℕ) (n : ℕ) → header_len rest ≡ Some n → IsHeaderAt rest n
header-form rest n e =
    let behind = drop 1 rest in
    let k = prefix_len is_name_byte behind in
    elim (has_header k rest) as (λ t. has_header k rest ≡ t → cond t (Some (k + 2)) None ≡ Some n → IsHeaderAt rest n) [
      | true ↦ λ here is.
          let last = and_parts (begins (λ b. b == 60) rest && is_header (take k behind)) (begins (λ b. b == 62) (drop k behind)) here in
          let parts = and_parts (begins (λ b. b == 60) rest) (is_header (take k behind)) last.0 in
          let size : k + 2 ≡ n = cc in
          record {
            name = take k behind;
            tail = drop 1 (drop k behind);
            known = parts.1;
            written = begins-byte 60 rest parts.0
                ∙ ap (λ bs. 60 ∷ bs) (sym (take-append-drop k behind) ∙ ap (λ bs. take k behind ++ bs) (begins-byte 62 (drop k behind) last.1));
            size = omega (arith, length-prefix_len is_name_byte behind);
          }
      | false ↦ λ _ nothing. absurd cc
    ] refl e

-- the spaces that are counted before something, and what it says of the rest behind them
spaces-form : (count : List ℕ → Option ℕ) (rest : List ℕ) (n : ℕ) (P : Type 0) → after_spaces count rest ≡ Some n
    → ((gap behind : List ℕ) (k : ℕ) → rest ≡ gap ++ behind → list_all is_space gap ≡ true → count behind ≡ Some k → n ≡ length gap + k → P) → P
spaces-form count rest n P e f =
    let k = prefix_len is_space rest in
    elim (count (drop k rest)) as (λ o. count (drop k rest) ≡ o → option_map (λ m. k + m) o ≡ Some n → P) [
      | None ↦ λ _ nothing. absurd cc
      | Some m ↦ λ is whole.
          let size : k + m ≡ n = cc in
          f (take k rest) (drop k rest) m (sym (take-append-drop k rest)) (run-all is_space rest) is (omega (arith, length-prefix_len is_space rest))
    ] refl e

record IsIncludeAt (rest : List ℕ) (n : ℕ) : Type 0 where
  more : List ℕ
  header : List ℕ
  tail : List ℕ
  spaces : list_all is_space more ≡ true
  known : is_header header ≡ true
  written : rest ≡ codes "include" ++ (more ++ (60 ∷ (header ++ 62 ∷ tail)))
  size : n ≡ length more + (length header + 2) + 7

include-form : (rest : List ℕ) (n : ℕ) → include_len rest ≡ Some n → IsIncludeAt rest n
include-form rest n e =
    elim (begins_with (codes "include") rest) as (λ t. begins_with (codes "include") rest ≡ t
    → cond t (option_map (λ k. k + 7) (after_spaces header_len (drop 7 rest))) None ≡ Some n → IsIncludeAt rest n) [
      | true ↦ λ opens is.
          let m = more-by 7 (after_spaces header_len (drop 7 rest)) n is in
          spaces-form header_len (drop 7 rest) m.0 (IsIncludeAt rest n) m.1 (λ more behind k parts spaces count size.
          let h = header-form behind k count in
          record {
            more = more;
            header = h.name;
            tail = h.tail;
            spaces = spaces;
            known = h.known;
            written = begins-is (codes "include") rest opens ∙ ap (λ bs. codes "include" ++ bs) (parts ∙ ap (λ bs. more ++ bs) h.written);
            size = omega (arith, m.2, size, h.size);
          })
      | false ↦ λ _ nothing. absurd cc
    ] refl e

-- the directive that is counted is there
pub directive-form : (rest : List ℕ) (n : ℕ) → first_at rest ≡ Hash → hash_len rest ≡ Some n → (n ≤ length rest) × IsDirective (take n rest)
directive-form [] n hash e = absurd cc
directive-form (b ∷ bs) n hash e =
    let m = more-by 1 (after_spaces include_len bs) n e in
    spaces-form include_len bs m.0 ((n ≤ length (b ∷ bs)) × IsDirective (take n (b ∷ bs))) m.1 (λ gap behind k parts gaps count size.
    let i = include-form behind k count in
    let whole : b ∷ bs ≡ spelled gap i.more i.header i.tail =
    ap (λ c. c ∷ bs) (tells_at (b ∷ bs) Hash hash) ∙ ap (λ r. 35 ∷ r) (parts ∙ ap (λ r. gap ++ r) i.written) in
    let cut : b ∷ bs ≡ parts_of gap i.more i.header ++ i.tail = whole ∙ sym (spelled-parts gap i.more i.header i.tail) in
    let long : length (parts_of gap i.more i.header) ≡ n = omega (arith, spelled-length gap i.more i.header, m.2, size, i.size) in (
      omega (arith, ap length cut, length-append (parts_of gap i.more i.header) i.tail, long),
      record {
        gap = gap;
        more = i.more;
        header = i.header;
        gap_spaces = gaps;
        more_spaces = i.spaces;
        known = i.known;
        written = ap (take n) cut ∙ take_at (parts_of gap i.more i.header) i.tail n long;
      },
    ))
