-- The list of a schedule, with its numbers as whole numbers of either sign.
use Rattle.std.proofs.Common.{◌≡◌, ℕ, ◌+◌, ◌<◌, ◌≤◌, nat_lt, nat_le, Bool, true, false, ◌&&◌, ◌||◌, if◌then◌else◌, List, [], ◌∷◌, ◌++◌}
use Rattle.std.proofs.Common.{length, map, take}
use Rattle.std.proofs.Common.{All, Option, Some, None, is_some, option_map, ℤ, pos, refl, ap, ap₂, sym, ◌∙◌, subst, arith}
use Rattle.std.specs.List.{list_all}
use Rattle.std.proofs.lemmas.Bool.{and_from, ltb-true, le-leb}
use Rattle.std.proofs.lemmas.List.{length-map}
use Rattle.std.proofs.lemmas.List.Elements.{All-nil, All-cons}
use Rattle.sl_model.specs.Reports.Lists.{ListOf, BadAt, at_byte, at_end, is_list, begins_list, pick_of, natural_of, passing, words_of}
use Rattle.sl_model.specs.Reports.Lists.{LIST_BYTES, LIST_NUMBERS}
use Rattle.sl_lists.specs.declared.kind.Kind.TheVariants as k
use Rattle.sl_lists.specs.Means.Numbers.{number_in, IsPick}

same_some : (o : Option ℕ) → is_some (option_map pos o) ≡ is_some o
same_some None = refl
same_some (Some n) = refl

same_words : (ws : List (List ℕ)) → list_all (λ w. is_some (number_in k.Schedule w)) ws ≡ list_all (λ w. is_some (pick_of w)) ws
same_words [] = refl
same_words (w ∷ ws) = ap₂ (λ a b. a && b) (same_some (pick_of w)) (same_words ws)

is_list-same : (bytes : List ℕ) → is_list (number_in k.Schedule) bytes ≡ is_list pick_of bytes
is_list-same bytes =
    ap (λ c. nat_le (length bytes) LIST_BYTES && (nat_le (length (words_of bytes)) LIST_NUMBERS && c)) (same_words (words_of bytes))

begins_list-same : (bytes : List ℕ) → begins_list (number_in k.Schedule) bytes ≡ begins_list pick_of bytes
begins_list-same bytes = ap₂ (λ a b. a || b) (is_list-same bytes) (is_list-same (bytes ++ 48 ∷ []))

-- where the bytes are bad
pub picks_bad : (bytes : List ℕ) (at : ℕ) → BadAt (number_in k.Schedule) bytes at → BadAt pick_of bytes at
picks_bad bytes _ (at_byte i below front bad) =
    at_byte i below (sym (begins_list-same (take i bytes)) ∙ front) (sym (begins_list-same (take (i + 1) bytes)) ∙ bad)
picks_bad bytes _ (at_end front bad) = at_end (sym (begins_list-same bytes) ∙ front) (sym (is_list-same bytes) ∙ bad)

unsigned : (o : Option ℕ) (n : ℕ) → option_map pos o ≡ Some (pos n) → o ≡ Some n
unsigned None n h = absurd (cc)
unsigned (Some m) n h = let e : pos m ≡ pos n = cc in let f : m ≡ n = cc in ap (λ x. Some x) f

each_unsigned : (ws : List (List ℕ)) (ns : List ℕ) → map (number_in k.Schedule) ws ≡ map Some (map pos ns) → map pick_of ws ≡ map Some ns
each_unsigned [] [] h = refl
each_unsigned [] (n ∷ ns) h = absurd (cc)
each_unsigned (w ∷ ws) [] h = absurd (cc)
each_unsigned (w ∷ ws) (n ∷ ns) h =
    let first : number_in k.Schedule w ≡ Some (pos n) = cc in
    let others : map (number_in k.Schedule) ws ≡ map Some (map pos ns) = cc in
    ap₂ (λ a b. a ∷ b) (unsigned (pick_of w) n first) (each_unsigned ws ns others)

-- the list itself
pub picks_list : (bytes ns : List ℕ) (zs : List ℤ) → map pos ns ≡ zs → ListOf (number_in k.Schedule) bytes zs → ListOf pick_of bytes ns
picks_list bytes ns zs same l = record {
  short = l.short;
  few = subst (λ n. n ≤ LIST_NUMBERS) (ap length (sym same) ∙ length-map ns pos) l.few;
  each = each_unsigned (words_of bytes) ns (l.each ∙ ap (map Some) (sym same));
}

pick_by : (c : Bool) (m : ℕ) (z : ℤ) → nat_lt m 4294967296 ≡ c → option_map pos (if c then Some m else None) ≡ Some z → IsPick z
pick_by true m z e h =
    let same : pos m ≡ z = cc in
    let low : m < 4294967296 = ltb-true m 4294967296 e in
    subst IsPick same (and_from (nat_le 0 m) (nat_le m 4294967295) (le-leb 0 m (omega arith)) (le-leb m 4294967295 (omega arith)))
pick_by false m z e h = absurd (cc)

pick_from : (n : Option ℕ) (z : ℤ) → option_map pos (passing (λ n. nat_lt n 4294967296) n) ≡ Some z → IsPick z
pick_from None z h = absurd (cc)
pick_from (Some m) z h = pick_by (nat_lt m 4294967296) m z refl h

all_picks : (ws : List (List ℕ)) (zs : List ℤ) → map (number_in k.Schedule) ws ≡ map Some zs → All IsPick zs
all_picks ws [] h = All-nil IsPick
all_picks [] (z ∷ zs) h = absurd (cc)
all_picks (w ∷ ws) (z ∷ zs) h =
    let first : number_in k.Schedule w ≡ Some z = cc in
    let others : map (number_in k.Schedule) ws ≡ map Some zs = cc in
    All-cons IsPick z zs (pick_from (natural_of w) z first) (all_picks ws zs others)

-- each of its numbers is one of a schedule
pub are_picks : (bytes : List ℕ) (zs : List ℤ) → ListOf (number_in k.Schedule) bytes zs → All IsPick zs
are_picks bytes zs l = all_picks (words_of bytes) zs l.each
