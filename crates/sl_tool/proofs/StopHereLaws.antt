-- Where the words of a body stop beginning one.
use Rattle.std.proofs.Common.{◌≡◌, ℕ, ◌+◌, ◌-◌, ◌<◌, ◌≤◌, ◌⊎◌, inl, inr, List, [], ◌∷◌, ◌++◌, length, drop, refl, sym, ap, ◌∙◌, subst, append_assoc}
use Rattle.std.proofs.Common.{append-nil, arith}
use Rattle.std.proofs.lemmas.Bool.{cases_lt}
use Rattle.std.proofs.Math.ListN.{drop_of_length-le}
use Rattle.std.proofs.Math.Seq.{drop-append_seam}
use Rattle.std.specs.List.{flat_map}
use Rattle.sl_base.specs.declared.mark.Mark.TheVariants.{RightBrace}
use Rattle.sl_base.specs.declared.token.Token.{Token}
use Rattle.sl_base.specs.declared.word.Word.{Word}
use Rattle.sl_base.specs.declared.word.Word.TheVariants.{Mark}
use Rattle.sl_tool.specs.declared.reading.slots.Kind.{Kind}
use Rattle.sl_syntax.specs.Begins.{Begins, Stops}
use Rattle.sl_syntax.specs.Begins.{words_in}
use Rattle.sl_tool.specs.Subset.{Item, vector_item, push_back_item, begin_item, dereference_item, item_words, Scope, IsAllowed, AllAllowed}
use Rattle.sl_tool.specs.Subset.{after_item}
use Rattle.sl_tool.specs.Means.Reading.{BeginsWith, IsBody, StopsIn}
use Rattle.sl_tool.specs.Means.Slots.{Fit, slots_of, BeginsKind, IsPossible}
use Rattle.sl_tool.proofs.ItemLaws.{begins_with, same_item, no_item_at_end}
use Rattle.sl_tool.proofs.KindLaws.{kind_of, possible_of, fits_kind, item_of_fit, have_words, first_word, one_kind, not_brace}
use Rattle.sl_tool.proofs.SlotLaws.{FitAll, fit_whole, stops_in_slots}
use Rattle.sl_syntax.proofs.BeginsLaws.{behind_front, stops_at_end, stops_at_first, stops_at_second}

-- a closing brace alone is a body
pub empty_body : (s : Scope) (room : ℕ) → IsBody s room (Mark RightBrace ∷ [])
empty_body s room = record { items = []; are_items = refl; allowed = tt; few = omega arith }

body_begins : (s : Scope) (room : ℕ) → Begins (IsBody s room) []
body_begins s room = (Mark RightBrace ∷ [], empty_body s room)

-- what a body's words begin with: the closing brace that ends it, or a statement
data FirstOfBody (s : Scope) (room : ℕ) (ws : List Word) : Type 0 where
  brace : ws ≡ Mark RightBrace ∷ [] → FirstOfBody s room ws
  item : (i : Item) → BeginsWith ws i → IsAllowed s i → 0 < room → FirstOfBody s room ws

first_of_body : (s : Scope) (room : ℕ) (ws : List Word) → IsBody s room ws → FirstOfBody s room ws
first_of_body s room ws body = by_items body.items body.are_items body.allowed body.few where
  by_items : (items : List Item) → ws ≡ flat_map item_words items ++ Mark RightBrace ∷ [] → AllAllowed s items → length items ≤ room
      → FirstOfBody s room ws
  by_items [] e allowed few = brace e
  by_items (i ∷ is) e allowed few =
      item i (begins_with ws _ i (e ∙ append_assoc (item_words i) (flat_map item_words is) (Mark RightBrace ∷ []))) allowed.0 (omega arith)

-- a statement and a body behind it
joined : (s : Scope) (room : ℕ) (i : Item) → IsAllowed s i → 0 < room → (rest : List Word) → IsBody (after_item s i) (room - 1) rest
    → IsBody s room (item_words i ++ rest)
joined s room i allowed some rest body = record {
  items = i ∷ body.items;
  are_items = ap (λ l. item_words i ++ l) body.are_items ∙ sym (append_assoc (item_words i) (flat_map item_words body.items) (Mark RightBrace ∷ []));
  allowed = (allowed, body.allowed);
  few = omega (arith, body.few);
}

-- the body behind a statement
parted : (s : Scope) (room : ℕ) (i : Item) (rest : List Word) → IsBody s room (item_words i ++ rest) → IsBody (after_item s i) (room - 1) rest
parted s room i rest body = by_items body.items body.are_items body.allowed body.few where
  begins : BeginsWith (item_words i ++ rest) i
  begins = begins_with (item_words i ++ rest) rest i refl

  behind : (is : List Item) → item_words i ++ rest ≡ item_words i ++ (flat_map item_words is ++ Mark RightBrace ∷ []) → AllAllowed (after_item s i) is
      → length is + 1 ≤ room → IsBody (after_item s i) (room - 1) rest
  behind is e allowed few = record {
    items = is;
    are_items = sym (drop-append_seam (item_words i) rest) ∙ ap (λ l. drop (length (item_words i)) l) e
        ∙ drop-append_seam (item_words i) (flat_map item_words is ++ Mark RightBrace ∷ []);
    allowed = allowed;
    few = omega arith;
  }

  by_items : (items : List Item) → item_words i ++ rest ≡ flat_map item_words items ++ Mark RightBrace ∷ [] → AllAllowed s items → length items ≤ room
      → IsBody (after_item s i) (room - 1) rest
  by_items [] e allowed few = absurd (no_item_at_end _ i e begins)
  by_items (j ∷ js) e allowed few =
      let parts : item_words i ++ rest ≡ item_words j ++ (flat_map item_words js ++ Mark RightBrace ∷ []) = e
      ∙ append_assoc (item_words j) (flat_map item_words js) (Mark RightBrace ∷ []) in
      let same : j ≡ i = same_item (item_words i ++ rest) j i (begins_with _ _ j parts) begins in
      behind js (subst (λ k. item_words i ++ rest ≡ item_words k ++ (flat_map item_words js ++ Mark RightBrace ∷ [])) same parts)
      (subst (λ k. AllAllowed (after_item s k) js) same allowed.1) (omega arith)

-- what stops behind a statement stops
pub stops_behind : (s : Scope) (room : ℕ) (i : Item) (ws : List Word) (k : ℕ) → IsAllowed s i → 0 < room → Stops (IsBody (after_item s i) (room - 1))
    ws k → Stops (IsBody s room) (item_words i ++ ws) (length (item_words i) + k)
stops_behind s room i ws k allowed some stops = behind_front (IsBody s room) (IsBody (after_item s i) (room - 1)) (item_words i) ws k
    (joined s room i allowed some) (parted s room i) stops

pub stops_empty : (s : Scope) (room : ℕ) → Stops (IsBody s room) [] 0
stops_empty s room = stops_at_end (IsBody s room) (body_begins s room) (λ body. not (first_of_body s room [] body)) where
  not : FirstOfBody s room [] → ⊥
  not (brace e) = cc
  not (item i begins allowed some) = no_words i begins where
    no_words : (i : Item) → BeginsWith [] i → ⊥
    no_words (vector_item name) h = cc
    no_words (push_back_item vector number) h = cc
    no_words (begin_item name vector) h = cc
    no_words (dereference_item name iterator) h = cc

-- behind the closing brace
pub stops_at_brace : (s : Scope) (room : ℕ) (w : Word) (ws : List Word) → w ≡ Mark RightBrace → (w ∷ ws ≡ Mark RightBrace ∷ [] → ⊥)
    → Stops (IsBody s room) (w ∷ ws) 1
stops_at_brace s room w [] e more = absurd (more (ap (λ v. v ∷ []) e))
stops_at_brace s room w (v ∷ vs) e more = stops_at_second (IsBody s room) w v vs (subst (λ u. IsBody s room (u ∷ [])) (sym e) (empty_body s room))
    (λ rest body. not rest (first_of_body s room (w ∷ v ∷ rest) body)) where
      not : (rest : List Word) → FirstOfBody s room (w ∷ v ∷ rest) → ⊥
      not rest (brace f) = cc
      not rest (item i begins allowed some) = not_brace w (kind_of i) (first_word w (v ∷ rest) i begins) e

-- where no statement may follow
pub stops_without_room : (s : Scope) (room : ℕ) (w : Word) (ws : List Word) → room ≡ 0 → (w ≡ Mark RightBrace → ⊥) → Stops (IsBody s room) (w ∷ ws) 0
stops_without_room s room w ws none other = stops_at_first (IsBody s room) w ws (body_begins s room)
    (λ rest body. not rest (first_of_body s room (w ∷ rest) body)) where
      not : (rest : List Word) → FirstOfBody s room (w ∷ rest) → ⊥
      not rest (brace f) = other cc
      not rest (item i begins allowed some) = absurd (omega arith)

-- at a word that begins no statement
pub stops_at_other : (s : Scope) (room : ℕ) (w : Word) (ws : List Word) → (w ≡ Mark RightBrace → ⊥)
    → ((kind : Kind) → BeginsKind kind w → IsPossible s kind → ⊥) → Stops (IsBody s room) (w ∷ ws) 0
stops_at_other s room w ws other none = stops_at_first (IsBody s room) w ws (body_begins s room)
    (λ rest body. not rest (first_of_body s room (w ∷ rest) body)) where
      not : (rest : List Word) → FirstOfBody s room (w ∷ rest) → ⊥
      not rest (brace f) = other cc
      not rest (item i begins allowed some) = none (kind_of i) (first_word w rest i begins) (possible_of s i allowed)

-- in a statement
pub stops_in_item : (s : Scope) (room : ℕ) (kind : Kind) (w : Word) (ws : List Word) (k : ℕ) → 0 < room → BeginsKind kind w → IsPossible s kind
    → ((i : Item) → BeginsWith (w ∷ ws) i → IsAllowed s i → ⊥)
    → Fit s (slots_of kind) (w ∷ ws) k → Stops (IsBody s room) (w ∷ ws) k
stops_in_item s room kind w ws k some begins possible none fit =
    stops_in_slots (IsBody s room) s (slots_of kind) w ws k (have_words s kind possible) closes
    (λ rest body. reads rest (first_of_body s room (w ∷ rest) body)) fit (by_test (cases_lt k (length (slots_of kind))))
  where
    by_test : (k < length (slots_of kind)) ⊎ (length (slots_of kind) ≤ k) → k < length (slots_of kind)
    by_test (inl h) = h
    by_test (inr h) = let found = item_of_fit s kind (w ∷ ws) possible (fit_whole s (slots_of kind) (w ∷ ws) k fit h) in
        absurd (none found.0 found.1 found.2)

    closes : (front : List Word) → FitAll s (slots_of kind) front → length front ≡ length (slots_of kind) → Begins (IsBody s room) front
    closes front all long =
        let found = item_of_fit s kind front possible all in
        let i = found.0 in
        let nothing : drop (length (item_words i)) front ≡ [] = drop_of_length-le front (omega (arith, found.3)) in
        let is : item_words i ≡ front = sym (append-nil (item_words i)) ∙ ap (λ l. item_words i ++ l) (sym nothing) ∙ sym found.1 in (
          Mark RightBrace ∷ [],
          subst (λ l. IsBody s room (l ++ Mark RightBrace ∷ [])) is
              (joined s room i found.2 some (Mark RightBrace ∷ []) (empty_body (after_item s i) (room - 1))),
        )

    reads : (rest : List Word) → FirstOfBody s room (w ∷ rest) → FitAll s (slots_of kind) (w ∷ rest)
    reads rest (brace e) = absurd (not_brace w kind begins cc)
    reads rest (item i starts allowed more) =
        let same : kind_of i ≡ kind = one_kind w (kind_of i) kind (first_word w rest i starts) begins in
        subst (λ k. FitAll s (slots_of k) (w ∷ rest)) same (subst (FitAll s (slots_of (kind_of i))) (sym starts) (fits_kind s i _ allowed))

-- Where no statement may follow.
abbrev StopsWithoutRoom : List Word → ℕ → Type 0
StopsWithoutRoom words k = (s : Scope) → (words ≡ Mark RightBrace ∷ [] → ⊥) → Stops (IsBody s 0) words k

no_words_in : (ts : List Token) → length ts < 1 → words_in ts ≡ []
no_words_in [] h = refl
no_words_in (t ∷ ts) h = absurd (omega arith)

pub no_room_for_none : (ts : List Token) → length ts < 1 → StopsWithoutRoom (words_in ts) 0
no_room_for_none ts h = λ s more. subst (λ l. Stops (IsBody s 0) l 0) (sym (no_words_in ts h)) (stops_empty s 0)

pub no_room_at_brace : (words : List Word) (w : Word) (ws : List Word) → words ≡ w ∷ ws → w ≡ Mark RightBrace → StopsWithoutRoom words 1
no_room_at_brace words w ws e is = subst (λ l. StopsWithoutRoom l 1) (sym e) (λ s more. stops_at_brace s 0 w ws is more)

pub no_room_at_other : (words : List Word) (w : Word) (ws : List Word) → words ≡ w ∷ ws → (w ≡ Mark RightBrace → ⊥) → StopsWithoutRoom words 0
no_room_at_other words w ws e other = subst (λ l. StopsWithoutRoom l 0) (sym e) (λ s more. stops_without_room s 0 w ws refl other)

-- Where one may follow.
pub in_none : (s : Scope) (ts : List Token) → length ts ≡ 0 → StopsIn s (words_in ts) 0
in_none s ts h = λ room some more none. subst (λ l. Stops (IsBody s room) l 0) (sym (no_words_in ts (omega arith))) (stops_empty s room)

pub in_brace : (s : Scope) (words : List Word) (w : Word) (ws : List Word) → words ≡ w ∷ ws → w ≡ Mark RightBrace → StopsIn s words 1
in_brace s words w ws e is = subst (λ l. StopsIn s l 1) (sym e) (λ room some more none. stops_at_brace s room w ws is more)

pub in_other : (s : Scope) (words : List Word) (w : Word) (ws : List Word) → words ≡ w ∷ ws → (w ≡ Mark RightBrace → ⊥)
    → ((kind : Kind) → BeginsKind kind w → IsPossible s kind → ⊥) → StopsIn s words 0
in_other s words w ws e other none = subst (λ l. StopsIn s l 0) (sym e) (λ room some more no_item. stops_at_other s room w ws other none)

pub in_item : (s : Scope) (words : List Word) (w : Word) (ws : List Word) (kind : Kind) (k : ℕ) → words ≡ w ∷ ws → BeginsKind kind w
    → IsPossible s kind → Fit s (slots_of kind) words k → StopsIn s words k
in_item s words w ws kind k e begins possible fit =
    subst (λ l. StopsIn s l k) (sym e)
    (λ room some more none. stops_in_item s room kind w ws k some begins possible none (subst (λ l. Fit s (slots_of kind) l k) e fit))
