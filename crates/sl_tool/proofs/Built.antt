-- The statements of a text that is built of tokens: their count, what they use, and their places and sites.
use Rattle.std.proofs.Common.{arith, ◌≡◌, ℕ, zero, suc, ◌+◌, ◌-◌, ◌<◌, List, [], ◌∷◌, length, drop, map, Some, refl, ap, sym, subst, ◌∙◌}
use Rattle.std.specs.Prelude.{slice_get}
use Rattle.std.specs.Option.{option_map}
use Rattle.std.proofs.Math.ListN.{length-map}
use Rattle.std.proofs.lemmas.Option.{slice_get-map}
use Rattle.sl_base.specs.declared.place.Place.{Place}
use Rattle.sl_base.specs.declared.token.Token.{Token}
use Rattle.sl_syntax.specs.declared.subset.Stmt.TheVariants.{PushBack, Dereference}
use Rattle.sl_tool.specs.Subset.{Item, vector_item, push_back_item, begin_item, dereference_item, item_words, Scope, AllAllowed, after_item, place_in}
use Rattle.sl_tool.specs.Subset.{typed_item, typed_items, push_places}
use Rattle.sl_tool.proofs.Uses.{UsesDeclared}
use Rattle.sl_tool.specs.Means.Reading.{AreItems}
use Rattle.sl_base.specs.Places.{IsPlaceBefore}
use Rattle.sl_base.specs.Tokens.{TokensAscend}
use Rattle.sl_tool.proofs.Nodes.{PlacesAscend}
use Rattle.sl_tool.proofs.BodyLaws.{behind, uses_declared}
use Rattle.sl_tool.proofs.Lists.{there, get_or-there}
use Rattle.sl_model.proofs.Getting.{get_drop}

-- the token at a place of these has this place in the text
abbrev IsPlaceOf : List Token → ℕ → Place → Type 0
IsPlaceOf tokens k p = (t : Token) × (slice_get tokens k ≡ Some t) × (t.place ≡ p)

-- a token that is there
place_there : (tokens : List Token) (k : ℕ) → k < length tokens → IsPlaceOf tokens k (place_in tokens k)
place_there tokens k h =
    let t = there tokens k h in (
      t.0,
      t.1,
      sym (get_or-there (map (λ (t : Token). t.place) tokens) k t.0.place (record { line = 1; col = 1 })
          (slice_get-map (λ (t : Token). t.place) tokens k ∙ ap (option_map (λ (t : Token). t.place)) t.1)),
    )

-- what is so many tokens further on
place_behind : (tokens : List Token) (n k : ℕ) (p : Place) → IsPlaceOf (drop n tokens) k p → IsPlaceOf tokens (n + k) p
place_behind tokens n k p h = (h.0, sym (get_drop n tokens k) ∙ h.1, h.2)

-- the `*` of a statement is its token 3
star_place : (s : Scope) (tokens : List Token) (room : ℕ) (i : Item) (is : List Item) (p named : Place) (it name : ℕ)
    → AreItems s tokens room (i ∷ is) → Some (typed_item s tokens i) ≡ Some (Dereference p it name named)
    → IsPlaceOf tokens 3 p × (3 < length (item_words i))
star_place s tokens room (vector_item a) is p named it name h e = absurd cc
star_place s tokens room (push_back_item a n) is p named it name h e = absurd cc
star_place s tokens room (begin_item a b) is p named it name h e = absurd cc
star_place s tokens room (dereference_item a b) is p named it name h e =
    let same : place_in tokens 3 ≡ p = cc in
    let long = ap length h.words in
    (subst (λ q. IsPlaceOf tokens 3 q) same (place_there tokens 3 (let l = length-map tokens (λ (t : Token). t.word) in omega arith)), omega arith)

-- the `*` of one of these statements
star_in : (s : Scope) (tokens : List Token) (room : ℕ) (is : List Item) → AreItems s tokens room is → (m : ℕ) (p named : Place) (it name : ℕ)
    → slice_get (typed_items s tokens is) m ≡ Some (Dereference p it name named) → (k : ℕ) × IsPlaceOf tokens k p
star_in s tokens room [] h m p named it name e = absurd cc
star_in s tokens room (i ∷ is) h zero p named it name e = (3, (star_place s tokens room i is p named it name h e).0)
star_in s tokens room (i ∷ is) h (suc m) p named it name e =
    let n = length (item_words i) in
    let r = star_in (after_item s i) (drop n tokens) (room - 1) is (behind s tokens room i is h) m p named it name e in
    (n + r.0, place_behind tokens n r.0 p r.1)

-- the `*` of two of these statements, the first of which stands before the second
stars_in : (s : Scope) (tokens : List Token) (room : ℕ) (is : List Item) → AreItems s tokens room is → (m n : ℕ) (p q named also : Place)
    (it jt name other : ℕ) → m < n → slice_get (typed_items s tokens is) m ≡ Some (Dereference p it name named)
    → slice_get (typed_items s tokens is) n ≡ Some (Dereference q jt other also)
    → (k : ℕ) × (l : ℕ) × (k < l) × IsPlaceOf tokens k p × IsPlaceOf tokens l q
stars_in s tokens room [] h m n p q named also it jt name other lt a b = absurd cc
stars_in s tokens room (i ∷ is) h m zero p q named also it jt name other lt a b = absurd (omega arith)
stars_in s tokens room (i ∷ is) h zero (suc n) p q named also it jt name other lt a b =
    let w = length (item_words i) in
    let f = star_place s tokens room i is p named it name h a in
    let r = star_in (after_item s i) (drop w tokens) (room - 1) is (behind s tokens room i is h) n q also jt other b in
    (3, w + r.0, (let less = f.1 in omega arith), f.0, place_behind tokens w r.0 q r.1)
stars_in s tokens room (i ∷ is) h (suc m) (suc n) p q named also it jt name other lt a b =
    let w = length (item_words i) in
    let r = stars_in (after_item s i) (drop w tokens) (room - 1) is (behind s tokens room i is h) m n p q named also it jt name other
    (omega arith) a b in
    (w + r.0, w + r.1, (let less = r.2 in omega arith), place_behind tokens w r.0 p r.3, place_behind tokens w r.1 q r.4)

-- the places of two tokens
in_order : (tokens : List Token) (k l : ℕ) (p q : Place) → TokensAscend tokens → k < l → IsPlaceOf tokens k p → IsPlaceOf tokens l q
    → IsPlaceBefore p q
in_order tokens k l p q ascend lt a b = rw (← a.2, ← b.2) (ascend k l a.0 b.0 lt a.1 b.1)

-- the places of each `*` come in their order
pub places-ascend : (s : Scope) (tokens : List Token) (room : ℕ) (is : List Item) → AreItems s tokens room is → TokensAscend tokens
    → PlacesAscend (typed_items s tokens is)
places-ascend s tokens room is h ascend i j it jt name other p q named also lt a b =
    let r = stars_in s tokens room is h i j p q named also it jt name other lt a b in
    in_order tokens r.0 r.1 p q ascend r.2 r.3 r.4

-- there is a statement for each item
pub count_items : (s : Scope) (tokens : List Token) (is : List Item) → length (typed_items s tokens is) ≡ length is
count_items s tokens [] = refl
count_items s tokens (i ∷ is) = ap suc (count_items (after_item s i) (drop (length (item_words i)) tokens) is)

-- statements that may stand where they do use what is declared
pub uses_items : (s : Scope) (tokens : List Token) (is : List Item) → AllAllowed s is → UsesDeclared (length s.vectors) (length s.iterators)
    (typed_items s tokens is)
uses_items s tokens [] h = tt
uses_items s tokens (i ∷ is) h = let rest : List Token = drop (length (item_words i)) tokens in
    uses_declared s tokens i (typed_items (after_item s i) rest is) h.0 (uses_items (after_item s i) rest is h.1)

-- the site of a `push_back` is the number of its place
pub site_in : (s : Scope) (tokens : List Token) (is : List Item) (m : ℕ) (p : Place) (v name site z : ℕ) → slice_get (typed_items s tokens is)
    m ≡ Some (PushBack p v name site z) → (d : ℕ) × (site ≡ s.pushes + d) × (slice_get (push_places tokens is) d ≡ Some p)
site_in s tokens [] m p v name site z h = absurd cc
site_in s tokens (vector_item a ∷ is) zero p v name site z h = absurd cc
site_in s tokens (vector_item a ∷ is) (suc m) p v name site z h = site_in (after_item s (vector_item a))
    (drop (length (item_words (vector_item a))) tokens) is m p v name site z h
site_in s tokens (begin_item a b ∷ is) zero p v name site z h = absurd cc
site_in s tokens (begin_item a b ∷ is) (suc m) p v name site z h = site_in (after_item s (begin_item a b))
    (drop (length (item_words (begin_item a b))) tokens) is m p v name site z h
site_in s tokens (dereference_item a b ∷ is) zero p v name site z h = absurd cc
site_in s tokens (dereference_item a b ∷ is) (suc m) p v name site z h = site_in (after_item s (dereference_item a b))
    (drop (length (item_words (dereference_item a b))) tokens) is m p v name site z h
site_in s tokens (push_back_item a n ∷ is) zero p v name site z h =
    let e : s.pushes ≡ site = cc in let q : place_in tokens 2 ≡ p = cc in (0, omega arith, ap (λ x. Some x) q)
site_in s tokens (push_back_item a n ∷ is) (suc m) p v name site z h =
    let r = site_in (after_item s (push_back_item a n)) (drop (length (item_words (push_back_item a n))) tokens) is m p v name site z h in
    (suc r.0, (let e = r.1 in omega arith), r.2)
