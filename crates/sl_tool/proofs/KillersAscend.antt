-- The killers of a warning ascend, since the sites of a text are numbered in its order.
use Rattle.std.proofs.Common.{arith, ◌≡◌, ℕ, zero, suc, ◌+◌, ◌<◌, Bool, true, false, List, [], ◌∷◌, length, drop, Some, inl, inr, refl, ap, sym, ◌∙◌}
use Rattle.std.proofs.Common.{if◌then◌else◌}
use Rattle.std.specs.Prelude.{slice_get, ◌==◌}
use Rattle.sl_base.specs.declared.place.Place.{Place}
use Rattle.sl_base.specs.declared.token.Token.{Token}
use Rattle.sl_tool.specs.declared.analysis.Push.{Push}
use Rattle.sl_tool.specs.declared.analysis.Standing.{Standing}
use Rattle.sl_tool.specs.declared.analysis.Fault.TheVariants.{InvalidIterator, EndIterator}
use Rattle.sl_tool.specs.declared.analysis.Warning.{Warning}
use Rattle.sl_tool.specs.Means.Analysis.{Known, nothing_known, sites_on, killers_of, standing_at, fault_in, told_at, dereferenced, with_vector}
use Rattle.sl_tool.specs.Means.Analysis.{with_push, with_iterator, found_valid, warnings_of}
use Rattle.sl_tool.specs.Means.Told.{killers_in}
use Rattle.sl_tool.specs.Subset.{Item, vector_item, push_back_item, begin_item, dereference_item, item_words, Scope, no_scope, after_item, place_in}
use Rattle.sl_tool.specs.Subset.{number_of_name, typed_items}
use Rattle.sl_tool.specs.Exactness.{Ascend}
use Rattle.sl_tool.proofs.Causes.{joined, if_more}
use Rattle.sl_tool.proofs.Kept.{length-more}
use Rattle.sl_tool.proofs.Lists.{pushed}
use Rattle.sl_model.proofs.Getting.{get_drop}

-- the sites of calls ascend
abbrev SitesAscend : List Push → Type 0
SitesAscend ps = (i j : ℕ) (p q : Push) → i < j → slice_get ps i ≡ Some p → slice_get ps j ≡ Some q → p.site < q.site

-- the site of each call is its number
abbrev AreNumbered : List Push → Type 0
AreNumbered ps = (i : ℕ) (p : Push) → slice_get ps i ≡ Some p → p.site ≡ i

-- calls whose sites are above a number have their sites above it, on each vector
above_case : (b : Bool) (n site : ℕ) (sites : List ℕ) (i a : ℕ) → n < site → ((j : ℕ) → slice_get sites j ≡ Some a → n < a)
    → slice_get (if b then site ∷ sites else sites) i ≡ Some a → n < a
above_case true n site sites zero a lt tail h = let e : site ≡ a = cc in omega arith
above_case true n site sites (suc i) a lt tail h = tail i h
above_case false n site sites i a lt tail h = tail i h

sites_above : (v n : ℕ) (ps : List Push) → ((i : ℕ) (p : Push) → slice_get ps i ≡ Some p → n < p.site) → (i a : ℕ)
    → slice_get (sites_on v ps) i ≡ Some a → n < a
sites_above v n [] h i a e = absurd cc
sites_above v n (p ∷ ps) h i a e = above_case (p.vector == v) n p.site (sites_on v ps) i a (h 0 p refl)
    (λ j g. sites_above v n ps (λ k q at. h (suc k) q at) j a g) e

-- the sites on a vector ascend
ascend_case : (b : Bool) (site : ℕ) (sites : List ℕ) → ((i a : ℕ) → slice_get sites i ≡ Some a → site < a) → Ascend sites
    → Ascend (if b then site ∷ sites else sites)
ascend_case false site sites above tail = tail
ascend_case true site sites above tail = first
  where
    first : Ascend (site ∷ sites)
    first i zero a b lt x y = absurd (omega arith)
    first zero (suc j) a b lt x y = let e : site ≡ a = cc in let more = above j b y in omega arith
    first (suc i) (suc j) a b lt x y = tail i j a b (omega arith) x y

sites_ascend : (v : ℕ) (ps : List Push) → SitesAscend ps → Ascend (sites_on v ps)
sites_ascend v [] h = λ i j a b lt x y. absurd cc
sites_ascend v (p ∷ ps) h = ascend_case (p.vector == v) p.site (sites_on v ps)
    (sites_above v p.site ps (λ i q at. h 0 (suc i) p q (omega arith) refl at))
    (sites_ascend v ps (λ i j q r lt x y. h (suc i) (suc j) q r (omega arith) x y))

-- the killers of an iterator ascend, where calls are numbered
ascend_killers : (k : Known) (standing : Standing) → AreNumbered k.pushes → Ascend (killers_of k standing)
ascend_killers k standing h = sites_ascend standing.vector (drop standing.since k.pushes) (λ i j p q lt x y.
    let a = h (standing.since + i) p (sym (get_drop standing.since k.pushes i) ∙ x) in
    let b = h (standing.since + j) q (sym (get_drop standing.since k.pushes j) ∙ y) in
    omega arith)

no_sites : Ascend []
no_sites i j a b lt x y = absurd cc

-- the killers that are told of ascend
ascend_told : (place : Place) (name : ℕ) (killers : List ℕ) (at_element : Bool) (i : ℕ) (w : Warning) → Ascend killers
    → slice_get (told_at place name (fault_in killers at_element)) i ≡ Some w → Ascend (killers_in w.fault)
ascend_told place name [] true i w h e = absurd cc
ascend_told place name [] false zero w h e =
    let same : record { place = place; name = name; fault = EndIterator } ≡ w = cc in
    rw (← same) no_sites
ascend_told place name [] false (suc i) w h e = absurd cc
ascend_told place name (x ∷ xs) at_element zero w h e =
    let same : record { place = place; name = name; fault = InvalidIterator (x ∷ xs) } ≡ w = cc in
    rw (← same) h
ascend_told place name (x ∷ xs) at_element (suc i) w h e = absurd cc

-- one call more, which has the next number
numbered_more : (k : Known) (v site : ℕ) → length k.pushes ≡ site → AreNumbered k.pushes → AreNumbered (with_push k v site).pushes
numbered_more k v site e h i p at = elim (pushed k.pushes (record { vector = v; site = site }) p i at) [
  | inl old ↦ h i p old
  | inr last ↦ ap (λ (q : Push). q.site) last.1 ∙ sym e ∙ sym last.0
]

-- the killers of each warning of these items ascend
ascend_in : (s : Scope) (tokens : List Token) (is : List Item) (k : Known) → length k.pushes ≡ s.pushes → AreNumbered k.pushes → (i : ℕ) (w : Warning)
    → slice_get (warnings_of k (typed_items s tokens is)) i ≡ Some w → Ascend (killers_in w.fault)
ascend_in s tokens [] k e h i w at = absurd cc
ascend_in s tokens (vector_item a ∷ is) k e h i w at = ascend_in (after_item s (vector_item a)) (drop (length (item_words (vector_item a))) tokens) is
    (with_vector k) e h i w at
ascend_in s tokens (push_back_item a n ∷ is) k e h i w at =
    let v = number_of_name s.vectors a in
    ascend_in (after_item s (push_back_item a n)) (drop (length (item_words (push_back_item a n))) tokens) is (with_push k v s.pushes)
    (length-more k.pushes (record { vector = v; site = s.pushes }) ∙ ap (λ m. m + 1) e) (numbered_more k v s.pushes e h) i w at
ascend_in s tokens (begin_item a b ∷ is) k e h i w at = ascend_in (after_item s (begin_item a b)) (drop (length (item_words (begin_item a b))) tokens)
    is (with_iterator k (number_of_name s.vectors b)) e h i w at
ascend_in s tokens (dereference_item a b ∷ is) k e h i w at =
    let it = number_of_name s.iterators b in
    let place = place_in tokens 3 in
    let name = number_of_name s.names b in
    let standing : Standing = standing_at k it in
    let rest : List Token = drop (length (item_words (dereference_item a b))) tokens in
    let later : List Warning = warnings_of (found_valid k it standing) (typed_items (after_item s (dereference_item a b)) rest is) in
    elim (joined (dereferenced k place name standing) (if standing.at_element then later else []) i w at) [
      | inl here ↦ ascend_told place name (killers_of k standing) standing.at_element i w (ascend_killers k standing h) here
      | inr more ↦ ascend_in (after_item s (dereference_item a b)) rest is (found_valid k it standing) e h more.0 w
          (if_more standing.at_element later more.0 w more.2)
    ]

-- the killers of each warning of a body ascend
pub killers-ascend : (tokens : List Token) (is : List Item) (i : ℕ) (w : Warning)
    → slice_get (warnings_of nothing_known (typed_items no_scope tokens is)) i ≡ Some w → Ascend (killers_in w.fault)
killers-ascend tokens is i w at = ascend_in no_scope tokens is nothing_known refl (λ i p e. absurd cc) i w at
