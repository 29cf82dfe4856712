-- The entries of the map that a report is kept in.
use Rattle.std.proofs.Common.{arith, ◌≡◌, ℕ, zero, suc, ◌<◌, ◌≤◌, Bool, true, false, List, [], ◌∷◌, length, get_or, insert, map, Some, None, Result}
use Rattle.std.proofs.Common.{Ok, Err, refl, sym, ap, subst, ◌∙◌, ⊎_elim}
use Rattle.std.specs.Prelude.{slice_get, OnOk, OnErr}
use Rattle.std.specs.List.{HoldsAt}
use Rattle.std.specs.List.Sorted.{IsStrictlySortedBy, IsSorted, IsBinarySearchResult, IsPartitionPoint}
use Rattle.std.specs.Map.{keys_of, values_of}
use Rattle.std.specs.declared.cmp.Ordering.TheVariants.{Less, Equal, Greater}
use Rattle.std.proofs.lemmas.Bool.{cases_lt, le-ltb}
use Rattle.std.proofs.lemmas.List.{length-map}
use Rattle.std.proofs.lemmas.List.Sorted.{searchable_from_sorted}
use Rattle.std.specs.List.{position_or_len}
use Rattle.std.proofs.lemmas.List.Sums.{position_or_len_is}
use Rattle.indexmap.specs.IndexMap.{set_value_at, insert_entry, move_index, index_before}
use Rattle.indexmap.proofs.SortedLemmas.{absent_pushes}
use Rattle.indexmap.proofs.MoveLemmas.{push_moved}
use Rattle.sl_model.specs.Reports.Covers.{Warning}
use Rattle.sl_warnings.specs.declared.warning.Warning.{Warning as WarningCode}
use Rattle.sl_warnings.specs.declared.spot.Spot.{Spot}
use Rattle.sl_warnings.specs.Reports.{IsAscending, with_killers, with_killers_at, added}
use Rattle.sl_warnings.specs.Views.{warning_of}
use Rattle.sl_warnings.specs.Means.Kept.{spot_of, spot_cmp, listed, IsKept, IsNew}
use Rattle.sl_warnings.proofs.Spots.{spot_cmp_total, spots_ascend, spots_sorted}
use Rattle.sl_warnings.proofs.Adding.{added-at, added-between, added-ascending}

-- the entries of the map
abbrev Entries : Type 0
Entries = List (Spot × WarningCode)

-- to put an item in and then apply a function is to put its answer in
pub map-insert : {X Y : Type 0} (f : X → Y) (xs : List X) (i : ℕ) (x : X) → map f (insert xs i x) ≡ insert (map f xs) i (f x)
map-insert f [] zero x = refl
map-insert f [] (suc i) x = refl
map-insert f (y ∷ ys) zero x = refl
map-insert f (y ∷ ys) (suc i) x = ap (λ l. f y ∷ l) (map-insert f ys i x)

-- the item at an index of a list to which a function was applied
get_or-map : {X Y : Type 0} (f : X → Y) (xs : List X) (i : ℕ) (d : X) → get_or (map f xs) i (f d) ≡ f (get_or xs i d)
get_or-map f [] i d = refl
get_or-map f (x ∷ xs) zero d = refl
get_or-map f (x ∷ xs) (suc i) d = get_or-map f xs i d

-- the warning at an index, and what it tells
slice_get-listed : (es : Entries) (i : ℕ) (v : WarningCode) → slice_get (values_of es) i ≡ Some v → slice_get (listed es) i ≡ Some (warning_of v)
slice_get-listed [] i v h = absurd cc
slice_get-listed (e ∷ es) zero v h = let same : e.1 ≡ v = cc in ap (λ x. Some (warning_of x)) same
slice_get-listed (e ∷ es) (suc i) v h = slice_get-listed es i v h

-- the warning of an entry at an index, and what it tells
pub slice_get-entry : (es : Entries) (i : ℕ) (s : Spot) (v : WarningCode) → slice_get es i ≡ Some (s, v)
    → slice_get (listed es) i ≡ Some (warning_of v)
slice_get-entry [] i s v h = absurd cc
slice_get-entry (e ∷ es) zero s v h = let same : e ≡ (s, v) = cc in ap (λ (x : Spot × WarningCode). Some (warning_of x.1)) same
slice_get-entry (e ∷ es) (suc i) s v h = slice_get-entry es i s v h

-- behind the last entry nothing is told
pub slice_get-none : (es : Entries) (i : ℕ) → slice_get es i ≡ None → slice_get (listed es) i ≡ None
slice_get-none [] i h = refl
slice_get-none (e ∷ es) zero h = absurd cc
slice_get-none (e ∷ es) (suc i) h = slice_get-none es i h

-- a warning that gets more killers where it stands
pub listed-written : (es : Entries) (i : ℕ) (v x : WarningCode) (more : List ℕ) → slice_get (values_of es) i ≡ Some v
    → warning_of x ≡ with_killers (warning_of v) more
    → listed (set_value_at es i x) ≡ with_killers_at (listed es) i more
listed-written [] i v x more h e = refl
listed-written (y ∷ ys) zero v x more h e =
    let same : y.1 ≡ v = cc in
    ap (λ w. w ∷ listed ys) (e ∙ ap (λ w. with_killers (warning_of w) more) (sym same))
listed-written (y ∷ ys) (suc i) v x more h e = ap (λ l. warning_of y.1 ∷ l) (listed-written ys i v x more h e)

-- further killers change no spot
spots-joined : (ws : List Warning) (i : ℕ) (more : List ℕ) → map spot_of (with_killers_at ws i more) ≡ map spot_of ws
spots-joined [] i more = refl
spots-joined (w ∷ ws) zero more = refl
spots-joined (w ∷ ws) (suc i) more = ap (λ l. spot_of w ∷ l) (spots-joined ws i more)

-- where a search finds the spot
pub added-found : (es : Entries) (w : WarningCode) (s : Spot) (at : ℕ) → IsKept es → s ≡ spot_of (warning_of w) → at < length es
    → HoldsAt (λ k. spot_cmp k s ≡ Equal) (keys_of es) at → added (warning_of w) (listed es) ≡ with_killers_at (listed es) at (warning_of w).killers
added-found es w s at kept is lt found =
    let d = warning_of w in
    let here : spot_cmp (get_or (map spot_of (listed es)) at (spot_of d)) (spot_of d) ≡ Equal =
    subst (λ ks. spot_cmp (get_or ks at (spot_of d)) (spot_of d) ≡ Equal) kept.keyed
    (subst (λ t. spot_cmp (get_or (keys_of es) at (spot_of d)) t ≡ Equal) is (found (spot_of d))) in
    added-at d (listed es) at d kept.ascending (simp (length-map) lt)
    (subst (λ t. spot_cmp t (spot_of d) ≡ Equal) (get_or-map spot_of (listed es) at d) here)

-- the keys are in the order that a search asks for
keys_rise : (es : Entries) → IsKept es → IsSorted spot_cmp (keys_of es)
keys_rise es kept = spots_sorted (keys_of es) (subst (IsStrictlySortedBy spot_cmp) (sym kept.keyed) (spots_ascend (listed es) kept.ascending))

-- where a search finds no such spot, it finds the place between those below and above
pub between : (es : Entries) (s : Spot) (at : ℕ) → IsKept es → IsBinarySearchResult (λ k. spot_cmp k s) (keys_of es) (Err at)
    → IsPartitionPoint (λ k. spot_cmp k s ≡ Less) (λ k. spot_cmp k s ≡ Greater) (keys_of es) at
between es s at kept search = search (searchable_from_sorted spot_cmp_total (λ x. x) (keys_of es) s (keys_rise es kept))

-- where a search found a gap, the spot is new
pub is_new : (s : Spot) (ks : List Spot) (at : ℕ) → IsPartitionPoint (λ k. spot_cmp k s ≡ Less) (λ k. spot_cmp k s ≡ Greater) ks at → IsNew s ks
is_new s ks at parts = λ k d lt e. ⊎_elim
    (λ (below : k < at). let less : spot_cmp (get_or ks k d) s ≡ Less = parts.0 k d (omega arith) below in absurd cc)
    (λ (above : at ≤ k). let greater : spot_cmp (get_or ks k d) s ≡ Greater = parts.1 k d above lt in absurd cc)
    (cases_lt k at)

-- where a search found a gap, one warning more goes into it
pub added-put : (es : Entries) (w : WarningCode) (s : Spot) (at : ℕ) → IsKept es → s ≡ spot_of (warning_of w) → at ≤ length es
    → IsBinarySearchResult (λ k. spot_cmp k s) (keys_of es) (Err at) → added (warning_of w) (listed es) ≡ insert (listed es) at (warning_of w)
added-put es w s at kept is le search =
    let d = warning_of w in
    let parts = between es s at kept search in
    let there : (j : ℕ) → get_or (keys_of es) j (spot_of d) ≡ spot_of (get_or (listed es) j d) =
    λ j. ap (λ ks. get_or ks j (spot_of d)) kept.keyed ∙ get_or-map spot_of (listed es) j d in
    let long : length (keys_of es) ≡ length es = length-map es (λ e. e.0) in
    let wide : length (listed es) ≡ length es = length-map (values_of es) warning_of ∙ length-map es (λ e. e.1) in
    added-between d (listed es) at d (omega arith)
    (λ j lt. subst (λ t. spot_cmp t (spot_of d) ≡ Less) (there j)
    (subst (λ t. spot_cmp (get_or (keys_of es) j (spot_of d)) t ≡ Less) is (parts.0 j (spot_of d) (omega arith) lt)))
    (λ lt. subst (λ t. spot_cmp t (spot_of d) ≡ Greater) (there at)
    (subst (λ t. spot_cmp (get_or (keys_of es) at (spot_of d)) t ≡ Greater) is (parts.1 at (spot_of d) (omega arith) (omega arith))))

-- what the entries tell after one was put in
listed-insert : (es : Entries) (at : ℕ) (s : Spot) (w : WarningCode) → listed (insert es at (s, w)) ≡ insert (listed es) at (warning_of w)
listed-insert es at s w = ap (map warning_of) (map-insert (λ e. e.1) es at (s, w)) ∙ map-insert warning_of (values_of es) at w

-- the map after a warning that is new
pub kept-put : (es : Entries) (w : WarningCode) (s : Spot) (at : ℕ) → IsKept es → s ≡ spot_of (warning_of w)
    → added (warning_of w) (listed es) ≡ insert (listed es) at (warning_of w) → IsKept (insert es at (s, w))
kept-put es w s at kept is put = record {
  keyed =
      map-insert (λ e. e.0) es at (s, w) ∙ (λ j. insert (kept.keyed j) at (is j))
      ∙ sym (ap (map spot_of) (listed-insert es at s w) ∙ map-insert spot_of (listed es) at (warning_of w));
  ascending = subst IsAscending (put ∙ sym (listed-insert es at s w)) (added-ascending (warning_of w) (listed es) kept.ascending);
}

-- what they tell is the report after one warning more
pub listed-put : (es : Entries) (w : WarningCode) (s : Spot) (at : ℕ) → added (warning_of w) (listed es) ≡ insert (listed es) at (warning_of w)
    → listed (insert es at (s, w)) ≡ added (warning_of w) (listed es)
listed-put es w s at put = listed-insert es at s w ∙ sym put

-- the map after a warning that is joined
pub kept-joined : (es fs : Entries) (w : WarningCode) (at : ℕ) → IsKept es → keys_of fs ≡ keys_of es
    → listed fs ≡ with_killers_at (listed es) at (warning_of w).killers
    → added (warning_of w) (listed es) ≡ with_killers_at (listed es) at (warning_of w).killers → IsKept fs
kept-joined es fs w at kept keys told is = record {
  keyed = keys ∙ kept.keyed ∙ sym (ap (map spot_of) told ∙ spots-joined (listed es) at (warning_of w).killers);
  ascending = subst IsAscending (is ∙ sym told) (added-ascending (warning_of w) (listed es) kept.ascending);
}

-- a map with no entries
pub kept-empty : IsKept []
unfolding IsStrictlySortedBy
kept-empty = record { keyed = refl; ascending = tt }

-- what is not true is false
not_true : (b : Bool) → (b ≡ true → ⊥) → b ≡ false
not_true true h = absurd (h refl)
not_true false h = refl

-- an index that is no more than the count stays as it is
index_before-last : (n at : ℕ) → at ≤ n → index_before n at ≡ at
index_before-last n at le = rw (le-ltb n at le) refl

-- a new spot goes to the place that it is put in at
pub put-new : (eq : Spot → Spot → Bool) (differ : (s t : Spot) → eq s t ≡ true → spot_cmp t s ≡ Equal) (es : Entries) (s : Spot) (w : WarningCode)
    (at to : ℕ)
    → IsNew s (keys_of es) → at ≤ length es → to ≡ index_before (position_or_len (eq s) (keys_of es)) at
    → move_index (insert_entry eq es s w) (position_or_len (eq s) (keys_of es)) to ≡ insert es at (s, w)
put-new eq differ es s w at to new le is =
    let long : length (keys_of es) ≡ length es = length-map es (λ e. e.0) in
    let fails : (j : ℕ) (d : Spot) → j < length es → eq s (get_or (keys_of es) j d) ≡ false =
    λ j d lt. not_true (eq s (get_or (keys_of es) j d)) (λ h. new j d (omega arith) (differ s (get_or (keys_of es) j d) h)) in
    let last : position_or_len (eq s) (keys_of es) ≡ length es =
    position_or_len_is (eq s) (keys_of es) (length es) s (omega arith) (λ k lt. fails k s lt) (λ lt. absurd (omega arith)) in
    let goes : to ≡ at = is ∙ ap (λ n. index_before n at) last ∙ index_before-last (length es) at le in
    rw (last, goes, absent_pushes eq s w es fails) (push_moved es (s, w) at le)

-- a map after a call that changed it so, or failed and left it
pub kept-after : {T E : Type 0} (r : Result T E) (es fs after : Entries) → OnOk r (fs ≡ after) → OnErr r (fs ≡ es) → IsKept es → IsKept after
    → IsKept fs
kept-after (Ok v) es fs after ok err old new = subst IsKept (sym ok) new
kept-after (Err e) es fs after ok err old new = subst IsKept (sym err) old

-- what entries tell that were put in where memory sufficed
pub listed-after : {T E : Type 0} (r : Result T E) (fs after : Entries) (told : List Warning) → OnOk r (fs ≡ after) → listed after ≡ told
    → OnOk r (listed fs ≡ told)
listed-after (Ok v) fs after told ok is = ap listed ok ∙ is
listed-after (Err e) fs after told ok is = tt
