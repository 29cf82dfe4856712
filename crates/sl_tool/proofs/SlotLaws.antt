-- Words that fit slots.
use Rattle.std.proofs.Math.ListN.{drop_of_length-le}
use Rattle.std.proofs.Common.{◌≡◌, ◌⊎◌, inl, inr, ℕ, zero, suc, ◌+◌, ◌<◌, ◌≤◌, List, [], ◌∷◌, ◌++◌, length, take, drop, get_or, refl, sym, ap, subst}
use Rattle.std.proofs.Common.{add-one, append_assoc, arith}
use Rattle.std.proofs.Common.{min}
use Rattle.std.proofs.lemmas.Bool.{cases_lt}
use Rattle.std.proofs.Math.ListN.{length-map}
use Rattle.std.proofs.Math.Seq.{drop-cons}
use Rattle.sl_base.specs.declared.token.Token.{Token}
use Rattle.sl_base.specs.declared.word.Word.{Word}
use Rattle.sl_tool.specs.declared.reading.slots.Slot.{Slot}
use Rattle.sl_syntax.specs.Begins.{Begins, Stops}
use Rattle.sl_syntax.specs.Begins.{words_in}
use Rattle.sl_tool.specs.Subset.{Scope}
use Rattle.sl_tool.specs.Means.Slots.{Fits, Fit}
use Rattle.sl_tool.proofs.ItemLaws.{front}

-- the words begin with words that fit all the slots
abbrev pub FitAll : Scope → List Slot → List Word → Type 0
FitAll s [] ws = Unit {0}
FitAll s (x ∷ xs) [] = ⊥
FitAll s (x ∷ xs) (w ∷ ws) = Fits s x w × FitAll s xs ws

-- each slot has a word that fits
abbrev pub HaveWords : Scope → List Slot → Type 0
HaveWords s [] = Unit {0}
HaveWords s (x ∷ xs) = ((w : Word) × Fits s x w) × HaveWords s xs

pub fit_all_length : (s : Scope) (xs : List Slot) (ws : List Word) → FitAll s xs ws → length xs ≤ length ws
fit_all_length s [] ws h = omega arith
fit_all_length s (x ∷ xs) [] h = absurd h
fit_all_length s (x ∷ xs) (w ∷ ws) h = let rest = fit_all_length s xs ws h.1 in omega arith

pub fit_inside : (s : Scope) (xs : List Slot) (ws : List Word) (k : ℕ) → Fit s xs ws k → k ≤ length ws
fit_inside s [] ws zero h = omega arith
fit_inside s [] ws (suc k) h = absurd h
fit_inside s (x ∷ xs) [] zero h = omega arith
fit_inside s (x ∷ xs) [] (suc k) h = absurd h
fit_inside s (x ∷ xs) (w ∷ ws) zero h = omega arith
fit_inside s (x ∷ xs) (w ∷ ws) (suc k) h = let rest = fit_inside s xs ws k h.1 in omega arith

-- where as many words fit as there are slots, they fit all
pub fit_whole : (s : Scope) (xs : List Slot) (ws : List Word) (k : ℕ) → Fit s xs ws k → length xs ≤ k → FitAll s xs ws
fit_whole s [] ws k h le = tt
fit_whole s (x ∷ xs) [] zero h le = absurd (omega arith)
fit_whole s (x ∷ xs) [] (suc k) h le = absurd h
fit_whole s (x ∷ xs) (w ∷ ws) zero h le = absurd (omega arith)
fit_whole s (x ∷ xs) (w ∷ ws) (suc k) h le = (h.0, fit_whole s xs ws k h.1 (omega arith))

-- the word behind those that fit doesn't
pub no_further : (s : Scope) (xs : List Slot) (ws : List Word) (k : ℕ) (more : List Word) → Fit s xs ws k → k < length xs → k < length ws
    → FitAll s xs (take (suc k) ws ++ more) → ⊥
no_further s [] ws k more h some inside all = absurd (omega arith)
no_further s (x ∷ xs) [] k more h some inside all = absurd (omega arith)
no_further s (x ∷ xs) (w ∷ ws) zero more h some inside all = h all.0
no_further s (x ∷ xs) (w ∷ ws) (suc k) more h some inside all = no_further s xs ws k more h.1 (omega arith) (omega arith) all.1

filled : (s : Scope) (xs : List Slot) → HaveWords s xs → (more : List Word) × FitAll s xs more × (length more ≡ length xs)
filled s [] h = ([], tt, refl)
filled s (x ∷ xs) h = let rest = filled s xs h.1 in (h.0.0 ∷ rest.0, (h.0.1, rest.1), ap suc rest.2)

-- words that fit can be completed
pub completed : (s : Scope) (xs : List Slot) (ws : List Word) (k : ℕ) → HaveWords s xs → Fit s xs ws k → (more : List Word)
    × FitAll s xs (take k ws ++ more) × (length (take k ws ++ more) ≡ length xs)
completed s [] ws zero words h = ([], tt, refl)
completed s [] ws (suc k) words h = absurd h
completed s (x ∷ xs) [] zero words h = filled s (x ∷ xs) words
completed s (x ∷ xs) [] (suc k) words h = absurd h
completed s (x ∷ xs) (w ∷ ws) zero words h = filled s (x ∷ xs) words
completed s (x ∷ xs) (w ∷ ws) (suc k) words h = let rest = completed s xs ws k words.1 h.1 in (rest.0, (h.0, rest.1), ap suc rest.2)

-- Words stop where they stop fitting the slots: whatever fits them all begins what is whole, and whatever is whole with this first word fits them
-- all.
pub stops_in_slots : (P : List Word → Type 0) (s : Scope) (xs : List Slot) (w : Word) (ws : List Word) (k : ℕ) → HaveWords s xs
    → ((front : List Word) → FitAll s xs front → length front ≡ length xs → Begins P front)
    → ((rest : List Word) → P (w ∷ rest) → FitAll s xs (w ∷ rest))
    → Fit s xs (w ∷ ws) k → k < length xs → Stops P (w ∷ ws) k
stops_in_slots P s xs w ws k words closes reads fit some = record {
  inside = fit_inside s xs (w ∷ ws) k fit;
  before =
      let all = completed s xs (w ∷ ws) k words fit in
      let closed = closes (take k (w ∷ ws) ++ all.0) all.1 all.2 in
      (all.0 ++ closed.0, subst P (append_assoc (take k (w ∷ ws)) all.0 closed.0) closed.1);
  behind = λ h begins.
      let whole : P (w ∷ (take k ws ++ begins.0)) = subst (λ n. P (take n (w ∷ ws) ++ begins.0)) (add-one k) begins.1 in
      no_further s xs (w ∷ ws) k begins.0 fit some h (reads (take k ws ++ begins.0) whole);
  ends = λ e whole. let long = fit_all_length s xs (w ∷ ws) (reads ws whole) in absurd (omega arith);
}

-- one word more
pub fits_more : (s : Scope) (xs : List Slot) (ws : List Word) (x : Slot) (w : Word) (i j : ℕ) → drop i xs ≡ x ∷ drop (i + 1) xs → drop i ws ≡ w
    ∷ drop (i + 1) ws
    → ((n : ℕ) → Fit s (drop i xs) (drop i ws) n → Fit s xs ws (i + n)) → Fits s x w → Fit s (drop (i + 1) xs) (drop (i + 1) ws) j
    → Fit s xs ws (i + 1 + j)
fits_more s xs ws x w i j slots words so_far here rest =
    let e : i + suc j ≡ i + 1 + j = omega arith in
    let both : Fit s (x ∷ drop (i + 1) xs) (w ∷ drop (i + 1) ws) (suc j) = (here, rest) in
    let there : Fit s (drop i xs) (drop i ws) (suc j) = rw (slots, words) both in
    rw e at (so_far (suc j) there)

-- no word more
pub fits_no_more : (s : Scope) (xs : List Slot) (ws : List Word) (x : Slot) (w : Word) (i : ℕ) → drop i xs ≡ x ∷ drop (i + 1) xs → drop i ws ≡ w
    ∷ drop (i + 1) ws
    → ((n : ℕ) → Fit s (drop i xs) (drop i ws) n → Fit s xs ws (i + n)) → (Fits s x w → ⊥) → Fit s xs ws i
fits_no_more s xs ws x w i slots words so_far not =
    let e : i + 0 ≡ i = omega arith in
    let both : Fit s (x ∷ drop (i + 1) xs) (w ∷ drop (i + 1) ws) 0 = not in
    let there : Fit s (drop i xs) (drop i ws) 0 = rw (slots, words) both in
    rw e at (so_far 0 there)

-- at the end of the slots or of the words
pub fits_end : (s : Scope) (xs : List Slot) (ws : List Word) (i : ℕ) → (length xs ≤ i) ⊎ (length ws ≤ i)
    → ((n : ℕ) → Fit s (drop i xs) (drop i ws) n → Fit s xs ws (i + n)) → Fit s xs ws i
fits_end s xs ws i (inl h) so_far =
    let e : i + 0 ≡ i = omega arith in
    let none : drop i xs ≡ [] = drop_of_length-le xs {i = i} h in
    rw e at (so_far 0 (subst (λ l. Fit s l (drop i ws) 0) (sym none) tt))
fits_end s xs ws i (inr h) so_far =
    let e : i + 0 ≡ i = omega arith in
    let none : drop i ws ≡ [] = drop_of_length-le ws {i = i} h in
    rw e at (so_far 0 (subst (λ l. Fit s (drop i xs) l 0) (sym none) (nothing (drop i xs))))
  where
    nothing : (l : List Slot) → Fit s l [] 0
    nothing [] = tt
    nothing (x ∷ l) = tt

slot_at : (xs : List Slot) (i : ℕ) (d : Slot) → i < length xs → drop i xs ≡ get_or xs i d ∷ drop (i + 1) xs
slot_at xs i d h = rw add-one (drop-cons xs i d h)

-- What fits so far of tokens, and the token and the slot behind it.
module _ (s : Scope) (xs : List Slot) (ts : List Token) (d : Slot) (t : Token) (i : ℕ) (slot_there : i < length xs) (token_there : i < length ts)
    (is : t ≡ get_or ts i t)
    (so_far : (n : ℕ) → Fit s (drop i xs) (drop i (words_in ts)) n → Fit s xs (words_in ts) (i + n)) where
  pub token_fits : Fits s (get_or xs i d) t.word → (n : ℕ) → Fit s (drop (i + 1) xs) (drop (i + 1) (words_in ts)) n
      → Fit s xs (words_in ts) (i + 1 + n)
  token_fits here n rest = fits_more s xs (words_in ts) (get_or xs i d) t.word i n (slot_at xs i d slot_there) (front ts i t token_there is)
      so_far here rest

  pub token_differs : (Fits s (get_or xs i d) t.word → ⊥) → Fit s xs (words_in ts) i
  token_differs not = fits_no_more s xs (words_in ts) (get_or xs i d) t.word i (slot_at xs i d slot_there) (front ts i t token_there is) so_far not

-- the lesser of two lengths ends the slots or the words
pub which_ends : (xs : List Slot) (ts : List Token) (n : ℕ) → n ≡ min (length xs) (length ts) → (length xs ≤ n) ⊎ (length (words_in ts) ≤ n)
which_ends xs ts n e = by_test (cases_lt n (length xs)) where
  by_test : (n < length xs) ⊎ (length xs ≤ n) → (length xs ≤ n) ⊎ (length (words_in ts) ≤ n)
  by_test (inl h) = inr (rw length-map (omega arith))
  by_test (inr h) = inl h
