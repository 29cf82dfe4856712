-- Where words stop beginning what is whole.
use Rattle.std.proofs.Common.{◌≡◌, ℕ, ◌+◌, ◌<◌, ◌≤◌, ◌⊎◌, inl, inr, List, [], ◌∷◌, ◌++◌, length, take, drop, sym, ap, ◌∙◌, subst, append_assoc, arith}
use Rattle.std.proofs.Common.{length-append}
use Rattle.std.proofs.lemmas.Bool.{cases_lt}
use Rattle.std.proofs.lemmas.List.{take-append-drop, take-append-le, length-take-le}
use Rattle.std.proofs.Math.Seq.{take-append-add}
use Rattle.sl_base.specs.declared.word.Word.{Word}
use Rattle.sl_syntax.specs.Begins.{Begins, Stops}

-- the first words begin what longer words begin
pub shorter : (P : List Word → Type 0) (a b : List Word) → Begins P (a ++ b) → Begins P a
shorter P a b (more, p) = (b ++ more, subst P (append_assoc a b more) p)

take_less : (ws : List Word) (j k : ℕ) → j ≤ k → k ≤ length ws → take j (take k ws) ≡ take j ws
take_less ws j k le inside =
    let long : j ≤ length (take k ws) = rw (length-take-le k ws inside) le in
    sym (take-append-le j (take k ws) (drop k ws) long) ∙ ap (λ l. take j l) (take-append-drop k ws)

begins_less : (P : List Word → Type 0) (ws : List Word) (j k : ℕ) → j ≤ k → k ≤ length ws → Begins P (take k ws) → Begins P (take j ws)
begins_less P ws j k le inside begins =
    let parts = take-append-drop j (take k ws) in
    subst (Begins P) (take_less ws j k le inside) (shorter P (take j (take k ws)) (drop j (take k ws)) (subst (Begins P) (sym parts) begins))

not_before : (P : List Word → Type 0) (ws : List Word) (j k : ℕ) → Stops P ws j → Stops P ws k → j < k → ⊥
not_before P ws j k a b h = a.behind (omega (arith, b.inside)) (begins_less P ws (j + 1) k (omega arith) b.inside b.before)

-- words stop at one place alone
pub stops_once : (P : List Word → Type 0) (ws : List Word) (j k : ℕ) → Stops P ws j → Stops P ws k → j ≡ k
stops_once P ws j k a b = by_test (cases_lt j k) (cases_lt k j) where
  by_test : (j < k) ⊎ (k ≤ j) → (k < j) ⊎ (j ≤ k) → j ≡ k
  by_test (inl h) other = absurd (not_before P ws j k a b h)
  by_test (inr h) (inl g) = absurd (not_before P ws k j b a g)
  by_test (inr h) (inr g) = omega arith

-- what stops isn't whole
pub not_whole : (P : List Word → Type 0) (ws : List Word) (k : ℕ) → Stops P ws k → P ws → ⊥
not_whole P ws k stops whole = by_test (cases_lt k (length ws)) where
  by_test : (k < length ws) ⊎ (length ws ≤ k) → ⊥
  by_test (inl h) = stops.behind h (drop (k + 1) ws, subst P (sym (take-append-drop (k + 1) ws)) whole)
  by_test (inr h) = stops.ends (omega (arith, stops.inside)) whole

-- Words behind a front stop where they do without it.
pub behind_front : (P Q : List Word → Type 0) (front ws : List Word) (k : ℕ) → ((rest : List Word) → Q rest → P (front ++ rest))
    → ((rest : List Word) → P (front ++ rest) → Q rest)
    → Stops Q ws k → Stops P (front ++ ws) (length front + k)
behind_front P Q front ws k joined parted stops = record {
  inside = rw length-append (omega (arith, stops.inside));
  before =
      let first = stops.before in
      let e : take (length front + k) (front ++ ws) ++ first.0 ≡ front ++ (take k ws ++ first.0) =
      ap (λ l. l ++ first.0) (take-append-add front ws k) ∙ append_assoc front (take k ws) first.0 in
      (first.0, subst P (sym e) (joined (take k ws ++ first.0) first.1));
  behind = λ h begins.
      let n : length front + k + 1 ≡ length front + (k + 1) = omega arith in
      let e : take (length front + k + 1) (front ++ ws) ++ begins.0 ≡ front ++ (take (k + 1) ws ++ begins.0) =
      ap (λ m. take m (front ++ ws) ++ begins.0) n ∙ ap (λ l. l ++ begins.0) (take-append-add front ws (k + 1))
      ∙ append_assoc front (take (k + 1) ws) begins.0 in
      stops.behind (omega (arith, length-append front ws)) (begins.0, parted (take (k + 1) ws ++ begins.0) (subst P e begins.1));
  ends = λ e whole. stops.ends (omega (arith, length-append front ws)) (parted ws whole);
}

-- no words, which aren't whole
pub stops_at_end : (P : List Word → Type 0) → Begins P [] → (P [] → ⊥) → Stops P [] 0
stops_at_end P begins not = record { inside = omega arith; before = begins; behind = λ h. absurd (omega arith); ends = λ e. not }

-- a first word that begins nothing whole
pub stops_at_first : (P : List Word → Type 0) (w : Word) (ws : List Word) → Begins P [] → ((rest : List Word) → P (w ∷ rest) → ⊥) → Stops P (w ∷ ws) 0
stops_at_first P w ws begins none = record {
  inside = omega arith;
  before = begins;
  behind = λ h other. none other.0 other.1;
  ends = λ e whole. none ws whole;
}

-- a second word behind a whole first one, which nothing follows
pub stops_at_second : (P : List Word → Type 0) (w v : Word) (ws : List Word) → P (w ∷ [])
    → ((rest : List Word) → P (w ∷ v ∷ rest) → ⊥) → Stops P (w ∷ v ∷ ws) 1
stops_at_second P w v ws whole none = record {
  inside = omega arith;
  before = ([], whole);
  behind = λ h other. none other.0 other.1;
  ends = λ e p. none ws p;
}
