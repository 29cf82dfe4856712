-- Each algorithm tells its shape, it makes no container, and an iterator that it gives stands where its range, its output or the
-- iterator that it moves does.
use Rattle.std.proofs.Common.{◌≡◌, ℕ, suc, ◌+◌, ◌-◌, ◌<◌, ◌≤◌, ◌==◌, Bool, true, false, not, List, [], ◌∷◌, ◌++◌, Option, Some, None, length, refl}
use Rattle.std.proofs.Common.{length-append, ap, sym, subst, arith, if◌then◌else◌, ◌∙◌}
use Rattle.std.specs.Prelude.{ℤ, pos, negsuc, nat_le, nat_lt, int_lt}
use Rattle.std.proofs.lemmas.Bool.{eqb-true, leb-true}
use Rattle.std.proofs.lemmas.Option.{get_or_from_slice_get}
use Rattle.sl_base.specs.declared.form.Form.TheVariants as f
use Rattle.sl_base.specs.declared.failures.TheConstants.{WRONG_CONTAINER}
use Rattle.sl_model.specs.Memory.Containers.{Cont, Memory, size, keys, stamps, cont_at}
use Rattle.sl_model.specs.Memory.Forms.{step_of}
use Rattle.sl_model.specs.Memory.Edits.{olds, after}
use Rattle.sl_model.specs.Memory.Rearrangements.{overwritten, overwrites}
use Rattle.sl_model.specs.Memory.Orders.{how_many, best_place, least_place, greatest_place, index_of_key}
use Rattle.sl_model.specs.LibraryCalls.Values.{Value, nothing, number, iterator, pair, two, scalar_at, container_at, element_at}
use Rattle.sl_model.specs.LibraryCalls.Situation.{Situation, own, own_size, argument, index_in, place_in, place_of, index, container_of_value, their}
use Rattle.sl_model.specs.LibraryCalls.Situation.{range_keys, range_size}
use Rattle.sl_model.specs.LibraryCalls.Needs.{fails_if, invalid_fails, one_container_fails, one_range_fails, movable_fails, is_before, first_failure}
use Rattle.sl_model.specs.LibraryCalls.KeyActions.{place_or}
use Rattle.sl_model.specs.LibraryCalls.SearchAlgorithms.{stepped}
use Rattle.sl_model.specs.LibraryCalls.Rows.{of_first}
use Rattle.sl_model.proofs.Getting.{get_within}
use Rattle.sl_model.proofs.Located.{at-locate}
use Rattle.sl_model.proofs.Columns.{stamps-length}
use Rattle.sl_model.proofs.Called.{HasObject}
use Rattle.sl_model.proofs.Placing.{HasPlace, IsPlaced, after-place, how_many-low, first_of_key-low, range-length}
use Rattle.sl_model.proofs.FairChanges.{length_olds}
use Rattle.sl_model.proofs.Counts.{length-overwritten}

-- where no failure is the first, there is none
pub no_failure : (xs : List (ℕ × ℕ)) → first_failure xs ≡ None → xs ≡ []
no_failure [] e = refl
no_failure (x ∷ xs) e = absurd (by_rest (first_failure xs) e)
  where
    by_test : (g : ℕ × ℕ) (b : Bool) → (if b then Some g else Some x) ≡ None → ⊥
    by_test g true h = cc
    by_test g false h = cc

    by_rest : (o : Option (ℕ × ℕ)) → elim o as (λ _. Option (ℕ × ℕ)) [ None ↦ Some x | Some g ↦ (if is_before g x then Some g else Some x) ] ≡ None
        → ⊥
    by_rest None h = cc
    by_rest (Some g) h = by_test g (is_before g x) h

-- nothing comes of nothing
pub none_left : {A : Type 0} (xs ys : List A) → xs ++ ys ≡ [] → xs ≡ []
none_left [] ys e = refl
none_left (x ∷ xs) ys e = absurd (cc)

pub none_right : {A : Type 0} (xs ys : List A) → xs ++ ys ≡ [] → ys ≡ []
none_right [] ys e = e
none_right (x ∷ xs) ys e = absurd (cc)

-- where a value stands, a container has a place
pub place_there : (m : Memory) (v : Value) (p : ℕ × ℕ) → place_in m v ≡ Some p → HasPlace m p.0 p.1
place_there m nothing p e = absurd (cc)
place_there m (number z) p e = absurd (cc)
place_there m (iterator s) p e =
    let at = at-locate m s p e in
    let q = get_within (stamps at.cont) p.1 s at.stands in
    let n = stamps-length at.cont in
    record {
      there = get_within m.conts p.0 at.cont at.there;
      within = subst (λ (c : Cont). p.1 ≤ size c) (sym (get_or_from_slice_get m.conts p.0 at.cont
          (record { form = f.Vector; cells = []; end = m.fresh; room = 0 }) at.there)) (omega arith);
    }
place_there m (pair s b) p e = absurd (cc)
place_there m (two s t) p e = absurd (cc)
place_there m (scalar_at l) p e = absurd (cc)
place_there m (container_at l) p e = absurd (cc)
place_there m (element_at i j part) p e = absurd (cc)

-- a value that stands somewhere stands in its container
pub container_there : (m : Memory) (v : Value) (p : ℕ × ℕ) → place_in m v ≡ Some p → container_of_value m v ≡ p.0
container_there m nothing p e = absurd (cc)
container_there m (number z) p e = absurd (cc)
container_there m (iterator s) p e = cc
container_there m (pair s b) p e = absurd (cc)
container_there m (two s t) p e = absurd (cc)
container_there m (scalar_at l) p e = absurd (cc)
container_there m (container_at l) p e = absurd (cc)
container_there m (element_at i j part) p e = absurd (cc)

-- the place of the first operand is one of the object
pub first_place : (s : Situation) (p : ℕ × ℕ) → HasObject of_first s → place_of s 1 ≡ Some p → HasPlace s.memory s.object (index s 1)
first_place s p there e =
    let j : s.object ≡ p.0 = there ∙ container_there s.memory (argument s 1) p e in
    let k : index s 1 ≡ p.1 = cc in
    subst (λ (i : ℕ). HasPlace s.memory i (index s 1)) (sym j)
    (subst (λ (i : ℕ). HasPlace s.memory p.0 i) (sym k) (place_there s.memory (argument s 1) p e))

-- an iterator that has to stand somewhere does
stands : (o : Option (ℕ × ℕ)) (a : ℕ) → invalid_fails o a ≡ [] → (p : ℕ × ℕ) × (o ≡ Some p)
stands None a e = absurd (cc)
stands (Some p) a e = (p, refl)

-- two that have to stand in one container do
one_container : (p q : ℕ × ℕ) (a : ℕ) → one_container_fails (Some p) (Some q) a ≡ [] → p.0 ≡ q.0
one_container p q a e = by_test (p.0 == q.0) refl e
  where
    by_test : (b : Bool) → (p.0 == q.0) ≡ b → fails_if (not b) WRONG_CONTAINER (a + 1) ≡ [] → p.0 ≡ q.0
    by_test true t h = eqb-true p.0 q.0 t
    by_test false t h = absurd (cc)

-- the first two operands stand in one container
pub record IsRange (s : Situation) : Type 0 where
  pub from : ℕ × ℕ
  pub to : ℕ × ℕ
  pub from_there : place_of s 1 ≡ Some from
  pub to_there : place_of s 2 ≡ Some to
  pub one : from.0 ≡ to.0

-- they do where no need of a range fails
range_stands : (s : Situation) → one_range_fails false s 1 ≡ [] → IsRange s
range_stands s e =
    let p = stands (place_of s 1) 1 (none_left (invalid_fails (place_of s 1) 1) _ e) in
    let rest = none_right (invalid_fails (place_of s 1) 1) _ e in
    let q = stands (place_of s 2) 2 (none_left (invalid_fails (place_of s 2) 2) _ rest) in
    let both = none_left (one_container_fails (place_of s 1) (place_of s 2) 1) _ (none_right (invalid_fails (place_of s 2) 2) _ rest) in
    record {
      from = p.0;
      to = q.0;
      from_there = p.1;
      to_there = q.1;
      one = one_container p.0 q.0 1 (subst (λ (o : Option (ℕ × ℕ)). one_container_fails (Some p.0) o 1 ≡ []) q.1
          (subst (λ (o : Option (ℕ × ℕ)). one_container_fails o (place_of s 2) 1 ≡ []) p.1 both));
    }

-- and where no failure of a call is the first, and its range is its first need
pub first_range : (s : Situation) (xs ys : List (ℕ × ℕ)) → first_failure ((one_range_fails false s 1 ++ xs) ++ ys) ≡ None → IsRange s
first_range s xs ys e = range_stands s (none_left (one_range_fails false s 1) xs (none_left (one_range_fails false s 1 ++ xs) ys
    (no_failure ((one_range_fails false s 1 ++ xs) ++ ys) e)))

-- a place along the range
pub along_range : (s : Situation) (n : ℕ) → HasObject of_first s → IsRange s → n ≤ range_size s 1 → HasPlace s.memory s.object (index s 1 + n)
along_range s n there r low =
    let h = first_place s r.from there r.from_there in
    let j : s.object ≡ r.from.0 = there ∙ container_there s.memory (argument s 1) r.from r.from_there in
    let k : index s 2 ≡ r.to.1 = ap index_in r.to_there in
    let q : r.to.1 ≤ size (cont_at s.memory s.object) = subst (λ (i : ℕ). r.to.1 ≤ size (cont_at s.memory i)) (sym (j ∙ r.one))
    (place_there s.memory (argument s 2) r.to r.to_there).within in
    let p : index s 1 ≤ size (cont_at s.memory s.object) = h.within in
    record { there = h.there; within = omega arith }

-- as many keys as the range has at most
pub range_keys-low : (s : Situation) → length (range_keys s 1) ≤ range_size s 1
range_keys-low s = range-length (index s 1) (index s 2) (keys (their s 1))

-- the place of a key in the range, or its end
pub in_range-low : (s : Situation) (z : ℤ) → place_or (range_size s 1) (index_of_key z (range_keys s 1)) ≤ range_size s 1
in_range-low s z = by_place (index_of_key z (range_keys s 1)) (first_of_key-low z 0 (range_keys s 1))
  where
    by_place : (o : Option ℕ) → ((k : ℕ) → o ≡ Some k → k < 0 + length (range_keys s 1)) → place_or (range_size s 1) o ≤ range_size s 1
    by_place None h = omega arith
    by_place (Some k) h = let p = h k refl in let q = range_keys-low s in omega arith

-- how many keys of the range pass a test
pub passing-low : (s : Situation) (test : ℤ → Bool) → how_many test (range_keys s 1) ≤ range_size s 1
passing-low s test = let p = how_many-low test (range_keys s 1) in let q = range_keys-low s in omega arith

-- the place of the best
best_place-low : (beats : ℤ → ℤ → Bool) (best : ℤ) (at i : ℕ) (xs : List ℤ) → at < i → best_place beats best at i xs < i + length xs
best_place-low beats best at i [] h = omega arith
best_place-low beats best at i (x ∷ xs) h =
    by_test (best_place-low beats x i (i + 1) xs (omega arith)) (best_place-low beats best at (i + 1) xs (omega arith)) (beats x best)
  where
    by_test : best_place beats x i (i + 1) xs < (i + 1) + length xs → best_place beats best at (i + 1) xs < (i + 1) + length xs → (b : Bool)
        → elim b as (λ _. ℕ) [ true ↦ best_place beats x i (i + 1) xs | false ↦ best_place beats best at (i + 1) xs ] < i + suc (length xs)
    by_test p q true = omega arith
    by_test p q false = omega arith

pub least_place-low : (xs : List ℤ) → least_place xs ≤ length xs
least_place-low [] = omega arith
least_place-low (x ∷ xs) = let r = best_place-low (λ a b. int_lt a b) x 0 1 xs (omega arith) in omega arith

pub greatest_place-low : (xs : List ℤ) → greatest_place xs ≤ length xs
greatest_place-low [] = omega arith
greatest_place-low (x ∷ xs) = let r = best_place-low (λ a b. int_lt b a) x 0 1 xs (omega arith) in omega arith

-- a container whose keys are written over has a place behind the last of these
pub overwrites-place : (m : Memory) (j : ℕ) (own : Cont) (site from n : ℕ) (xs : List ℤ) → j < length m.conts → n ≤ length xs
    → HasPlace (after (overwrites from xs own) m j (cont_at m j) site) j (from + n)
overwrites-place m j own site from n xs low few = after-place (overwrites from xs own) m j (cont_at m j) site (from + n) low
    (let p = length-append (olds 0 from) (overwritten from xs ++ olds (from + length xs) (size own - (from + length xs))) in
    let q = length-append (overwritten from xs) (olds (from + length xs) (size own - (from + length xs))) in
    let r = length_olds 0 from in
    let t = length-overwritten from xs in
    omega arith)

-- a place at which a step ends
step_of-low : (n k : ℕ) (z : ℤ) → k ≤ n → place_or 0 (step_of n k z) ≤ n
step_of-low n k (pos i) low = by_test (nat_le (k + i) n) refl
  where
    by_test : (b : Bool) → nat_le (k + i) n ≡ b → place_or 0 (if b then Some (k + i) else None) ≤ n
    by_test true t = leb-true (k + i) n t
    by_test false t = omega arith
step_of-low n k (negsuc i) low = by_test (nat_lt i k)
  where
    by_test : (b : Bool) → place_or 0 (if b then Some ((k - i) - 1) else None) ≤ n
    by_test true = omega arith
    by_test false = omega arith

-- the iterator that is moved stands somewhere, where it may be
pub movable : (m : Memory) (o : Option (ℕ × ℕ)) (z : ℤ) (xs : List (ℕ × ℕ)) → first_failure (movable_fails m o z ++ xs) ≡ None → (p : ℕ × ℕ) ×
    (o ≡ Some p)
movable m None z xs e = absurd (let q = no_failure (movable_fails m None z ++ xs) e in cc)
movable m (Some p) z xs e = (p, refl)

-- a step from where the first operand stands ends at a place of the object
pub stepped-place : (s : Situation) (z : ℤ) (p : ℕ × ℕ) → HasObject of_first s → place_of s 1 ≡ Some p → IsPlaced s.memory (stepped s z)
stepped-place s z p there e = let h = first_place s p there e in
    record { there = h.there; within = step_of-low (own_size s) (index s 1) z h.within }
