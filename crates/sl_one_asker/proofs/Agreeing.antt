-- What is asked agrees with itself, and with what is asked elsewhere; so all nodes agree where no two may ask at one place.
use Rattle.std.proofs.Common.{arith, ◌≡◌, ℕ, zero, suc, ◌+◌, ◌≤◌, Bool, true, false, List, [], ◌∷◌, Option, Some, None, refl, ap}
use Rattle.std.proofs.Common.{⊎_elim}
use Rattle.std.proofs.Math.Nat.{le_refl}
use Rattle.std.specs.Prelude.{◌==◌, ◌&&◌, not, slice_get}
use Rattle.std.specs.List.{list_all}
use Rattle.std.specs.Str.{bytes_eq}
use Rattle.std.proofs.lemmas.Bool.{and_from, cases_Bool, cond_both, eq-eqb, or_left, or_right}
use Rattle.std.proofs.lemmas.Slice.Eq.{bytes_eq-Decides}
use Rattle.sl_base.specs.declared.place.Place.{Place}
use Rattle.sl_model.specs.Typing.WellTypedNodes.{Node, a_literal, a_call, an_own_call, an_operator, a_step, a_use, a_loop, a_range, a_variable}
use Rattle.sl_model.specs.Typing.WellTypedNodes.{a_brace}
use Rattle.sl_model.specs.Typing.WellTypedNumbers.{Asked, call_asks, asked_by, same_place, same_name, same_names, agree}
use Rattle.sl_model.specs.Typing.WellTypedNumbers.{agrees_with_all}
use Rattle.sl_one_asker.proofs.Askers.{here, asks_at, askers}
use Rattle.sl_one_asker.proofs.TokensAt.{is_here}

-- one, if something is asked at a place
abbrev asked_at : Place → Option Asked → ℕ
asked_at q None = 0
asked_at q (Some x) = here q x.place

-- a node that asks at a place may ask there
may_ask : (q : Place) (x : Node) → asked_at q (asked_by x) ≤ asks_at q x
may_ask q (a_literal z) = omega arith
may_ask q (a_call h ops) = cond_both (call_asks h.callee) _ None (λ (o : Option Asked). asked_at q o ≤ here q h.place) (λ e. le_refl (here q h.place))
    (λ e. omega arith)
may_ask q (an_own_call n ops) = omega arith
may_ask q (an_operator d e) = omega arith
may_ask q (a_step l) = omega arith
may_ask q (a_use at name) = omega arith
may_ask q (a_loop n) = omega arith
may_ask q (a_range at name) = omega arith
may_ask q (a_variable kind) = omega arith
may_ask q (a_brace site declares_container) = omega arith

-- what is asked agrees with itself
name_itself : (x : Option ℕ) → same_name x x ≡ true
name_itself None = refl
name_itself (Some n) = eq-eqb n n refl

names_itself : (xs : List (Option ℕ)) → same_names xs xs ≡ true
names_itself [] = refl
names_itself (x ∷ xs) = and_from (same_name x x) (same_names xs xs) (name_itself x) (names_itself xs)

agree_itself : (o : Option Asked) → agree o o ≡ true
agree_itself None = refl
agree_itself (Some x) =
    or_right (not (same_place x.place x.place)) (bytes_eq x.word x.word && same_names x.names x.names)
    (and_from (bytes_eq x.word x.word) (same_names x.names x.names) ((bytes_eq-Decides x.word x.word).1 refl) (names_itself x.names))

-- and with what is asked elsewhere
place_itself : (p : Place) → same_place p p ≡ true
place_itself p = and_from (p.line == p.line) (p.col == p.col) (eq-eqb p.line p.line refl) (eq-eqb p.col p.col refl)

agree_apart : (o p : Option Asked) → ((q : Place) → asked_at q o + asked_at q p ≤ 1) → agree o p ≡ true
agree_apart None p apart = refl
agree_apart (Some x) None apart = refl
agree_apart (Some x) (Some y) apart =
    let rest = bytes_eq x.word y.word && same_names x.names y.names in
    let one = apart x.place in
    let first = is_here x.place x.place (place_itself x.place) in
    ⊎_elim
    (λ (same : same_place x.place y.place ≡ true). let last = is_here x.place y.place same in absurd (omega arith))
    (λ (other : same_place x.place y.place ≡ false). or_left (not (same_place x.place y.place)) rest (ap not other))
    (cases_Bool (same_place x.place y.place))

nodes_apart : (x y : Node) → ((q : Place) → asks_at q x + asks_at q y ≤ 1) → agree (asked_by x) (asked_by y) ≡ true
nodes_apart x y apart =
    agree_apart (asked_by x) (asked_by y)
    (λ q. let first = may_ask q x in let last = may_ask q y in let both = apart q in omega arith)

-- one of these nodes may ask where they do
asks_among : (q : Place) (nodes : List Node) (i : ℕ) (x : Node) → slice_get nodes i ≡ Some x → asks_at q x ≤ askers q nodes
asks_among q [] i x there = absurd cc
asks_among q (y ∷ ys) zero x there = let same : y ≡ x = cc in rw (← same) (omega arith)
asks_among q (y ∷ ys) (suc i) x there = let others = asks_among q ys i x there in omega arith

-- any two of them agree
two_agree : (nodes : List Node) → ((q : Place) → askers q nodes ≤ 1) → (i j : ℕ) (x y : Node) → slice_get nodes i ≡ Some x
    → slice_get nodes j ≡ Some y → agree (asked_by x) (asked_by y) ≡ true
two_agree [] one i j x y a b = absurd cc
two_agree (z ∷ zs) one zero zero x y a b = let first : z ≡ x = cc in let last : z ≡ y = cc in rw (← first, ← last) (agree_itself (asked_by z))
two_agree (z ∷ zs) one zero (suc j) x y a b =
    let first : z ≡ x = cc in
    rw (← first) (nodes_apart z y (λ q. let all = one q in let other = asks_among q zs j y b in omega arith))
two_agree (z ∷ zs) one (suc i) zero x y a b =
    let last : z ≡ y = cc in
    rw (← last) (nodes_apart x z (λ q. let all = one q in let other = asks_among q zs i x a in omega arith))
two_agree (z ∷ zs) one (suc i) (suc j) x y a b = two_agree zs (λ q. let all = one q in omega arith) i j x y a b

-- a test that each of these passes
all_pass : {X : Type 0} (test : X → Bool) (xs : List X) → ((i : ℕ) (x : X) → slice_get xs i ≡ Some x → test x ≡ true) → list_all test xs ≡ true
all_pass test [] each = refl
all_pass test (x ∷ xs) each = and_from (test x) (list_all test xs) (each 0 x refl) (all_pass test xs (λ i y there. each (suc i) y there))

-- so all of them do
pub all_agree : (nodes : List Node) → ((q : Place) → askers q nodes ≤ 1) → list_all (agrees_with_all nodes) nodes ≡ true
all_agree nodes one =
    all_pass (agrees_with_all nodes) nodes
    (λ i x a. all_pass (λ (y : Node). agree (asked_by x) (asked_by y)) nodes (λ j y b. two_agree nodes one i j x y a b))
