-- A walk over a list: what is left of it gives what the whole list gives.
use Rattle.std.proofs.Common.{◌≡◌, ℕ, ◌+◌, ◌<◌, ◌≤◌, List, [], ◌∷◌, ◌++◌, drop, get_or, length, refl, sym, ◌∙◌, ap, subst}
use Rattle.std.proofs.lemmas.List.{at_drop_more, at_drop_all}
use Rattle.sl_typing.specs.declared.fault.Fault.{Fault}
use Rattle.sl_typing.specs.Contexts.{Context}
use Rattle.sl_typing.specs.Typing.{first_of}
use Rattle.sl_first_fault.specs.declared.stop.Stop.{Stop}
use Rattle.sl_first_fault.specs.Means.Steps.{StopsAt, Done}
use Rattle.sl_first_fault.proofs.StepLaws.{first_of-behind, StopsAt-before}

-- the rules that the items of a list break, and what is known behind them; so many stand before the list
pub record Walk (X : Type 0) : Type 0 where
  pub faults : ℕ → Context → List X → List Fault
  pub behind : Context → List X → Context
  pub one : ℕ → Context → X → List Fault
  pub behind_one : Context → X → Context
  pub none : (n : ℕ) (g : Context) → faults n g [] ≡ []
  pub behind_none : (g : Context) → behind g [] ≡ g
  pub more : (n : ℕ) (g : Context) (x : X) (xs : List X) → faults n g (x ∷ xs) ≡ one n g x ++ faults (n + 1) (behind_one g x) xs
  pub behind_more : (g : Context) (x : X) (xs : List X) → behind g (x ∷ xs) ≡ behind (behind_one g x) xs

-- the items from the n-th on, where this is known, give what the whole list gives
pub record Left {X : Type 0} (w : Walk X) (xs : List X) (g h : Context) (n : ℕ) : Type 0 where
  pub faults : first_of (w.faults n h (drop n xs)) ≡ first_of (w.faults 0 g xs)
  pub behind : w.behind h (drop n xs) ≡ w.behind g xs

-- before the first item
pub Left-init : {X : Type 0} (w : Walk X) (xs : List X) (g : Context) → Left w xs g g 0
Left-init w xs g = record { faults = refl; behind = refl }

-- what is left begins with an item
begins : {X : Type 0} (w : Walk X) (xs : List X) (g h : Context) (n : ℕ) (x : X) → n < length xs → x ≡ get_or xs n x → Left w xs g h n
    → first_of (w.one n h x ++ w.faults (n + 1) (w.behind_one h x) (drop (n + 1) xs)) ≡ first_of (w.faults 0 g xs)
begins {X} w xs g h n x lt at left =
    ap first_of (sym (w.more n h x (drop (n + 1) xs)))
    ∙ ap (λ (y : X). first_of (w.faults n h (y ∷ drop (n + 1) xs))) at
    ∙ sym (at_drop_more (λ (l : List X). first_of (w.faults n h l)) xs n x lt)
    ∙ left.faults

-- behind an item that breaks no rule
pub Left-turn : {X : Type 0} (w : Walk X) (xs : List X) (g h new : Context) (n : ℕ) (x : X) → n < length xs → x ≡ get_or xs n x → Left w xs g h n
    → Done (w.one n h x) new (w.behind_one h x) → Left w xs g new (n + 1)
Left-turn {X} w xs g h new n x lt at left done =
    let rest = drop (n + 1) xs in
    subst (λ (k : Context). Left w xs g k (n + 1)) (sym done.is_known) (record {
      faults = sym (first_of-behind (w.one n h x) (w.faults (n + 1) (w.behind_one h x) rest) done.breaks_none) ∙ begins w xs g h n x lt at left;
      behind = sym (w.behind_more h x rest) ∙ ap (λ (y : X). w.behind h (y ∷ rest)) at
          ∙ sym (at_drop_more (λ (l : List X). w.behind h l) xs n x lt) ∙ left.behind;
    })

-- at an item that breaks one
pub Left-stops : {X : Type 0} (w : Walk X) (xs : List X) (g h : Context) (n : ℕ) (x : X) (e : Stop) → n < length xs → x ≡ get_or xs n x
    → Left w xs g h n → StopsAt e (first_of (w.one n h x)) → StopsAt e (first_of (w.faults 0 g xs))
Left-stops w xs g h n x e lt at left stops =
    subst (StopsAt e) (begins w xs g h n x lt at left) (StopsAt-before e (w.one n h x) _ stops)

-- behind the last one
pub Left-spent : {X : Type 0} (w : Walk X) (xs : List X) (g h : Context) (n : ℕ) → length xs ≤ n → Left w xs g h n
    → Done (w.faults 0 g xs) h (w.behind g xs)
Left-spent {X} w xs g h n past left = record {
  breaks_none = sym left.faults ∙ at_drop_all (λ (l : List X). first_of (w.faults n h l)) xs n past ∙ ap first_of (w.none n h);
  is_known = sym (w.behind_none h) ∙ sym (at_drop_all (λ (l : List X). w.behind h l) xs n past) ∙ left.behind;
}
