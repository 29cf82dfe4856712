-- A walk over a list of a tree: what was typed, before what is left, is what the whole list is typed as.
use Rattle.std.proofs.Common.{◌≡◌, ℕ, ◌+◌, ◌<◌, ◌≤◌, List, [], ◌∷◌, ◌++◌, drop, get_or, length, refl, sym, ◌∙◌, ap, subst}
use Rattle.std.proofs.lemmas.List.{at_drop_more, at_drop_all}
use Rattle.sl_typing.specs.declared.fault.Fault.{Fault}
use Rattle.sl_typing.specs.Contexts.{Context}
use Rattle.sl_number_limits.specs.Fits.{Fits}

-- a list's faults, what is known behind it and what it is typed as, from those of its items; what an item is typed as is put before the others
pub record Walk (X Y V T : Type 0) : Type 0 where
  pub faults : Context → List X → List Fault
  pub behind : Context → List X → Context
  pub typed : Context → List X → T
  pub one : Context → X → List Fault
  pub behind_one : Context → X → Context
  pub typed_one : Context → X → V
  pub seen : Y → V
  pub nothing : T
  pub before : V → T → T
  pub behind_none : (g : Context) → behind g [] ≡ g
  pub typed_none : (g : Context) → typed g [] ≡ nothing
  pub first : (g : Context) (x : X) (xs : List X) → faults g (x ∷ xs) ≡ [] → one g x ≡ []
  pub others : (g : Context) (x : X) (xs : List X) → faults g (x ∷ xs) ≡ [] → faults (behind_one g x) xs ≡ []
  pub behind_more : (g : Context) (x : X) (xs : List X) → behind g (x ∷ xs) ≡ behind (behind_one g x) xs
  pub typed_more : (g : Context) (x : X) (xs : List X) → typed g (x ∷ xs) ≡ before (typed_one g x) (typed (behind_one g x) xs)
  pub fits : (g : Context) (x : X) (xs : List X) → Fits g → faults g (x ∷ xs) ≡ [] → Fits (behind_one g x)

-- these before what comes behind them
unfoldable pub all_before : {X Y V T : Type 0} (w : Walk X Y V T) → List Y → T → T
all_before w [] t = t
all_before w (y ∷ ys) t = w.before (w.seen y) (all_before w ys t)

-- one more behind these
all_before-last : {X Y V T : Type 0} (w : Walk X Y V T) (ys : List Y) (y : Y) (t : T)
    → all_before w (ys ++ y ∷ []) t ≡ all_before w ys (w.before (w.seen y) t)
unfolding all_before
all_before-last w [] y t = refl
all_before-last {X} {Y} {V} {T} w (z ∷ ys) y t = ap (λ (u : T). w.before (w.seen z) u) (all_before-last w ys y t)

-- behind n items of a list, where this is known, and these are typed
pub record Left {X Y V T : Type 0} (w : Walk X Y V T) (xs : List X) (g h : Context) (n : ℕ) (ys : List Y) : Type 0 where
  pub fits : Fits h
  pub kept : w.faults h (drop n xs) ≡ []
  pub behind : w.behind h (drop n xs) ≡ w.behind g xs
  pub typed : all_before w ys (w.typed h (drop n xs)) ≡ w.typed g xs

-- before the first item
pub Left-init : {X Y V T : Type 0} (w : Walk X Y V T) (xs : List X) (g : Context) (ys : List Y) → ys ≡ [] → Fits g → w.faults g xs ≡ []
    → Left w xs g g 0 ys
unfolding all_before
Left-init {X} {Y} {V} {T} w xs g ys none f k =
    record { fits = f; kept = k; behind = refl; typed = ap (λ (zs : List Y). all_before w zs (w.typed g xs)) none }

-- what is left begins with an item
begins : {X Y V T : Type 0} (w : Walk X Y V T) (xs : List X) (g h : Context) (n : ℕ) (ys : List Y) (x : X) → n < length xs → x ≡ get_or xs n x
    → Left w xs g h n ys → w.faults h (x ∷ drop (n + 1) xs) ≡ []
begins {X} w xs g h n ys x lt at left =
    ap (λ (z : X). w.faults h (z ∷ drop (n + 1) xs)) at ∙ sym (at_drop_more (λ (l : List X). w.faults h l) xs n x lt) ∙ left.kept

-- it breaks no rule
pub Left-kept : {X Y V T : Type 0} (w : Walk X Y V T) (xs : List X) (g h : Context) (n : ℕ) (ys : List Y) (x : X) → n < length xs
    → x ≡ get_or xs n x → Left w xs g h n ys → w.one h x ≡ []
Left-kept w xs g h n ys x lt at left = w.first h x (drop (n + 1) xs) (begins w xs g h n ys x lt at left)

-- behind it
pub Left-turn : {X Y V T : Type 0} (w : Walk X Y V T) (xs : List X) (g h new : Context) (n : ℕ) (ys : List Y) (x : X) (y : Y) → n < length xs
    → x ≡ get_or xs n x → Left w xs g h n ys → w.seen y ≡ w.typed_one h x → new ≡ w.behind_one h x → Left w xs g new (n + 1) (ys ++ y ∷ [])
Left-turn {X} {Y} {V} {T} w xs g h new n ys x y lt at left is known =
    let rest = drop (n + 1) xs in
    let here : w.faults h (x ∷ rest) ≡ [] = begins w xs g h n ys x lt at left in
    subst (λ (k : Context). Left w xs g k (n + 1) (ys ++ y ∷ [])) (sym known) (record {
      fits = w.fits h x rest left.fits here;
      kept = w.others h x rest here;
      behind = sym (w.behind_more h x rest) ∙ ap (λ (z : X). w.behind h (z ∷ rest)) at
          ∙ sym (at_drop_more (λ (l : List X). w.behind h l) xs n x lt) ∙ left.behind;
      typed = all_before-last w ys y (w.typed (w.behind_one h x) rest)
          ∙ ap (λ (v : V). all_before w ys (w.before v (w.typed (w.behind_one h x) rest))) is
          ∙ ap (λ (t : T). all_before w ys t) (sym (w.typed_more h x rest) ∙ ap (λ (z : X). w.typed h (z ∷ rest)) at
          ∙ sym (at_drop_more (λ (l : List X). w.typed h l) xs n x lt))
          ∙ left.typed;
    })

-- behind the last one
pub Left-known : {X Y V T : Type 0} (w : Walk X Y V T) (xs : List X) (g h : Context) (n : ℕ) (ys : List Y) → length xs ≤ n → Left w xs g h n ys
    → h ≡ w.behind g xs
Left-known {X} w xs g h n ys past left = sym (w.behind_none h) ∙ sym (at_drop_all (λ (l : List X). w.behind h l) xs n past) ∙ left.behind

pub Left-typed : {X Y V T : Type 0} (w : Walk X Y V T) (xs : List X) (g h : Context) (n : ℕ) (ys : List Y) → length xs ≤ n → Left w xs g h n ys
    → all_before w ys w.nothing ≡ w.typed g xs
Left-typed {X} {Y} {V} {T} w xs g h n ys past left =
    ap (λ (t : T). all_before w ys t) (sym (w.typed_none h))
    ∙ sym (at_drop_all (λ (l : List X). all_before w ys (w.typed h l)) xs n past)
    ∙ left.typed
