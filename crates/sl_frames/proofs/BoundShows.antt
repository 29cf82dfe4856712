-- Parameters that have taken their operands.
use Rattle.std.proofs.Common.{◌≡◌, ℕ, zero, suc, ◌+◌, ◌-◌, ◌<◌, ◌≤◌, min, List, [], ◌∷◌, ◌++◌, Some, length, drop, refl, ap, sym, ◌∙◌}
use Rattle.std.proofs.Common.{subst, arith, ⊎_elim, Bool, ℤ}
use Rattle.std.specs.List.{slice_get}
use Rattle.std.proofs.lemmas.Bool.{cases_lt}
use Rattle.std.proofs.lemmas.List.{length-map, length-append}
use Rattle.sl_syntax.specs.declared.typed.parameter.ParameterKind.{ParameterKind}
use Rattle.sl_syntax.specs.declared.typed.parameter.ParameterKind.TheVariants as parameter
use Rattle.sl_model.specs.LibraryCalls.Values.{Value, nothing, number, iterator, pair, two, scalar_at, container_at, element_at}
use Rattle.sl_model.specs.Memory.Containers.{Part}
use Rattle.sl_model.specs.Runs.Binding.{bind_one, bind_all}
use Rattle.sl_model.specs.Runs.State.{State, iterator_at, new_iterator}
use Rattle.sl_model.proofs.Getting.{got_map, get_behind}
use Rattle.sl_model.proofs.Gifts.{IsUsed, AllUsed}
use Rattle.sl_slots.specs.declared.slot.Pointer.TheVariants as p
use Rattle.sl_slots.specs.declared.slot.Slot.{Slot}
use Rattle.sl_slots.specs.declared.slot.Value.{Value as ValueCode}
use Rattle.sl_slots.specs.declared.slot.Value.TheVariants as v
use Rattle.sl_slots.specs.Shown.{value_of, slot_of}
use Rattle.sl_frames.specs.declared.variables.Variables.{Variables}
use Rattle.sl_frames.specs.Followed.{Mirrors}
use Rattle.sl_frames.specs.Changed.{PointerCame}
use Rattle.sl_frames.proofs.CameShows.{pointer_mirrors}

-- ## One parameter

-- an iterator is copied
stamp-binds : (k : ParameterKind) (stamp : ℕ) (s : State) → new_iterator stamp s ≡ bind_one k (iterator stamp) s
stamp-binds (parameter.Value ty) stamp s = refl
stamp-binds (parameter.Reference ty) stamp s = refl
stamp-binds (parameter.Container access form) stamp s = refl
stamp-binds (parameter.Iterator is_const form) stamp s = refl

-- an iterator came into scope for a parameter
pub binds_stamp : (k : ParameterKind) (x : Slot) (old new : Variables) → PointerCame (p.Iterator x) old new
    → (s : State) (held : List Value) (u : Value) → value_of s.memory u ≡ v.Iterator x → IsUsed s.memory.fresh u
    → Mirrors old s held → Mirrors new (bind_one k u s) held
binds_stamp k x old new is s held nothing e used h = absurd (cc)
binds_stamp k x old new is s held (number z) e used h = absurd (cc)
binds_stamp k x old new is s held (iterator stamp) e used h =
    let same : slot_of s.memory stamp ≡ x = cc in
    subst (λ (t : State). Mirrors new t held) (stamp-binds k stamp s)
    (pointer_mirrors (p.Iterator x) old new s held (iterator_at stamp) used (ap (λ (y : Slot). p.Iterator y) same) is h)
binds_stamp k x old new is s held (pair z b) e used h = absurd (cc)
binds_stamp k x old new is s held (two z b) e used h = absurd (cc)
binds_stamp k x old new is s held (scalar_at l) e used h = absurd (cc)
binds_stamp k x old new is s held (container_at l) e used h = absurd (cc)
binds_stamp k x old new is s held (element_at i n part) e used h = absurd (cc)

-- what no parameter takes
nothing-binds : (k : ParameterKind) (s : State) → s ≡ bind_one k nothing s
nothing-binds (parameter.Value ty) s = refl
nothing-binds (parameter.Reference ty) s = refl
nothing-binds (parameter.Container access form) s = refl
nothing-binds (parameter.Iterator is_const form) s = refl

pair-binds : (k : ParameterKind) (stamp : ℕ) (b : Bool) (s : State) → s ≡ bind_one k (pair stamp b) s
pair-binds (parameter.Value ty) stamp b s = refl
pair-binds (parameter.Reference ty) stamp b s = refl
pair-binds (parameter.Container access form) stamp b s = refl
pair-binds (parameter.Iterator is_const form) stamp b s = refl

two-binds : (k : ParameterKind) (stamp other : ℕ) (s : State) → s ≡ bind_one k (two stamp other) s
two-binds (parameter.Value ty) stamp other s = refl
two-binds (parameter.Reference ty) stamp other s = refl
two-binds (parameter.Container access form) stamp other s = refl
two-binds (parameter.Iterator is_const form) stamp other s = refl

element-binds : (k : ParameterKind) (i n : ℕ) (part : Part) (s : State) → s ≡ bind_one k (element_at i n part) s
element-binds (parameter.Value ty) i n part s = refl
element-binds (parameter.Reference ty) i n part s = refl
element-binds (parameter.Container access form) i n part s = refl
element-binds (parameter.Iterator is_const form) i n part s = refl

-- then nothing happens
pub nothing_binds : (k : ParameterKind) (x : ValueCode) (now : Variables) → ((z : ℤ) → x ≡ v.Number z → ⊥) → ((y : Slot) → x ≡ v.Iterator y → ⊥)
    → ((l : ℕ) → x ≡ v.ScalarAt l → ⊥) → ((l : ℕ) → x ≡ v.ContainerAt l → ⊥) → (s : State) (held : List Value) (u : Value)
    → value_of s.memory u ≡ x → Mirrors now s held → Mirrors now (bind_one k u s) held
nothing_binds k x now a b d f s held nothing e h = subst (λ (t : State). Mirrors now t held) (nothing-binds k s) h
nothing_binds k x now a b d f s held (number z) e h = absurd (a z (sym e))
nothing_binds k x now a b d f s held (iterator stamp) e h = absurd (b (slot_of s.memory stamp) (sym e))
nothing_binds k x now a b d f s held (pair stamp w) e h = subst (λ (t : State). Mirrors now t held) (pair-binds k stamp w s) h
nothing_binds k x now a b d f s held (two stamp other) e h = subst (λ (t : State). Mirrors now t held) (two-binds k stamp other s) h
nothing_binds k x now a b d f s held (scalar_at l) e h = absurd (d l (sym e))
nothing_binds k x now a b d f s held (container_at l) e h = absurd (f l (sym e))
nothing_binds k x now a b d f s held (element_at i n part) e h = subst (λ (t : State). Mirrors now t held) (element-binds k i n part s) h

-- ## All parameters

-- what is behind the first ones, from one of them on
drop_from : {A : Type 0} (xs : List A) (i : ℕ) (x : A) → slice_get xs i ≡ Some x → drop i xs ≡ x ∷ drop (i + 1) xs
drop_from [] i x e = absurd (cc)
drop_from (y ∷ xs) zero x e = let q : y ≡ x = cc in ap (λ z. z ∷ xs) q
drop_from (y ∷ xs) (suc i) x e =
    let q : suc i + 1 ≡ suc (i + 1) = omega arith in drop_from xs i x e ∙ ap (λ (k : ℕ). x ∷ drop k (y ∷ xs)) (sym q)

-- nothing is behind the last
drop_none : {A : Type 0} (xs : List A) (i : ℕ) → length xs ≤ i → drop i xs ≡ []
drop_none [] zero h = refl
drop_none [] (suc i) h = refl
drop_none (x ∷ xs) zero h = absurd (omega arith)
drop_none (x ∷ xs) (suc i) h = drop_none xs i (omega arith)

-- no operands are left
none-bind : (ks : List ParameterKind) (s : State) → bind_all ks [] s ≡ s
none-bind [] s = refl
none-bind (k ∷ ks) s = refl

-- what was used, one by one
used_there : (n : ℕ) (vs : List Value) (i : ℕ) (u : Value) → slice_get vs i ≡ Some u → AllUsed n vs → IsUsed n u
used_there n [] i u e used = absurd (cc)
used_there n (x ∷ vs) zero u e used = let q : x ≡ u = cc in subst (λ y. IsUsed n y) q used.0
used_there n (x ∷ vs) (suc i) u e used = used_there n vs i u e used.1

-- the parameters from one on, in a state whose variables these are, do what all did
pub record Bound (ks : List ParameterKind) (vs : List Value) (i : ℕ) (s : State) (now : Variables) (all : List Value) : Type 0 where
  pub state : State
  pub mirrors : Mirrors now state all
  pub rest : bind_all ks vs s ≡ bind_all (drop i ks) (drop i vs) state

-- the first parameters have taken their operands
pub record Binds (ks : List ParameterKind) (base i : ℕ) (old now : Variables) : Type 0 where
  pub operands : now.store.operands ≡ old.store.operands
  pub bound : (s : State) (held vs : List Value) → length held ≡ base → Mirrors old s (held ++ vs) → Bound ks vs i s now (held ++ vs)

-- none has
pub none_binds : (ks : List ParameterKind) (base : ℕ) (old : Variables) → Binds ks base 0 old old
none_binds ks base old = record { operands = refl; bound = λ s held vs many h. record { state = s; mirrors = h; rest = refl } }

-- what one parameter does
abbrev pub BindsOne : ParameterKind → ValueCode → Variables → Variables → Type 0
BindsOne k x old new = (s : State) (held : List Value) (u : Value) → value_of s.memory u ≡ x → IsUsed s.memory.fresh u → Mirrors old s held
    → Mirrors new (bind_one k u s) held

-- one more
pub one_binds : (ks : List ParameterKind) (base i : ℕ) (old m new : Variables) (k : ParameterKind) (x : ValueCode) → slice_get ks i ≡ Some k
    → slice_get m.store.operands.items (base + i) ≡ Some x → new.store.operands ≡ m.store.operands → BindsOne k x m new → Binds ks base i old m
    → Binds ks base (i + 1) old new
one_binds ks base i old m new k x there at operands one by = record {
  operands = operands ∙ by.operands;
  bound = λ s held vs many h. more s held vs many (by.bound s held vs many h);
}
  where
    more : (s : State) (held vs : List Value) → length held ≡ base → Bound ks vs i s m (held ++ vs) → Bound ks vs (i + 1) s new (held ++ vs)
    more s held vs many r =
        let t = r.state in
        let q = got_map (value_of t.memory) (held ++ vs) (base + i) x (ap (λ l. slice_get l (base + i)) (sym r.mirrors.store.shows.operands) ∙ at) in
        let u = q.0 in
        let e : slice_get (held ++ vs) (length held + i) ≡ Some u = ap (λ n. slice_get (held ++ vs) (n + i)) many ∙ q.1 in
        let in_vs : slice_get vs i ≡ Some u = sym (get_behind held vs i) ∙ e in
        record {
          state = bind_one k u t;
          mirrors = one t (held ++ vs) u q.2 (used_there t.memory.fresh (held ++ vs) (base + i) u q.1 r.mirrors.store.operands_used) r.mirrors;
          rest = r.rest ∙ (ap (λ l. bind_all l (drop i vs) t) (drop_from ks i k there)
              ∙ ap (λ l. bind_all (k ∷ drop (i + 1) ks) l t) (drop_from vs i u in_vs));
        }

-- all have, where parameters or operands are at their end
pub all_bind : (ks : List ParameterKind) (base i : ℕ) (old new : Variables) → min (length ks) (length old.store.operands.items - base) ≤ i
    → Binds ks base i old new → (s : State) (held vs : List Value) → length held ≡ base → Mirrors old s (held ++ vs)
    → Mirrors new (bind_all ks vs s) (held ++ vs)
all_bind ks base i old new high by s held vs many h =
    subst (λ (t : State). Mirrors new t (held ++ vs)) (sym (r.rest ∙ at_end)) r.mirrors
  where
    r : Bound ks vs i s new (held ++ vs)
    r = by.bound s held vs many h

    sizes : length old.store.operands.items ≡ length held + length vs
    sizes = ap (λ l. length l) h.store.shows.operands ∙ (length-map (held ++ vs) (value_of s.memory) ∙ length-append held vs)

    at_end : bind_all (drop i ks) (drop i vs) r.state ≡ r.state
    at_end = ⊎_elim
        (λ (low : i < length ks).
        let n : length old.store.operands.items ≡ length held + length vs = sizes in
        ap (λ l. bind_all (drop i ks) l r.state) (drop_none vs i (omega arith)) ∙ none-bind (drop i ks) r.state)
        (λ (past : length ks ≤ i). ap (λ l. bind_all l (drop i vs) r.state) (drop_none ks i past))
        (cases_lt i (length ks))
