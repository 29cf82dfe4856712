-- New keys in hash forms: which picks they take, and where they go.
use Rattle.std.proofs.Common.{◌≡◌, ℕ, ◌+◌, ◌≤◌, Bool, true, false, List, ◌∷◌, ◌++◌, length, take, drop, map, refl, ap, sym, ◌∙◌, arith, ℤ}
use Rattle.std.proofs.Common.{if◌then◌else◌}
use Rattle.std.specs.List.{insert}
use Rattle.std.proofs.lemmas.List.{take-map, drop-map, map-append, length-map}
use Rattle.std.proofs.lemmas.List.Edits.{length-insert}
use Rattle.std.proofs.lemmas.Simd.{map-map}
use Rattle.sl_specs.specs.declared.class.Class.{Class}
use Rattle.sl_specs.specs.declared.class.Class.TheVariants as classes
use Rattle.sl_specs.specs.Forms.{is_hash}
use Rattle.sl_model.specs.Memory.Classes.{kills, loses}
use Rattle.sl_model.specs.Memory.Containers.{Cont, Memory, cont_at, size}
use Rattle.sl_model.specs.Memory.Edits.{Source, old, new, Change, after, numbers}
use Rattle.sl_model.specs.Memory.Schedule.{after_picks, put_at, scattered}
use Rattle.sl_model.specs.Runs.State.{Pointer}
use Rattle.sl_model.specs.LibraryCalls.Values.{Value}
use Rattle.sl_model.specs.LibraryCalls.Effects.{is_full, key_room, key_place, key_order, key_edit, key_change}
use Rattle.sl_model.proofs.Counts.{length-scattered, length-numbers}
use Rattle.sl_model.proofs.Places.{CountsFair}
use Rattle.sl_slots.specs.declared.container.Element.{Element}
use Rattle.sl_slots.specs.declared.rearrangement.Rearrangement.{Rearrangement}
use Rattle.sl_slots.specs.declared.source.Source.{Source as SourceCode}
use Rattle.sl_slots.specs.declared.source.Source.TheVariants.{Old, New}
use Rattle.sl_slots.specs.declared.store.Store.{Store}
use Rattle.sl_slots.specs.Rearranging.{IsRearranged, source_code}
use Rattle.sl_slots.specs.Shown.{Holds, new_element}
use Rattle.sl_effects.specs.Carried.{is_key_class}
use Rattle.sl_effects.specs.Means.Keys.{grows_over, scatters}

-- ## The order of the old elements when a new key comes

module _ (c : Cont) (picks : List ℕ) where
  abbrev in_turn : List ℕ
  in_turn = numbers 0 (size c)

  abbrev picked_order : List ℕ
  picked_order = scattered (after_picks 1 picks) (numbers 0 (size c))

  -- they stay in their order
  pub turn_kept : scatters c ≡ false → key_order c picks ≡ numbers 0 (size c)
  turn_kept e = by_tests (is_hash c.form) (is_full c 1) e
    where
      by_tests : (h f : Bool) → (if h then f else false) ≡ false → (if h then (if f then picked_order else in_turn) else in_turn) ≡ in_turn
      by_tests true true e = absurd (cc)
      by_tests true false e = refl
      by_tests false f e = refl

  -- they are put in again
  pub order_scattered : scatters c ≡ true → key_order c picks ≡ scattered (after_picks 1 picks) (numbers 0 (size c))
  order_scattered e = by_tests (is_hash c.form) (is_full c 1) e
    where
      by_tests : (h f : Bool) → (if h then f else false) ≡ true → (if h then (if f then picked_order else in_turn) else in_turn) ≡ picked_order
      by_tests true true e = refl
      by_tests true false e = absurd (cc)
      by_tests false f e = absurd (cc)

-- where they are, the container was full
scatters_full : (c : Cont) → scatters c ≡ true → is_full c 1 ≡ true
scatters_full c e = by_test (is_hash c.form) e
  where
    by_test : (h : Bool) → (if h then is_full c 1 else false) ≡ true → is_full c 1 ≡ true
    by_test true e = e
    by_test false e = absurd (cc)

-- ## A hash form that grows

-- the sources of the change, in the store
put_sources : (p : ℕ) (x : ℤ × ℤ) (order : List ℕ)
    → insert (map (λ (k : ℕ). Old k) order) p (New (new_element x)) ≡ map source_code (put_at p (new x.0 x.1) (map (λ (k : ℕ). old k) order))
put_sources p x order = sym (
    map-append source_code (take p olds) (new x.0 x.1 ∷ drop p olds)
    ∙ (ap (λ (l : List SourceCode). l ++ (New (new_element x) ∷ map source_code (drop p olds)))
    (sym (take-map source_code p olds) ∙ ap (take p) codes)
    ∙ ap (λ (l : List SourceCode). take p (map (λ (k : ℕ). Old k) order) ++ (New (new_element x) ∷ l))
    (sym (drop-map source_code p olds) ∙ ap (drop p) codes))
    )
  where
    olds : List Source
    olds = map (λ (k : ℕ). old k) order

    codes : map source_code (map (λ (k : ℕ). old k) order) ≡ map (λ (k : ℕ). Old k) order
    codes = map-map source_code (λ (k : ℕ). old k) order

-- how many there are
pub sources_long : (order picks : List ℕ) (place n : ℕ) (e : Element) (sources : List SourceCode) → order ≡ scattered picks (numbers 0 n) → place ≤ n
    → sources ≡ insert (map (λ (k : ℕ). Old k) order) place (New e) → length sources ≡ n + 1
sources_long order picks place n e sources is low all =
    let a : length order ≡ n = ap (λ (l : List ℕ). length l) is ∙ (length-scattered picks (numbers 0 n) ∙ length-numbers 0 n) in
    let b : length (map (λ (k : ℕ). Old k) order) ≡ length order = length-map order (λ (k : ℕ). Old k) in
    let d : length (insert (map (λ (k : ℕ). Old k) order) place (New e)) ≡ length (map (λ (k : ℕ). Old k) order) + 1 =
    length-insert (map (λ (k : ℕ). Old k) order) place (New e) (omega arith) in
    ap (λ (l : List SourceCode). length l) all ∙ (d ∙ (omega arith))

-- a class of rows that put keys in, where a hash form grows
growth_kills : (class : Class) (c : Cont) (x : ℤ × ℤ) (picks : List ℕ) (k : ℕ) → is_key_class class ≡ true → is_full c 1 ≡ true
    → kills class (size c) c.room (key_edit c x picks) k ≡ grows_over class
growth_kills classes.Nothing c x picks k is full = refl
growth_kills classes.HashInsert c x picks k is full = full
growth_kills class c x picks k is full = absurd (cc)

growth_loses : (class : Class) (c : Cont) (x : ℤ × ℤ) (picks : List ℕ) (k : ℕ) → is_key_class class ≡ true
    → loses class (size c) c.room (key_edit c x picks) k ≡ false
growth_loses classes.Nothing c x picks k is = refl
growth_loses classes.HashInsert c x picks k is = refl
growth_loses class c x picks k is = absurd (cc)

-- the numbers of the code are those of the change
pub is_growth : (class : Class) (c : Cont) (x : ℤ × ℤ) (picks : List ℕ) (by : Rearrangement) (order : List ℕ) (place : ℕ)
    → is_key_class class ≡ true → scatters c ≡ true → order ≡ scattered (after_picks 1 picks) (numbers 0 (size c)) → place ≡ key_place c x.0 picks
    → by.sources.items ≡ insert (map (λ (k : ℕ). Old k) order) place (New (new_element x)) → by.room ≡ key_room c picks
    → by.all ≡ grows_over class → IsRearranged by c (key_change class c x picks)
is_growth class c x picks by order place key scatter is_order is_place sources room all = record {
  sources = sources
      ∙ (ap (λ (l : List ℕ). insert (map (λ (k : ℕ). Old k) l) place (New (new_element x))) (is_order ∙ sym (order_scattered c picks scatter))
      ∙ (ap (λ (p : ℕ). insert (map (λ (k : ℕ). Old k) (key_order c picks)) p (New (new_element x))) is_place
      ∙ put_sources (key_place c x.0 picks) x (key_order c picks)));
  room = room;
  references = λ k inner taken. growth_loses class c x picks k key;
  iterators = λ none k inner taken. growth_kills class c x picks k key full ∙ (sym all ∙ none);
  all_die = λ every k inner. growth_kills class c x picks k key full ∙ (sym all ∙ every);
  end = growth_kills class c x picks (size c) key full ∙ sym all;
}
  where
    full : is_full c 1 ≡ true
    full = scatters_full c scatter

-- what putting a container together anew shows
abbrev pub RearrangeShows : Store → Store → Rearrangement → Type 0
RearrangeShows old_store new_store by =
    (m : Memory) (ps : List Pointer) (vs : List Value) (ch : Change) → IsRearranged by (cont_at m by.container) ch
    → CountsFair (cont_at m by.container) ch → Holds old_store m ps vs
    → Holds new_store (after ch m by.container (cont_at m by.container) by.site) ps vs
