-- When a store and the picks of a schedule stand for what an effect of a call leaves, and for what a call meets.
use Rattle.std.specs.Prelude.{◌≡◌, ℕ, ◌+◌, ℤ, Bool, true, false, List, map, length, drop}
use Rattle.sl_specs.specs.declared.class.Class.{Class}
use Rattle.sl_specs.specs.declared.class.Class.TheVariants.{Nothing, HashInsert}
use Rattle.sl_model.specs.Runs.State.{Pointer}
use Rattle.sl_model.specs.LibraryCalls.Values.{Value}
use Rattle.sl_model.specs.LibraryCalls.Situation.{Situation}
use Rattle.sl_model.specs.LibraryCalls.Effects.{Left}
use Rattle.sl_slots.specs.declared.container.Element.{Element}
use Rattle.sl_slots.specs.declared.store.Store.{Store}
use Rattle.sl_slots.specs.Shown.{Holds, new_element}
use Rattle.sl_effects.specs.declared.picks.Picks.{Picks}

-- the numbers of a schedule that are left
abbrev pub left_in : Picks → List ℕ
left_in picks = drop picks.taken picks.numbers.items

-- The store shows the memory, in which variables and operands hold these, and the picks are those that are left.
pub record Carries (st : Store) (picks : Picks) (left : Left) (ps : List Pointer) (vs : List Value) : Type 0 where
  pub holds : Holds st left.memory ps vs
  pub schedule : left_in picks ≡ left.picks

-- so many containers came, and as many variables and operands are there as before
pub record GrewBy (more : ℕ) (old new : Store) : Type 0 where
  pub containers : length new.containers.items ≡ length old.containers.items + more
  pub variables : length new.pointers.items ≡ length old.pointers.items
  pub operands : length new.operands.items ≡ length old.operands.items

-- what is left when a call begins: all that it meets
abbrev pub begun : Situation → Left
begun s = record { memory = s.memory; picks = s.picks }

-- A call on a container, at a site, meets the memory that the store shows and the picks that are left.
pub record Meets (st : Store) (picks : Picks) (object site : ℕ) (s : Situation) (ps : List Pointer) (vs : List Value) : Type 0 where
  pub carries : Carries st picks (begun s) ps vs
  pub on : s.object ≡ object
  pub at : s.site ≡ site

-- these keys and values are those of elements, and no key is converted
pub record AreKeyed (xs : List (ℤ × ℤ)) (es : List Element) : Type 0 where
  pub elements : map new_element xs ≡ es
  pub keys : map (λ (x : ℤ × ℤ). x.0) xs ≡ map (λ (x : Element). x.key) es

-- a class of rows that put keys in: what they invalidate, they invalidate where a hash form grows
abbrev pub is_key_class : Class → Bool
is_key_class Nothing = true
is_key_class HashInsert = true
is_key_class class = false
