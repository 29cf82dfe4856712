-- What a call of the library meets in a store, and what is read of it.
--
-- Nothing here restates a standard: what a situation is, `sl_model` says.
use Rattle.std.specs.Prelude.{◌≡◌, ℕ, ℤ, List, map, length, ◌++◌, Option, option_map}
use Rattle.sl_model.specs.Runs.State.{Pointer}
use Rattle.sl_model.specs.LibraryCalls.Values.{Value}
use Rattle.sl_model.specs.LibraryCalls.Situation.{Situation}
use Rattle.sl_slots.specs.declared.container.Element.{Element}
use Rattle.sl_slots.specs.declared.store.Store.{Store}
use Rattle.sl_slots.specs.Shown.{Holds, contents, plain, value_of}
use Rattle.sl_arguments.specs.declared.arguments.Arguments.{Arguments}
use Rattle.sl_arguments.specs.declared.position.Position.{Position}

-- A call on an object, at a site and with these picks left, meets a situation: the store shows its memory, and holds its arguments
-- behind as many operands as `base` says.
pub record Meets (st : Store) (base object site : ℕ) (picks : List ℕ) (s : Situation) : Type 0 where
  pub pointers : List Pointer
  pub held : List Value
  pub below : length held ≡ base
  pub holds : Holds st s.memory pointers (held ++ s.values)
  pub on : s.object ≡ object
  pub at : s.site ≡ site
  pub left : s.picks ≡ picks

-- what is read of a call is what a situation has: its containers without marks, its object, and its arguments
pub record Reads (a : Arguments) (s : Situation) : Type 0 where
  pub containers : map contents a.containers.now ≡ map plain s.memory.conts
  pub values : a.values.now ≡ map (value_of s.memory) s.values
  pub on : a.object ≡ s.object

-- a position as its container and its index
abbrev pub at : Position → ℕ × ℕ
at p = (p.container, p.index)

-- one that there may be
abbrev pub placed : Option Position → Option (ℕ × ℕ)
placed p = option_map at p

-- the key of an element
abbrev pub key_of : Element → ℤ
key_of x = x.key
