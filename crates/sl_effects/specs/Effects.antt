-- Effects of calls, as the code has them: when one can be carried out, and of which effect of the model it has the numbers.
use Rattle.std.specs.Prelude.{◌≡◌, ◌≢◌, ℕ, ℤ, ◌+◌, ◌≤◌, ◌<◌, ◌^◌, true, List, map, length}
use Rattle.sl_base.specs.declared.scalar.Scalar.TheVariants.{Int}
use Rattle.sl_specs.specs.declared.class.Class.{Class}
use Rattle.sl_model.specs.Numbers.{converted}
use Rattle.sl_model.specs.Memory.Containers.{cont_at}
use Rattle.sl_model.specs.Memory.Edits.{Change}
use Rattle.sl_model.specs.LibraryCalls.Situation.{Situation}
use Rattle.sl_model.specs.LibraryCalls.Actions.{Effect as EffectData, keeps, edits, changes, trades, inserts, appends, makes, makes_by_keys}
use Rattle.sl_slots.specs.declared.edit.Edit.{Edit}
use Rattle.sl_slots.specs.declared.container.Element.{Element}
use Rattle.sl_slots.specs.declared.rearrangement.Rearrangement.{Rearrangement}
use Rattle.sl_slots.specs.declared.store.Store.{Store}
use Rattle.sl_slots.specs.declared.trade.Trade.{Trade}
use Rattle.sl_slots.specs.Rearranging.{IsRearranged}
use Rattle.sl_slots.specs.Shown.{new_element}
use Rattle.sl_slots.specs.Stored.{IsEdit, elements_at}
use Rattle.sl_slots.specs.Trading.{IsSide}
use Rattle.sl_effects.specs.declared.effect.Effect.{Effect}
use Rattle.sl_effects.specs.declared.effect.Effect.TheVariants.{Keeps, Edits, Changes, Trades, Inserts, Appends, Makes, MakesByKeys}
use Rattle.sl_effects.specs.Carried.{AreKeyed, is_key_class}

-- a container is there, and has room for so many elements more
pub record HasSpace (st : Store) (j more : ℕ) : Type 0 where
  pub there : j < length st.containers.items
  pub few : length (elements_at st j) + more < 2 ^ 63

-- an edit is one of a container
pub record EditFits (st : Store) (j : ℕ) (e : Edit) (come : ℕ) : Type 0 where
  pub space : HasSpace st j come
  pub inside : e.from + e.gone ≤ length (elements_at st j)

-- a container is put together anew from all that it has
pub record RearrangementFits (st : Store) (by : Rearrangement) (site : ℕ) : Type 0 where
  pub there : by.container < length st.containers.items
  pub size : by.size ≡ length (elements_at st by.container)
  pub at : by.site ≡ site

-- the object and another container exchange elements
pub record TradeFits (st : Store) (object site : ℕ) (by : Trade) : Type 0 where
  pub first : by.first.container < length st.containers.items
  pub second : by.second.container < length st.containers.items
  pub differ : by.first.container ≢ by.second.container
  pub first_size : by.first.size ≡ length (elements_at st by.first.container)
  pub second_size : by.second.size ≡ length (elements_at st by.second.container)
  pub on : by.first.container ≡ object
  pub at : by.site ≡ site

-- an effect can be carried out on an object at a site
abbrev pub CanBeCarried : Effect → ℕ → ℕ → Store → Type 0
CanBeCarried Keeps object site st = Unit {0}
CanBeCarried (Edits taken e come) object site st = EditFits st object e (length come.items)
CanBeCarried (Changes taken by) object site st = RearrangementFits st by site
CanBeCarried (Trades by) object site st = TradeFits st object site by
CanBeCarried (Inserts elements) object site st = HasSpace st object (length elements.items)
CanBeCarried (Appends j numbers) object site st = HasSpace st j (length numbers.items)
CanBeCarried (Makes taken room elements) object site st = Unit {0}
CanBeCarried (MakesByKeys taken room elements) object site st = length elements.items < 2 ^ 63

-- how many containers an effect makes
abbrev pub coming : Effect → ℕ
coming (Makes taken room elements) = 1
coming (MakesByKeys taken room elements) = 1
coming effect = 0

-- a container is put together anew as a change of the model says
pub record IsChange (s : Situation) (by : Rearrangement) (j : ℕ) (ch : Change) : Type 0 where
  pub container : by.container ≡ j
  pub change : IsRearranged by (cont_at s.memory j) ch

-- two containers exchange elements as two changes of the model say
pub record IsTrade (s : Situation) (by : Trade) (j : ℕ) (ch dh : Change) : Type 0 where
  pub container : by.second.container ≡ j
  pub first : IsSide by.first by.ends (cont_at s.memory s.object) ch
  pub second : IsSide by.second by.ends (cont_at s.memory j) dh

-- these elements are keys and values that a row of a class puts in
pub record AreInserted (class : Class) (xs : List (ℤ × ℤ)) (es : List Element) : Type 0 where
  pub of_keys : is_key_class class ≡ true
  pub keyed : AreKeyed xs es

-- an effect has the numbers of one of the model, of a row of a class
abbrev pub IsEffect : Class → Situation → Effect → EffectData → Type 0
IsEffect class s Keeps keeps = Unit {0}
IsEffect class s (Edits taken code come) (edits n e) = (taken ≡ n) × ((code.class ≡ class) × IsEdit e code come.items)
IsEffect class s (Changes taken by) (changes n j ch) = (taken ≡ n) × IsChange s by j ch
IsEffect class s (Trades by) (trades j ch dh) = IsTrade s by j ch dh
IsEffect class s (Inserts elements) (inserts xs) = AreInserted class xs elements.items
IsEffect class s (Appends container numbers) (appends j xs) = (container ≡ j) × (map (converted Int) xs ≡ numbers.items)
IsEffect class s (Makes taken room elements) (makes n size xs) = (taken ≡ n) × ((room ≡ size) × (map new_element xs ≡ elements.items))
IsEffect class s (MakesByKeys taken room elements) (makes_by_keys n size xs) = (taken ≡ n) × ((room ≡ size) × AreInserted class xs elements.items)
IsEffect class s code e = ⊥
