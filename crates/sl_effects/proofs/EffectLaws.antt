-- What an effect of each kind leaves, as the effect of the model that has the same numbers.
use Rattle.std.proofs.Common.{◌≡◌, ℕ, ℤ, true, List, map, sym, subst, Vec, Global}
use Rattle.sl_base.specs.declared.form.Form.{Form}
use Rattle.sl_base.specs.declared.scalar.Scalar.TheVariants.{Int}
use Rattle.sl_specs.specs.declared.class.Class.{Class}
use Rattle.sl_model.specs.Numbers.{converted}
use Rattle.sl_model.specs.Memory.Classes.{Edit as EditData}
use Rattle.sl_model.specs.Memory.Containers.{cont_at}
use Rattle.sl_model.specs.Memory.Edits.{Change}
use Rattle.sl_model.specs.Runs.State.{Pointer}
use Rattle.sl_model.specs.LibraryCalls.Values.{Value}
use Rattle.sl_model.specs.LibraryCalls.Situation.{Situation}
use Rattle.sl_model.specs.LibraryCalls.Actions.{Effect as EffectData, edits, changes, trades, inserts, appends, makes, makes_by_keys}
use Rattle.sl_model.specs.LibraryCalls.Effects.{does}
use Rattle.sl_model.proofs.FineEffects.{IsFine}
use Rattle.sl_slots.specs.declared.edit.Edit.{Edit}
use Rattle.sl_slots.specs.declared.container.Element.{Element}
use Rattle.sl_slots.specs.declared.rearrangement.Rearrangement.{Rearrangement}
use Rattle.sl_slots.specs.declared.store.Store.{Store}
use Rattle.sl_slots.specs.declared.trade.Trade.{Trade}
use Rattle.sl_slots.specs.Rearranging.{IsRearranged}
use Rattle.sl_slots.specs.Shown.{new_element}
use Rattle.sl_slots.specs.Stored.{IsEdit}
use Rattle.sl_slots.specs.Trading.{IsSide}
use Rattle.sl_effects.specs.declared.effect.Effect.TheVariants.{Edits, Changes, Trades, Inserts, Appends, Makes, MakesByKeys}
use Rattle.sl_effects.specs.declared.picks.Picks.{Picks}
use Rattle.sl_effects.specs.Carried.{AreKeyed, Carries, is_key_class}
use Rattle.sl_effects.specs.Effects.{IsEffect}

module _ (form : Form) (class : Class) (s : Situation) (new : Store) (later : Picks) (ps : List Pointer) (vs : List Value) where
  -- the store and the picks carry what an effect leaves
  abbrev Leaves : EffectData → Type 0
  Leaves e = Carries new later (does form class s e) ps vs

  pub edits_carried : (taken : ℕ) (code : Edit) (come : Vec Element Global) (e : EffectData) → IsEffect class s (Edits taken code come) e
      → IsFine class s e
      → ((e : EditData) → IsEdit e code come.items → IsFine code.class s (edits taken e)
      → Carries new later (does form code.class s (edits taken e)) ps vs)
      → Leaves e
  edits_carried taken code come (edits n e) is fine shows = subst (λ (k : ℕ). Leaves (edits k e)) is.0
      (subst (λ (k : Class). Carries new later (does form k s (edits taken e)) ps vs) is.1.0
      (shows e is.1.1 (subst (λ (k : Class). IsFine k s (edits taken e)) (sym is.1.0) fine)))
  edits_carried taken code come e is fine shows = absurd is

  pub changes_carried : (taken : ℕ) (by : Rearrangement) (e : EffectData) → IsEffect class s (Changes taken by) e → IsFine class s e
      → ((ch : Change) → IsRearranged by (cont_at s.memory by.container) ch → IsFine class s (changes taken by.container ch)
      → Leaves (changes taken by.container ch))
      → Leaves e
  changes_carried taken by (changes n j ch) is fine shows = subst (λ (k : ℕ). Leaves (changes k j ch)) is.0
      (subst (λ (i : ℕ). Leaves (changes taken i ch)) is.1.container
      (shows ch (subst (λ (i : ℕ). IsRearranged by (cont_at s.memory i) ch) (sym is.1.container) is.1.change)
      (subst (λ (i : ℕ). IsFine class s (changes taken i ch)) (sym is.1.container) fine)))
  changes_carried taken by e is fine shows = absurd is

  pub trades_carried : (by : Trade) (e : EffectData) → IsEffect class s (Trades by) e → IsFine class s e → by.first.container ≡ s.object
      → ((ch dh : Change) → IsSide by.first by.ends (cont_at s.memory by.first.container) ch
      → IsSide by.second by.ends (cont_at s.memory by.second.container) dh
      → IsFine class s (trades by.second.container ch dh) → Leaves (trades by.second.container ch dh))
      → Leaves e
  trades_carried by (trades j ch dh) is fine on shows = subst (λ (i : ℕ). Leaves (trades i ch dh)) is.container
      (shows ch dh (subst (λ (i : ℕ). IsSide by.first by.ends (cont_at s.memory i) ch) (sym on) is.first)
      (subst (λ (i : ℕ). IsSide by.second by.ends (cont_at s.memory i) dh) (sym is.container) is.second)
      (subst (λ (i : ℕ). IsFine class s (trades i ch dh)) (sym is.container) fine))
  trades_carried by e is fine on shows = absurd is

  pub inserts_carried : (elements : Vec Element Global) (e : EffectData) → IsEffect class s (Inserts elements) e → IsFine class s e
      → ((xs : List (ℤ × ℤ)) → is_key_class class ≡ true → AreKeyed xs elements.items → IsFine class s (inserts xs) → Leaves (inserts xs))
      → Leaves e
  inserts_carried elements (inserts xs) is fine shows = shows xs is.of_keys is.keyed fine
  inserts_carried elements e is fine shows = absurd is

  pub appends_carried : (container : ℕ) (numbers : Vec ℤ Global) (e : EffectData) → IsEffect class s (Appends container numbers) e → IsFine class s e
      → ((xs : List ℤ) → map (converted Int) xs ≡ numbers.items → IsFine class s (appends container xs) → Leaves (appends container xs))
      → Leaves e
  appends_carried container numbers (appends j xs) is fine shows = subst (λ (i : ℕ). Leaves (appends i xs)) is.0
      (shows xs is.1 (subst (λ (i : ℕ). IsFine class s (appends i xs)) (sym is.0) fine))
  appends_carried container numbers e is fine shows = absurd is

  pub makes_carried : (taken room : ℕ) (elements : Vec Element Global) (e : EffectData) → IsEffect class s (Makes taken room elements) e
      → IsFine class s e
      → ((xs : List (ℤ × ℤ)) → map new_element xs ≡ elements.items → IsFine class s (makes taken room xs) → Leaves (makes taken room xs))
      → Leaves e
  makes_carried taken room elements (makes n size xs) is fine shows = subst (λ (k : ℕ). Leaves (makes k size xs)) is.0
      (subst (λ (r : ℕ). Leaves (makes taken r xs)) is.1.0 (shows xs is.1.1 fine))
  makes_carried taken room elements e is fine shows = absurd is

  pub makes_by_keys_carried : (taken room : ℕ) (elements : Vec Element Global) (e : EffectData)
      → IsEffect class s (MakesByKeys taken room elements) e → IsFine class s e
      → ((xs : List (ℤ × ℤ)) → is_key_class class ≡ true → AreKeyed xs elements.items → IsFine class s (makes_by_keys taken room xs)
      → Leaves (makes_by_keys taken room xs))
      → Leaves e
  makes_by_keys_carried taken room elements (makes_by_keys n size xs) is fine shows = subst (λ (k : ℕ). Leaves (makes_by_keys k size xs)) is.0
      (subst (λ (r : ℕ). Leaves (makes_by_keys taken r xs)) is.1.0 (shows xs is.1.1.of_keys is.1.1.keyed fine))
  makes_by_keys_carried taken room elements e is fine shows = absurd is
