-- The slots of marks among lists that are kept apart, and what becomes of them where the lists change.
use Rattle.std.proofs.Common.{◌≡◌, ℕ, ◌<◌, List, Option, Some, None, map, refl, ap, ◌∙◌}
use Rattle.sl_model.specs.Memory.Containers.{Grave, Memory, stamps, refers, found, killer_of}
use Rattle.sl_model.specs.Runs.Good.{Stands as StandsIn, AreKeptApart, IsSound}
use Rattle.sl_model.proofs.Apart.{StandsSomewhere}
use Rattle.sl_model.proofs.Buried.{killer_is}
use Rattle.sl_model.proofs.Located.{at_stands, stands_at, refers_stands, stands_refers, locate-at, at-locate, refer-at, at-refer}
use Rattle.sl_slots.specs.declared.slot.Slot.TheVariants.{Stands, Gone}
use Rattle.sl_slots.specs.Shown.{slot_from, slot_in}
use Rattle.sl_slots.specs.Fates.{Fate, slot_after}

-- marks that are kept apart are found where they stand
pub record AreFound (lists : List (List ℕ)) (graves : List Grave) (fresh : ℕ) : Type 0 where
  pub apart : AreKeptApart lists graves fresh
  pub finds : (j k s : ℕ) → StandsIn lists j k s → found s 0 lists ≡ Some (j, k)
  pub stands : (s : ℕ) (at : ℕ × ℕ) → found s 0 lists ≡ Some at → StandsIn lists at.0 at.1 s

-- so are the stamps of a sound memory
pub stamps_found : (m : Memory) → IsSound m → AreFound (map stamps m.conts) m.graves m.fresh
stamps_found m sound = record {
  apart = sound.stamps_apart;
  finds = λ j k s h. locate-at m j k s sound (stands_at m j k s h);
  stands = λ s at h. at_stands m at.0 at.1 s (at-locate m s at h);
}

-- and its refers
pub refers_found : (m : Memory) → IsSound m → AreFound (map refers m.conts) m.lost m.fresh
refers_found m sound = record {
  apart = sound.refers_apart;
  finds = λ j k s h. refer-at m j k s sound (stands_refers m j k s h);
  stands = λ s at h. refers_stands m at.0 at.1 s (at-refer m s at h);
}

module _ (lists : List (List ℕ)) (graves : List Grave) (fresh : ℕ) (is : AreFound lists graves fresh) where
  -- the slot of what stands
  pub slot-stands : (j k s : ℕ) → StandsIn lists j k s → slot_in lists graves s ≡ Stands j k
  slot-stands j k s h = ap (λ (o : Option (ℕ × ℕ)). slot_from o (killer_of s graves)) (is.finds j k s h)

  -- the slot of what stands nowhere
  pub slot-nowhere : (s : ℕ) → ((j k : ℕ) → StandsIn lists j k s → ⊥) → slot_in lists graves s ≡ Gone (killer_of s graves)
  slot-nowhere s h = by_place (found s 0 lists) refl
    where
      by_place : (o : Option (ℕ × ℕ)) → found s 0 lists ≡ o → slot_from o (killer_of s graves) ≡ Gone (killer_of s graves)
      by_place None e = refl
      by_place (Some at) e = absurd (h at.0 at.1 (is.stands s at e))

  -- the slot of what was dropped
  pub slot-gone : (s site : ℕ) → killer_of s graves ≡ Some site → slot_in lists graves s ≡ Gone (Some site)
  slot-gone s site e =
      slot-nowhere s (λ j k h. is.apart.dead j k s site h (killer_is s graves site e)) ∙ ap (λ (o : Option ℕ). Gone o) e

-- What becomes of marks where lists change: what stood takes its fate, what stands then stood before, as far as it was used, and what
-- stood nowhere has the site that it had.
pub record Fares (lists later : List (List ℕ)) (graves buried : List Grave) (fresh : ℕ) (fate : Fate) : Type 0 where
  pub stood : (j k s : ℕ) → StandsIn lists j k s → slot_in later buried s ≡ fate j k
  pub came : (j k s : ℕ) → s < fresh → StandsIn later j k s → StandsSomewhere lists s
  pub dropped : (s : ℕ) → (StandsSomewhere lists s → ⊥) → killer_of s buried ≡ killer_of s graves

-- then the slot of each mark that was used takes its fate
pub slot-fares : (lists later : List (List ℕ)) (graves buried : List Grave) (fresh top : ℕ) (fate : Fate) → AreFound lists graves fresh
    → AreFound later buried top → Fares lists later graves buried fresh fate → (s : ℕ) → s < fresh
    → slot_in later buried s ≡ slot_after fate (slot_in lists graves s)
slot-fares lists later graves buried fresh top fate is is' fares s used = by_place (found s 0 lists) refl
  where
    no_place : found s 0 lists ≡ None → StandsSomewhere lists s → ⊥
    no_place e r = let q = is.finds r.0 r.1 s r.2 in cc

    by_place : (o : Option (ℕ × ℕ)) → found s 0 lists ≡ o
        → slot_in later buried s ≡ slot_after fate (slot_from o (killer_of s graves))
    by_place None e =
        slot-nowhere later buried top is' s (λ j k h. no_place e (fares.came j k s used h))
        ∙ ap (λ (o : Option ℕ). Gone o) (fares.dropped s (no_place e))
    by_place (Some at) e = fares.stood at.0 at.1 s (is.stands s at e)
