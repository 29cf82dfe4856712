-- What an edit invalidates and moves goes by its numbers alone.
use Rattle.std.proofs.Common.{◌≡◌, ℕ, ◌+◌, ◌-◌, ◌<◌, ◌≤◌, ◌++◌, true, false, length, refl, ap, arith, ◌⊎◌, inl, inr, ⊎_elim}
use Rattle.std.proofs.lemmas.Bool.{both_ways, cases_lt}
use Rattle.sl_specs.specs.declared.class.Class.{Class}
use Rattle.sl_specs.specs.declared.class.Class.TheVariants as classes
use Rattle.sl_model.specs.Memory.Classes.{Edit, Fits, kills, loses}
use Rattle.sl_model.specs.Memory.Containers.{Cont, size}
use Rattle.sl_model.specs.Memory.Edits.{olds, news, numbers, change_of}
use Rattle.sl_model.proofs.Counts.{own-append, own-news, times-outside}
use Rattle.sl_model.proofs.FairChanges.{own_olds}
use Rattle.sl_model.proofs.Places.{times, own_places, CountsFair}

-- two edits of containers with the same numbers
pub record AreAlike (n room n' room' : ℕ) (e e' : Edit) : Type 0 where
  pub sizes : n ≡ n'
  pub rooms : room ≡ room'
  pub from : e.from ≡ e'.from
  pub gone : e.gone ≡ e'.gone
  pub come : length e.come ≡ length e'.come
  pub new_rooms : e.room ≡ e'.room

-- they invalidate the same iterators
pub kills-alike : (class : Class) (n room n' room' : ℕ) (e e' : Edit) (k : ℕ) → AreAlike n room n' room' e e'
    → kills class n room e k ≡ kills class n' room' e' k
kills-alike classes.Nothing n room n' room' e e' k h = refl
kills-alike classes.VectorInsert n room n' room' e e' k h = let a = h.sizes in let b = h.rooms in let c = h.from in let d = h.come in cc
kills-alike classes.VectorErase n room n' room' e e' k h = let c = h.from in let d = h.gone in cc
kills-alike classes.VectorReserve n room n' room' e e' k h = let c = h.rooms in let d = h.new_rooms in cc
kills-alike classes.VectorResize n room n' room' e e' k h =
    let a = h.sizes in let b = h.rooms in let c = h.from in let d = h.come in let g = h.gone in cc
kills-alike classes.DequeResize n room n' room' e e' k h = let a = h.sizes in let c = h.from in let d = h.come in let g = h.gone in cc
kills-alike classes.DequeInsert n room n' room' e e' k h = let d = h.come in cc
kills-alike classes.DequeErase n room n' room' e e' k h = let a = h.sizes in let c = h.from in let g = h.gone in cc
kills-alike classes.ErasedOnly n room n' room' e e' k h = let c = h.from in let g = h.gone in cc
kills-alike classes.HashInsert n room n' room' e e' k h = let a = h.sizes in let b = h.rooms in let d = h.come in cc
kills-alike classes.HashReserve n room n' room' e e' k h = refl
kills-alike classes.AllAndEnd n room n' room' e e' k h = refl
kills-alike classes.Swap n room n' room' e e' k h = let a = h.sizes in cc

-- and the same references
pub loses-alike : (class : Class) (n room n' room' : ℕ) (e e' : Edit) (k : ℕ) → AreAlike n room n' room' e e'
    → loses class n room e k ≡ loses class n' room' e' k
loses-alike classes.Nothing n room n' room' e e' k h = refl
loses-alike classes.VectorInsert n room n' room' e e' k h = kills-alike classes.VectorInsert n room n' room' e e' k h
loses-alike classes.VectorErase n room n' room' e e' k h = kills-alike classes.VectorErase n room n' room' e e' k h
loses-alike classes.VectorReserve n room n' room' e e' k h = kills-alike classes.VectorReserve n room n' room' e e' k h
loses-alike classes.VectorResize n room n' room' e e' k h = kills-alike classes.VectorResize n room n' room' e e' k h
loses-alike classes.DequeResize n room n' room' e e' k h = let a = h.sizes in let c = h.from in let d = h.come in let g = h.gone in cc
loses-alike classes.DequeInsert n room n' room' e e' k h = let a = h.sizes in let c = h.from in let d = h.come in cc
loses-alike classes.DequeErase n room n' room' e e' k h = let a = h.sizes in let c = h.from in let g = h.gone in cc
loses-alike classes.ErasedOnly n room n' room' e e' k h = kills-alike classes.ErasedOnly n room n' room' e e' k h
loses-alike classes.HashInsert n room n' room' e e' k h = refl
loses-alike classes.HashReserve n room n' room' e e' k h = refl
loses-alike classes.AllAndEnd n room n' room' e e' k h = refl
loses-alike classes.Swap n room n' room' e e' k h = refl

module _ (class : Class) (c : Cont) (e : Edit) (fits : Fits e (size c)) (fair : CountsFair c (change_of class c e)) where
  -- the elements behind those that go
  abbrev rest : ℕ
  rest = size c - (e.from + e.gone)

  -- a place from which an element goes isn't taken
  not_taken : (k : ℕ) → e.from ≤ k → k < e.from + e.gone → times k (own_places (change_of class c e).sources) ≡ 0
  not_taken k low high =
      let f : e.from + e.gone ≤ size c = fits in
      let a : times k (own_places (olds 0 e.from ++ (news e.come ++ olds (e.from + e.gone) rest)))
      ≡ times k (own_places (olds 0 e.from)) + times k (own_places (news e.come ++ olds (e.from + e.gone) rest)) =
      own-append k (olds 0 e.from) (news e.come ++ olds (e.from + e.gone) rest) in
      let b : times k (own_places (news e.come ++ olds (e.from + e.gone) rest))
      ≡ times k (own_places (news e.come)) + times k (own_places (olds (e.from + e.gone) rest)) =
      own-append k (news e.come) (olds (e.from + e.gone) rest) in
      let n : times k (own_places (news e.come)) ≡ 0 = ap (times k) (own-news e.come) in
      let o : times k (own_places (olds 0 e.from)) ≡ times k (numbers 0 e.from) = own_olds k 0 e.from in
      let p : times k (own_places (olds (e.from + e.gone) rest)) ≡ times k (numbers (e.from + e.gone) rest) = own_olds k (e.from + e.gone) rest in
      let q : times k (numbers 0 e.from) ≡ 0 = times-outside k 0 e.from (inr (omega arith)) in
      let r : times k (numbers (e.from + e.gone) rest) ≡ 0 = times-outside k (e.from + e.gone) rest (inl high) in
      omega arith

  -- what goes is invalidated
  pub gone_dies : (k : ℕ) → e.from ≤ k → k < e.from + e.gone
      → (kills class (size c) c.room e k ≡ true) × (loses class (size c) c.room e k ≡ true)
  gone_dies k low high = let f : e.from + e.gone ≤ size c = fits in fair.dies k (omega arith) (not_taken k low high)

  -- so what isn't invalidated stands before or behind what goes
  pub outside_gone : (k : ℕ) → (kills class (size c) c.room e k ≡ false) ⊎ (loses class (size c) c.room e k ≡ false)
      → (k < e.from) ⊎ (e.from + e.gone ≤ k)
  outside_gone k lives = ⊎_elim (λ (a : k < e.from). inl a)
      (λ (b : e.from ≤ k). ⊎_elim (λ (x : k < e.from + e.gone). absurd (dead b x lives)) (λ (y : e.from + e.gone ≤ k). inr y)
      (cases_lt k (e.from + e.gone)))
      (cases_lt k e.from)
    where
      dead : e.from ≤ k → k < e.from + e.gone
          → (kills class (size c) c.room e k ≡ false) ⊎ (loses class (size c) c.room e k ≡ false) → ⊥
      dead low high (inl a) = both_ways (kills class (size c) c.room e k) a (gone_dies k low high).0
      dead low high (inr a) = both_ways (loses class (size c) c.room e k) a (gone_dies k low high).1
