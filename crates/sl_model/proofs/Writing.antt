-- A number that is written in an element leaves all marks where they are.
use Rattle.std.proofs.Common.{◌≡◌, ◌≢◌, ℕ, zero, suc, ◌≤◌, Bool, true, false, List, [], ◌∷◌, ◌++◌, Option, Some, None, length, map, refl, ap, sym, ◌∙◌}
use Rattle.std.proofs.Common.{arith, ℤ, ⊎_elim, subst, if◌then◌else◌}
use Rattle.std.specs.List.{slice_get, slice_set}
use Rattle.std.proofs.Math.ListN.{length-set}
use Rattle.std.proofs.lemmas.Bool.{cases_eq}
use Rattle.sl_base.specs.declared.limits.TheConstants.{ELEMENTS}
use Rattle.sl_base.specs.declared.scalar.Scalar.TheVariants as t
use Rattle.sl_model.specs.Numbers.{converted}
use Rattle.sl_model.specs.Memory.Containers.{Cell, Cont, Memory, size, stamps, refers, Part, key_part, value_part, with_part, is_writable, cells_with}
use Rattle.sl_model.specs.Memory.Containers.{cont_with, write_element}
use Rattle.sl_model.specs.Runs.Good.{AreKeptApart, IsSound}
use Rattle.sl_model.proofs.Getting.{get_set_same, get_set_other, get_within}

-- setting what is there already changes nothing
set_there : {A : Type 0} (xs : List A) (j : ℕ) (x : A) → slice_get xs j ≡ Some x → slice_set xs j x ≡ xs
set_there [] j x h = refl
set_there (y ∷ xs) zero x h = let e : y ≡ x = cc in ap (λ z. z ∷ xs) (sym e)
set_there (y ∷ xs) (suc j) x h = ap (λ l. y ∷ l) (set_there xs j x h)

-- what a function makes of a list in which an element is replaced by one of which it makes the same
map_same : {A B : Type 0} (f : A → B) (xs : List A) (j : ℕ) (x y : A) → slice_get xs j ≡ Some x → f y ≡ f x → map f (slice_set xs j y) ≡ map f xs
map_same f [] j x y h e = refl
map_same f (z ∷ xs) zero x y h e = let q : z ≡ x = cc in ap (λ w. w ∷ map f xs) (e ∙ ap f (sym q))
map_same f (z ∷ xs) (suc j) x y h e = ap (λ l. f z ∷ l) (map_same f xs j x y h e)

-- an element with a number written has the marks that it had
part-stamp : (part : Part) (z : ℤ) (x : Cell) → (with_part part z x).stamp ≡ x.stamp
part-stamp key_part z x = refl
part-stamp value_part z x = refl

part-refer : (part : Part) (z : ℤ) (x : Cell) → (with_part part z x).refer ≡ x.refer
part-refer key_part z x = refl
part-refer value_part z x = refl

-- what a function of marks makes of elements of which one has a number written
cells-same : (f : Cell → ℕ) → ((part : Part) (z : ℤ) (x : Cell) → f (with_part part z x) ≡ f x) → (cells : List Cell) (k : ℕ) (part : Part) (z : ℤ)
    → map f (cells_with cells k part z) ≡ map f cells
cells-same f same cells k part z = by_cell (slice_get cells k) refl
  where
    by_cell : (o : Option Cell) → slice_get cells k ≡ o
        → map f (elim o as (λ _. List Cell) [ None ↦ cells | Some x ↦ slice_set cells k (with_part part (converted t.Int z) x) ]) ≡ map f cells
    by_cell None e = refl
    by_cell (Some x) e = map_same f cells k x (with_part part (converted t.Int z) x) e (same part (converted t.Int z) x)

-- there are as many
cells-count : (cells : List Cell) (k : ℕ) (part : Part) (z : ℤ) → length (cells_with cells k part z) ≡ length cells
cells-count cells k part z = by_cell (slice_get cells k)
  where
    by_cell : (o : Option Cell)
        → length (elim o as (λ _. List Cell) [ None ↦ cells | Some x ↦ slice_set cells k (with_part part (converted t.Int z) x) ]) ≡ length cells
    by_cell None = refl
    by_cell (Some x) = length-set cells k (with_part part (converted t.Int z) x)

-- two containers have the same marks and as many elements
pub record HaveSameMarks (c d : Cont) : Type 0 where
  pub stamps_same : stamps c ≡ stamps d
  pub refers_same : refers c ≡ refers d
  pub size_same : size c ≡ size d

-- a container with a number written has the marks that it had
pub cont_with-same : (c : Cont) (k : ℕ) (part : Part) (z : ℤ) → HaveSameMarks (cont_with c k part z) c
cont_with-same c k part z = by_test (is_writable c.form part)
  where
    by_test : (b : Bool) → HaveSameMarks (if b then record c { cells = cells_with c.cells k part z } else c) c
    by_test true = record {
      stamps_same = ap (λ l. l ++ c.end ∷ []) (cells-same (λ (x : Cell). x.stamp) part-stamp c.cells k part z);
      refers_same = cells-same (λ (x : Cell). x.refer) part-refer c.cells k part z;
      size_same = cells-count c.cells k part z;
    }
    by_test false = record { stamps_same = refl; refers_same = refl; size_same = refl }

-- a memory in which a container is replaced by one with the same marks is sound
pub same-sound : (m : Memory) (j : ℕ) (c d : Cont) → slice_get m.conts j ≡ Some c → HaveSameMarks d c → IsSound m
    → IsSound (record m { conts = slice_set m.conts j d })
same-sound m j c d there same sound = record {
  stamps_apart = subst (λ l. AreKeptApart l m.graves m.fresh) (sym (map_same (λ (x : Cont). stamps x) m.conts j c d there same.stamps_same))
      sound.stamps_apart;
  refers_apart = subst (λ l. AreKeptApart l m.lost m.fresh) (sym (map_same (λ (x : Cont). refers x) m.conts j c d there same.refers_same))
      sound.refers_apart;
  small = λ i e h. ⊎_elim
      (λ (q : j ≡ i).
      let a : Some d ≡ Some e = sym (get_set_same m.conts j d (get_within m.conts j c there)) ∙ (ap (slice_get (slice_set m.conts j d)) q ∙ h) in
      let r : d ≡ e = cc in
      let s : size d ≡ size e = ap (λ (x : Cont). size x) r in
      let t : size d ≡ size c = same.size_same in
      let u : size c ≤ ELEMENTS = sound.small j c there in
      omega arith)
      (λ (n : j ≢ i). sound.small i e (sym (get_set_other m.conts j i d n) ∙ h))
      (cases_eq j i);
}

-- a written number leaves a sound memory sound
pub write-sound : (m : Memory) (j k : ℕ) (part : Part) (z : ℤ) → IsSound m → IsSound (write_element m j k part z)
write-sound m j k part z sound = by_cont (slice_get m.conts j) refl
  where
    by_cont : (o : Option Cont) → slice_get m.conts j ≡ o
        → IsSound (elim o as (λ _. Memory) [ None ↦ m | Some c ↦ record m { conts = slice_set m.conts j (cont_with c k part z) } ])
    by_cont None e = sound
    by_cont (Some c) e = same-sound m j c (cont_with c k part z) e (cont_with-same c k part z) sound

-- it leaves as many containers
pub write-count : (m : Memory) (j k : ℕ) (part : Part) (z : ℤ) → length (write_element m j k part z).conts ≡ length m.conts
write-count m j k part z = by_cont (slice_get m.conts j)
  where
    by_cont : (o : Option Cont)
        → length (elim o as (λ _. Memory) [ None ↦ m | Some c ↦ record m { conts = slice_set m.conts j (cont_with c k part z) } ]).conts
        ≡ length m.conts
    by_cont None = refl
    by_cont (Some c) = length-set m.conts j (cont_with c k part z)

-- and what was never used
pub write-fresh : (m : Memory) (j k : ℕ) (part : Part) (z : ℤ) → (write_element m j k part z).fresh ≡ m.fresh
write-fresh m j k part z = by_cont (slice_get m.conts j)
  where
    by_cont : (o : Option Cont)
        → (elim o as (λ _. Memory) [ None ↦ m | Some c ↦ record m { conts = slice_set m.conts j (cont_with c k part z) } ]).fresh ≡ m.fresh
    by_cont None = refl
    by_cont (Some c) = refl
