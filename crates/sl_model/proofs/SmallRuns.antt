-- Over the library without the calls that leave more than n elements in a container none ever has more. So it is in the run of a text that stays
-- small.
use Rattle.std.proofs.Common.{◌≡◌, refl, sym, subst, ℕ, zero, suc, Bool, true, false, List, [], ◌∷◌, length, Option, Some, None}
use Rattle.std.specs.Prelude.{ℤ, take, nat_le, slice_get, slice_set, if◌then◌else◌}
use Rattle.std.specs.List.{list_all}
use Rattle.std.proofs.lemmas.Bool.{and_from}
use Rattle.std.proofs.lemmas.List.{length-set}
use Rattle.sl_base.specs.declared.limits.TheConstants.{CALLS, WINDOW}
use Rattle.sl_base.specs.declared.scalar.Scalar.TheVariants as t
use Rattle.sl_syntax.specs.declared.typed.callee.Callee.{Callee}
use Rattle.sl_syntax.specs.Typed.{Typed}
use Rattle.sl_model.specs.Numbers.{converted}
use Rattle.sl_model.specs.Memory.Containers.{Cell, Cont, Memory, Part, size, end_from, with_part, is_writable, cells_with, cont_with, write_element}
use Rattle.sl_model.specs.LibraryCalls.Values.{Value, Args, LibOut, trapped, thrown, faulted, gives, unbuilt}
use Rattle.sl_model.specs.LibraryCalls.Library.{lib}
use Rattle.sl_model.specs.Runs.Eval.{Out}
use Rattle.sl_model.specs.Runs.Run.{empty_state, first_place, main_out}
use Rattle.sl_model.specs.Reports.Decided.{decided_steps, holds_at_most, unless_above, lib_within, stays_small}
use Rattle.sl_model.proofs.Passing.{first_of_both, second_of_both, passes_at}
use Rattle.sl_model.proofs.Keeps.{InAnswer, InOut}
use Rattle.sl_model.proofs.KeepsCalls.{in_call}
use Rattle.sl_model.proofs.LackingCalls.{small_is_same}

-- no container of a memory has more than n elements
abbrev pub IsSmall : ℕ → Memory → Type 0
IsSmall n m = holds_at_most n m ≡ true

-- of a list that passes a test a first part does
take_passes : {X : Type 0} (test : X → Bool) (n : ℕ) (xs : List X) → list_all test xs ≡ true → list_all test (take n xs) ≡ true
take_passes test zero xs h = refl
take_passes test (suc n) [] h = refl
take_passes test (suc n) (x ∷ xs) h = and_from (test x) (list_all test (take n xs)) (first_of_both (test x) (list_all test xs) h)
    (take_passes test n xs (second_of_both (test x) (list_all test xs) h))

-- a list that passes a test does with another item that passes it
set_passes : {X : Type 0} (test : X → Bool) (xs : List X) (i : ℕ) (y : X) → test y ≡ true → list_all test xs ≡ true
    → list_all test (slice_set xs i y) ≡ true
set_passes test [] i y k h = refl
set_passes test (x ∷ xs) zero y k h = and_from (test y) (list_all test xs) k (second_of_both (test x) (list_all test xs) h)
set_passes test (x ∷ xs) (suc i) y k h = and_from (test x) (list_all test (slice_set xs i y)) (first_of_both (test x) (list_all test xs) h)
    (set_passes test xs i y k (second_of_both (test x) (list_all test xs) h))

-- a number that is written leaves as many elements
length-cells_with : (cells : List Cell) (k : ℕ) (part : Part) (z : ℤ) → length (cells_with cells k part z) ≡ length cells
length-cells_with cells k part z = elim (slice_get cells k) as (λ (o : Option Cell). length (elim o as (λ _. List Cell) [
  | None ↦ cells
  | Some x ↦ slice_set cells k (with_part part (converted t.Int z) x)
]) ≡ length cells)
    [ None ↦ refl | Some x ↦ length-set cells k (with_part part (converted t.Int z) x) ]

-- and a container of the same size
size-cont_with : (c : Cont) (k : ℕ) (part : Part) (z : ℤ) → size (cont_with c k part z) ≡ size c
size-cont_with c k part z = elim (is_writable c.form part) as (λ b. size (if b then record c { cells = cells_with c.cells k part z } else c) ≡ size c)
    [ true ↦ length-cells_with c.cells k part z | false ↦ refl ]

-- a small memory is small with a number written in a container, if that is there
written-small : (n : ℕ) (m : Memory) (j k : ℕ) (part : Part) (z : ℤ) (o : Option Cont) → slice_get m.conts j ≡ o → IsSmall n m
    → IsSmall n (elim o as (λ _. Memory) [ None ↦ m | Some c ↦ record m { conts = slice_set m.conts j (cont_with c k part z) } ])
written-small n m j k part z None e h = h
written-small n m j k part z (Some c) e h = set_passes (λ x. nat_le (size x) n) m.conts j (cont_with c k part z)
    (subst (λ i. nat_le i n ≡ true) (sym (size-cont_with c k part z)) (passes_at (λ x. nat_le (size x) n) m.conts j c h e)) h

-- a small memory is small with a number written
pub write-small : (n : ℕ) (m : Memory) (j k : ℕ) (part : Part) (z : ℤ) → IsSmall n m → IsSmall n (write_element m j k part z)
write-small n m j k part z h = written-small n m j k part z (slice_get m.conts j) refl h

-- it is small where containers end
pub end_from-small : (n site j : ℕ) (m : Memory) → IsSmall n m → IsSmall n (end_from site j m)
end_from-small n site j m h = take_passes (λ x. nat_le (size x) n) j m.conts h

-- an answer is given only with a small memory
given-small : (n : ℕ) (v : Value) (m : Memory) (picks : List ℕ) (b : Bool) → holds_at_most n m ≡ b
    → InAnswer (IsSmall n) (if b then gives v m picks else unbuilt)
given-small n v m picks true e = e
given-small n v m picks false e = tt

-- an answer leaves a small memory
answer-small : (n : ℕ) (o : LibOut) → InAnswer (IsSmall n) (unless_above n o)
answer-small n (trapped kind a) = tt
answer-small n thrown = tt
answer-small n (faulted w) = tt
answer-small n (gives v m picks) = given-small n v m picks (holds_at_most n m) refl
answer-small n unbuilt = tt

-- over that library each call leaves a small memory small
pub within-small : (n : ℕ) (callee : Callee) (a : Args) (m : Memory) (picks : List ℕ) → IsSmall n m
    → InAnswer (IsSmall n) (lib_within n callee a m picks)
within-small n callee a m picks h = answer-small n (lib callee a m picks)

-- the run of a text that stays small ends in a small memory
pub ends_small : (p : Typed) → stays_small p ≡ true → InOut (IsSmall WINDOW) (main_out p [] [] decided_steps)
ends_small p h = subst (λ (x : Out). InOut (IsSmall WINDOW) x) (small_is_same p h)
    (in_call (IsSmall WINDOW) (lib_within WINDOW) (within-small WINDOW) (write-small WINDOW) (end_from-small WINDOW) CALLS p p.main first_place []
    (empty_state [] [] decided_steps) refl)
