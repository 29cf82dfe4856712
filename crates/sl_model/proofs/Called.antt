-- What is known where a row is carried out: its object is there, and the operands are of its sorts. What holds of an unbuilt call, and
-- of each call of a row where that is known, holds of each call of the row.
use Rattle.std.proofs.Common.{◌≡◌, ℕ, ◌<◌, Bool, true, false, List, [], Option, Some, None, length, refl, ap, sym, ◌∙◌}
use Rattle.std.proofs.Common.{if◌then◌else◌}
use Rattle.std.specs.List.{slice_get}
use Rattle.std.proofs.lemmas.Option.{get_or_from_slice_get}
use Rattle.sl_base.specs.declared.form.Form.{Form}
use Rattle.sl_base.specs.declared.form.Form.TheVariants as f
use Rattle.sl_base.specs.contracts.form.Form.{the_type}
use denote.Enum.Bare.{same_true}
use Rattle.sl_specs.specs.Forms.{same_form}
use Rattle.sl_model.specs.Memory.Containers.{Cont, Memory}
use Rattle.sl_model.specs.LibraryCalls.Values.{Args, LibOut, unbuilt}
use Rattle.sl_model.specs.LibraryCalls.Operands.{is_of_form, are_of}
use Rattle.sl_model.specs.LibraryCalls.Situation.{Situation, own, container_of}
use Rattle.sl_model.specs.LibraryCalls.Rows.{Object, of_form, new_one, of_first, Row}
use Rattle.sl_model.specs.LibraryCalls.Library.{object_in, row_out, on_object, called_row}
use Rattle.sl_model.proofs.Getting.{get_within}

-- two forms that are one
pub one_form : (x y : Form) → same_form x y ≡ true → x ≡ y
one_form x y h = same_true the_type tt x y h

-- the object of a call is there
abbrev pub HasObject : Object → Situation → Type 0
HasObject (of_form form) s = is_of_form form (slice_get s.memory.conts s.object) ≡ true
HasObject (new_one form) s = s.object ≡ length s.memory.conts
HasObject of_first s = s.object ≡ container_of s 1

-- a row is called: its object is there, and the operands are of its sorts
pub record IsCalled (r : Row) (s : Situation) : Type 0 where
  pub object : HasObject r.object s
  pub operands : are_of s.memory r.operands s.values ≡ true

-- a call in a memory with an object
abbrev pub situation : Args → Memory → List ℕ → ℕ → Situation
situation a m picks j = record { memory = m; object = j; values = a.values; picks = picks; site = a.site }

-- the object that a call has is there
pub has_object : (a : Args) (m : Memory) (picks : List ℕ) (o : Object) (given : Option ℕ) (j : ℕ) → object_in m o given a.values ≡ Some j
    → HasObject o (situation a m picks j)
has_object a m picks (of_form form) None j e = absurd (cc)
has_object a m picks (of_form form) (Some i) j e = by_form (is_of_form form (slice_get m.conts i)) refl e
  where
    by_form : (b : Bool) → is_of_form form (slice_get m.conts i) ≡ b → (if b then Some i else None) ≡ Some j
        → is_of_form form (slice_get m.conts j) ≡ true
    by_form true t g = let same : i ≡ j = cc in ap (λ k. is_of_form form (slice_get m.conts k)) (sym same) ∙ t
    by_form false t g = absurd (cc)
has_object a m picks (new_one form) None j e = cc
has_object a m picks (new_one form) (Some i) j e = absurd (cc)
has_object a m picks of_first None j e = cc
has_object a m picks of_first (Some i) j e = absurd (cc)

-- what holds of an unbuilt call, and of each call of a row where its object is there and its operands are of its sorts
pub row_by : (P : LibOut → Type 0) (r : Row) (a : Args) (m : Memory) (picks : List ℕ) → P unbuilt
    → ((j : ℕ) → IsCalled r (situation a m picks j) → P (row_out r (situation a m picks j))) → P (called_row (Some r) a m picks)
row_by P r a m picks none each = by_object (object_in m r.object a.object a.values) refl
  where
    by_operands : (j : ℕ) (b : Bool) → are_of m r.operands a.values ≡ b → object_in m r.object a.object a.values ≡ Some j
        → P (if b then row_out r (situation a m picks j) else unbuilt)
    by_operands j true t e = each j (record { object = has_object a m picks r.object a.object j e; operands = t })
    by_operands j false t e = none

    by_object : (o : Option ℕ) → object_in m r.object a.object a.values ≡ o → P (on_object r a m picks o)
    by_object None e = none
    by_object (Some j) e = by_operands j (are_of m r.operands a.values) refl e

-- an object of a form is the container with its number
pub own_there : (form : Form) (s : Situation) → HasObject (of_form form) s → slice_get s.memory.conts s.object ≡ Some (own s)
own_there form s h = by_cont (slice_get s.memory.conts s.object) refl h
  where
    by_cont : (o : Option Cont) → slice_get s.memory.conts s.object ≡ o → is_of_form form o ≡ true → o ≡ Some (own s)
    by_cont None e t = absurd (cc)
    by_cont (Some c) e t = ap (λ (x : Cont). Some x) (sym
        (get_or_from_slice_get s.memory.conts s.object c (record { form = f.Vector; cells = []; end = s.memory.fresh; room = 0 }) e))

-- its form is that of the row
pub own_form : (form : Form) (s : Situation) → HasObject (of_form form) s → (own s).form ≡ form
own_form form s h = one_form (own s).form form (ap (is_of_form form) (sym (own_there form s h)) ∙ h)

-- it is there
pub own_within : (form : Form) (s : Situation) → HasObject (of_form form) s → s.object < length s.memory.conts
own_within form s h = get_within s.memory.conts s.object (own s) (own_there form s h)
