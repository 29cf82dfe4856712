-- What a row has to be, by example: where `clear` invalidates nothing, what stood before vanishes, and where it invalidates all, each
-- mark has the call's site beside it.
use Rattle.std.proofs.Common.{◌≡◌, ℕ, zero, suc, [], ◌∷◌, map, refl, ⊎_elim}
use Rattle.std.specs.Prelude.{codes}
use Rattle.sl_base.specs.declared.form.Form.TheVariants as f
use Rattle.sl_specs.specs.declared.class.Class.{Class}
use Rattle.sl_specs.specs.declared.class.Class.TheVariants.{Nothing, AllAndEnd}
use Rattle.sl_model.specs.Memory.Containers.{Memory, stamps, IsGrave}
use Rattle.sl_model.specs.LibraryCalls.Values.{nothing, gives, no_value}
use Rattle.sl_model.specs.LibraryCalls.Situation.{Situation}
use Rattle.sl_model.specs.LibraryCalls.AccessActions.{clear}
use Rattle.sl_model.specs.LibraryCalls.Rows.{of_form, Row}
use Rattle.sl_model.specs.LibraryCalls.Library.{row_out}
use Rattle.sl_model.specs.Runs.Good.{Stands, NoneVanishes}
use Rattle.sl_model.proofs.Examples.Rows.{dropped, pair_with}

-- clear() of a vector, by a class
abbrev clear_by : Class → Row
clear_by class = record {
  name = codes "clear";
  object = of_form f.Vector;
  operands = [];
  fails = λ s. [];
  class = class;
  action = clear;
  shape = no_value;
}

-- it is called on a vector of two elements, at site 9
abbrev two : Situation
two = record { memory = pair_with 2; object = 0; values = []; picks = []; site = 9 }

-- the vector without elements, where nothing was invalidated
abbrev emptied : Memory
emptied = record { conts = record { form = f.Vector; cells = []; end = 2; room = 2 } ∷ []; graves = []; lost = []; fresh = 6 }

-- where nothing is invalidated, the stamps 0 and 1 stand nowhere afterwards, nor do the refers, and no site is beside them
they_vanish : row_out (clear_by Nothing) two ≡ gives nothing emptied []
they_vanish = refl

-- the stamp 0 stands nowhere in it
stands_nowhere : (i h : ℕ) → Stands (map stamps emptied.conts) i h 0 → ⊥
stands_nowhere zero zero s = let r = s.1 in let q = s.2 in cc
stands_nowhere zero (suc h) s = let r = s.1 in let q = s.2 in cc
stands_nowhere (suc i) h s = let r = s.1 in cc

-- so such a call is no call of a library
no_row : NoneVanishes (pair_with 2) 9 emptied → ⊥
no_row none = ⊎_elim (λ (r : (i : ℕ) × (h : ℕ) × Stands (map stamps emptied.conts) i h 0). stands_nowhere r.0 r.1 r.2)
    (λ (g : IsGrave emptied.graves 0 9). let e = g.1 in cc)
    (none.stamps_stand 0 0 0 (0 ∷ 1 ∷ 2 ∷ [], refl, refl))

-- where all is invalidated, each has the site beside it
they_are_buried : row_out (clear_by AllAndEnd) two ≡ gives nothing (record {
  conts = record { form = f.Vector; cells = []; end = 5; room = 2 } ∷ [];
  graves = dropped 0 ∷ dropped 1 ∷ dropped 2 ∷ [];
  lost = dropped 0 ∷ dropped 1 ∷ [];
  fresh = 6;
}) []
they_are_buried = refl
