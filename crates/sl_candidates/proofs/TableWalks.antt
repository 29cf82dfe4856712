-- The walk over the entries of the code is the one over the table.
use Rattle.std.proofs.Common.{◌≡◌, ◌+◌, ℕ, zero, suc, List, [], ◌∷◌, map, drop, Some, refl, sym, ap, ◌∙◌, add-one}
use Rattle.std.specs.Prelude.{Bool, true, false, ◌||◌, option_map, slice_get, if◌then◌else◌}
use Rattle.std.specs.List.{list_any, position_from}
use Rattle.sl_specs.specs.declared.entry.Entry.{Entry}
use Rattle.sl_specs.specs.Entries.{entry_row}
use Rattle.sl_specs.specs.Rows.{Row}
use Rattle.sl_specs.specs.Table.{table}
use Rattle.sl_typing.specs.Candidates.{first_from, first_row, has_row}
use Rattle.sl_candidates.specs.Means.Places.{at_place, found_at, place_in, some_in}

-- the rest of a list behind a place begins with what is there
get_drop : {X : Type 0} (xs : List X) (n : ℕ) (x : X) (rest : List X) → drop n xs ≡ x ∷ rest → slice_get xs n ≡ Some x
get_drop [] zero x rest e = absurd cc
get_drop [] (suc n) x rest e = absurd cc
get_drop (y ∷ ys) zero x rest e = cc
get_drop (y ∷ ys) (suc n) x rest e = get_drop ys n x rest e

-- and goes on behind it
drop_next : {X : Type 0} (xs : List X) (n : ℕ) (x : X) (rest : List X) → drop n xs ≡ x ∷ rest → drop (suc n) xs ≡ rest
drop_next [] zero x rest e = absurd cc
drop_next [] (suc n) x rest e = absurd cc
drop_next (y ∷ ys) zero x rest e = cc
drop_next (y ∷ ys) (suc n) x rest e = drop_next ys n x rest e

-- the first row from a place on, by its place
walk : (rows : List Row) (test : Row → Bool) (n : ℕ) (es : List Entry) → drop n rows ≡ map entry_row es
    → found_at rows (position_from (λ (e : Entry). test (entry_row e)) n es) ≡ first_from n test (map entry_row es)
walk rows test n [] e = refl
walk rows test n (x ∷ es) e =
    elim (test (entry_row x)) as (λ b. found_at rows (if b then Some n else position_from (λ (e : Entry). test (entry_row e)) (n + 1) es)
    ≡ (if b then Some (at_place n (entry_row x)) else first_from (n + 1) test (map entry_row es))) [
      | true ↦ ap (option_map (at_place n)) (get_drop rows n (entry_row x) (map entry_row es) e)
      | false ↦ walk rows test (n + 1) es (rw add-one (drop_next rows n (entry_row x) (map entry_row es) e))
    ]

pub first_row_is : (test : Row → Bool) → first_from 0 test table ≡ first_row test
unfolding first_row
first_row_is test = refl

-- the first row of the table
pub found_first : (es : List Entry) (test : Row → Bool) → map entry_row es ≡ table → found_at table (place_in es test) ≡ first_row test
found_first es test e = walk table test 0 es (sym e) ∙ ap (first_from 0 test) e ∙ first_row_is test

-- some entry is some row
some_mapped : (es : List Entry) (test : Row → Bool) → some_in es test ≡ list_any test (map entry_row es)
some_mapped [] test = refl
some_mapped (x ∷ es) test = ap (λ b. test (entry_row x) || b) (some_mapped es test)

has_row_is : (test : Row → Bool) → list_any test table ≡ has_row test
unfolding has_row
has_row_is test = refl

-- some row of the table
pub found_some : (es : List Entry) (test : Row → Bool) → map entry_row es ≡ table → some_in es test ≡ has_row test
found_some es test e = some_mapped es test ∙ ap (list_any test) e ∙ has_row_is test
