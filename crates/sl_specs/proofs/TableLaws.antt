-- Each row of the table has its place as its number, and is found by what it is called.
use Rattle.std.proofs.Common.{◌≡◌, ◌+◌, ℕ, zero, suc, List, [], ◌∷◌, map, Some, refl, ap, arith}
use Rattle.std.specs.Prelude.{Option, slice_get}
use Rattle.sl_specs.specs.declared.lib_row.LibRow.{LibRow}
use Rattle.sl_specs.specs.Rows.{Row}
use Rattle.sl_specs.specs.Table.{table, lib_rows, numbered, row_numbered, row_called}

-- the rows from a number on have their numbers
number-numbered : (n : ℕ) (earlier rs : List Row) (k : ℕ) (r : LibRow) → slice_get (numbered n earlier rs) k ≡ Some r → r.number ≡ n + k
number-numbered n earlier [] k r e = absurd cc
number-numbered n earlier (x ∷ xs) zero r e = let same : r.number ≡ n = cc in omega arith
number-numbered n earlier (x ∷ xs) (suc k) r e = let later = number-numbered (n + 1) (x ∷ earlier) xs k r e in omega arith

pub number-row : (n : ℕ) (r : LibRow) → row_numbered n ≡ Some r → r.number ≡ n
unfolding lib_rows
number-row n r e = let there = number-numbered 0 [] table n r e in omega arith

-- the row that is called as another
found_as : LibRow → Option LibRow
found_as r = row_called r.form r.call r.shape

-- each row is found by what it is called
each_found : map found_as lib_rows ≡ map Some lib_rows
unfolding found_as table lib_rows
each_found = refl

-- what holds of all in a list holds of each
at_each : {X Y : Type 0} (f g : X → Y) (xs : List X) (n : ℕ) (x : X) → map f xs ≡ map g xs → slice_get xs n ≡ Some x → f x ≡ g x
at_each f g [] n x e h = absurd cc
at_each f g (y ∷ ys) zero x e h = let same : y ≡ x = cc in let both : f y ≡ g y = cc in cc
at_each f g (y ∷ ys) (suc n) x e h = let rest : map f ys ≡ map g ys = cc in at_each f g ys n x rest h

pub found-row : (n : ℕ) (r : LibRow) → row_numbered n ≡ Some r → row_called r.form r.call r.shape ≡ Some r
unfolding found_as
found-row n r e = at_each found_as (λ x. Some x) lib_rows n r each_found e

pub apart-rows : (m n : ℕ) (r s : LibRow) → row_numbered m ≡ Some r → row_numbered n ≡ Some s → r.form ≡ s.form → r.call ≡ s.call
    → r.shape ≡ s.shape → m ≡ n
apart-rows m n r s d e form call shape =
    let first = found-row m r d in let second = found-row n s e in let same : row_called r.form r.call r.shape ≡ row_called s.form s.call s.shape =
    rw (form, call, shape) refl in let one : r ≡ s = cc in let x = number-row m r d in let y = number-row n s e in let z : r.number ≡ s.number =
    ap (λ (q : LibRow). q.number) one in omega arith
