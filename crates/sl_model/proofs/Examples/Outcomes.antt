-- What a call of the library comes to, without the numbers of the marks: where the iterators that it gives stand, the number that it
-- gives, the keys of each container, and where the marks of before stand.
use Rattle.std.specs.Prelude.{ℕ, List, [], ◌∷◌, map, ℤ, pos, Option, Some, None, suc}
use Rattle.sl_base.specs.declared.form.Form.{Form}
use Rattle.sl_syntax.specs.declared.typed.callee.Callee.TheVariants as callees
use Rattle.sl_syntax.specs.declared.typed.operator.Operator.{Operator}
use Rattle.sl_model.specs.Numbers.{truth}
use Rattle.sl_model.specs.Memory.Containers.{Cell, Memory, keys, locate, locate_refer, element}
use Rattle.sl_model.specs.Memory.Edits.{numbers}
use Rattle.sl_model.specs.LibraryCalls.Values.{Value, number, iterator, pair, two, element_at, LibOut, gives}
use Rattle.sl_model.specs.LibraryCalls.Library.{lib}

-- what a call comes to
pub record Outcome : Type 0 where
  pub given : List (Option (ℕ × ℕ))
  pub number : Option ℤ
  pub keys : List (List ℤ)
  pub iterators : List (Option (ℕ × ℕ))
  pub references : List (Option (ℕ × ℕ))

-- where the iterators of a value stand
abbrev given_in : Memory → Value → List (Option (ℕ × ℕ))
given_in m (iterator s) = locate m s ∷ []
given_in m (pair s b) = locate m s ∷ []
given_in m (two s t) = locate m s ∷ locate m t ∷ []
given_in m v = []

-- the number in a value: a number, the bool of a pair, or the number of an element
abbrev number_in : Memory → Value → Option ℤ
number_in m (number z) = Some z
number_in m (pair s b) = Some (truth b)
number_in m (element_at j k part) = Some (element m j k part)
number_in m v = None

-- what a call comes to that gives something, where n marks were there before
abbrev pub outcome : ℕ → LibOut → Option Outcome
outcome n (gives v m picks) = Some (record {
  given = given_in m v;
  number = number_in m v;
  keys = map keys m.conts;
  iterators = map (locate m) (numbers 0 n);
  references = map (locate_refer m) (numbers 0 n);
})
outcome n out = None

-- a place of the first container, and of the second
abbrev pub in_first : ℕ → Option (ℕ × ℕ)
in_first k = Some (0, k)

abbrev pub in_second : ℕ → Option (ℕ × ℕ)
in_second k = Some (1, k)

-- elements with these keys and with the value 0, with marks from n on
abbrev cells_from : ℕ → List ℕ → List Cell
cells_from n [] = []
cells_from n (x ∷ xs) = record { stamp = n; refer = n; key = pos x; value = pos 0 } ∷ cells_from (suc n) xs

-- one container of three elements: their marks are 0, 1 and 2, and the stamp of the end is 3
abbrev pub three : Form → ℕ → ℕ → ℕ → ℕ → Memory
three form room x y z = record {
  conts = record { form = form; cells = cells_from 0 (x ∷ y ∷ z ∷ []); end = 3; room = room } ∷ [];
  graves = [];
  lost = [];
  fresh = 4;
}

-- and a second one of the same form with 15 and 25: their marks are 4 and 5, and the stamp of the end is 6
abbrev pub three_and_two : Form → ℕ → Memory
three_and_two form room = record {
  conts = record { form = form; cells = cells_from 0 (10 ∷ 20 ∷ 30 ∷ []); end = 3; room = room }
      ∷ record { form = form; cells = cells_from 4 (15 ∷ 25 ∷ []); end = 6; room = 2 } ∷ [];
  graves = [];
  lost = [];
  fresh = 7;
}

-- a row on the first container, at site 9
abbrev pub on_first : ℕ → List Value → Memory → List ℕ → LibOut
on_first row values m picks = lib (callees.Row row) (record { site = 9; object = Some 0; values = values }) m picks

-- an algorithm, at site 9
abbrev pub algorithm : ℕ → List Value → Memory → List ℕ → LibOut
algorithm row values m picks = lib (callees.Row row) (record { site = 9; object = None; values = values }) m picks

-- an operator, at site 9
abbrev pub by_operator : Operator → List Value → Memory → LibOut
by_operator o values m = lib (callees.Operator o) (record { site = 9; object = None; values = values }) m []
