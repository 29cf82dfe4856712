-- What algorithms give that write nothing. Their object is the container of the first operand.
--
-- Restates ISO/IEC 14882:2017, [alg.find], [alg.count], [alg.binary.search], [includes], [accumulate], [iterator.operations] and
-- [alg.min.max].
-- Chosen here: `includes` counts repeated elements ([includes] says so of ranges in order); a sum that passes an int is an overflow.
use Rattle.std.specs.Prelude.{ℕ, ◌+◌, ◌-◌, ◌==◌, ◌||◌, nat_le, Bool, false, not, List, [], ◌∷◌, length, ℤ, pos, neg_ℤ, ◌+ℤ◌, int_lt, int_le}
use Rattle.std.specs.Prelude.{if◌then◌else◌}
use Rattle.sl_base.specs.declared.scalar.Scalar.TheVariants as t
use Rattle.sl_specs.specs.declared.call.Call.{Call}
use Rattle.sl_model.specs.Memory.Forms.{step_of}
use Rattle.sl_model.specs.Numbers.{truth, fits}
use Rattle.sl_model.specs.LibraryCalls.Operands.{steps_of}
use Rattle.sl_model.specs.Memory.Orders.{same, index_of_key, has, how_many, minus, least_place, greatest_place}
use Rattle.sl_model.specs.LibraryCalls.Situation.{Situation, own_size, index, int_of, range_keys, range_size}
use Rattle.sl_model.specs.LibraryCalls.Actions.{Answer, gives_number, gives_place, Action, never, overflow, tells}
use Rattle.sl_model.specs.LibraryCalls.KeyActions.{place_or}

-- the place so far behind the beginning of the range
abbrev pub along : Situation → ℕ → Answer
along s n = gives_place s.object (index s 1 + n)

-- find(f, l, x)
abbrev pub find : Action
find = tells (λ s. along s (place_or (range_size s 1) (index_of_key (int_of s 3) (range_keys s 1))))

-- count(f, l, x)
abbrev pub count : Action
count = tells (λ s. gives_number (pos (how_many (same (int_of s 3)) (range_keys s 1))))

-- lower_bound(f, l, x)
abbrev pub lower_bound : Action
lower_bound = tells (λ s. along s (how_many (λ y. int_lt y (int_of s 3)) (range_keys s 1)))

-- upper_bound(f, l, x)
abbrev pub upper_bound : Action
upper_bound = tells (λ s. along s (how_many (λ y. int_le y (int_of s 3)) (range_keys s 1)))

-- binary_search(f, l, x)
abbrev pub binary_search : Action
binary_search = tells (λ s. gives_number (truth (has (int_of s 3) (range_keys s 1))))

-- includes(f, l, f2, l2)
abbrev pub includes : Action
includes = tells (λ s. gives_number (truth (length (minus (range_keys s 3) (range_keys s 1)) == 0)))

-- a sum from x on passes an int
abbrev pub overflows : ℤ → List ℤ → Bool
overflows x [] = false
overflows x (y ∷ ys) = not (fits t.Int (x +ℤ y)) || overflows (x +ℤ y) ys

-- the sum from x on
abbrev pub sum_from : ℤ → List ℤ → ℤ
sum_from x [] = x
sum_from x (y ∷ ys) = sum_from (x +ℤ y) ys

-- accumulate(f, l, x)
abbrev pub accumulate : Action
accumulate = record (tells (λ s. gives_number (sum_from (int_of s 3) (range_keys s 1)))) {
  stops = λ s. if overflows (int_of s 3) (range_keys s 1) then overflow else never;
}

-- the steps from one index to another
abbrev pub distance_of : ℕ → ℕ → ℤ
distance_of f l = if nat_le f l then pos (l - f) else neg_ℤ (pos (f - l))

-- distance(f, l)
abbrev pub distance : Action
distance = tells (λ s. gives_number (distance_of (index s 1) (index s 2)))

-- the place so far from that of the first operand
abbrev pub stepped : Situation → ℤ → Answer
stepped s n = gives_place s.object (place_or 0 (step_of (own_size s) (index s 1) n))

-- advance(it, n), whose iterator variable takes what is given; next(it), next(it, n), prev(it) and prev(it, n)
abbrev pub move_by : Call → Action
move_by call = tells (λ s. stepped s (steps_of call s))

-- min_element(f, l)
abbrev pub min_element : Action
min_element = tells (λ s. along s (least_place (range_keys s 1)))

-- max_element(f, l)
abbrev pub max_element : Action
max_element = tells (λ s. along s (greatest_place (range_keys s 1)))
