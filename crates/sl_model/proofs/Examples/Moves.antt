-- Closed calls of the operators of iterators, each worked out by hand.
use Rattle.std.specs.Prelude.{◌≡◌, refl, ℕ, List, [], ◌∷◌, ℤ, Option, Some, None, pos, negsuc}
use Rattle.sl_base.specs.declared.form.Form.TheVariants as f
use Rattle.sl_syntax.specs.declared.operator.Comparison.TheVariants as c
use Rattle.sl_syntax.specs.declared.typed.operator.Operator.{Operator}
use Rattle.sl_syntax.specs.declared.typed.operator.Operator.TheVariants as o
use Rattle.sl_model.specs.Memory.Containers.{Memory}
use Rattle.sl_model.specs.LibraryCalls.Values.{Value, number, iterator, LibOut, trapped}
use Rattle.sl_model.proofs.Examples.Outcomes.{Outcome, outcome, in_first, three, three_and_two, by_operator}

-- a vector of 10, 20 and 30
abbrev vector : Memory
vector = three f.Vector 3 10 20 30

-- an operator on it
abbrev on_vector : Operator → List Value → LibOut
on_vector o values = by_operator o values vector

-- an operator changes nothing: it gives an iterator at a place of the vector, or a number
abbrev tells : List (Option (ℕ × ℕ)) → Option ℤ → Option Outcome
tells given n = Some (record {
  given = given;
  number = n;
  keys = (pos 10 ∷ pos 20 ∷ pos 30 ∷ []) ∷ [];
  iterators = in_first 0 ∷ in_first 1 ∷ in_first 2 ∷ in_first 3 ∷ [];
  references = in_first 0 ∷ in_first 1 ∷ in_first 2 ∷ None ∷ [];
})

-- *it
star : outcome 4 (on_vector o.Dereference (iterator 1 ∷ [])) ≡ tells [] (Some (pos 20))
star = refl

star_end : on_vector o.Dereference (iterator 3 ∷ []) ≡ trapped 4 1
star_end = refl

star_invalid : on_vector o.Dereference (iterator 4 ∷ []) ≡ trapped 1 1
star_invalid = refl

-- ++it, up to the end
up : outcome 4 (on_vector o.Increment (iterator 2 ∷ [])) ≡ tells (in_first 3 ∷ []) None
up = refl

-- and no further
up_from_end : on_vector o.Increment (iterator 3 ∷ []) ≡ trapped 5 1
up_from_end = refl

-- --it
down : outcome 4 (on_vector o.Decrement (iterator 3 ∷ [])) ≡ tells (in_first 2 ∷ []) None
down = refl

down_from_begin : on_vector o.Decrement (iterator 0 ∷ []) ≡ trapped 5 1
down_from_begin = refl

-- it + n, also with a number below zero
plus : outcome 4 (on_vector o.Add (iterator 1 ∷ number (pos 2) ∷ [])) ≡ tells (in_first 3 ∷ []) None
plus = refl

plus_negative : outcome 4 (on_vector o.Add (iterator 1 ∷ number (negsuc 0) ∷ [])) ≡ tells (in_first 0 ∷ []) None
plus_negative = refl

plus_too_much : on_vector o.Add (iterator 1 ∷ number (pos 3) ∷ []) ≡ trapped 5 1
plus_too_much = refl

-- it - n, and it -= n
minus : outcome 4 (on_vector o.Subtract (iterator 3 ∷ number (pos 3) ∷ [])) ≡ tells (in_first 0 ∷ []) None
minus = refl

minus_assign_too_much : on_vector o.SubtractAssign (iterator 2 ∷ number (pos 3) ∷ []) ≡ trapped 5 1
minus_assign_too_much = refl

-- jt - it
difference : outcome 4 (on_vector o.Difference (iterator 3 ∷ iterator 1 ∷ [])) ≡ tells [] (Some (pos 2))
difference = refl

difference_negative : outcome 4 (on_vector o.Difference (iterator 1 ∷ iterator 3 ∷ [])) ≡ tells [] (Some (negsuc 1))
difference_negative = refl

-- comparisons of two places of one container
equal : outcome 4 (on_vector (o.Compare c.Equal) (iterator 1 ∷ iterator 1 ∷ [])) ≡ tells [] (Some (pos 1))
equal = refl

less : outcome 4 (on_vector (o.Compare c.Less) (iterator 3 ∷ iterator 1 ∷ [])) ≡ tells [] (Some (pos 0))
less = refl

-- of two containers, at the second operand
equal_in_two : by_operator (o.Compare c.Equal) (iterator 1 ∷ iterator 4 ∷ []) (three_and_two f.Vector 3) ≡ trapped 2 2
equal_in_two = refl

-- and of what is invalid: the least kind counts, and of one kind the least argument
equal_invalid : by_operator (o.Compare c.Equal) (iterator 8 ∷ iterator 7 ∷ []) (three_and_two f.Vector 3) ≡ trapped 1 1
equal_invalid = refl
