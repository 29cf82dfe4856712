-- In which orders the keys of a container may stand, by its form, and that its elements are ints.
--
-- Restates ISO/IEC 14882:2017, [associative.reqmts] (keys stand in ascending order, and each once but in multisets and
-- multimaps) and [unord.req] (each key stands once).
-- Chosen here: the elements of a sequence count as keys that may stand in any order.
use Rattle.std.specs.Prelude.{◌≡◌, ℕ, ℤ, Bool, IsTrue, true, not, List, [], ◌∷◌, Some, slice_get, int_lt, int_le}
use Rattle.sl_base.specs.declared.form.Form.{Form}
use Rattle.sl_base.specs.declared.form.Form.TheVariants as f
use Rattle.sl_base.specs.declared.scalar.Scalar.TheVariants as t
use Rattle.sl_model.specs.Memory.Containers.{Cell, Cont, Memory, keys}
use Rattle.sl_model.specs.Numbers.{fits}
use Rattle.sl_model.specs.Memory.Orders.{same}

-- x may stand before y among the keys of a form
abbrev pub may_precede : Form → ℤ → ℤ → Bool
may_precede f.Set x y = int_lt x y
may_precede f.Map x y = int_lt x y
may_precede f.MultiSet x y = int_le x y
may_precede f.MultiMap x y = int_le x y
may_precede f.HashSet x y = not (same x y)
may_precede f.HashMap x y = not (same x y)
may_precede form x y = true

-- something holds of each of these
abbrev pub Each : {A : Type 0} → (A → Type 0) → List A → Type 0
Each P [] = Unit {0}
Each P (x ∷ xs) = P x × Each P xs

-- something holds of each of these and each one behind it
abbrev pub EachPair : {A : Type 0} → (A → A → Type 0) → List A → Type 0
EachPair Q [] = Unit {0}
EachPair Q (x ∷ xs) = Each (Q x) xs × EachPair Q xs

-- keys stand in an order of a form's
abbrev pub AreInOrder : Form → List ℤ → Type 0
AreInOrder form xs = EachPair (λ x y. IsTrue (may_precede form x y)) xs

-- the key and the value of an element are ints
abbrev pub HoldsInts : Cell → Type 0
HoldsInts x = IsTrue (fits t.Int x.key) × IsTrue (fits t.Int x.value)

-- the keys of a container stand in an order of its form's, and its elements are ints
pub record IsOrderlyCont (c : Cont) : Type 0 where
  pub order : AreInOrder c.form (keys c)
  pub ints : Each HoldsInts c.cells

-- each container of a memory is orderly
abbrev pub IsOrderly : Memory → Type 0
IsOrderly m = (j : ℕ) (c : Cont) → slice_get m.conts j ≡ Some c → IsOrderlyCont c
