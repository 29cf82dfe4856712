-- What is in scope at a place of a typed text, and which numbers meet there.
--
-- Restates ISO/IEC 14882:2017, [basic.scope], [expr.rel], [expr.eq] and [expr.ass].
-- Chosen here: how many variables may be in scope at once; references to elements and the two hidden iterators of a range-for count as iterators.
-- Numbers are compared in a type that isn't bool.
use Rattle.std.specs.Prelude.{ℕ, nat_le, Bool, ◌&&◌, ◌||◌, List, ◌∷◌, [], ◌++◌, length, slice_index_or}
use Rattle.sl_base.specs.declared.limits.TheConstants.{CONTAINERS, ITERATORS, SCALARS}
use Rattle.sl_base.specs.declared.scalar.Scalar.{Scalar}
use Rattle.sl_base.specs.declared.scalar.Scalar.TheVariants as t
use Rattle.sl_syntax.specs.Typed.{Function}
use Rattle.sl_typing.specs.declared.expr_type.ExprType.{ExprType}
use Rattle.sl_typing.specs.declared.expr_type.ExprType.TheVariants as types
use Rattle.sl_typing.specs.Types.{same_scalar, is_scalar, is_arithmetic}

-- what is known at a place: the types of the variables in scope, by their numbers, the functions of the text, and the number of `main`
pub record Scope : Type 0 where
  pub scalars : List ExprType
  pub containers : List ExprType
  pub iterators : List ExprType
  pub functions : List Function
  pub main : ℕ

-- no more variables are in scope than there may be
abbrev pub is_within : Scope → Bool
is_within g = nat_le (length g.scalars) SCALARS && nat_le (length g.containers) CONTAINERS && nat_le (length g.iterators) ITERATORS

-- the type of a variable among these
abbrev pub variable_type : List ExprType → ℕ → ExprType
variable_type us x = slice_index_or us x types.Wrong

-- a scalar comes into scope
abbrev pub with_scalar : ExprType → Scope → Scope
with_scalar u g = record g { scalars = g.scalars ++ u ∷ [] }

-- a container does
abbrev pub with_container : ExprType → Scope → Scope
with_container u g = record g { containers = g.containers ++ u ∷ [] }

-- an iterator does, or a reference
abbrev pub with_iterator : ExprType → Scope → Scope
with_iterator u g = record g { iterators = g.iterators ++ u ∷ [] }

-- two numbers of one type, in which they are compared
abbrev pub are_comparable : ExprType → ExprType → Bool
are_comparable u v = (is_scalar t.Int u && is_scalar t.Int v) || (is_scalar t.Size u && is_scalar t.Size v) || (is_scalar t.Diff u
    && is_scalar t.Diff v)

-- a number of the first type is calculated with in the second: `x += y` works as `x + y`
abbrev pub works_in : Scalar → Scalar → Bool
works_in t.Size s = same_scalar t.Size s
works_in t.Diff s = same_scalar t.Size s || same_scalar t.Diff s
works_in r s = is_arithmetic s
