-- The types of a call's arguments, as far as a call of the library may have so many.
--
-- Chosen here: no call of the library has more than eight, so of a longer list nothing is kept.
use Rattle.std.specs.Prelude.{nat_le, ◌+◌, List, [], ◌∷◌, ◌++◌, length, replicate, Option, Some, None, if◌then◌else◌}
use Rattle.sl_expr_types.specs.declared.types.TheConstants.{ARGUMENTS}
use Rattle.sl_typing.specs.declared.expr_type.ExprType.{ExprType}
use Rattle.sl_typing.specs.declared.expr_type.ExprType.TheVariants as types

-- these types, if they are no more than a call has
unfoldable pub few : List ExprType → Option (List ExprType)
few us = if nat_le (length us) ARGUMENTS then Some us else None

-- the same with one more behind them
unfoldable pub pushed_to : Option (List ExprType) → ExprType → Option (List ExprType)
pushed_to None u = None
pushed_to (Some us) u = few (us ++ u ∷ [])

-- these types, and where there are more, types that are more than any call has
unfoldable pub listed : Option (List ExprType) → List ExprType
listed None = replicate (ARGUMENTS + 1) types.Wrong
listed (Some us) = us
