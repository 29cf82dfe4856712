-- Operands as one type: that of what isn't there is wrong, which passes no test.
use Rattle.std.specs.Prelude.{Bool, List, [], ◌∷◌, if◌then◌else◌}
use Rattle.sl_specs.specs.declared.letter.Letter.{Letter}
use Rattle.sl_typing.specs.declared.expr_type.ExprType.{ExprType}
use Rattle.sl_typing.specs.declared.expr_type.ExprType.TheVariants as types
use Rattle.sl_typing.specs.Types.{only, same_iterators}
use Rattle.sl_typing.specs.Signatures.{appending}

-- the type of the one operand
abbrev pub single_type : List ExprType → ExprType
single_type (u ∷ []) = u
single_type us = types.Wrong

-- the type of both ends of a range
abbrev pub range_type : List ExprType → ExprType
range_type (u ∷ v ∷ []) = only (same_iterators u v) u
range_type us = types.Wrong

-- a letter as it stands where the call appends, or doesn't
abbrev pub seen : Bool → Letter → Letter
seen appends letter = if appends then appending letter else letter
