-- What a row gives, if there is one.
use Rattle.std.specs.Prelude.{Bool, List, Option, Some, None}
use Rattle.sl_base.specs.declared.form.Form.{Form}
use Rattle.sl_typing.specs.declared.expr_type.ExprType.{ExprType}
use Rattle.sl_typing.specs.declared.expr_type.ExprType.TheVariants as types
use Rattle.sl_typing.specs.Candidates.{Found}
use Rattle.sl_typing.specs.Signatures.{result_type}
use Rattle.sl_typing.specs.TypeOf.{algorithm_gives}

-- a member's row, on an object that is const or isn't, of a form, for arguments of these types
abbrev pub member_gives : Option Found → Bool → Form → List ExprType → ExprType
member_gives None b form us = types.Wrong
member_gives (Some x) b form us = result_type x.row.gives b form us

-- an algorithm's row
abbrev pub row_gives : Bool → Option Found → List ExprType → ExprType
row_gives appends None us = types.Wrong
row_gives appends (Some x) us = algorithm_gives appends x.row.gives us
