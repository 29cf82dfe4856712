-- What the row of a call does, if there is one.
use Rattle.std.specs.Prelude.{Bool, false, ◌&&◌, ◌||◌, List, Option, Some, None}
use Rattle.sl_typing.specs.declared.expr_type.ExprType.{ExprType}
use Rattle.sl_typing.specs.Arguments.{letters_seen, letters_write_const, letters_are_weak}
use Rattle.sl_typing.specs.Candidates.{Found}

-- it changes a const object, or writes something else that is const
abbrev pub row_writes : Bool → Bool → Option Found → List ExprType → Bool
row_writes is_const appends None us = false
row_writes is_const appends (Some x) us = (is_const && x.row.changes) || letters_write_const (letters_seen appends x.row.letters) us

-- it needs a stronger iterator
abbrev pub row_is_weak : Bool → Option Found → List ExprType → Bool
row_is_weak appends None us = false
row_is_weak appends (Some x) us = letters_are_weak (letters_seen appends x.row.letters) us
