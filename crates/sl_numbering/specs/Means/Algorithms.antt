-- The call of an algorithm whose row is found.
use Rattle.std.specs.Prelude.{ℕ, Bool, List, Option, None, codes, if◌then◌else◌}
use Rattle.std.specs.Str.{bytes_eq}
use Rattle.sl_base.specs.declared.place.Place.{Place}
use Rattle.sl_syntax.specs.declared.typed.callee.Callee.{Callee}
use Rattle.sl_syntax.specs.declared.typed.callee.Callee.TheVariants as callees
use Rattle.sl_syntax.specs.declared.typed.step.Fix.TheVariants as fixes
use Rattle.sl_syntax.specs.Typed as t
use Rattle.sl_syntax.specs.Typed.{Operands}
use Rattle.sl_typing.specs.Numbering.{head, first_operand, other_operands, number_in}

-- the row of an algorithm, which appends or doesn't
abbrev pub algorithm : Bool → ℕ → Callee
algorithm appends number = if appends then callees.Appends number else callees.Row number

-- a move of the first operand by the others
abbrev pub advanced : ℕ → Place → Option ℕ → List (Option ℕ) → Operands → t.Expr
advanced number at site names es =
    t.move fixes.Prefix (number_in (first_operand es)) (head (callees.Row number) at site None names) (other_operands es)

-- a call of the row of this number, which appends or doesn't
abbrev pub numbered_algorithm : ℕ → Bool → List ℕ → Place → Option ℕ → List (Option ℕ) → Operands → t.Expr
numbered_algorithm number appends name at site names es =
    if bytes_eq name (codes "back_inserter") then first_operand es
    else if bytes_eq name (codes "advance") then advanced number at site names es
    else t.call (head (algorithm appends number) at site None names) es
