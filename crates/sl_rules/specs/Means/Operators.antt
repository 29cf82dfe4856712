-- Where an operator needs an iterator that goes back.
use Rattle.std.specs.Prelude.{Bool, false}
use Rattle.sl_syntax.specs.declared.operator.PostfixOperator.{PostfixOperator}
use Rattle.sl_syntax.specs.declared.operator.PostfixOperator.TheVariants as o
use Rattle.sl_syntax.specs.declared.operator.PrefixOperator.{PrefixOperator}
use Rattle.sl_syntax.specs.declared.operator.PrefixOperator.TheVariants as p
use Rattle.sl_typing.specs.declared.expr_type.ExprType.{ExprType}
use Rattle.sl_typing.specs.Rules.{is_forward}

-- before its operand
abbrev pub is_weak_prefix : PrefixOperator → ExprType → Bool
is_weak_prefix p.Decrement u = is_forward u
is_weak_prefix op u = false

-- behind it
abbrev pub is_weak_postfix : PostfixOperator → ExprType → Bool
is_weak_postfix o.Decrement u = is_forward u
is_weak_postfix op u = false
