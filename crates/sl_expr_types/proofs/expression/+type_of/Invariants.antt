use Rattle.std.proofs.Common.{◌≡◌, map, take}
use Rattle.sl_expr_types.specs.Few.{few}
use Rattle.sl_expr_types.proofs.TypeLaws.{type_at}
use Rattle.sl_expr_types.proofs.expression.+type_of.Given as goal

abbrev pub invariant-types_of-loop-x : goal.invariant-types_of-loop-x
invariant-types_of-loop-x l = l.types ≡ few (map (type_at l.scope) (take l.x-index l.xs))
