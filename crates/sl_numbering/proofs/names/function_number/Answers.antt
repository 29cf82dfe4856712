use Rattle.std.proofs.Common.{◌<◌, ◌^◌, Option, IfSome, subst, sym, arith}
use Rattle.sl_typing.specs.declared.scope.FunctionHead.{FunctionHead}
use Rattle.sl_numbering.proofs.SmallNumbers.{function_is_small}
use Rattle.sl_numbering.proofs.names.function_number.Goals as goal

pub overflow_cast-result : goal.overflow_cast-result
overflow_cast-result c =
    let small : c.in-Some.head.now.number < 2 ^ 16 =
    subst (λ (o : Option FunctionHead). IfSome o (λ f. f.number < 2 ^ 16)) (sym c.in-Some.ensures)
    (function_is_small c.args.scope.now c.args.name.now c.requires) in
    omega (arith, small)
