use Rattle.std.proofs.Common.{ℕ, ◌<◌, ◌^◌, Option, IfSome, subst, sym, arith}
use Rattle.sl_numbering.proofs.SmallNumbers.{label_is_small}
use Rattle.sl_numbering.proofs.names.name_number.Goals as goal

pub overflow_cast-result : goal.overflow_cast-result
overflow_cast-result c =
    let small : c.in-Some.label < 2 ^ 16 =
    subst (λ (o : Option ℕ). IfSome o (λ n. n < 2 ^ 16)) (sym c.in-Some.ensures) (label_is_small c.args.scope.now c.args.name.now c.requires) in
    omega (arith, small)
