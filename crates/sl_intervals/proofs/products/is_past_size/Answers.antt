use Rattle.std.proofs.Common.{arith}
use Rattle.std.proofs.lemmas.Int.{ints}
use Rattle.sl_intervals.proofs.products.is_past_size.Goals as goal

pub size_product-requires : goal.size_product-requires
size_product-requires c =
    let l = c.requires.first.low in let m = c.requires.second.low in
    let h = c.requires.first.high in let k = c.requires.second.high in
    record { first = omega (arith, ints); second = omega (arith, ints); first_bound = omega (arith, ints); second_bound = omega (arith, ints) }
