use Rattle.std.proofs.Common.{ℕ, ◌+◌, List, [], ◌++◌, if◌then◌else◌}
use Rattle.sl_model.specs.LibraryCalls.Needs.{invalid_fails, one_container_fails, order_fails}
use Rattle.sl_arguments.specs.Readings.{placed}
use Rattle.sl_needs.proofs.Counting.{both_told}
use Rattle.sl_needs.proofs.places.no_one_range.Goals as goal

pub returns : goal.returns
returns c =
    let p = placed c.args.first in
    let q = placed c.args.last in
    let a = c.args.argument in
    let turned : List (ℕ × ℕ) = if c.args.any_way then [] else order_fails c.args.container p q a in
    let apart : List (ℕ × ℕ) = one_container_fails p q a in
    both_told c.invalid.result c.earlier-2.result c.earlier-3.result (invalid_fails p a) (invalid_fails q (a + 1) ++ (apart ++ turned))
    c.earlier-3.ensures c.invalid.ensures
    (both_told c.invalid-2.result c.earlier.result c.earlier-2.result (invalid_fails q (a + 1)) (apart ++ turned) c.earlier-2.ensures
    c.invalid-2.ensures
    (both_told c.apart.result c.turned.result c.earlier.result apart turned c.earlier.ensures c.apart.ensures c.turned.ensures))
