use Rattle.std.proofs.Common.{◌≡◌, ◌-◌, ap, get_or, arith}
use Rattle.std.proofs.lemmas.Int.{ints}
use Rattle.sl_cells.proofs.order.is_behind.Goals as goal

pub returns-clause-not_behind : goal.returns-clause-not_behind
returns-clause-not_behind c = λ e. (
  c.args.place - 1,
  omega arith,
  λ d.
      let h : c.key_at.result.high ≡ (get_or c.args.items.now (c.args.place - 1) d).key.high = ap (λ v. v.high) (c.key_at.ensures d) in
      grind (arith, ints),
)
