use Rattle.std.proofs.Common.{◌≡◌, false, ⊎_elim, arith}
use Rattle.std.proofs.lemmas.Int.{ints}
use Rattle.std.proofs.lemmas.Bool.{and_cases}
use Rattle.sl_cells.specs.declared.item.Item.{Item}
use Rattle.sl_cells.proofs.order.fits_between.Goals as goal

pub returns-clause-misfits : goal.returns-clause-misfits
returns-clause-misfits c = λ e is.
    let none : Item = record { key = c.args.key; value = c.args.key } in
    ⊎_elim
    (λ (h : c.is_behind.result ≡ false). let r = c.is_behind.ensures.not_behind h in let a = r.2 none in let b = is.behind r.0 none r.1 in omega
    (arith, ints))
    (λ (h : c.is_before.result ≡ false). let r = c.is_before.ensures.not_before h in let a = r.1 none in let b = is.before none r.0 in omega
    (arith, ints))
    (and_cases c.is_behind.result c.is_before.result e)
