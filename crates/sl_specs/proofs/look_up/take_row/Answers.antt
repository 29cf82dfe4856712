use Rattle.std.proofs.Common.{sym, arith}
use Rattle.sl_specs.proofs.EntryPlaces.{entries_from-there, entries_from-past}
use Rattle.sl_specs.proofs.look_up.take_row.Goals as goal

pub returns-in-Some : goal.returns-in-Some
returns-in-Some c =
    let k = c.args.number in let e = c.in-Some.entry.now in
    rw c.lib_row.ensures
    (sym (entries_from-there 0 k k c.args.entries.now e (omega arith) (omega (arith, c.in-Some.ensures.lookup.3.0))
    (rw (← c.from.ensures) (c.in-Some.ensures.lookup.3.1 e))))

pub returns-in-None : goal.returns-in-None
returns-in-None c = sym (entries_from-past 0 c.args.number c.args.entries.now (omega (arith, c.in-None.ensures.lookup.3)))
