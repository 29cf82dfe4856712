use Rattle.sl_calls.proofs.calls_of_cells.with_element.Goals as goal

pub returns : goal.returns
returns c = c.insert.ensures.ints c.requires record { key = c.int.ensures; value = c.int-2.ensures }
