use Rattle.sl_cell_tries.proofs.edits.inserted.Goals as goal

pub returns : goal.returns
returns g c = c.insert.ensures.ints c.requires record { key = c.around-key.ensures; value = c.around-value.ensures }
