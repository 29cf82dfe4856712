use Rattle.sl_cell_tries.proofs.edits.written.Goals as goal

pub returns : goal.returns
returns g c = c.write.ensures.ints c.requires record { key = c.around-key.ensures; value = c.around-value.ensures }
