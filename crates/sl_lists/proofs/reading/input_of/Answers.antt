use Rattle.sl_model.proofs.ListLaws.{input_of_list}
use Rattle.sl_lists.proofs.reading.input_of.Goals as goal

pub ints-requires : goal.ints-requires
ints-requires c = rw c.as_slice.ensures (input_of_list c.args.bytes.now c.in_ok-wide.wide c.in_ok-wide.ensures.list)
