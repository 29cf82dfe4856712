use Rattle.std.proofs.Common.{refl}
use Rattle.sl_tool.specs.Subset.{vector_item, begin_item, dereference_item}
use Rattle.sl_tool.proofs.ItemLaws.{no_item, taken}
use Rattle.sl_tool.proofs.reading.reader.Reader.take_item.Goals as goal

pub returns-in-Some : goal.returns-in-Some
returns-in-Some c = taken _ _ _ (vector_item c.in-Some.name.now) _ c.in-Some.ensures c.add_vector.ensures

pub returns-in-Some-begin_at : goal.returns-in-Some-begin_at
returns-in-Some-begin_at c = taken _ _ _ (begin_item c.in-Some-begin_at.name.now c.in-Some-begin_at.vector.now) _ c.in-Some-begin_at.ensures
    c.add_begin.ensures

pub returns-in-Some-dereference_at : goal.returns-in-Some-dereference_at
returns-in-Some-dereference_at c = taken _ _ _ (dereference_item c.in-Some-dereference_at.name.now c.in-Some-dereference_at.iterator.now) _
    c.in-Some-dereference_at.ensures c.add_dereference.ensures

pub returns : goal.returns
returns c = (
  (λ i begins allowed. no_item _ c.in_default.ensures c.in_default-push_back_at.ensures c.in_default-begin_at.ensures
      c.in_default-dereference_at.ensures i begins),
  refl,
)
