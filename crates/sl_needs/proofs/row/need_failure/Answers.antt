use Rattle.sl_specs.specs.Entries.{entry_row}
use Rattle.sl_specs.specs.declared.need.Need.TheVariants as needs
use Rattle.sl_needs.proofs.NeedLaws.{of_need}
use Rattle.sl_needs.proofs.row.need_failure.Goals as goal

pub returns-in-PositionInObject : goal.returns-in-PositionInObject
returns-in-PositionInObject c = λ s h. let r = entry_row c.args.entry.now in
    of_need r s c.args.need needs.PositionInObject c.position_in_object.result c.in-PositionInObject.is (c.position_in_object.ensures s r h)

pub returns-in-ErasablePosition : goal.returns-in-ErasablePosition
returns-in-ErasablePosition c = λ s h. let r = entry_row c.args.entry.now in
    of_need r s c.args.need needs.ErasablePosition c.erasable_position.result c.in-ErasablePosition.is (c.erasable_position.ensures s r h)

pub returns-in-RangeInObject : goal.returns-in-RangeInObject
returns-in-RangeInObject c = λ s h. let r = entry_row c.args.entry.now in
    of_need r s c.args.need needs.RangeInObject c.range_in_object.result c.in-RangeInObject.is (c.range_in_object.ensures s r h)

pub returns-in-NotEmpty : goal.returns-in-NotEmpty
returns-in-NotEmpty c = λ s h. let r = entry_row c.args.entry.now in
    of_need r s c.args.need needs.NotEmpty c.not_empty.result c.in-NotEmpty.is (c.not_empty.ensures s r h)

pub returns-in-IndexInSize : goal.returns-in-IndexInSize
returns-in-IndexInSize c = λ s h. let r = entry_row c.args.entry.now in
    of_need r s c.args.need needs.IndexInSize c.index_in_size.result c.in-IndexInSize.is (c.index_in_size.ensures s r h)

pub returns-in-OtherContainer : goal.returns-in-OtherContainer
returns-in-OtherContainer c = λ s h. let r = entry_row c.args.entry.now in
    of_need r s c.args.need needs.OtherContainer c.other_container.result c.in-OtherContainer.is (c.other_container.ensures s r h)

pub returns-in-SplicedElement : goal.returns-in-SplicedElement
returns-in-SplicedElement c = λ s h. let r = entry_row c.args.entry.now in
    of_need r s c.args.need needs.SplicedElement c.spliced_element.result c.in-SplicedElement.is (c.spliced_element.ensures s r h)

pub returns-in-SplicedRange : goal.returns-in-SplicedRange
returns-in-SplicedRange c = λ s h. let r = entry_row c.args.entry.now in
    of_need r s c.args.need needs.SplicedRange c.spliced_range.result c.in-SplicedRange.is (c.spliced_range.ensures s r h)

pub returns-in-BothSorted : goal.returns-in-BothSorted
returns-in-BothSorted c = λ s h. let r = entry_row c.args.entry.now in
    of_need r s c.args.need needs.BothSorted c.both_sorted.result c.in-BothSorted.is (c.both_sorted.ensures s r h)

pub returns-in-PartitionedBelow : goal.returns-in-PartitionedBelow
returns-in-PartitionedBelow c = λ s h. let r = entry_row c.args.entry.now in
    of_need r s c.args.need needs.PartitionedBelow c.partitioned_below.result c.in-PartitionedBelow.is (c.partitioned_below.ensures s r h)

pub returns-in-PartitionedAbove : goal.returns-in-PartitionedAbove
returns-in-PartitionedAbove c = λ s h. let r = entry_row c.args.entry.now in
    of_need r s c.args.need needs.PartitionedAbove c.partitioned_above.result c.in-PartitionedAbove.is (c.partitioned_above.ensures s r h)
