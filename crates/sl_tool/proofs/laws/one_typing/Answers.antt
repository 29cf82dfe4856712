-- One answer fits a text.
use Rattle.sl_tool.proofs.PhaseLaws as phases
use Rattle.sl_tool.proofs.laws.one_typing.Goals as goal

pub returns : goal.returns
returns c = record {
  one_line = phases.one_leaving;
  one_typed = phases.one_typed;
  never_both = phases.typed_or_leaves;
}
