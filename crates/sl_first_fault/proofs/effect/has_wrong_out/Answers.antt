use Rattle.std.proofs.Common.{◌∙◌}
use Rattle.sl_syntax.specs.TreeView.{out_of}
use Rattle.sl_typing.specs.StatementFaults.{wrong_out}
use Rattle.sl_first_fault.proofs.ReadLaws.{any_mapped}
use Rattle.sl_first_fault.proofs.effect.has_wrong_out.Goals as goal

pub returns : goal.returns
returns c = c.any_wrong_out.ensures ∙ any_mapped (wrong_out c.args.known.now) out_of c.args.items.now
