use Rattle.std.proofs.Common.{◌∙◌, ap, not}
use Rattle.sl_syntax.specs.TreeView.{function_of}
use Rattle.sl_typing.specs.ProgramFaults.{is_main}
use Rattle.sl_first_fault.proofs.ReadLaws.{any_mapped}
use Rattle.sl_first_fault.proofs.function.has_no_main.Goals as goal

pub returns : goal.returns
returns c = ap not (c.some_main.ensures ∙ any_mapped is_main function_of c.args.xs.now)
