use Rattle.std.proofs.Common.{arith}
use Rattle.sl_model.specs.Reports.Refusals.{IsRefusal, by_length}
use Rattle.sl_tool.proofs.RefusalLaws.{is_line}
use Rattle.sl_tool.proofs.phases.tokens.tokens_of.Goals as goal

pub returns-then-text-gt-TEXT_BYTES-clause-refused : goal.returns-then-text-gt-TEXT_BYTES-clause-refused
returns-then-text-gt-TEXT_BYTES-clause-refused c = λ file line e. is_line (IsRefusal file c.args.text.now) _ line e (by_length (omega arith))
