-- The exit status of each way in which the tool ends.
use Rattle.std.specs.Prelude.{ℕ}
use Rattle.sl_tool.specs.declared.status.Status.{Status}
use Rattle.sl_tool.specs.declared.status.Status.TheVariants.{Passed, Warned, Refused, Usage, ReadFault, WriteFault, Memory}

abbrev pub number_of : Status → ℕ
number_of Passed = 0
number_of Warned = 1
number_of Refused = 2
number_of Usage = 3
number_of ReadFault = 4
number_of WriteFault = 5
number_of Memory = 6
