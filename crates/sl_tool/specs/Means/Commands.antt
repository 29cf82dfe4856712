-- The code's command as data.
use Rattle.sl_tool.specs.Command.{Command, check, specs, unknown}
use Rattle.sl_tool.specs.declared.command.Command.{Command as CommandCode}
use Rattle.sl_tool.specs.declared.command.Command.TheVariants.{Check, Specs, Unknown}

abbrev pub as_data : CommandCode → Command
as_data (Check file) = check file.now
as_data Specs = specs
as_data Unknown = unknown
