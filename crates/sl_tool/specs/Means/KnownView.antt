-- What the code knows, as a value.
use Rattle.sl_tool.specs.declared.analysis.Known.{Known as KnownCode}
use Rattle.sl_tool.specs.Means.Analysis.{Known}

abbrev pub known_of : KnownCode → Known
known_of k = record { filled = k.filled.items; iterators = k.iterators.items; pushes = k.pushes.items }
