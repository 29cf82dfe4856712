-- What a phase that stops tells: the line that refuses the text.
use Rattle.std.specs.Prelude.{ℕ, List, Option, Some, None}
use Rattle.sl_model.specs.Reports.Refusals.{too_long_line}
use Rattle.sl_model.specs.Reports.Texts.{refusal_line}
use Rattle.sl_tool.specs.declared.phases.stop.Stop.{Stop}
use Rattle.sl_tool.specs.declared.phases.stop.Stop.TheVariants.{Memory, TooLong, Refused}

-- the line that refuses the text of a file; want of memory refuses none
abbrev pub line_of : List ℕ → Stop → Option (List ℕ)
line_of file Memory = None
line_of file TooLong = Some (too_long_line file)
line_of file (Refused place words) = Some (refusal_line file place words.now)
