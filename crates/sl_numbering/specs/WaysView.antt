-- Ways of the code as typing has them.
use Rattle.std.specs.Prelude.{List, ◌∷◌, map, replicate}
use Rattle.sl_base.specs.declared.scalar.Scalar.TheVariants as c
use Rattle.sl_typing.specs.Numbering.{Way, as_it_is, as_number, as_variable, ways, parameter_way}
use Rattle.sl_numbering.specs.declared.ways.Way.{Way as WayCode}
use Rattle.sl_numbering.specs.declared.ways.Way.TheVariants as w
use Rattle.sl_numbering.specs.declared.ways.Ways.{Ways}
use Rattle.sl_numbering.specs.declared.ways.Ways.TheVariants as many

-- a way
abbrev pub way_seen : WayCode → Way
way_seen w.AsItIs = as_it_is
way_seen (w.AsNumber scalar) = as_number scalar
way_seen w.AsVariable = as_variable

-- ways, from the first on
abbrev pub ways_seen : Ways → List Way
ways_seen (many.Letters letters) = ways letters.now
ways_seen (many.EndOfRange letters) = as_it_is ∷ ways letters.now
ways_seen (many.Parameters kinds) = map parameter_way kinds.now
ways_seen (many.Elements count) = replicate count (as_number c.Int)
