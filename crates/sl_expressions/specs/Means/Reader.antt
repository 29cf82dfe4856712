-- The readers that the functions of this crate are.
pub use Rattle.sl_grammar.specs.Means.Steps.{repeat}
pub use Rattle.sl_grammar.specs.Means.Expressions.{list_behind, list, list_before, arguments, named, library_call, parentheses, prefixed}
pub use Rattle.sl_grammar.specs.Means.Expressions.{operand, indexed, dotted, pointed, piece, combined, operation, climb, from_operand, expr}
pub use Rattle.sl_grammar.specs.Means.Effects.{shifted_name, read, shifted_out, print, assigned, effect, no_read, cond}
