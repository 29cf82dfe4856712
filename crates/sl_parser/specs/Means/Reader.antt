-- The readers that the functions of this crate are.
pub use Rattle.sl_grammar.specs.Means.Steps.{repeat}
pub use Rattle.sl_grammar.specs.Means.Declarations.{int, container_type, optional_value, scalar_declaration, auto_declaration, braces}
pub use Rattle.sl_grammar.specs.Means.Declarations.{constructed, initializer, container_declaration, scalar_param, type_param, const_param}
pub use Rattle.sl_grammar.specs.Means.Declarations.{iterator_behind, reference_head, reference_declaration, param, params, result}
pub use Rattle.sl_grammar.specs.Means.Statements.{item, braced, condition, otherwise, choice, loop, optional_cond, optional_effect, for_behind}
pub use Rattle.sl_grammar.specs.Means.Statements.{range_behind, valued_first, variable_behind, declared_first, for_loop, return_stmt, effect_stmt}
pub use Rattle.sl_grammar.specs.Means.Statements.{reference_range, for_head, word_stmt, stmt, function, program}
