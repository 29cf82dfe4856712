-- The parts of a reader as the code has them, beside the reader of sl_grammar. Nobody has to believe them.
pub mod Reader
pub mod StatementViews
pub mod DeclarationViews
pub mod FunctionViews
