-- The reader of tokens as a function, which reads by the first word of each part: each function of the parser is one of these. The laws of
-- this crate tie it to the grammar, so that no public clause of the parser names it.
pub mod Steps
pub mod Expressions
pub mod Effects
pub mod Declarations
pub mod Statements
