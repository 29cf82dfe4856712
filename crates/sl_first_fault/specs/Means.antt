-- What the steps of the walk over a program answer. Nobody has to believe it.
pub mod Steps
pub mod Statements
