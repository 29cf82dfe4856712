-- The rules of a node as the code tests them. Nobody has to believe it.
pub mod Checks
pub mod Operators
pub mod Parameters
pub mod Rows
