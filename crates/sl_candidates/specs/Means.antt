-- The parts of the search for a row as the code has them. Nobody has to believe them.
pub mod Operands
pub mod Places
