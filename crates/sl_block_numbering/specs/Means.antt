-- What the proofs open. Nobody has to believe it.
pub mod Statements
