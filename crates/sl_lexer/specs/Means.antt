-- How the code finds a piece, as functions of the bytes.
pub mod Front
pub mod Answers
