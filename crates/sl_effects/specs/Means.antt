-- What private contracts say: edits, keys and orders as the code has them. Nobody has to believe them.
pub mod Endings
pub mod Keys
