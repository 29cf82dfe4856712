pub mod Orders
pub mod Windows
pub mod Ranges
pub mod Verdicts
pub mod Reads
pub mod Edits
pub mod Arrangements
pub mod Joins
-- What private contracts say. Nobody has to believe it.
pub mod Means
