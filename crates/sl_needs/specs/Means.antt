-- What private contracts say: failures one by one, ranges, steps and walks as the code has them. Nobody has to believe them.
pub mod Sooner
pub mod Bounds
pub mod Letters
pub mod Ranges
pub mod Steps
pub mod Merging
