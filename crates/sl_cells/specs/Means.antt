-- What private contracts say. Nobody has to believe it.
pub mod Comparisons
pub mod Puts
pub mod Numbers
