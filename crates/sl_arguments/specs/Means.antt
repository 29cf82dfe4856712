-- What private contracts say: values and containers of the store as the code has them. Nobody has to believe them.
pub mod Values
pub mod Sorts
