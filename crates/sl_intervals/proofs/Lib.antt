-- ## Examples
mod Examples
-- ## Ends of intervals
pub mod Joined
pub mod Inner
pub mod Outer
-- ## Size facts
pub mod Table
-- ## Widening
pub mod Stopping
-- ## Operators
pub mod Verdicts
pub mod Spanning
-- ## Products
pub mod Factors
pub mod Corners
pub mod Truncation
pub mod Multiplied
pub mod Plain
-- ## Quotients and remainders
pub mod Divisions
pub mod Faulting
pub mod Parts
pub mod Divided
pub mod Rests
-- ## Conversions
pub mod Turns
pub mod Images
