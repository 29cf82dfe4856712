pub mod Images
pub mod Intervals
pub mod Means
pub mod Outcomes
pub mod Products
pub mod Remainders
pub mod SizeTable
pub mod Stops
