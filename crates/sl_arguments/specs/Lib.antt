pub mod Readings
pub mod Objects
pub mod Means
