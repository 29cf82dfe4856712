pub mod Carried
pub mod Effects
pub mod Means
