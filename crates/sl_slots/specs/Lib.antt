pub mod Shown
pub mod Rearranging
pub mod Trading
pub mod Fates
pub mod Stored
