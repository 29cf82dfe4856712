pub mod Followed
pub mod Changed
