pub mod Numbers
pub mod Memory
pub mod LibraryCalls
pub mod Runs
pub mod Typing
pub mod Outlines
pub mod Reports
