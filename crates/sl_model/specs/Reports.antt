-- What is said of a text and of a run, and its words: refusals, warnings, ends, lists of numbers, and which texts are decided.
pub mod Covers
pub mod Texts
pub mod Refusals
pub mod Deeds
pub mod Decided
pub mod Lists
pub mod EndText
pub mod Self
