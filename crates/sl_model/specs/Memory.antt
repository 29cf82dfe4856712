-- Containers, iterators and references: what there is, what a call may change of it, and what that invalidates.
pub mod Forms
pub mod Containers
pub mod Schedule
pub mod Classes
pub mod Edits
pub mod Origins
pub mod Rearrangements
pub mod Orders
pub mod Orderly
