-- The library: what a call needs, does and gives, row by row.
pub mod Values
pub mod Situation
pub mod Operands
pub mod Needs
pub mod Actions
pub mod Effects
pub mod MakeActions
pub mod AccessActions
pub mod SequenceActions
pub mod KeyActions
pub mod ListActions
pub mod SearchAlgorithms
pub mod WritingAlgorithms
pub mod Operators
pub mod Rows
pub mod Library
