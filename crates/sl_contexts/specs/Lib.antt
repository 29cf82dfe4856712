pub mod Scoping
pub mod VariableView
