pub mod NameLaws
pub mod VariableLaws
