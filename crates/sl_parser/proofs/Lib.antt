-- ## Views and heights of trees
pub mod Views
-- ## Statements and programs
pub mod StatementLaws
pub mod ParseLaws
