-- ## Heads of loops
pub mod HeadLaws
-- ## Statements
pub mod ItemWalk
pub mod ChoiceLaws
pub mod StatementLaws
