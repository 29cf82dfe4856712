-- ## Steps of the walk
pub mod StepLaws
pub mod LoopLaws
pub mod Walks
-- ## Rules
pub mod LimitLaws
pub mod ReadLaws
pub mod CondLaws
pub mod DeclarationLaws
pub mod StatementLaws
pub mod FunctionLaws
