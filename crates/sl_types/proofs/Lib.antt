-- ## Functions
pub mod ParameterLaws
pub mod FunctionLaws
pub mod FunctionWalks
-- ## Programs
pub mod ProgramLaws
