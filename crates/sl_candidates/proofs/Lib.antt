-- ## Operands as one type
pub mod OperandLaws
-- ## Letters in turn
pub mod LetterLaws
-- ## The last of a list
pub mod LastLaws
-- ## Walks over the table
pub mod TableWalks
-- ## No row takes many arguments
pub mod FewArguments
