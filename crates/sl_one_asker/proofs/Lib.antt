-- ## How many ask at a place, how many words tell it, and how many tokens stand there
pub mod Totals
pub mod Askers
pub mod WordsAt
pub mod ExpressionAskers
pub mod StatementAskers
pub mod TokensAt
-- ## What is asked agrees
pub mod Agreeing
pub mod OneAsker
-- ## Literals are small
pub mod LargeNumbers
pub mod SmallLiterals
pub mod LexedNumbers
