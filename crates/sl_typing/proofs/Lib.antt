-- ## Laws
pub mod OneAnswer
-- ## Worked examples
pub mod Examples
