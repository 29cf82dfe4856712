-- What a run of the tool did, and the answer to a text.
pub mod Command
pub mod Numbers
pub mod Texts
pub mod Subset
pub mod Exactness
pub mod Stopping
pub mod Answers
pub mod Outcome
-- What private contracts say: the code's own functions, which the lemmas tie to those definitions. Nobody has to believe them.
pub mod Means
