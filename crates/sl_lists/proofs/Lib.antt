-- ## One list or one fault
pub mod ListAnswers
-- ## A schedule's numbers as whole numbers of either sign
pub mod PickLaws
-- ## Which words are numbers, and which can't become one
pub mod NumberLaws
-- ## Parts between blanks, with one byte more
pub mod PartLaws
-- ## What is kept while a list is read
pub mod Standing
pub mod StandingLaws
pub mod FaultLaws
