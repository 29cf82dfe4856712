-- ## Lists
pub mod Lists
pub mod NameLaws
pub mod FreshLaws
-- ## Reading the subset
pub mod Uses
pub mod ItemLaws
pub mod SlotLaws
pub mod KindLaws
pub mod StopHereLaws
pub mod BodyLaws
pub mod HeadLaws
pub mod SubsetProgram
pub mod Built
pub mod ScopedText
-- ## The analysis against every run
pub mod Describes
pub mod Killers
pub mod NoKillers
pub mod Goes
pub mod Calls
pub mod Kept
pub mod Steps
pub mod Soundness
-- ## The analysis against the plainest run
pub mod Exactly
pub mod ExactSteps
pub mod Exactness
-- ## What warnings tell
pub mod Nodes
pub mod Causes
pub mod Ascending
pub mod InOrder
pub mod KillersAscend
pub mod Founded
pub mod Reported
pub mod ReportLaws
-- ## Answers
pub mod RefusalLaws
pub mod AnswerLaws
pub mod OutcomeLaws
pub mod OneTextLaws
pub mod PhaseLaws
pub mod EachText
