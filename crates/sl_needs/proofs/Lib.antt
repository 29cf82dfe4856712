-- ## Which failure counts
mod Counting
mod LetterLaws
mod NeedLaws
-- ## Steps
mod StepReadings
-- ## What a set operation writes
mod MergeLaws
mod WrittenCounts
