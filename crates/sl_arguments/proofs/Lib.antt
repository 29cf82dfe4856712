-- ## What is read of a call
mod ValueReadings
pub mod RangeReadings
-- ## Sorts of operands
mod TakenLetters
mod SortReadings
