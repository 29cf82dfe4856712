-- ## The table of the code
pub mod EntryPlaces
-- ## Rows by number and by call
pub mod TableLaws
