-- ## The report: its order, and one warning more
pub mod Spots
pub mod Adding
pub mod Covering
-- ## The map that it is kept in
pub mod Entries
-- ## The text: sites and lines
pub mod Sites
pub mod LineLaws
