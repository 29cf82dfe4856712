-- What the code does, as functions and views of it: of its commands, its reader of the subset and its analysis.
pub mod Commands
pub mod Slots
pub mod Reading
pub mod Analysis
pub mod KnownView
pub mod Told
