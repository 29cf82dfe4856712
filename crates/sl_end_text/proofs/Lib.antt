-- ## The code's line of an end is that of the run's end
pub mod LineLaws
