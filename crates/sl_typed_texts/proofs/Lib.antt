-- ## The parts of a well typed text
pub mod Joined
