-- What private steps of the operators give.
pub mod Multiplying
pub mod Dividing
pub mod Ends
