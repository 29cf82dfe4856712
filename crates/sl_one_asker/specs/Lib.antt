-- What is asked of the tokens that a program is placed by.
pub mod OwnPlaces
pub mod SmallNumbers
