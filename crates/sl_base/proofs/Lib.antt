-- ## Places of a text
pub mod PlaceLaws
pub mod PlaceOrder
-- ## The outside: told bytes, files by name, words of a command
pub mod Told
pub mod Names
pub mod WordLaws
-- ## Texts worked by hand
pub mod Examples
