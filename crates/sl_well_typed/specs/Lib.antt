-- Which literals a text can have.
pub mod Small
