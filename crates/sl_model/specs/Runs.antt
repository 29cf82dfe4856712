-- A run: its states, expressions, statements, calls and ends, and what holds of each state.
pub mod State
pub mod Ends
pub mod Binding
pub mod Eval
pub mod Exec
pub mod Calls
pub mod Run
pub mod Good
pub mod EndView
