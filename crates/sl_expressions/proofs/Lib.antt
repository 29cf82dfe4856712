-- ## Views and heights of trees
pub mod Views
pub mod Heights
-- ## Turns of loops
pub mod Fuel
pub mod RepeatLaws
-- ## Expressions
pub mod ListLaws
pub mod CallLaws
pub mod ExprLaws
