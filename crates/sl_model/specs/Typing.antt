-- Which typed texts a run is of: variables in scope, types, and what is numbered.
pub mod Shapes
pub mod Scoped
pub mod WellTypedScopes
pub mod WellTypedCalls
pub mod WellTypedExpressions
pub mod WellTypedNodes
pub mod WellTypedStatements
pub mod WellTypedOrder
pub mod WellTypedNumbers
pub mod WellTyped
